-- The text of a report.
use Rattle.std.specs.Prelude.{ℕ, ◌+◌, List, [], ◌∷◌, ◌++◌, length, decimal}
use Rattle.keys.specs.declared.letters.LettersKey.{LettersKey}

-- the places of a key by rank, each behind a space
abbrev pub spaced : List ℕ → List ℕ
spaced [] = []
spaced (place ∷ places) = 32 ∷ decimal place ++ spaced places

-- one line: the key's number, and its places
abbrev pub line_text : LettersKey → List ℕ → List ℕ
line_text key places = decimal key.number ++ spaced places ++ 10 ∷ []

-- a line for each key
abbrev pub lines_text : List (LettersKey × List ℕ) → List ℕ
lines_text [] = []
lines_text (e ∷ es) = line_text e.0 e.1 ++ lines_text es

-- how many values there are under all keys together
abbrev pub total : List (LettersKey × List ℕ) → ℕ
total [] = 0
total (e ∷ es) = length e.1 + total es

-- the last line: how many keys, and how many values
abbrev pub totals_text : ℕ → ℕ → List ℕ
totals_text keys values = decimal keys ++ (32 ∷ decimal values ++ 10 ∷ [])

abbrev pub report_text : List (LettersKey × List ℕ) → List ℕ
report_text contents = lines_text contents ++ totals_text (length contents) (total contents)
