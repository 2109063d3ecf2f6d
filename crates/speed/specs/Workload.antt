-- What a workload does: numbers stand for keys, and each call is made once for each number, in their order.
use Rattle.std.specs.Prelude.{ℕ, ◌+◌, Bool, cond, List, [], ◌∷◌, is_some, is_ok}
use Rattle.std.specs.List.{slice_get}
use Rattle.keys.specs.Letters.{letters_less}
use Rattle.keys.specs.declared.letters.LettersKey.{LettersKey}
use Rattle.chains.specs.Contents.{key_above}
use Rattle.chains.specs.State.{StoreState, values, put_outcome, take_outcome}

abbrev pub Numbers : Type 0
Numbers = StoreState LettersKey ℕ

abbrev pub key_of : ℕ → LettersKey
key_of n = record { number = n }

-- a store of 32,768 cells without values
abbrev pub empty : Numbers
empty = record { contents = []; section = λ _. 0; room = λ _. 32768 }

-- what is left when each number was put at rank 0 with the value 0, and how many of these calls were accepted
abbrev pub filled : Numbers → List ℕ → Numbers
filled s [] = s
filled s (n ∷ ns) = filled (put_outcome letters_less s (key_of n) 0 0).1 ns

abbrev pub accepted : Numbers → List ℕ → ℕ
accepted s [] = 0
accepted s (n ∷ ns) = cond (is_ok (put_outcome letters_less s (key_of n) 0 0).0) 1 0 + accepted (put_outcome letters_less s (key_of n) 0 0).1 ns

-- whether a number has a value, and whether a greater one has
abbrev pub has_value : Numbers → ℕ → Bool
has_value s n = is_some (slice_get (values letters_less s (key_of n)) 0)

abbrev pub has_above : Numbers → ℕ → Bool
has_above s n = is_some (key_above letters_less s.contents (key_of n))

-- how many of the numbers are taken out, each at rank 0
abbrev pub taken : Numbers → List ℕ → ℕ
taken s [] = 0
taken s (n ∷ ns) = cond (take_outcome letters_less s (key_of n) 0).0 1 0 + taken (take_outcome letters_less s (key_of n) 0).1 ns
