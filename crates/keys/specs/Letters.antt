-- LETTERS: its key, the key's order and hash number.
use Rattle.std.specs.Prelude.{ℕ, Bool, List, nat_lt}
use Rattle.keys.specs.Gather.{gathered}
use Rattle.keys.specs.Mix.{mixed}
use Rattle.keys.specs.declared.letters.LettersKey.{LettersKey}

abbrev pub letters_less : LettersKey → LettersKey → Bool
letters_less x y = nat_lt x.number y.number

abbrev pub letters_hash : LettersKey → ℕ
letters_hash x = mixed x.number

-- the first eight bytes
abbrev pub letters : List ℕ → LettersKey
letters bytes = record { number = gathered 8 bytes }
