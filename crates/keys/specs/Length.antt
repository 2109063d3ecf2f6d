-- LENGTH: its key, the key's order and hash number.
use Rattle.std.specs.Prelude.{ℕ, ◌+◌, ◌*◌, ◌/◌, ◌^◌, min, Bool, true, false, cond, List, length, nat_lt}
use Rattle.keys.specs.Gather.{gathered}
use Rattle.keys.specs.Mix.{mixed}
use Rattle.keys.specs.declared.length.LengthKey.{LengthKey}

-- by the first part, then by the second
abbrev pub length_less : LengthKey → LengthKey → Bool
length_less x y = cond (nat_lt x.length y.length) true (cond (nat_lt y.length x.length) false (nat_lt x.prefix y.prefix))

abbrev pub length_hash : LengthKey → ℕ
length_hash x = mixed (x.length * 2 ^ 32 + x.prefix)

-- the number of bytes, at most 255, and the upper half of the first eight bytes
abbrev pub length_key : List ℕ → LengthKey
length_key bytes = record { length = min (length bytes) 255; prefix = gathered 8 bytes / 2 ^ 32 }
