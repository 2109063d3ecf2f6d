-- What the register's store means.
use Rattle.std.specs.Prelude.{cond, ℕ}
use Rattle.keys.specs.declared.length.LengthKey.{LengthKey}
use Rattle.keys.specs.Length.{length_less}

-- answers of fewer than eight bytes are in section 0, all others in section 1
abbrev pub side : LengthKey → ℕ
side k = cond (length_less k (record { length = 8; prefix = 0 })) 0 1
