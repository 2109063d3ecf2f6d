-- Bytes gathered into a number.
use Rattle.std.specs.Prelude.{ℕ, zero, suc, ◌+◌, ◌*◌, List, slice_index}

-- the first n bytes as one number, the first byte highest; a missing byte is zero
abbrev pub gathered : ℕ → List ℕ → ℕ
gathered zero bytes = 0
gathered (suc n) bytes = gathered n bytes * 256 + slice_index bytes n
