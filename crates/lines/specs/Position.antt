-- The first place of a byte.
use Rattle.std.specs.Prelude.{◌≡◌, ℕ, ◌<◌, List, length, Some, None, Option, ◌≢◌, slice_index}

-- b is none of the first n bytes
abbrev pub Absent : ℕ → List ℕ → ℕ → Type 0
Absent b bytes n = (k : ℕ) → k < n → slice_index bytes k ≢ b

abbrev pub FirstPlace : ℕ → List ℕ → Option ℕ → Type 0
FirstPlace b bytes None = Absent b bytes (length bytes)
FirstPlace b bytes (Some i) = (i < length bytes) × (slice_index bytes i ≡ b) × Absent b bytes i
