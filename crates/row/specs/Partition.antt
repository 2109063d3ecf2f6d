-- Lists that a predicate splits in two, and what a search by halves knows of one.
use Rattle.std.specs.Prelude.{◌≡◌, ℕ, ◌<◌, ◌≤◌, Bool, true, false, List, length, slice_index_or}

-- of the first n items, those that satisfy p all stand before those that do not
abbrev pub PartitionedTo : {X : Type 0} → (X → Bool) → List X → ℕ → Type 0
PartitionedTo {X} p xs n = (j k : ℕ) (d : X) → j ≤ k → k < n → p (slice_index_or xs k d) ≡ true → p (slice_index_or xs j d) ≡ true

-- of all items, those that satisfy p stand before those that do not
abbrev pub Partitioned : {X : Type 0} → (X → Bool) → List X → Type 0
Partitioned p xs = PartitionedTo p xs (length xs)

-- of the first n items, those before lo satisfy p, and those from hi on do not
abbrev pub Window : {X : Type 0} → (X → Bool) → List X → ℕ → ℕ → ℕ → Type 0
Window {X} p xs n lo hi = ((k : ℕ) (d : X) → k < lo → p (slice_index_or xs k d) ≡ true) × ((k : ℕ) (d : X) → hi ≤ k → k < n → p (slice_index_or xs k d) ≡ false)
