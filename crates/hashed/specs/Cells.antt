-- What n cells hold: a list for each bucket and a list of the free cells, all threaded through the cells.
use Rattle.std.specs.Prelude.{◌≡◌, ℕ, zero, suc, ◌+◌, ◌%◌, ◌<◌, ◌≤◌, min, Bool, true, cond, ◌≢◌, List, [], ◌∷◌, ◌++◌, length, take, Some, None, Option, nat_lt}
use Rattle.std.specs.List.{AllByRecursion, slice_get}
use Rattle.keys.specs.Order.{same}
use Rattle.chains.specs.Entries.{values_under, contents_of}
use Rattle.hashed.specs.declared.cell.Cell.{Cell}
use Rattle.hashed.specs.declared.cell.Link.{Link}
use Rattle.hashed.specs.Links.{walk, Linked, collected, gathered, LastIs, front}

-- the link that leads to no cell, however many are in use
abbrev pub nowhere : Link
nowhere = record { 0 = 32768 }

-- the cell that a link leads to; a number that is none of the n cells' ends the list
abbrev pub target : ℕ → ℕ → Option ℕ
target n l = cond (nat_lt l n) (Some l) None

abbrev pub next_in : {K V : Type 0} → ℕ → Option (Cell K V) → Option ℕ
next_in n None = None
next_in n (Some c) = target n c.next.0

abbrev pub first_in : {K V : Type 0} → ℕ → Option (Cell K V) → Option ℕ
first_in n None = None
first_in n (Some c) = target n c.first.0

abbrev pub entry_in : {K V : Type 0} → Option (Cell K V) → Option (K × V)
entry_in None = None
entry_in (Some c) = Some (c.key, c.value)

-- of the cell x: the next one in its list, the first one of the bucket with its number, and its key with its value
abbrev pub next_of : {K V : Type 0} → ℕ → List (Cell K V) → ℕ → Option ℕ
next_of n cells x = next_in n (slice_get cells x)

abbrev pub first_of : {K V : Type 0} → ℕ → List (Cell K V) → ℕ → Option ℕ
first_of n cells x = first_in n (slice_get cells x)

abbrev pub entry_of : {K V : Type 0} → List (Cell K V) → ℕ → Option (K × V)
entry_of cells x = entry_in (slice_get cells x)

-- the cells of bucket b, and those of all buckets
abbrev pub bucket_of : {K V : Type 0} → ℕ → List (Cell K V) → ℕ → List ℕ
bucket_of n cells b = walk (next_of n cells) n (first_of n cells b)

abbrev pub nodes : {K V : Type 0} → ℕ → List (Cell K V) → List ℕ
nodes n cells = gathered (bucket_of n cells) n

-- the entries of bucket b, and those of all buckets
abbrev pub bucket_entries : {K V : Type 0} → ℕ → List (Cell K V) → ℕ → List (K × V)
bucket_entries n cells b = collected (entry_of cells) (bucket_of n cells b)

abbrev pub entries_in : {K V : Type 0} → ℕ → List (Cell K V) → List (K × V)
entries_in n cells = gathered (bucket_entries n cells) n

-- the values of a key among entries, in their order
abbrev pub values_in : {K V : Type 0} → (K → K → Bool) → List (K × V) → K → List V
values_in less es k = values_under less (λ e. e.0) (λ e. e.1) es k

-- what entries hold: for each key its values
abbrev pub held : {K V : Type 0} → (K → K → Bool) → List (K × V) → List (K × List V)
held less es = contents_of less (λ e. e.0) (λ e. e.1) es

-- from l on, the links lead through xs, all of them cells of the owner b, and there they end
pub record OwnList {K V : Type 0} (own : ℕ → ℕ) (n : ℕ) (cells : List (Cell K V)) (b : ℕ) (l : Option ℕ) (xs : List ℕ) : Type 0 where
  pub linked : Linked (next_of n cells) l xs
  pub within : AllByRecursion (λ x. x < n) xs
  pub owned : AllByRecursion (λ x. own x ≡ b) xs

-- every list ends, and each cell is in one list: that of a bucket, or that of the free cells, whose owner is n
pub record WellFormed {K V : Type 0} (n : ℕ) (cells : List (Cell K V)) (free : Option ℕ) : Type 0 where
  pub own : ℕ → ℕ
  pub buckets : (b : ℕ) → b < n → OwnList own n cells b (first_of n cells b) (bucket_of n cells b)
  pub unused : List ℕ
  pub freed : OwnList own n cells n free unused
  pub all : length unused + length (nodes n cells) ≡ n

-- each entry is in the bucket that its key's hash number picks
abbrev pub Placed : {K V : Type 0} → (K → ℕ) → ℕ → List (Cell K V) → Type 0
Placed hash n cells = (b : ℕ) → b < n → AllByRecursion (λ e. hash e.0 % n ≡ b) (bucket_entries n cells b)

-- the lists are in order, and each entry is in the bucket of its key
abbrev pub ValidCells : {K V : Type 0} → (K → ℕ) → ℕ → List (Cell K V) → ℕ → Type 0
ValidCells hash n cells free = WellFormed n cells (target n free) × Placed hash n cells

-- how many of the lent cells are in use, and which: all of them, or the first 32,768 if there are more
abbrev pub room_of : {K V : Type 0} → List (Cell K V) → ℕ
room_of cells = min (length cells) 32768

abbrev pub used_of : {K V : Type 0} → List (Cell K V) → List (Cell K V)
used_of cells = take (room_of cells) cells

-- a place in the list xs of a bucket: there the value of k at rank stands, or xs ends
pub record Found {K V : Type 0} (less : K → K → Bool) (cells : List (Cell K V)) (xs : List ℕ) (k : K) (rank : ℕ)
    (previous here : Option ℕ) (passed : ℕ) : Type 0 where
  pub before : List ℕ
  pub rest : List ℕ
  pub parts : xs ≡ before ++ rest
  pub at : here ≡ front rest
  pub last : LastIs previous before
  pub count : passed ≡ length (values_in less (collected (entry_of cells) before) k)
  pub most : passed ≤ rank
  pub stops : (x : ℕ) → here ≡ Some x → (passed ≡ rank) × ((e : K × V) × (entry_of cells x ≡ Some e) × (same less e.0 k ≡ true))

-- the link to the place behind `previous` in bucket b, or to its first cell, leads to `to`; no other link changes but that of x
abbrev pub Redirected : {K V : Type 0} → ℕ → List (Cell K V) → List (Cell K V) → ℕ → ℕ → Option ℕ → Option ℕ → Type 0
Redirected n cells cells' b x None to =
    (first_of n cells' b ≡ to) × ((c : ℕ) → c ≢ b → first_of n cells' c ≡ first_of n cells c) × ((z : ℕ) → z ≢ x → next_of n cells' z ≡ next_of n cells z)
Redirected n cells cells' b x (Some y) to =
    (next_of n cells' y ≡ to) × ((c : ℕ) → first_of n cells' c ≡ first_of n cells c) × ((z : ℕ) → z ≢ x → z ≢ y → next_of n cells' z ≡ next_of n cells z)

-- besides, x goes on to `on` and holds e
pub record Relinked {K V : Type 0} (n : ℕ) (cells cells' : List (Cell K V)) (b : ℕ) (previous : Option ℕ) (x : ℕ) (on : Option ℕ) (e : K × V) (to : Option ℕ) : Type 0 where
  pub here : entry_of cells' x ≡ Some e
  pub elsewhere : (z : ℕ) → z ≢ x → entry_of cells' z ≡ entry_of cells z
  pub onward : next_of n cells' x ≡ on
  pub links : Redirected n cells cells' b x previous to

-- the numbers below m, descending
abbrev pub below : ℕ → List ℕ
below zero = []
below (suc m) = m ∷ below m

-- the buckets of the first m cells are empty, and these cells are linked up
pub record Emptied {K V : Type 0} (n : ℕ) (cells : List (Cell K V)) (free : Option ℕ) (m : ℕ) : Type 0 where
  pub linked : Linked (next_of n cells) free (below m)
  pub empty : (b : ℕ) → b < m → first_of n cells b ≡ None
