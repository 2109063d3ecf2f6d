-- What the hashed store means.
use Rattle.std.specs.Prelude.{◌≡◌, ℕ, ◌%◌, ◌<◌, Bool, List, drop, Some}
use Rattle.std.specs.Borrow.{GName}
use Rattle.keys.specs.declared.key.Key.{Ghosts}
use Rattle.chains.specs.State.{StoreState}
use Rattle.hashed.specs.declared.cell.Cell.{Cell}
use Rattle.hashed.specs.declared.list.Place.{Place}
use Rattle.hashed.specs.declared.hashed.Hashed.{Hashed}
use Rattle.hashed.specs.Cells.{target, bucket_of, entries_in, held, room_of, used_of, Found}

-- the most entries that it can hold
abbrev pub room : {K V : Type 0} {G : Ghosts K} → Hashed K V G → ℕ
room s = room_of s.cells.now

-- the cells in use
abbrev pub used : {K V : Type 0} {G : Ghosts K} → Hashed K V G → List (Cell K V)
used s = used_of s.cells.now

-- its entries, bucket after bucket
abbrev pub entries : {K V : Type 0} {G : Ghosts K} → Hashed K V G → List (K × V)
entries s = entries_in (room s) (used s)

-- which cells were lent, and what those past the room hold
abbrev pub spare : {K V : Type 0} {G : Ghosts K} → Hashed K V G → GName × List (Cell K V)
spare s = (s.cells.ghost_name, drop (room s) s.cells.now)

-- what entries hold, in one section for all keys
abbrev pub state_of : {K V : Type 0} → (K → K → Bool) → List (K × V) → ℕ → StoreState K V
state_of less es r = record { contents = held less es; section = λ _. 0; room = λ _. r }

abbrev pub state : {K V : Type 0} {G : Ghosts K} → (K → K → Bool) → Hashed K V G → StoreState K V
state less s = state_of less (entries s) (room s)

-- a place that names only cells in use; where there is none, it names no bucket either
pub record InRange (n : ℕ) (p : Place) : Type 0 where
  pub bucket : 0 < n → p.bucket < n
  pub previous : (y : ℕ) → p.previous ≡ Some y → y < n

-- the place of a key's value at a rank
pub record PlaceOf {K V : Type 0} (less : K → K → Bool) (hash : K → ℕ) (n : ℕ) (cells : List (Cell K V)) (k : K) (rank : ℕ) (p : Place) : Type 0 where
  pub home : 0 < n → p.bucket ≡ hash k % n
  pub found : Found less cells (bucket_of n cells p.bucket) k rank p.previous (target n p.link.0) p.passed
