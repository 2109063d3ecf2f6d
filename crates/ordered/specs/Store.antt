-- What the ordered store means.
use Rattle.std.specs.Prelude.{◌≡◌, ℕ, ◌+◌, ◌<◌, ◌≤◌, Bool, List, length}
use Rattle.std.specs.Borrow.{GName}
use Rattle.keys.specs.declared.key.Key.{Ghosts}
use Rattle.chains.specs.State.{StoreState, values}
use Rattle.row.specs.Row.{items, room, outside}
use Rattle.ordered.specs.declared.cell.Cell.{Cell}
use Rattle.ordered.specs.declared.ordered.Ordered.{Ordered}
use Rattle.ordered.specs.Sorted.{smaller, held}

-- what entries hold, in one section for all keys
abbrev pub state_of : {K V : Type 0} → (K → K → Bool) → List (Cell K V) → ℕ → StoreState K V
state_of less es r = record { contents = held less es; section = λ _. 0; room = λ _. r }

module _ {K V : Type 0} {order : Ghosts K} where
  -- its entries, in their order
  abbrev pub entries : Ordered K V order → List (Cell K V)
  entries s = items s.row

  -- the most entries that it can hold
  abbrev pub room_of : Ordered K V order → ℕ
  room_of s = room s.row

  -- which cells were lent, and what those past the room hold
  abbrev pub spare : Ordered K V order → GName × List (Cell K V)
  spare s = outside s.row

  abbrev pub state : Ordered K V order → StoreState K V
  state s = state_of order.less (entries s) (room_of s)

  -- where the value of a rank stands among the entries, and where a value of that rank goes in
  abbrev pub StandsAt : Ordered K V order → K → ℕ → ℕ → Type 0
  StandsAt s k rank place = (place ≡ smaller order.less (entries s) k + rank) × (rank < length (values order.less (state s) k))

  abbrev pub GoesAt : Ordered K V order → K → ℕ → ℕ → Type 0
  GoesAt s k rank place = (place ≡ smaller order.less (entries s) k + rank) × (rank ≤ length (values order.less (state s) k))
