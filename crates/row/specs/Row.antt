-- What a row holds.
use Rattle.std.specs.Prelude.{◌≡◌, ℕ, ◌+◌, ◌*◌, min, List, length, take, drop}
use Rattle.std.specs.Borrow.{GName}
use Rattle.row.specs.Rings.{ring, rings, first_items, room_of}
use Rattle.row.specs.declared.row.Row.{Row}
use Rattle.row.specs.declared.row.search.Ring.{Ring}

-- the most items that it can hold
unfoldable pub room : {T : Type 0} → Row T → ℕ
room r = room_of r.cells.now

-- the items in their order
unfoldable pub items : {T : Type 0} → Row T → List T
items r = first_items 256 r.heads (take (room_of r.cells.now) r.cells.now) (min r.len (room_of r.cells.now))

-- which cells were lent, and what those past the room hold
unfoldable pub outside : {T : Type 0} → Row T → GName × List T
outside r = (r.cells.ghost_name, drop (room_of r.cells.now) r.cells.now)

-- all cells in the order of their items
abbrev pub order : {T : Type 0} → Row T → List T
order r = rings 256 r.heads r.cells.now

-- where block b ends
abbrev pub block_end : {T : Type 0} → Row T → ℕ → ℕ
block_end r b = min (b * 256 + 256) (room_of r.cells.now)

-- the cells of a ring in the order of their items
abbrev pub turned : {T : Type 0} → Ring T → List T
turned r = ring r.head r.cells.now

-- what a change of items within a block keeps
pub record Kept {T : Type 0} (old new : Row T) : Type 0 where
  pub len : new.len ≡ old.len
  pub cells : length new.cells.now ≡ length old.cells.now
  pub outside : outside new ≡ outside old
