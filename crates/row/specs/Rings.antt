-- The order of the items in cells that are cut into blocks of w cells, each block a ring that begins at its head.
use Rattle.std.specs.Prelude.{ℕ, ◌+◌, ◌*◌, ◌<◌, min, List, [], ◌∷◌, ◌++◌, length, take, drop, slice_index}

-- the cells of one block, from its head on and round its end
abbrev pub ring : {X : Type 0} → ℕ → List X → List X
ring head block = drop head block ++ take head block

-- all cells in the order of their items: block after block, each from its head on; cells past the last head stand as they are
abbrev pub rings : {X : Type 0} → ℕ → List ℕ → List X → List X
rings w [] cells = cells
rings w (head ∷ heads) cells = ring head (take w cells) ++ rings w heads (drop w cells)

-- the first n of them
abbrev pub first_items : {X : Type 0} → ℕ → List ℕ → List X → ℕ → List X
first_items w heads cells n = take n (rings w heads cells)

-- each block that a room has cells of has a head, and the head lies within the block
abbrev pub HeadsWithin : ℕ → List ℕ → ℕ → Type 0
HeadsWithin w heads room = (b : ℕ) → b * w < room → (b < length heads) × (slice_index heads b < w) × (b * w + slice_index heads b < room)

-- how many cells are in use: all of them, or 32,768 if there are more
abbrev pub room_of : {X : Type 0} → List X → ℕ
room_of cells = min (length cells) 32768
