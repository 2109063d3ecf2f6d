-- The cells up to the room, those past it, and what a row holds.
use Rattle.std.proofs.Common.{◌≡◌, ℕ, ◌+◌, ◌-◌, ◌*◌, ◌<◌, ◌≤◌, min, List, length, get_or, take, drop, set, Some, sym, refl, ap, ◌∙◌, inl, inr, arith}
use Rattle.std.specs.List.{slice_get}
use Rattle.std.proofs.lemmas.Bool.{cases_lt}
use Rattle.std.proofs.lemmas.Option.{slice_get-get_or}
use Rattle.std.proofs.lemmas.List.{length-take-le, length-drop, length-set, take-append-le, get_or-take}
use Rattle.row.specs.Rings.{rings, room_of}
use Rattle.row.specs.Row.{items, room, outside, order, block_end, Kept}
use borrow.Rule.Slice.PartMut.{put_mid}
use Rattle.std.proofs.lemmas.Slice.{drop-put_mid}
use Rattle.row.proofs.Lists.{length_put_mid}
use Rattle.row.specs.declared.row.Row.{Row}
use Rattle.row.proofs.Rings.{length-rings, rings-past, Block, length_block, parted}

module _ {X : Type 0} where
  -- a row holds no more items than its room, and no room is larger than 32,768
  pub length-items : (r : Row X) → length (items r) ≡ r.len
  unfolding items
  length-items r =
      let f : length (take (room_of r.cells.now) r.cells.now) ≡ room_of r.cells.now = length-take-le (room_of r.cells.now) r.cells.now (omega arith) in
      let l = length-rings 256 r.heads (take (room_of r.cells.now) r.cells.now) in
      length-take-le (min r.len (room_of r.cells.now)) (rings 256 r.heads (take (room_of r.cells.now) r.cells.now)) (omega arith) ∙ omega (arith, r.fits)

  pub items_fit : (r : Row X) → length (items r) ≤ room r
  unfolding room
  items_fit r = omega (arith, length-items r, r.fits)

  pub room_small : (r : Row X) → room r ≤ 32768
  unfolding room
  room_small r = omega arith

  pub length-order : (r : Row X) → length (order r) ≡ length r.cells.now
  length-order r = length-rings 256 r.heads r.cells.now

  -- the items are the first in the order of all cells
  pub items-order : (r : Row X) (n : ℕ) → length r.heads ≡ 128 → r.len ≡ n → items r ≡ take n (order r)
  unfolding items
  items-order r n h e =
      let c = r.cells.now in
      let m = room_of c in
      let f : length (take m c) ≡ m = length-take-le m c (omega arith) in
      let l = length-rings 256 r.heads (take m c) in
      let k : min r.len m ≡ n = omega (arith, r.fits) in
      ap (λ (v : ℕ). take v (rings 256 r.heads (take m c))) k
      ∙ sym (ap (λ (t : List X). take n t) (rings-past 256 r.heads c m (omega arith)) ∙ take-append-le n (rings 256 r.heads (take m c)) (drop m c) (omega (arith, r.fits)))

  -- an item, read from the order of all cells
  pub an_item : (r : Row X) → length r.heads ≡ 128 → (i : ℕ) (d : X) → i < r.len → slice_get (items r) i ≡ Some (get_or (order r) i d)
  an_item r n i d lt =
      let e : get_or (items r) i d ≡ get_or (order r) i d = ap (λ (t : List X). get_or t i d) (items-order r r.len n refl) ∙ get_or-take r.len (order r) i d lt in
      slice_get-get_or (items r) i d (omega (arith, length-items r)) ∙ ap (λ (v : X). Some v) e

  -- a block of a row
  pub block_in : (r : Row X) (b s e : ℕ) → b * 256 < room_of r.cells.now → s ≡ b * 256 → e ≡ block_end r b → Block 256 r.heads r.cells.now b s (e - s)
  block_in r b s e lt q m =
      let h = r.headed b lt in
      record {
        start = q;
        named = h.0;
        head = omega (arith, h.1);
        within = omega arith;
        small = omega arith;
        whole = elim (cases_lt (room_of r.cells.now) (b * 256 + 256)) [ inl l ↦ inr (simp length-drop (omega arith)) | inr l ↦ inl (omega arith) ];
      }

  -- other cells in the place of a part of those up to the room
  pub kept_by : (old new : Row X) → new.len ≡ old.len → new.cells.ghost_name ≡ old.cells.ghost_name → (a k : ℕ) (z : List X) → new.cells.now ≡ put_mid a k old.cells.now z → length z ≡ k → a + k ≤ room_of old.cells.now → Kept old new
  unfolding outside
  kept_by old new n g a k z e lz le =
      let c = old.cells.now in
      let m = room_of c in
      let l : length new.cells.now ≡ length c = rw e (length_put_mid a k c z lz (omega arith)) in
      let same : room_of new.cells.now ≡ m = omega arith in
      let d : drop (room_of new.cells.now) new.cells.now ≡ drop m c = rw (same, e) (drop-put_mid a k c z m le (omega arith) lz) in
      record { len = n; cells = l; outside = rw (g, d) }

  -- a write to one cell of a block
  pub kept_set : (old new : Row X) {b s k : ℕ} (B : Block 256 old.heads old.cells.now b s k) (at : ℕ) (x : X) → new.len ≡ old.len → new.cells.ghost_name ≡ old.cells.ghost_name → new.cells.now ≡ set old.cells.now (s + at) x → at < k → s + k ≤ room_of old.cells.now → Kept old new
  kept_set old new {b} {s} {k} B at x n g e al le =
      let z = take k (drop s old.cells.now) in
      kept_by old new n g s k (set z at x) (e ∙ parted B at x al) (length-set z at x ∙ length_block B) le

  pub kept_again : (r s t : Row X) → Kept r s → Kept s t → Kept r t
  kept_again r s t a b = record { len = b.len ∙ a.len; cells = b.cells ∙ a.cells; outside = b.outside ∙ a.outside }

-- how long a row's lists are
pub ruleset lengths = (length-items, length-order)
