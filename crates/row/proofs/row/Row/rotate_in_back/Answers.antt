use Rattle.std.proofs.Common.{◌≡◌, ◌+◌, ◌-◌, ◌*◌, ◌<◌, ◌⊎◌, length, get_or, take, drop, refl, inl, inr, arith}
use Rattle.row.specs.Row.{room, block_end}
use Rattle.row.proofs.Rings.{length_block, turned, cell_in}
use Rattle.row.proofs.Rooms.{block_in, kept_set}
use Rattle.row.proofs.Shifts.{back_in_to}
use Rattle.row.proofs.row.Row.rotate_in_back.Goals as goal
use Rattle.row.proofs.row.Row.rotate_in_back.Goals.{then-start-head, else-start-head}

pub returns : goal.returns
unfolding room
returns g c =
    let r = c.args.self.now in
    let (s, e) = c.block-start.result in
    let h = get_or r.heads c.args.b 0 in
    let z = take (e - s) (drop s r.cells.now) in
    let n = c.if-start-head.next in
    let B = block_in r c.args.b s e c.requires c.block-start.ensures.start c.block-start.ensures.end in
    let l0 = length_block B in
    let lt : h < e - s = B.head in
    let at : (n ≡ h + 1) ⊎ ((n ≡ 0) × (h + 1 ≡ length z)) =
    elim c.if-start-head.branch [ then-start-head w ↦ inl w.next-is | else-start-head w ↦ inr (w.next-is, omega (arith, w.if-start-head.false, lt)) ] in
    let v = c.index-self-at.result in
    let y = get_or r.cells.now (s + h) v in
    record {
      kept = kept_set r _ B h c.args.x refl refl refl lt (omega arith);
      items = turned B h n (length z) 0 (block_end r c.args.b) (c.args.b * 256) c.args.x y lt (omega arith) (omega arith) (omega arith) (omega arith) (back_in_to z h n c.args.x y (omega arith) at (cell_in B h v y lt));
    }
