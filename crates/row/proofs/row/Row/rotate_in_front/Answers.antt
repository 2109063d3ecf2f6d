use Rattle.std.proofs.Common.{◌≡◌, ◌+◌, ◌-◌, ◌*◌, ◌<◌, ◌⊎◌, length, get_or, take, drop, refl, inl, inr, arith}
use Rattle.row.specs.Row.{room, block_end}
use Rattle.row.proofs.Rings.{length_block, turned, cell_in}
use Rattle.row.proofs.Rooms.{block_in, kept_set}
use Rattle.row.proofs.Shifts.{front_in_from}
use Rattle.row.proofs.row.Row.rotate_in_front.Goals as goal
use Rattle.row.proofs.row.Row.rotate_in_front.Goals.{then-head-eq0, else-head-eq0}

pub returns : goal.returns
unfolding room
returns g c =
    let r = c.args.self.now in
    let (s, e) = c.block-start.result in
    let h = get_or r.heads c.args.b 0 in
    let z = take (e - s) (drop s r.cells.now) in
    let b = c.if-head-eq0.back in
    let B = block_in r c.args.b s e c.requires c.block-start.ensures.start c.block-start.ensures.end in
    let l0 = length_block B in
    let lt : b < e - s = elim c.if-head-eq0.branch [ then-head-eq0 w ↦ omega (arith, w.back-is) | else-head-eq0 w ↦ omega (arith, w.back-is, B.head) ] in
    let at : (b + 1 ≡ h) ⊎ ((h ≡ 0) × (b + 1 ≡ length z)) =
    elim c.if-head-eq0.branch [ then-head-eq0 w ↦ inr (w.if-head-eq0.true, omega (arith, w.back-is)) | else-head-eq0 w ↦ inl (omega (arith, w.back-is, w.if-head-eq0.false)) ] in
    let v = c.index-self-at.result in
    let y = get_or r.cells.now (s + b) v in
    record {
      kept = kept_set r _ B b c.args.x refl refl refl lt (omega arith);
      items = turned B b b 0 (length z) (c.args.b * 256) (block_end r c.args.b) c.args.x y lt (omega arith) (omega arith) (omega arith) (omega arith) (front_in_from z h b c.args.x y (omega arith) at (cell_in B b v y lt));
    }
