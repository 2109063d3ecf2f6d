use Rattle.std.proofs.Common.{◌-◌, ◌%◌, ◌/◌, get_or, inl, inr, arith}
use Rattle.row.proofs.Rings.{InRing, in_ring_below, read, written}
use Rattle.row.specs.Row.{room}
use Rattle.row.proofs.Rooms.{block_in}
use Rattle.row.proofs.row.Row.cell_of.Goals as goal
use Rattle.row.proofs.row.Row.cell_of.Goals.{then-turned-size, else-turned-size}

pub returns : goal.returns
unfolding room
returns g c =
    let r = c.args.self.now in
    let i = c.args.i in
    let (s, e) = c.block-start.result in
    let B = block_in r (i / 256) s e (omega arith) c.block-start.ensures.start c.block-start.ensures.end in
    let at = c.if-turned-size.at in
    let way : InRing (get_or r.heads (i / 256) 0) (i % 256) (e - s) at =
    elim c.if-turned-size.branch [ then-turned-size w ↦ inl (omega (arith, w.if-turned-size.true), omega (arith, w.at-is)) | else-turned-size w ↦ inr (omega (arith, w.if-turned-size.false), omega (arith, w.at-is)) ] in
    record {
      within = let b = in_ring_below (get_or r.heads (i / 256) 0) (i % 256) (e - s) at (omega (arith, B.head)) (omega arith) way in omega arith;
      read = λ d. read B (i % 256) at i d (omega arith) way (omega arith);
      write = λ x. written B (i % 256) at i x (omega arith) way (omega arith);
    }
