use Rattle.std.proofs.Common.{arith}
use Rattle.row.specs.Row.{room}
use Rattle.row.proofs.Rings.{length_block, of_block}
use Rattle.row.proofs.Rooms.{block_in}
use Rattle.row.proofs.row.Row.ring.Goals as goal

pub returns-clause-items : goal.returns-clause-items
unfolding room
returns-clause-items g c i d lt =
    let (s, e) = c.block-start.result in
    let B = block_in c.args.self.now c.args.b s e c.requires c.block-start.ensures.start c.block-start.ensures.end in
    rw (← c.block-start.ensures.start) (of_block B i d (omega (arith, length_block B)))
