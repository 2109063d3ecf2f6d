use Rattle.std.proofs.Common.{length, get_or, arith}
use Rattle.hashed.proofs.Emptied.{emptied_more}
use Rattle.hashed.proofs.list.free_all.Goals as goal

pub loop-i-preserved : goal.loop-i-preserved
loop-i-preserved g c = emptied_more (length c.args.cells.now) c.loop-i.cells (get_or c.loop-i.cells c.loop-i.i c.index-cells-i.result) c.loop-i.free c.to-free.result c.loop-i.i
    (omega arith) (omega arith) c.requires c.to-free.ensures c.loop-i.invariant
