use Rattle.std.proofs.Common.{length}
use Rattle.hashed.specs.Cells.{target, Emptied}
use Rattle.hashed.proofs.list.free_all.Given as goal

abbrev pub invariant-loop-i : goal.invariant-loop-i
invariant-loop-i g l = Emptied (length l.fn.cells) l.cells (target (length l.fn.cells) l.free.0) l.i
