use Rattle.std.proofs.Common.{length}
use Rattle.hashed.specs.Cells.{target, next_of, bucket_of}
use Rattle.hashed.specs.Links.{walk}
use Rattle.hashed.proofs.Walks.{Walking}
use Rattle.hashed.proofs.list.seek.Given as goal

abbrev pub invariant-loop-x : goal.invariant-loop-x
invariant-loop-x g l = Walking g.K.Key.less (length l.cells) l.cells (bucket_of (length l.cells) l.cells l.bucket) l.key l.rank l.previous (target (length l.cells) l.link.0) l.passed

-- how many cells are ahead
abbrev pub decreases-loop-x : goal.decreases-loop-x
decreases-loop-x g l = length (walk (next_of (length l.cells) l.cells) (length l.cells) (target (length l.cells) l.link.0))
