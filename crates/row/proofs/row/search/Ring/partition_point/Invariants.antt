use Rattle.std.proofs.Common.{Bool, ◌+◌, ◌^◌, ◌≤◌}
use Rattle.std.specs.Fn.{ComputesKey}
use Rattle.row.specs.Partition.{PartitionedTo, Window}
use Rattle.row.specs.Row.{turned}
use Rattle.row.proofs.row.search.Ring.partition_point.Given as goal

-- of a partitioned list, the items that satisfy p end at one of the 2 ^ j items from low on
abbrev pub invariant-loop-j : goal.invariant-loop-j
invariant-loop-j g l =
    (l.low + 2 ^ l.j ≤ l.n)
    × ((p : _ → Bool) → ComputesKey g.F.Fn p l.pred → PartitionedTo p (turned l.self) l.n → Window p (turned l.self) l.n l.low (l.low + 2 ^ l.j))
