use Rattle.std.proofs.Common.{Bool, ◌+◌, ◌*◌, ◌^◌, ◌≤◌}
use Rattle.std.specs.Fn.{ComputesKey}
use Rattle.row.specs.Partition.{PartitionedTo, Window}
use Rattle.row.specs.Row.{order}
use Rattle.row.proofs.row.Row.find_block.Given as goal

-- of a partitioned list, the items that satisfy p end in one of the 2 ^ j blocks from b on
abbrev pub invariant-loop-j : goal.invariant-loop-j
invariant-loop-j g l =
    (l.b + 2 ^ l.j ≤ l.blocks)
    × ((p : _ → Bool) → ComputesKey g.F.Fn p l.pred → PartitionedTo p (order l.self) l.self.len → Window p (order l.self) l.self.len (l.b * 256) ((l.b + 2 ^ l.j) * 256))
