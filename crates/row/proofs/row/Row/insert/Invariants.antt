use Rattle.std.proofs.Common.{◌+◌, ◌*◌}
use Rattle.std.specs.List.{insert}
use Rattle.row.specs.Row.{room, order, Kept}
use Rattle.row.proofs.Cascade.{Pending}
use Rattle.row.proofs.row.Row.insert.Given as goal

-- what is left to do is to put the carried cell in where block b begins, or past all items
abbrev pub invariant-loop-b : goal.invariant-loop-b
invariant-loop-b g l = record { kept : Kept l.fn.self l.self; left : Pending (order l.self) l.carried (l.b * 256) (l.fn.self.len + 1) (room l.fn.self) (insert (order l.fn.self) l.i l.fn.x) }
