use Rattle.std.proofs.Common.{◌+◌, ◌-◌, ◌*◌, ◌/◌, ◌<◌, ◌≤◌}
use Rattle.row.specs.Row.{order, Kept}
use Rattle.row.proofs.Cascade.{Carried}
use Rattle.row.proofs.row.Row.remove.Given as goal

-- the carried cell, put where block b begins, gives the cells as they were, with some cell put past all items
abbrev pub invariant-loop-b : goal.invariant-loop-b
invariant-loop-b g l = record {
  kept : Kept l.fn.self l.self;
  low : l.i / 256 < l.b;
  high : l.b ≤ (l.fn.self.len - 1) / 256 + 1;
  carried : Carried (order l.self) l.carried (l.b * 256) l.fn.self.len (order l.fn.self) l.initial.carried;
}
