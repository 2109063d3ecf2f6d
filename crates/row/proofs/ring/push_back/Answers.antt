use Rattle.std.proofs.Common.{sym}
use Rattle.row.proofs.Shifts.{down}
use Rattle.row.proofs.ring.push_back.Goals as goal

pub returns : goal.returns
returns g c = down c.args.run.now c.copy_within.new.self c.args.x c.in-Some.field-0.now (sym c.in-Some.ensures.value) c.copy_within.ensures.after
