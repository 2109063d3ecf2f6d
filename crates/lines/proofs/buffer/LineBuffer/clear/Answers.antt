use Rattle.std.proofs.Common.{ℕ, length, ap, arith, length-take}
use Rattle.std.proofs.lemmas.List.{nil_from_length}
use Rattle.lines.proofs.buffer.LineBuffer.clear.Goals as goal

pub loop-init : goal.loop-init
loop-init c = omega arith

pub loop-preserved : goal.loop-preserved
loop-preserved c = omega (arith, ap length c.pop-last.ensures.rest, length-take {A = ℕ}, c.loop.invariant, c.len-end.ensures.value)

pub returns-after-loop : goal.returns-after-loop
returns-after-loop c = nil_from_length _ (omega (arith, c.loop.invariant, c.len-end.ensures.value))
