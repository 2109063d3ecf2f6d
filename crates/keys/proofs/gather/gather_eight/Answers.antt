use Rattle.std.proofs.Common.{◌∙◌, arith}
use Rattle.keys.proofs.Gathers.{room, one_more}
use Rattle.keys.proofs.gather.gather_eight.Goals as goal

pub overflow_mul-number : goal.overflow_mul-number
overflow_mul-number c = omega (arith, room c.loop.number c.loop.counter c.loop-test.true c.loop.invariant.small)

pub overflow_add-number : goal.overflow_add-number
overflow_add-number c = omega (arith, room c.loop.number c.loop.counter c.loop-test.true c.loop.invariant.small)

pub loop-preserved : goal.loop-preserved
loop-preserved c =
    one_more _ _ _ _ _ _ c.loop.invariant (omega arith) (c.from.ensures ∙ c.first_and_rest-first.ensures.first) c.first_and_rest-first.ensures.rest
