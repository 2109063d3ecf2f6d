use Rattle.keys.proofs.Gathers.{Turns}
use Rattle.keys.proofs.gather.gather_eight.Given as goal

abbrev pub invariant-loop : goal.invariant-loop
invariant-loop l = Turns l.bytes l.counter l.number l.rest
