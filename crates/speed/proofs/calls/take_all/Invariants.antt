use Rattle.std.proofs.Common.{◌≡◌, ◌+◌, ◌≤◌, drop}
use Rattle.ordered.specs.Store.{state}
use Rattle.speed.specs.Workload.{taken}
use Rattle.speed.proofs.calls.take_all.Given as goal

-- what is left to do from here gives what the whole gives
abbrev pub invariant-loop-number : goal.invariant-loop-number
invariant-loop-number l =
    (l.count ≤ l.number-index) × (l.count + taken (state l.store) (drop l.number-index l.wanted) ≡ taken (state l.initial.store) l.wanted)
