use Rattle.std.proofs.Common.{◌≡◌, ◌+◌, ◌≤◌, drop}
use Rattle.ordered.specs.Store.{state}
use Rattle.speed.specs.Workload.{filled, accepted}
use Rattle.speed.proofs.calls.put_all.Given as goal

-- what is left to do from here gives what the whole gives
abbrev pub invariant-loop-number : goal.invariant-loop-number
invariant-loop-number l =
    (l.count ≤ l.number-index)
    × (filled (state l.store) (drop l.number-index l.keys) ≡ filled (state l.initial.store) l.keys)
    × (l.count + accepted (state l.store) (drop l.number-index l.keys) ≡ accepted (state l.initial.store) l.keys)
