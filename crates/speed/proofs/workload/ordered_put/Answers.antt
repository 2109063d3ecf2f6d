use Rattle.std.proofs.Common.{◌≡◌, ap, ◌∙◌, rules}
use Rattle.ordered.specs.Store.{state}
use Rattle.speed.specs.Workload.{Numbers, empty, accepted}
use Rattle.speed.proofs.Workloads.{accepted-empty}
use Rattle.speed.proofs.workload.ordered_put.Goals as goal

pub returns : goal.returns
returns c =
    let ks = c.args.keys.now in
    let e : state c.new-store.result ≡ empty = search rules in
    c.put_all.ensures.count ∙ ap (λ (s : Numbers). accepted s ks) e ∙ accepted-empty ks
