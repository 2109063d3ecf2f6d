use Rattle.std.proofs.Common.{rules}
use Rattle.std.proofs.lemmas.Fn.{always_returns_same}
use Rattle.ordered.specs.Store.{entries}
use Rattle.ordered.proofs.Sorted.{smaller-parts}
use Rattle.ordered.proofs.ordered.Ordered.start.Goals as goal

pub returns-clause-place : goal.returns-clause-place
returns-clause-place g c =
    let self = c.args.self.now in
    c.partition_point.ensures.point _ (always_returns_same _ _ _ (λ a r f' h. search rules)) (smaller-parts g.met.K.Key.order (entries self) c.args.key self.sorted)
