use Rattle.std.proofs.Common.{◌≡◌, ℕ, option_map, sym, ap, rules, ◌∙◌}
use Rattle.std.specs.List.{slice_get}
use Rattle.std.proofs.lemmas.Fn.{always_returns_same}
use Rattle.ordered.specs.Sorted.{not_greater}
use Rattle.ordered.specs.Store.{entries}
use Rattle.ordered.proofs.Sorted.{not_greater-parts}
use Rattle.ordered.proofs.Effects.{stretch}
use Rattle.ordered.proofs.Neighbours.{above_is}
use Rattle.ordered.proofs.ordered.Ordered.end.Goals as goal

pub returns : goal.returns
returns g c =
    let o = g.met.K.Key.order in
    let self = c.args.self.now in
    let k = c.args.key in
    let at : c.partition_point.result ≡ not_greater g.K.Key.less (entries self) k =
    c.partition_point.ensures.point _ (always_returns_same _ _ _ (λ a r f' h. search rules)) (not_greater-parts o (entries self) k self.sorted) in
    record {
      place = at ∙ sym (stretch o (entries self) k);
      next = ap (λ (n : ℕ). option_map (λ e. e.key) (slice_get (entries self) n)) at ∙ above_is o (entries self) k self.sorted;
    }
