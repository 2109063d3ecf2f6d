use Rattle.std.proofs.Common.{◌≤◌, length, sym, ◌∙◌}
use Rattle.std.proofs.lemmas.Option.{slice_get_past}
use Rattle.chains.specs.State.{values}
use Rattle.ordered.specs.Store.{state}
use Rattle.ordered.proofs.Calls.{found, none_there}
use Rattle.ordered.proofs.ordered.Ordered.find.Goals as goal

pub returns-in_err-cell : goal.returns-in_err-cell
returns-in_err-cell g c =
    let self = c.args.self.now in
    let vs = values g.K.Key.less (state self) c.args.key in
    let past : length vs ≤ c.args.rank = none_there g.met.K.Key.order self c.args.key _ c.args.rank _ c.start.ensures.place c.saturating_add-place.ensures (sym c.get.ensures ∙ c.in_err-cell.was) in
    rw c.from_residual.ensures record { place = past; value = sym (slice_get_past vs c.args.rank past) }

pub returns : goal.returns
returns g c =
    let r = found g.met.K.Key.order c.args.self.now c.args.key _ c.args.rank _ c.start.ensures.place c.saturating_add-place.ensures c.in_ok-cell.cell c.is_less.result c.then_some.result (sym c.get.ensures ∙ c.in_ok-cell.was) c.is_less.ensures c.then_some.ensures in
    record { place = r.0; value = r.1 }
