use Rattle.std.proofs.Common.{◌≡◌, ℕ, Some, None, refl, sym, ap, ◌∙◌, subst, arith, get_or-take, rules}
use Rattle.std.specs.Coded.{Coded-set, coded_option}
use mathlib.Core.Logic.{∥∥₁_elim}
use Rattle.hashed.specs.declared.cell.Cell.{Cell}
use Rattle.hashed.specs.Cells.{target}
use Rattle.hashed.specs.Store.{room, used, PlaceOf}
use Rattle.hashed.proofs.Writes.{target_in}
use Rattle.hashed.proofs.Used.{part-length}
use Rattle.hashed.proofs.Calls.{value_there, value_none}
use Rattle.hashed.proofs.hashed.store.HashedChainStore.value.Goals as goal

pub returns-in_err-x : goal.returns-in_err-x
returns-in_err-x g c =
    let self = c.args.self.now in
    let f = c.find in
    let at : PlaceOf g.K.Key.less g.K.Key.hash (room self) (used self) c.args.key c.args.rank f.result = search rules in
    c.from_residual.ensures ∙ ∥∥₁_elim self.valid (Coded-set (coded_option g.row.V.coded) _ _) (λ v. value_none g.met.K.Key.order g.K.Key.hash (room self) (used self) c.args.key c.args.rank f.result v.1 f.ensures.range at
    (subst (λ (n : ℕ). target n f.result.link.0 ≡ None) c.room.ensures (sym c.in_err-x.ensures)))

pub returns : goal.returns
returns g c =
    let self = c.args.self.now in
    let f = c.find in
    let at : PlaceOf g.K.Key.less g.K.Key.hash (room self) (used self) c.args.key c.args.rank f.result = search rules in
    let x = c.in_ok-x.x in
    let d = c.index-self-x.result in
    let leads = subst (λ (n : ℕ). target n f.result.link.0 ≡ Some x) c.room.ensures (sym c.in_ok-x.ensures) in
    ap (λ (r : Cell g.row.K.Denot g.row.V.Denot). Some r.value) (sym (get_or-take (room self) self.cells.now x d (target_in (room self) f.result.link.0 x leads)))
    ∙ ∥∥₁_elim self.valid (Coded-set (coded_option g.row.V.coded) _ _) (λ v. value_there g.met.K.Key.order g.K.Key.hash (room self) (used self) c.args.key c.args.rank f.result v.1 f.ensures.range at
    (omega (arith, part-length self.cells.now (room self) refl)) x d leads)
