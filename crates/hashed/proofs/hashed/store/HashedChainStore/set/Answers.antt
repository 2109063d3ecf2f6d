use Rattle.std.proofs.Common.{◌≡◌, ℕ, None, sym, subst, arith, rules}
use mathlib.Core.Logic.{∥∥₁_elim, ∥∥₁_map}
use Rattle.chains.proofs.Outcomes.{set_past}
use Rattle.hashed.specs.Cells.{target}
use Rattle.hashed.specs.Store.{room, used, state, PlaceOf}
use Rattle.hashed.proofs.Sets.{answer_set}
use Rattle.hashed.proofs.Calls.{at_end, set_leaves}
use Rattle.hashed.proofs.hashed.store.HashedChainStore.set.Goals as goal

pub returns-in_default-clause-effect : goal.returns-in_default-clause-effect
returns-in_default-clause-effect g c =
    let self = c.args.self.now in
    let f = c.find in
    let at : PlaceOf g.K.Key.less g.K.Key.hash (room self) (used self) c.args.key c.args.rank f.result = search rules in
    let none = subst (λ (n : ℕ). target n f.result.link.0 ≡ None) c.room-room.ensures (sym c.in_default.ensures) in
    ∥∥₁_elim self.valid (answer_set g.row.K.coded g.row.V.coded _ _) (λ v. set_past g.K.Key.less (state g.K.Key.less self) c.args.key c.args.rank c.args.value
    (let q = at_end g.met.K.Key.order g.K.Key.hash (room self) (used self) c.args.key c.args.rank f.result v.1 f.ensures.range at none in omega (arith, q, at.found.most)))

pub invariant_of-self : goal.invariant_of-self
invariant_of-self g c =
    let self = c.args.self.now in
    let f = c.find in
    let at : PlaceOf g.K.Key.less g.K.Key.hash (room self) (used self) c.args.key c.args.rank f.result = search rules in
    record {
      valid = ∥∥₁_map self.valid (λ v. (set_leaves g.met.K.Key.order g.K.Key.hash self.cells.now c.room-room.result c.room-room.ensures c.args.key c.args.rank f.result f.ensures.range at
          self.free.0 v c.in-Some.x c.index-cells-x.result c.args.value (sym c.in-Some.ensures)).0);
    }

pub returns-clause-effect : goal.returns-clause-effect
returns-clause-effect g c =
    let self = c.args.self.now in
    let f = c.find in
    let at : PlaceOf g.K.Key.less g.K.Key.hash (room self) (used self) c.args.key c.args.rank f.result = search rules in
    ∥∥₁_elim self.valid (answer_set g.row.K.coded g.row.V.coded _ _) (λ v. (set_leaves g.met.K.Key.order g.K.Key.hash self.cells.now c.room-room.result c.room-room.ensures c.args.key c.args.rank f.result f.ensures.range at
    self.free.0 v c.in-Some.x c.index-cells-x.result c.args.value (sym c.in-Some.ensures)).1)
