use Rattle.std.proofs.Common.{refl, sym, subst, ◌≡◌, ℕ, None, arith, rules}
use mathlib.Core.Logic.{∥∥₁_elim, ∥∥₁_map}
use Rattle.chains.proofs.Outcomes.{put_past}
use Rattle.hashed.specs.Cells.{target}
use Rattle.hashed.specs.Store.{room, used, state, PlaceOf}
use Rattle.hashed.proofs.Sets.{outcome_set}
use Rattle.hashed.proofs.Used.{part-length}
use Rattle.hashed.proofs.Calls.{past_end, put_refuses, put_leaves}
use Rattle.hashed.proofs.hashed.store.HashedChainStore.put.Goals as goal

pub returns-then-place-rank-clause-effect : goal.returns-then-place-rank-clause-effect
returns-then-place-rank-clause-effect g c =
    let self = c.args.self.now in
    let f = c.find-place in
    let at : PlaceOf g.K.Key.less g.K.Key.hash (room self) (used self) c.args.key c.args.rank f.result = search rules in
    ∥∥₁_elim self.valid (outcome_set g.row.K.coded g.row.V.coded _ _) (λ v. put_past g.K.Key.less (state g.K.Key.less self) c.args.key c.args.rank c.args.value
    (past_end g.met.K.Key.order g.K.Key.hash (room self) (used self) c.args.key c.args.rank f.result v.1 f.ensures.range at (target (room self) f.result.link.0) refl c.if-place-rank.true))

pub returns-in_default-clause-effect : goal.returns-in_default-clause-effect
returns-in_default-clause-effect g c =
    let self = c.args.self.now in
    let f = c.find-place in
    let at : PlaceOf g.K.Key.less g.K.Key.hash (room self) (used self) c.args.key c.args.rank f.result = search rules in
    ∥∥₁_elim self.valid (outcome_set g.row.K.coded g.row.V.coded _ _) (λ v. put_refuses g.met.K.Key.order g.K.Key.hash (room self) (used self) c.args.key c.args.rank f.result v.1 f.ensures.range at
    (omega (arith, part-length self.cells.now (room self) refl)) self.free.0 v.0 c.args.value
    (subst (λ (n : ℕ). target n self.free.0 ≡ None) c.room-room.ensures (sym c.in_default.ensures)) c.if-place-rank.false)

pub invariant_of-self : goal.invariant_of-self
invariant_of-self g c =
    let self = c.args.self.now in
    let f = c.find-place in
    let at : PlaceOf g.K.Key.less g.K.Key.hash (room self) (used self) c.args.key c.args.rank f.result = search rules in
    let i = c.insert-self in
    record {
      valid = ∥∥₁_map self.valid (λ v. (put_leaves g.met.K.Key.order g.K.Key.hash self.cells.now c.room-room.result c.room-room.ensures c.args.key c.args.rank f.result f.ensures.range at
          self.free.0 v c.in-Some.x i.new.cells i.auto.cells c.args.value i.result.0 (sym c.in-Some.ensures) c.if-place-rank.false i.ensures.free i.ensures.links).0);
    }

pub returns-clause-effect : goal.returns-clause-effect
returns-clause-effect g c =
    let self = c.args.self.now in
    let f = c.find-place in
    let at : PlaceOf g.K.Key.less g.K.Key.hash (room self) (used self) c.args.key c.args.rank f.result = search rules in
    let i = c.insert-self in
    ∥∥₁_elim self.valid (outcome_set g.row.K.coded g.row.V.coded _ _) (λ v. (put_leaves g.met.K.Key.order g.K.Key.hash self.cells.now c.room-room.result c.room-room.ensures c.args.key c.args.rank f.result f.ensures.range at
    self.free.0 v c.in-Some.x i.new.cells i.auto.cells c.args.value i.result.0 (sym c.in-Some.ensures) c.if-place-rank.false i.ensures.free i.ensures.links).1)
