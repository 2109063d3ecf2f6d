use Rattle.std.proofs.Common.{ℕ, ◌<◌, List, refl, rules, arith, length-take}
use mathlib.Core.Logic.{∥∥₁_elim}
use native.Mathlib.Nat.{ℕ_set}
use Rattle.hashed.specs.declared.cell.Cell.{Cell}
use Rattle.hashed.specs.Links.{Linked}
use Rattle.hashed.specs.Cells.{target, next_of, first_of, bucket_of}
use Rattle.hashed.proofs.Links.{Linked-prop}
use Rattle.hashed.proofs.Calls.{passes_all}
use Rattle.hashed.specs.Store.{room, used, InRange, PlaceOf}
use Rattle.hashed.proofs.Used.{at_part}
use Rattle.hashed.proofs.hashed.Hashed.find.Goals as goal

pub seek-requires-clause-linked : goal.seek-requires-clause-linked
seek-requires-clause-linked g c =
    let self = c.args.self.now in
    let b = c.bucket_for.result in
    ∥∥₁_elim self.valid (Linked-prop _ _ _) (λ v. at_part self.cells.now c.room-room.result c.room-room.ensures
    (λ (n : ℕ) (cells : List (Cell g.row.K.Denot g.row.V.Denot)). (b : ℕ) → b < n → Linked (next_of n cells) (first_of n cells b) (bucket_of n cells b))
    (λ b h. (v.0.buckets b h).linked)
    b (omega (arith, c.bucket_for.ensures.within, c.room-room.ensures, length-take c.room-room.result self.cells.now)))

pub returns-clause-all : goal.returns-clause-all
returns-clause-all g c =
    let self = c.args.self.now in
    let p = c.seek.result in
    let range : InRange (room self) p = search rules in
    let at : PlaceOf g.K.Key.less g.K.Key.hash (room self) (used self) c.args.key c.args.rank p = search rules in
    λ far. ∥∥₁_elim self.valid (ℕ_set _ _) (λ v. passes_all g.met.K.Key.order g.K.Key.hash (room self) (used self) c.args.key c.args.rank p v.1 range at far (target (room self) p.link.0) refl)
