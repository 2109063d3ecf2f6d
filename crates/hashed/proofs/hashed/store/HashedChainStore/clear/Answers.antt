use Rattle.hashed.specs.Store.{state_of}
use Rattle.hashed.proofs.Emptied.{cleared}
use Rattle.hashed.proofs.hashed.store.HashedChainStore.clear.Goals as goal

pub invariant_of-self : goal.invariant_of-self
invariant_of-self g c =
    let f = c.free_all-self in
    record { valid = ∣ (cleared g.K.Key.hash c.args.self.now.cells.now c.room-room.result c.room-room.ensures f.new.cells f.auto.cells f.result.0 f.ensures).0 ∣₁ }

pub returns-clause-effect : goal.returns-clause-effect
returns-clause-effect g c =
    let f = c.free_all-self in
    let now = cleared g.K.Key.hash c.args.self.now.cells.now c.room-room.result c.room-room.ensures f.new.cells f.auto.cells f.result.0 f.ensures in
    λ i. state_of g.K.Key.less (now.1 i) (now.2 i)
