use Rattle.hashed.proofs.Emptied.{cleared}
use Rattle.hashed.proofs.hashed.Hashed.new.Goals as goal

pub invariant_of-result : goal.invariant_of-result
invariant_of-result g c =
    let f = c.free_all-free in
    record { valid = ∣ (cleared g.K.Key.hash c.args.cells.now c.room_for-room.result c.room_for-room.ensures f.new.cells f.auto.cells f.result.0 f.ensures).0 ∣₁ }

pub returns-clause-empty : goal.returns-clause-empty
returns-clause-empty g c =
    let f = c.free_all-free in
    (cleared g.K.Key.hash c.args.cells.now c.room_for-room.result c.room_for-room.ensures f.new.cells f.auto.cells f.result.0 f.ensures).1
