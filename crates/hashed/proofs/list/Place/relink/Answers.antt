use Rattle.std.proofs.Common.{length, arith}
use Rattle.hashed.proofs.Writes.{relinked_first, relinked_next}
use Rattle.hashed.proofs.list.Place.relink.Goals as goal

pub returns-in-None : goal.returns-in-None
returns-in-None g c = λ _. rw c.in-None.is (relinked_first (length c.args.cells.now) c.args.cells.now c.args.self.bucket c.args.x c.args.cell c.index-cells-self.result c.args.to
    c.requires.cell c.requires.first (c.requires.place.bucket (omega arith)))

pub returns-in-Some : goal.returns-in-Some
returns-in-Some g c = λ apart. rw c.in-Some.is (relinked_next (length c.args.cells.now) c.args.cells.now c.args.self.bucket c.args.x c.args.cell c.index-cells-y.result c.args.to
    c.requires.cell c.requires.first c.in-Some.y (c.requires.place.previous c.in-Some.y c.in-Some.is) (apart c.in-Some.y c.in-Some.is))
