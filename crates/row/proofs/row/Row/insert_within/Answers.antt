use Rattle.std.proofs.Common.{◌≡◌, ◌*◌, ◌/◌, suc, add-one, arith}
use Rattle.std.specs.List.{insert}
use Rattle.row.specs.Row.{room, order, block_end}
use Rattle.row.proofs.Rooms.{length-order}
use Rattle.row.proofs.Shifts.{moved_on}
use Rattle.row.proofs.row.Row.insert_within.Goals as goal

pub returns-then-i-start-clause-items : goal.returns-then-i-start-clause-items
unfolding room
returns-then-i-start-clause-items g c =
    let r = c.args.self.now in
    let i = c.args.i in
    let f = c.rotate_in_front-out in
    let t = c.shift_down in
    let m : insert (order f.new.self) (suc i) c.args.x ≡ insert (order t.new.self) (i / 256 * 256) t.result = rw (add-one, c.block-start.ensures.start) at t.ensures.items in
    moved_on (order r) (order f.new.self) (order t.new.self) (i / 256 * 256) i (block_end r (i / 256)) c.args.x f.result t.result (omega arith) (omega arith) (omega (arith, length-order f.new.self, f.ensures.kept.cells)) f.ensures.items m
