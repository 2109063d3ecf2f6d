use Rattle.std.proofs.Common.{◌+◌, ◌-◌, length, refl, ◌∙◌, arith}
use borrow.Rule.Slice.PartMut.{put_mid}
use Rattle.row.proofs.Lists.{length_put_mid, length_block}
use Rattle.row.proofs.Shifts.{near_out, far_out}
use Rattle.row.proofs.ring.shift_down.Goals as goal

pub returns-then-stop-near : goal.returns-then-stop-near
returns-then-stop-near g c =
    let z = c.args.block.now in
    let h = c.args.head in
    let to = c.args.to in
    let stop = c.args.stop in
    near_out z h to (h + to) (h + stop - (h + to)) stop c.args.x c.push_back.result c.push_back.new.run refl (omega arith) (omega arith) c.push_back.ensures

pub returns-else-to-near : goal.returns-else-to-near
returns-else-to-near g c =
    let z = c.args.block.now in
    let h = c.args.head in
    let to = c.args.to in
    let stop = c.args.stop in
    let s = c.push_back-else-to-near in
    far_out z h to (to - (length z - h)) (stop - (length z - h) - (to - (length z - h))) stop c.args.x s.result s.new.run c.requires.head (omega arith) (omega arith) (omega arith) s.ensures

pub returns-then-to-near : goal.returns-then-to-near
returns-then-to-near g c =
    let z = c.args.block.now in
    let h = c.args.head in
    let to = c.args.to in
    let stop = c.args.stop in
    let n = length z in
    let s = c.push_back-carried in
    let t = c.push_back-then-to-near in
    let u = s.new.run in
    let k = stop - (n - h) - 0 in
    let lz = length_put_mid 0 k z u (s.auto.run ∙ length_block z 0 (stop - (n - h)) (omega arith) (omega arith)) (omega arith) in
    far_out z h (n - h) 0 k stop c.args.x s.result u c.requires.head (omega arith) (omega arith) (omega arith) s.ensures
    ∙ near_out (put_mid 0 k z u) h to (h + to) (n - (h + to)) (n - h) s.result t.result t.new.run refl (omega arith) (omega arith) t.ensures
