use Rattle.std.proofs.Common.{◌+◌, ◌-◌, length, refl, ◌∙◌, arith}
use borrow.Rule.Slice.PartMut.{put_mid}
use Rattle.row.proofs.Lists.{length_put_mid, length_block}
use Rattle.row.proofs.Shifts.{near_in, far_in}
use Rattle.row.proofs.ring.shift_up.Goals as goal

pub returns-then-stop-near : goal.returns-then-stop-near
returns-then-stop-near g c =
    let z = c.args.block.now in
    let h = c.args.head in
    let to = c.args.to in
    let stop = c.args.stop in
    near_in z h to (h + to) (h + stop - (h + to)) stop c.args.x c.push_front.result c.push_front.new.run refl (omega arith) (omega arith) c.push_front.ensures

pub returns-else-to-near : goal.returns-else-to-near
returns-else-to-near g c =
    let z = c.args.block.now in
    let h = c.args.head in
    let to = c.args.to in
    let stop = c.args.stop in
    let s = c.push_front-else-to-near in
    far_in z h to (to - (length z - h)) (stop - (length z - h) - (to - (length z - h))) stop c.args.x s.result s.new.run c.requires.head (omega arith) (omega arith) (omega arith) s.ensures

pub returns-then-to-near : goal.returns-then-to-near
returns-then-to-near g c =
    let z = c.args.block.now in
    let h = c.args.head in
    let to = c.args.to in
    let stop = c.args.stop in
    let n = length z in
    let s = c.push_front-carried in
    let t = c.push_front-then-to-near in
    let u = s.new.run in
    let lz = length_put_mid (h + to) (n - (h + to)) z u (s.auto.run ∙ length_block z (h + to) n (omega arith) (omega arith)) (omega arith) in
    let k = stop - (n - h) - 0 in
    near_in z h to (h + to) (n - (h + to)) (n - h) c.args.x s.result u refl (omega arith) (omega arith) s.ensures
    ∙ far_in (put_mid (h + to) (n - (h + to)) z u) h (n - h) 0 k stop s.result t.result t.new.run (omega arith) (omega arith) (omega arith) (omega arith) t.ensures
