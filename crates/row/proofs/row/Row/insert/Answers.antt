use Rattle.std.proofs.Common.{◌≡◌, ◌+◌, ◌*◌, ◌/◌, List, length, sym, refl, ap, ◌∙◌, arith}
use Rattle.std.specs.List.{insert}
use Rattle.row.specs.Row.{room, outside, order, block_end}
use Rattle.row.proofs.Lists.{grown}
use Rattle.row.proofs.Rooms.{length-items, length-order, items-order, kept_again}
use Rattle.row.proofs.row.Row.insert.Goals as goal

pub loop-b-init : goal.loop-b-init
unfolding room
loop-b-init g c =
    let r = c.args.self.now in
    let f = c.insert_within-carried in
    let k = f.ensures.kept in
    let l = length-items r in
    record {
      kept = k;
      left = record { at = block_end r (c.args.i / 256); after = omega arith; before = omega arith; within = omega arith; is = f.ensures.items };
    }

pub loop-b-preserved : goal.loop-b-preserved
unfolding room
loop-b-preserved g c =
    let r = c.args.self.now in
    let s = c.loop-b.self in
    let f = c.rotate_in_front-carried in
    let a = c.insert_within-carried.ensures.kept in
    let k = c.loop-b.invariant.kept in
    let p = c.loop-b.invariant.left in
    let l = length-items r in
    let here : p.at ≡ c.loop-b.b * 256 = omega (arith, p.after, p.before) in
    let q : insert (order r) c.args.i c.args.x ≡ insert (order s) (c.loop-b.b * 256) c.loop-b.carried = rw here at p.is in
    record {
      kept = kept_again r s f.new.self k f.ensures.kept;
      left = record { at = block_end s c.loop-b.b; after = omega arith; before = omega arith; within = omega arith; is = q ∙ f.ensures.items };
    }

pub returns-clause-effect : goal.returns-clause-effect
unfolding room
returns-clause-effect g c _ =
    let r = c.args.self.now in
    let s = c.loop-b.self in
    let a = c.insert_within-carried.ensures.kept in
    let k = c.loop-b.invariant.kept in
    let p = c.loop-b.invariant.left in
    let l = length-items r in
    let h : length r.heads ≡ 128 = omega arith in
    let h' : length s.heads ≡ 128 = omega arith in
    items-order _ (r.len + 1) h' (omega (arith, k.len))
    ∙ grown (order r) (order s) c.args.i r.len p.at c.args.x c.loop-b.carried (omega arith) (omega (arith, length-order r)) (omega (arith, p.after)) (omega (arith, length-order s, p.within)) (sym p.is)
    ∙ ap (λ (t : List _). insert t c.args.i c.args.x) (sym (items-order r r.len h refl))

pub returns-clause-outside : goal.returns-clause-outside
unfolding outside
returns-clause-outside g c = c.loop-b.invariant.kept.outside
