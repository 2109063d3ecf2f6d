use Rattle.std.proofs.Common.{◌≡◌, ◌-◌, ◌≤◌, List, length, get_or, take, Some, sym, refl, ap, ◌∙◌, arith}
use Rattle.std.specs.List.{remove}
use Rattle.std.proofs.lemmas.Option.{slice_get-get_or}
use Rattle.std.proofs.lemmas.List.{length-take-le}
use Rattle.row.specs.Row.{items, room, outside, order}
use Rattle.row.proofs.Cascade.{carried_end}
use Rattle.row.proofs.Lists.{taken_out}
use Rattle.row.proofs.Rooms.{length-items, length-order, items-order, kept_again}
use Rattle.row.proofs.row.Row.remove.Goals as goal

pub returns : goal.returns
unfolding room outside
returns g c =
    let r = c.args.self.now in
    let s = c.loop-b.self in
    let i = c.args.i in
    let f = c.shift_down-out in
    let t = f.new.self in
    let v = c.loop-b.invariant in
    let k = kept_again r s t v.kept f.ensures.kept in
    let l = length-items r in
    let lr = length-order r in
    let ls = length-order s in
    let lt = length-order t in
    let vk = v.kept in
    let h : length r.heads ≡ 128 = omega arith in
    let h' : length t.heads ≡ 128 = omega arith in
    let same = items-order r r.len h refl in
    let short : i ≤ length (take (r.len - 1) (order t)) = rw (length-take-le (r.len - 1) (order t) (omega (arith, r.fits, k.cells))) (omega arith) in
    let out = taken_out (take r.len (order r)) (take (r.len - 1) (order t)) i f.result short
    (carried_end v.carried c.min.result (order t) i f.result
    (omega (arith, v.low, r.fits)) (omega (arith, v.low)) (omega (arith, s.fits)) (omega arith) (omega (arith, r.fits, k.cells)) (omega arith) f.ensures.items) in
    record {
      answer = sym (slice_get-get_or (items r) i f.result (omega arith) ∙ ap (λ (y : _). Some y) (ap (λ (u : List _). get_or u i f.result) same ∙ sym (out.1 f.result)));
      effect = items-order _ (r.len - 1) h' (omega (arith, k.len)) ∙ out.0 ∙ ap (λ (u : List _). remove u i) (sym same);
      refused = λ e. cc;
      room = omega (arith, k.cells);
      outside = k.outside;
    }
