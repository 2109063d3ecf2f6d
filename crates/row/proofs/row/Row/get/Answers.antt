use Rattle.std.proofs.Common.{◌≡◌, length, Some, sym, ap, ◌∙◌, arith}
use Rattle.row.proofs.Rooms.{length-items, an_item}
use Rattle.row.proofs.row.Row.get.Goals as goal

pub returns-then-i-len : goal.returns-then-i-len
returns-then-i-len g c =
    let r = c.args.self.now in
    let n : length r.heads ≡ 128 = omega arith in
    let v = c.index-self-cell_of.result in
    sym (an_item r n c.args.i v (omega (arith, length-items r)) ∙ ap (λ (x : _). Some x) (c.cell_of.ensures.read v))
