use Rattle.std.proofs.Common.{◌≡◌, ℕ, List, length, take, drop, set, sym, refl, ap, ◌∙◌, arith}
use lib.Seq.{take-set-lt}
use Rattle.std.proofs.lemmas.List.{drop-set-lt, length-set}
use Rattle.row.specs.Rings.{room_of}
use Rattle.row.specs.Row.{room, outside, order}
use Rattle.row.proofs.Rooms.{length-items, items-order}
use Rattle.row.proofs.row.Row.set.Goals as goal

pub returns-clause-effect : goal.returns-clause-effect
returns-clause-effect g c _ =
    let r = c.args.self.now in
    let i = c.args.i in
    let h : length r.heads ≡ 128 = omega arith in
    items-order _ r.len h refl
    ∙ ap (λ (t : List _). take r.len t) (c.cell_of-at.ensures.write c.args.x)
    ∙ take-set-lt r.len (order r) i c.args.x (omega (arith, length-items r))
    ∙ ap (λ (t : List _). set t i c.args.x) (sym (items-order r r.len h refl))

pub returns-clause-outside : goal.returns-clause-outside
unfolding room outside
returns-clause-outside g c =
    let r = c.args.self.now in
    let at = c.cell_of-at.result in
    let l : room_of (set r.cells.now at c.args.x) ≡ room_of r.cells.now = omega (arith, length-set r.cells.now at c.args.x) in
    let d = drop-set-lt (room_of r.cells.now) r.cells.now at c.args.x (omega arith) in
    ap (λ (t : List _). (r.cells.ghost_name, t)) (ap (λ (n : ℕ). drop n (set r.cells.now at c.args.x)) l ∙ d)
