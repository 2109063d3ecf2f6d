use Rattle.std.proofs.Common.{◌≡◌, ℕ, ◌+◌, ◌-◌, ◌*◌, ◌/◌, ◌^◌, cond, get_or, sym, ◌∙◌, subst, arith, pow_pos}
use Rattle.row.specs.Partition.{Window}
use Rattle.row.specs.Row.{order}
use Rattle.row.proofs.Windows.{computed, pow_half, bit_le, first_block, halved_block}
use Rattle.row.proofs.row.Row.find_block.Goals as goal
use Rattle.row.proofs.row.Row.find_block.Goals.{then-pred, else-pred}

pub loop-j-init : goal.loop-j-init
loop-j-init g c =
    let h = 2 ^ c.ilog2-turns.result in
    let pp = pow_pos c.ilog2-turns.result in
    let t = c.pred.result in
    let n = c.args.self.now.len in
    let m = (n - 1) / 256 + 1 - c.power.result in
    let l : c.if-pred.b ≡ cond t m 0 =
    elim c.if-pred.branch [ then-pred w ↦ w.b-is ∙ rw w.if-pred.true | else-pred w ↦ w.b-is ∙ rw w.if-pred.false ] in (
      omega (arith, bit_le t m),
      λ p k part. first_block p (order c.args.self.now) n 256 h m c.if-pred.b c.block_first.result t part (omega arith) c.block_first.ensures (computed g.met.F.FnMut.1 p k c.pred.ensures) (omega arith) (omega arith) l,
    )

pub loop-j-preserved : goal.loop-j-preserved
loop-j-preserved g c =
    let q = pow_half c.loop-j.j (omega arith) in
    let h = 2 ^ (c.loop-j.j - 1) in
    let pp = pow_pos (c.loop-j.j - 1) in
    let t = c.pred-in-loop-j.result in
    let b = c.loop-j.b in
    let n = c.args.self.now.len in
    let m = bit_le t h in
    let xs = order c.args.self.now in
    let pe : c.power-in-loop-j.result ≡ h = c.power-in-loop-j.ensures in
    let E = subst (λ (v : ℕ). (d : _) → c.block_first-in-loop-j.result ≡ get_or xs ((b + v) * 256) d) pe c.block_first-in-loop-j.ensures in
    let r : c.power_if-b.result ≡ cond t h 0 = c.power_if-b.ensures in (
      omega arith,
      λ p k part. let W : Window p xs n (b * 256) ((b + (h + h)) * 256) = subst (λ (v : ℕ). Window p xs n (b * 256) ((b + v) * 256)) q (c.loop-j.invariant.1 p k part) in
          let V = halved_block p xs n 256 h b c.block_first-in-loop-j.result t part W (omega arith) E (computed g.met.F.FnMut.1 p k c.pred-in-loop-j.ensures) in
          subst (λ (v : ℕ). Window p xs n ((b + v) * 256) ((b + v + h) * 256)) (sym r) V,
    )
