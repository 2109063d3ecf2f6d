use Rattle.std.proofs.Common.{◌≡◌, ℕ, ◌+◌, ◌-◌, ◌^◌, cond, sym, ◌∙◌, subst, arith, pow_pos}
use Rattle.row.specs.Partition.{Window}
use Rattle.row.specs.Row.{turned}
use Rattle.row.proofs.Windows.{computed, pow_half, bit_le, first, halved, last}
use Rattle.row.proofs.row.search.Ring.partition_point.Goals as goal
use Rattle.row.proofs.row.search.Ring.partition_point.Goals.{then-pred, else-pred}

pub loop-j-init : goal.loop-j-init
loop-j-init g c =
    let h = 2 ^ c.ilog2-turns.result in
    let pp = pow_pos c.ilog2-turns.result in
    let b = c.pred.result in
    let n = c.args.n in
    let l : c.if-pred.low ≡ cond b (n - h) 0 =
    elim c.if-pred.branch [ then-pred w ↦ w.low-is ∙ rw w.if-pred.true (omega arith) | else-pred w ↦ w.low-is ∙ rw w.if-pred.false ] in (
      omega (arith, bit_le b (n - h)),
      λ p k part. first p (turned c.args.self.now) n h (c.power-width.result - 1) c.if-pred.low c.at.result b part (omega arith) c.at.ensures (computed g.met.F.FnMut.1 p k c.pred.ensures) (omega arith) (omega arith) (omega arith) l,
    )

pub loop-j-preserved : goal.loop-j-preserved
loop-j-preserved g c =
    let q = pow_half c.loop-j.j (omega arith) in
    let h = 2 ^ (c.loop-j.j - 1) in
    let pp = pow_pos (c.loop-j.j - 1) in
    let b = c.pred-in-loop-j.result in
    let lo = c.loop-j.low in
    let n = c.args.n in
    let m = bit_le b h in
    let xs = turned c.args.self.now in
    let r : c.power_if-low.result ≡ cond b h 0 = c.power_if-low.ensures in (
      omega arith,
      λ p k part. let W : Window p xs n lo (lo + (h + h)) = subst (λ (v : ℕ). Window p xs n lo (lo + v)) q (c.loop-j.invariant.1 p k part) in
          let V = halved p xs n lo h (lo + c.power-half.result - 1) c.at-in-loop-j.result b part W (omega arith) c.at-in-loop-j.ensures (computed g.met.F.FnMut.1 p k c.pred-in-loop-j.ensures) (omega arith) in
          subst (λ (v : ℕ). Window p xs n (lo + v) (lo + v + h)) (sym r) V,
    )

pub returns : goal.returns
returns g c =
    let b = c.pred-2.result in
    let lo = c.loop-j.low in
    let n = c.args.n in
    let m = bit_le b 1 in
    let xs = turned c.args.self.now in
    let one : 2 ^ c.loop-j.j ≡ 1 = let z : c.loop-j.j ≡ 0 = omega arith in rw z in
    let r : c.power_if.result ≡ cond b 1 0 = c.power_if.ensures in
    record {
      within = omega arith;
      window = λ p k part. (let W : Window p xs n lo (lo + 1) = subst (λ (v : ℕ). Window p xs n lo (lo + v)) one (c.loop-j.invariant.1 p k part) in
          let V = last p xs n lo c.at-2.result b part W (omega arith) c.at-2.ensures (computed g.met.F.FnMut.1 p k c.pred-2.ensures) in
          subst (λ (v : ℕ). Window p xs n (lo + v) (lo + v)) (sym r) V);
    }
