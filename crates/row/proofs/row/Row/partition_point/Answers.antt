use Rattle.std.proofs.Common.{◌≡◌, ℕ, ◌+◌, ◌*◌, ◌<◌, ◌≤◌, ◌⊎◌, List, length, get_or, [], count_by, sym, refl, subst, inl, inr, arith}
use Rattle.std.proofs.lemmas.Bool.{cases_lt}
use Rattle.std.proofs.lemmas.List.{nil_from_length}
use Rattle.row.specs.Partition.{Partitioned}
use Rattle.row.specs.Row.{items, room, order, turned}
use Rattle.row.proofs.Rooms.{length-items, length-order, items-order}
use Rattle.row.proofs.Windows.{partitioned_front, widened, narrowed, counted}
use Rattle.row.proofs.row.Row.partition_point.Goals as goal

pub returns-then-self-eq0 : goal.returns-then-self-eq0
returns-then-self-eq0 g c =
    let n : items c.args.self.now ≡ [] = nil_from_length (items c.args.self.now) (omega (arith, length-items c.args.self.now)) in
    record { within = omega arith; point = λ p k part. rw n }

pub returns : goal.returns
unfolding room
returns g c =
    let r = c.args.self.now in
    let b = c.find_block-b.result in
    let s = b * 256 in
    let ring = c.ring-ring.result in
    let n = r.len in
    let m = c.min-n.result in
    let xs = order r in
    let ys = turned ring in
    let t = c.partition_point.result in
    let le : s + t ≤ n = omega (arith, c.partition_point.ensures.within) in
    let fit : n ≤ length xs = omega (arith, r.fits, length-order r) in
    let E : (o : ℕ) (d : _) → o < m → get_or xs (s + o) d ≡ get_or ys o d = λ o d ol. c.ring-ring.ensures.items o d (omega arith) in
    let far : (n ≤ s + m) ⊎ ((b + 1) * 256 ≤ s + m) =
    elim (cases_lt n ((b + 1) * 256)) [ inl l ↦ inl (omega (arith, r.fits)) | inr l ↦ inr (omega (arith, r.fits)) ] in
    let h : length r.heads ≡ 128 = omega arith in
    let same = items-order r n h refl in
    record {
      within = omega (arith, length-items r);
      point = λ p k part.
          (let P = partitioned_front p xs n fit (subst (λ (l : List _). Partitioned p l) same part) in
          let V = c.partition_point.ensures.window p k (narrowed p xs ys n m s E (omega arith) P) in
          let W = widened p xs ys n m s ((b + 1) * 256) t E (c.find_block-b.ensures.window p k P) V c.partition_point.ensures.within far in
          subst (λ (l : List _). s + t ≡ count_by p l) (sym same) (counted p xs n (s + t) W le fit));
    }
