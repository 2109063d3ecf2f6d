-- A search by halves: what the entries before and behind a window are.
use Rattle.std.proofs.Common.{◌≡◌, ℕ, zero, suc, ◌+◌, ◌-◌, ◌*◌, ◌^◌, ◌<◌, ◌≤◌, Bool, true, false, cond, ◌⊎◌, List, [], ◌∷◌, length, get_or, take, count_by, sym, refl, ap, ◌∙◌, subst, inl, inr, zero-mul, add-one, arith, pow-add, pow_pos}
use denote.Ref.{Bor}
use denote.Param.Members.{MutLaws}
use Rattle.std.specs.Fn.{Mut, ComputesKey}
use Rattle.std.proofs.lemmas.Bool.{cases_lt}
use Rattle.std.proofs.lemmas.List.Sums.{count_by_more_yes, count_by_more_no}
use Rattle.std.proofs.lemmas.List.{length-take-le, get_or-take}
use Rattle.row.specs.Partition.{Partitioned, PartitionedTo, Window}

no : (b : Bool) → (b ≡ true → ⊥) → b ≡ false
no true h = absurd (h refl)
no false h = refl

apart : (b : Bool) → b ≡ true → b ≡ false → ⊥
apart b t f = let z : ◌≡◌ {A = Bool} true false = sym t ∙ f in let w : ◌≡◌ {A = ℕ} 0 1 = cc in omega arith

pub bit_le : (b : Bool) (n : ℕ) → cond b n 0 ≤ n
bit_le true n = omega arith
bit_le false n = omega arith

pub pow_half : (j : ℕ) → 0 < j → 2 ^ j ≡ 2 ^ (j - 1) + 2 ^ (j - 1)
pow_half j lt =
    let a : 2 ^ (1 + (j - 1)) ≡ 2 ^ 1 * 2 ^ (j - 1) = pow-add 2 1 (j - 1) in
    let z : 1 + (j - 1) ≡ j = omega arith in
    let b : 2 ^ j ≡ 2 ^ 1 * 2 ^ (j - 1) = rw z at a in
    b ∙ omega arith

-- powers of two in a search by halves
pub ruleset halves = (pow_half, pow_pos, bit_le)

-- what a call of a closure that computes p gives
pub computed : {F X : Type 0} {g : Mut F (Bor X × Unit {0}) Bool} (l : MutLaws g) (p : X → Bool) {f : F} {x : Bor X} {r : Bool} → ComputesKey g p f → g.post f (x, tt) r → r ≡ p x.now
computed {g = g} l p {f} {x} {r} k e = let w = (l.post_iff f (x, tt) r).0 e in (k.at ((x, tt) ∷ []) r w.0 w.1).0

module _ {X : Type 0} where
  pub raised : (p : X → Bool) (xs : List X) (n lo hi m lo' : ℕ) (x : X) → PartitionedTo p xs n → Window p xs n lo hi → m < n → ((d : X) → x ≡ get_or xs m d) → p x ≡ true → lo' ≤ m + 1 → Window p xs n lo' hi
  raised p xs n lo hi m lo' x P W lt e t le =
      (λ k d kl. P k m d (omega arith) lt (ap p (sym (e d)) ∙ t), W.1)

  pub lowered : (p : X → Bool) (xs : List X) (n lo hi m hi' : ℕ) (x : X) → PartitionedTo p xs n → Window p xs n lo hi → m < n → ((d : X) → x ≡ get_or xs m d) → p x ≡ false → m ≤ hi' → Window p xs n lo hi'
  lowered p xs n lo hi m hi' x P W lt e f le =
      (W.0, λ k d kh kn. no (p (get_or xs k d)) (λ t. apart (p x) (ap p (e d) ∙ P m k d (omega arith) kn t) f))

  passing : (p : X → Bool) (xs : List X) (r : ℕ) → r ≤ length xs → ((k : ℕ) (d : X) → k < r → p (get_or xs k d) ≡ true) → (d : X) → count_by p (take r xs) ≡ r
  passing p xs zero le h d = refl
  passing p xs (suc r) le h d =
      let i = passing p xs r (omega arith) (λ k d kl. h k d (omega arith)) d in
      let s = count_by_more_yes p xs r d (omega arith) (h r d (omega arith)) in
      let s' : count_by p (take (suc r) xs) ≡ count_by p (take r xs) + 1 = subst (λ (v : ℕ). count_by p (take v xs) ≡ count_by p (take r xs) + 1) (add-one r) s in
      s' ∙ omega arith

  failing : (p : X → Bool) (xs : List X) (r m : ℕ) → r + m ≤ length xs → ((k : ℕ) (d : X) → r ≤ k → k < r + m → p (get_or xs k d) ≡ false) → (d : X) → count_by p (take (r + m) xs) ≡ count_by p (take r xs)
  failing p xs r zero le h d = let z : r + 0 ≡ r = omega arith in rw z
  failing p xs r (suc m) le h d =
      let i = failing p xs r m (omega arith) (λ k d kl kh. h k d kl (omega arith)) d in
      let s = count_by_more_no p xs (r + m) d (omega arith) (h (r + m) d (omega arith) (omega arith)) in
      let z : r + suc m ≡ r + m + 1 = omega arith in
      rw z (s ∙ i)

  pub met : (p : X → Bool) (xs : List X) (n r : ℕ) → Window p xs n r r → r ≤ n → n ≤ length xs → X → r ≡ count_by p (take n xs)
  met p xs n r W le le' d =
      let z : r + (n - r) ≡ n = omega arith in
      let f = failing p xs r (n - r) (omega arith) (λ k d kl kh. W.1 k d kl (omega arith)) d in
      let f' : count_by p (take n xs) ≡ count_by p (take r xs) = rw z at f in
      sym (f' ∙ passing p xs r (omega arith) W.0 d)

  -- a turn: the test of the last entry of the lower half says which half the window becomes
  pub halved : (p : X → Bool) (xs : List X) (n lo h m : ℕ) (x : X) (b : Bool) → PartitionedTo p xs n → Window p xs n lo (lo + (h + h)) → m < n → ((d : X) → x ≡ get_or xs m d) → b ≡ p x → m + 1 ≡ lo + h
      → Window p xs n (lo + cond b h 0) (lo + cond b h 0 + h)
  halved p xs n lo h m x true P W lt e t q =
      let z : lo + (h + h) ≡ lo + h + h = omega arith in
      let W' : Window p xs n lo (lo + h + h) = rw z at W in
      raised p xs n lo (lo + h + h) m (lo + h) x P W' lt e (sym t) (omega arith)
  halved p xs n lo h m x false P W lt e t q =
      let z : lo + 0 ≡ lo = omega arith in
      rw z (lowered p xs n lo (lo + (h + h)) m (lo + h) x P W lt e (sym t) (omega arith))

  -- the end: a window of one entry
  pub last : (p : X → Bool) (xs : List X) (n lo : ℕ) (x : X) (b : Bool) → PartitionedTo p xs n → Window p xs n lo (lo + 1) → lo < n → ((d : X) → x ≡ get_or xs lo d) → b ≡ p x
      → Window p xs n (lo + cond b 1 0) (lo + cond b 1 0)
  last p xs n lo x true P W lt e t = raised p xs n lo (lo + 1) lo (lo + 1) x P W lt e (sym t) (omega arith)
  last p xs n lo x false P W lt e t =
      let z : lo + 0 ≡ lo = omega arith in
      rw z (lowered p xs n lo (lo + 1) lo lo x P W lt e (sym t) (omega arith))

  pub first : (p : X → Bool) (xs : List X) (n h m low : ℕ) (x : X) (b : Bool) → PartitionedTo p xs n → m < n → ((d : X) → x ≡ get_or xs m d) → b ≡ p x → m + 1 ≡ h → h ≤ n → n < 2 * h → low ≡ cond b (n - h) 0 → Window p xs n low (low + h)
  first p xs n h m low x true P lt e t q le lt' l =
      let W : Window p xs n 0 n = (λ k d kl. absurd (omega arith), λ k d kl kn. absurd (omega arith)) in
      let z : low + h ≡ n = omega arith in
      rw z (raised p xs n 0 n m low x P W lt e (sym t) (omega arith))
  first p xs n h m low x false P lt e t q le lt' l =
      let W : Window p xs n 0 n = (λ k d kl. absurd (omega arith), λ k d kl kn. absurd (omega arith)) in
      let V = lowered p xs n 0 n m h x P W lt e (sym t) (omega arith) in
      let z : low + h ≡ h = omega arith in
      rw (z, l) V

  -- the first test among blocks
  pub first_block : (p : X → Bool) (xs : List X) (n w h m b : ℕ) (x : X) (t : Bool) → PartitionedTo p xs n → m * w < n → ((d : X) → x ≡ get_or xs (m * w) d) → t ≡ p x → n ≤ (m + h) * w → m * w ≤ h * w → b ≡ cond t m 0 → Window p xs n (b * w) ((b + h) * w)
  first_block p xs n w h m b x true P lt e t le le' l =
      let W : Window p xs n 0 n = (λ k d kl. absurd (omega arith), λ k d kl kn. absurd (omega arith)) in
      let V : Window p xs n (m * w) n = raised p xs n 0 n (m * w) (m * w) x P W lt e (sym t) (omega arith) in
      rw l (V.0, λ k d kl kn. absurd (omega arith))
  first_block p xs n w h m b x false P lt e t le le' l =
      let W : Window p xs n 0 n = (λ k d kl. absurd (omega arith), λ k d kl kn. absurd (omega arith)) in
      let V : Window p xs n 0 (h * w) = lowered p xs n 0 n (m * w) (h * w) x P W lt e (sym t) le' in
      let z : 0 + h ≡ h = omega arith in
      let y : 0 * w ≡ 0 = zero-mul w in
      rw (l, z, y) V

  pub halved_block : (p : X → Bool) (xs : List X) (n w h b : ℕ) (x : X) (t : Bool) → PartitionedTo p xs n → Window p xs n (b * w) ((b + (h + h)) * w) → (b + h) * w < n → ((d : X) → x ≡ get_or xs ((b + h) * w) d) → t ≡ p x
      → Window p xs n ((b + cond t h 0) * w) ((b + cond t h 0 + h) * w)
  halved_block p xs n w h b x true P W lt e t =
      let z : b + (h + h) ≡ b + h + h = omega arith in
      let W' : Window p xs n (b * w) ((b + h + h) * w) = rw z at W in
      raised p xs n (b * w) ((b + h + h) * w) ((b + h) * w) ((b + h) * w) x P W' lt e (sym t) (omega arith)
  halved_block p xs n w h b x false P W lt e t =
      let z : b + 0 ≡ b = omega arith in
      rw z (lowered p xs n (b * w) ((b + (h + h)) * w) ((b + h) * w) ((b + h) * w) x P W lt e (sym t) (omega arith))

  -- a window within a part of the list, from `from` on
  pub widened : (p : X → Bool) (xs ys : List X) (n m from hi r : ℕ) → ((o : ℕ) (d : X) → o < m → get_or xs (from + o) d ≡ get_or ys o d) → Window p xs n from hi → Window p ys m r r → r ≤ m → (n ≤ from + m) ⊎ (hi ≤ from + m) → Window p xs n (from + r) (from + r)
  widened p xs ys n m from hi r E W V le far = (
    λ k d kl. elim (cases_lt k from) [
      | inl l ↦ W.0 k d l
      | inr l ↦ (let z : from + (k - from) ≡ k = omega arith in
          let e : get_or xs k d ≡ get_or ys (k - from) d = subst (λ (v : ℕ). get_or xs v d ≡ get_or ys (k - from) d) z (E (k - from) d (omega arith)) in
          ap p e ∙ V.0 (k - from) d (omega arith))
    ],
    λ k d kl kn. elim (cases_lt k (from + m)) [
      | inl l ↦ (let z : from + (k - from) ≡ k = omega arith in
          let e : get_or xs k d ≡ get_or ys (k - from) d = subst (λ (v : ℕ). get_or xs v d ≡ get_or ys (k - from) d) z (E (k - from) d (omega arith)) in
          ap p e ∙ V.1 (k - from) d (omega arith) (omega arith))
      | inr l ↦ elim far [ inl f ↦ absurd (omega arith) | inr f ↦ W.1 k d (omega arith) kn ]
    ],
  )

  pub narrowed : (p : X → Bool) (xs ys : List X) (n m from : ℕ) → ((o : ℕ) (d : X) → o < m → get_or xs (from + o) d ≡ get_or ys o d) → from + m ≤ n → PartitionedTo p xs n → PartitionedTo p ys m
  narrowed p xs ys n m from E le P j k d jk km t = ap p (sym (E j d (omega arith))) ∙ P (from + j) (from + k) d (omega arith) (omega arith) (ap p (E k d km) ∙ t)

  -- the first n items as a list of their own
  pub partitioned_front : (p : X → Bool) (xs : List X) (n : ℕ) → n ≤ length xs → Partitioned p (take n xs) → PartitionedTo p xs n
  partitioned_front p xs n le P j k d jk kn t =
      let l : length (take n xs) ≡ n = length-take-le n xs le in
      ap p (sym (get_or-take n xs j d (omega arith))) ∙ P j k d jk (omega arith) (ap p (get_or-take n xs k d kn) ∙ t)

  pub counted : (p : X → Bool) (xs : List X) (n r : ℕ) → Window p xs n r r → r ≤ n → n ≤ length xs → r ≡ count_by p (take n xs)
  counted p [] n r W le le' =
      let z : n ≡ 0 = omega arith in
      let y : r ≡ 0 = omega arith in
      rw z y
  counted p (x ∷ xs) n r W le le' = met p (x ∷ xs) n r W le le' x
