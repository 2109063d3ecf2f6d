-- Laws of contents: what replacing one sequence does, and that contents are known by their sequences.
use Rattle.std.proofs.Common.{◌≡◌, ℕ, ◌+◌, ◌<◌, Bool, true, false, cond, eqb, List, [], ◌∷◌, ◌++◌, length, sym, refl, ap, ◌∙◌, subst, ⊎_elim, zero-add, arith}
use Rattle.std.proofs.lemmas.Bool.{both_ways, cases_Bool, eq-eqb, ne_eqb}
use Rattle.keys.specs.Order.{StrictOrder, same}
use Rattle.chains.specs.Contents.{sequence, entry, with_sequence, used, BelowAll, Ascending}
use Rattle.chains.proofs.Orders.{same_refl, same_less, same_greater, trichotomy, same_eq}

module _ {K V : Type 0} {less : K → K → Bool} (o : StrictOrder less) where
  -- a key that is not greater than k, where all listed keys are, has no values
  pub below_all_none : (es : List (K × List V)) (k j : K) → BelowAll less k es → less k j ≡ false → sequence less es j ≡ []
  below_all_none [] k j h n = refl
  below_all_none (e ∷ es) k j h n =
      let a : same less e.0 j ≡ false =
      ⊎_elim
      (λ w. same_less o e.0 j w.0)
      (⊎_elim (λ w. same_greater o e.0 j w.1) (λ q. absurd (both_ways (less k j) n (ap (λ x. less k x) (sym q) ∙ h.0))))
      (trichotomy o e.0 j) in
      rw (a, below_all_none es k j h.1 n)

  pub below_all_trans : (es : List (K × List V)) (k x : K) → less k x ≡ true → BelowAll less x es → BelowAll less k es
  below_all_trans [] k x h a = tt
  below_all_trans (e ∷ es) k x h a = (o.transitive k x e.0 h a.0, below_all_trans es k x h a.1)

  -- ---- a key with its sequence, in front of others

  pub entry-same : (es : List (K × List V)) (k : K) (vs : List V) → sequence less es k ≡ [] → sequence less (entry k vs ++ es) k ≡ vs
  entry-same es k [] h = h
  entry-same es k (v ∷ vs) h = let a = same_refl o k k refl in rw a

  pub entry_other : (es : List (K × List V)) (k : K) (vs : List V) (j : K) → same less k j ≡ false → sequence less (entry k vs ++ es) j ≡ sequence less es j
  entry_other es k [] j h = refl
  entry_other es k (v ∷ vs) j h = rw h

  pub entry-below-all : (es : List (K × List V)) (k : K) (vs : List V) (x : K) → less x k ≡ true → BelowAll less x es → BelowAll less x (entry k vs ++ es)
  entry-below-all es k [] x h a = a
  entry-below-all es k (v ∷ vs) x h a = (h, a)

  pub entry-ascending : (es : List (K × List V)) (k : K) (vs : List V) → BelowAll less k es → Ascending less es → Ascending less (entry k vs ++ es)
  entry-ascending es k [] a r = r
  entry-ascending es k (v ∷ vs) a r = (omega arith, a, r)

  pub entry-used : (section : K → ℕ) (es : List (K × List V)) (k : K) (vs : List V) (n : ℕ) → section k ≡ n → used section (entry k vs ++ es) n ≡ length vs + used section es n
  entry-used section es k [] n h = sym (zero-add (used section es n))
  entry-used section es k (v ∷ vs) n h = let e = eq-eqb (section k) n h in rw e

  pub entry-unused : (section : K → ℕ) (es : List (K × List V)) (k : K) (vs : List V) (n : ℕ) → (section k ≡ n → ⊥) → used section (entry k vs ++ es) n ≡ used section es n
  entry-unused section es k [] n h = refl
  entry-unused section es k (v ∷ vs) n h = let e = ne_eqb (section k) n h in rw e

  -- ---- the laws of with_sequence

  pub with_same : (es : List (K × List V)) (k : K) (vs : List V) → Ascending less es → sequence less (with_sequence less es k vs) k ≡ vs
  with_same [] k [] r = refl
  with_same [] k (v ∷ vs) r = let a = same_refl o k k refl in rw a
  with_same (e ∷ es) k vs r =
      ⊎_elim
      (λ w. let h = w.0 in let a = same_less o e.0 k h in rw (h, a, with_same es k vs r.2))
      (⊎_elim
      (λ w. let f = w.0 in let t = w.1 in let a = same_greater o e.0 k t in
      rw (f, t, entry-same (e ∷ es) k vs (rw (a, below_all_none es e.0 k r.1 f))))
      (λ q. let i = o.irreflexive k in let f : less e.0 k ≡ false = cc in let g : less k e.0 ≡ false = cc in
      rw (f, g, entry-same es k vs (below_all_none es e.0 k r.1 f))))
      (trichotomy o e.0 k)

  pub with_other : (es : List (K × List V)) (k : K) (vs : List V) (j : K) → same less k j ≡ false → sequence less (with_sequence less es k vs) j ≡ sequence less es j
  with_other [] k [] j h = refl
  with_other [] k (v ∷ vs) j h = rw h
  with_other (e ∷ es) k vs j h =
      ⊎_elim
      (λ w. let t = w.0 in rw (t, with_other es k vs j h))
      (⊎_elim
      (λ w. let f = w.0 in let t = w.1 in rw (f, t, entry_other (e ∷ es) k vs j h))
      (λ q. let i = o.irreflexive k in let f : less e.0 k ≡ false = cc in let g : less k e.0 ≡ false = cc in
      let a : same less e.0 j ≡ false = ap (λ x. same less x j) q ∙ h in
      rw (f, g, entry_other es k vs j h, a)))
      (trichotomy o e.0 k)

  pub with_below_all : (es : List (K × List V)) (k : K) (vs : List V) (x : K) → less x k ≡ true → BelowAll less x es → BelowAll less x (with_sequence less es k vs)
  with_below_all [] k [] x h a = tt
  with_below_all [] k (v ∷ vs) x h a = (h, tt)
  with_below_all (e ∷ es) k vs x h a =
      ⊎_elim
      (λ (t : less e.0 k ≡ true). rw t (a.0, with_below_all es k vs x h a.1))
      (λ (f : less e.0 k ≡ false). ⊎_elim
      (λ (t : less k e.0 ≡ true). rw (f, t) (entry-below-all (e ∷ es) k vs x h a))
      (λ (g : less k e.0 ≡ false). rw (f, g) (entry-below-all es k vs x h a.1))
      (cases_Bool (less k e.0)))
      (cases_Bool (less e.0 k))

  pub with_ascending : (es : List (K × List V)) (k : K) (vs : List V) → Ascending less es → Ascending less (with_sequence less es k vs)
  with_ascending [] k [] r = tt
  with_ascending [] k (v ∷ vs) r = (omega arith, tt, tt)
  with_ascending (e ∷ es) k vs r =
      ⊎_elim
      (λ w. let t = w.0 in rw t (r.0, with_below_all es k vs e.0 t r.1, with_ascending es k vs r.2))
      (⊎_elim
      (λ w. let f = w.0 in let t = w.1 in rw (f, t) (entry-ascending (e ∷ es) k vs (t, below_all_trans es k e.0 t r.1) r))
      (λ q. let i = o.irreflexive k in let f : less e.0 k ≡ false = cc in let g : less k e.0 ≡ false = cc in
      let P : K → Type 0 = λ x. BelowAll less x es in
      rw (f, g) (entry-ascending es k vs (subst P q r.1) r.2)))
      (trichotomy o e.0 k)

  pub with_used : (section : K → ℕ) (es : List (K × List V)) (k : K) (vs : List V) (n : ℕ) → Ascending less es → section k ≡ n
      → used section (with_sequence less es k vs) n + length (sequence less es k) ≡ used section es n + length vs
  with_used section [] k [] n r h = refl
  with_used section [] k (v ∷ vs) n r h = let e = eq-eqb (section k) n h in rw e (omega arith)
  with_used section (e ∷ es) k vs n r h =
      ⊎_elim
      (λ w. let t = w.0 in let ih = with_used section es k vs n r.2 h in
      let u = used section (with_sequence less es k vs) n in
      rw t
      (elim (eqb (section e.0) n) as (λ b. cond b (length e.1 + u) u + length (sequence less es k) ≡ cond b (length e.1 + used section es n) (used section es n) + length vs)
      [ true ↦ omega arith | false ↦ ih ]))
      (⊎_elim
      (λ w. let f = w.0 in let t = w.1 in let a = same_greater o e.0 k t in
      rw (f, t, below_all_none es e.0 k r.1 f, entry-used section (e ∷ es) k vs n h) (omega arith))
      (λ q. let i = o.irreflexive k in let f : less e.0 k ≡ false = cc in let g : less k e.0 ≡ false = cc in
      let x = eq-eqb (section e.0) n (ap section q ∙ h) in
      rw (f, g, x, entry-used section es k vs n h) (omega arith)))
      (trichotomy o e.0 k)

  pub with_unused : (section : K → ℕ) (es : List (K × List V)) (k : K) (vs : List V) (n : ℕ) → (section k ≡ n → ⊥)
      → used section (with_sequence less es k vs) n ≡ used section es n
  with_unused section [] k [] n h = refl
  with_unused section [] k (v ∷ vs) n h = let e = ne_eqb (section k) n h in rw e
  with_unused section (e ∷ es) k vs n h =
      ⊎_elim
      (λ w. let t = w.0 in rw (t, with_unused section es k vs n h))
      (⊎_elim
      (λ w. let f = w.0 in let t = w.1 in rw (f, t, entry-unused section (e ∷ es) k vs n h))
      (λ q. let i = o.irreflexive k in let f : less e.0 k ≡ false = cc in let g : less k e.0 ≡ false = cc in
      let x = ne_eqb (section e.0) n (λ y. h (sym (ap section q) ∙ y)) in
      rw (f, g, x, entry-unused section es k vs n h)))
      (trichotomy o e.0 k)

  -- ---- contents are known by their sequences

  pub nonempty : (es : List (K × List V)) (k : K) (vs : List V) → 0 < length vs → vs ≡ [] → ⊥
  nonempty es k vs h e = let z = ap length e in omega arith

  pair_eq : (x y : K) (u v : List V) → x ≡ y → u ≡ v → ◌≡◌ {A = K × List V} (x, u) (y, v)
  pair_eq x y u v p q = cc

  tails : (a b : K × List V) (xs ys : List (K × List V)) → Ascending less (a ∷ xs) → Ascending less (b ∷ ys) → a.0 ≡ b.0
      → ((k : K) → sequence less (a ∷ xs) k ≡ sequence less (b ∷ ys) k) → (k : K) → sequence less xs k ≡ sequence less ys k
  tails a b xs ys r s q h k =
      ⊎_elim
      (λ t. let e = same_eq o a.0 k t in let i = o.irreflexive k in
      let f : less a.0 k ≡ false = cc in let g : less b.0 k ≡ false = cc in
      below_all_none xs a.0 k r.1 f ∙ sym (below_all_none ys b.0 k s.1 g))
      (λ f. let g : same less b.0 k ≡ false = ap (λ x. same less x k) (sym q) ∙ f in rw (f, g) at (h k))
      (cases_Bool (same less a.0 k))

  pub ext : (xs ys : List (K × List V)) → Ascending less xs → Ascending less ys → ((k : K) → sequence less xs k ≡ sequence less ys k) → xs ≡ ys
  ext [] [] r s h = refl
  ext [] (b ∷ ys) r s h =
      let a = same_refl o b.0 b.0 refl in
      let q : [] ≡ b.1 = rw a at (h b.0) in absurd (nonempty [] b.0 b.1 s.0 (sym q))
  ext (a ∷ xs) [] r s h =
      let t = same_refl o a.0 a.0 refl in
      let q : a.1 ≡ [] = rw t at (h a.0) in absurd (nonempty [] a.0 a.1 r.0 q)
  ext (a ∷ xs) (b ∷ ys) r s h =
      let t = same_refl o a.0 a.0 refl in
      let u = same_refl o b.0 b.0 refl in
      ⊎_elim
      (λ w. let n = same_greater o b.0 a.0 w.0 in let m = below_all_none ys b.0 a.0 s.1 w.1 in
      let q : a.1 ≡ [] = rw (t, n, m) at (h a.0) in absurd (nonempty [] a.0 a.1 r.0 q))
      (⊎_elim
      (λ w. let n = same_greater o a.0 b.0 w.1 in let m = below_all_none xs a.0 b.0 r.1 w.0 in
      let q : [] ≡ b.1 = rw (u, n, m) at (h b.0) in absurd (nonempty [] b.0 b.1 s.0 (sym q)))
      (λ q. let m = same_refl o b.0 a.0 (sym q) in
      let v : a.1 ≡ b.1 = rw (t, m) at (h a.0) in
      let p : a ≡ b = pair_eq a.0 b.0 a.1 b.1 q v in
      let rest : xs ≡ ys = ext xs ys r.2 s.2 (tails a b xs ys r s q h) in cc))
      (trichotomy o a.0 b.0)

  -- ---- what follows from that

  -- contents that have the new sequence at k, and the old one at each other key, are those with that sequence
  pub with_known : (xs ys : List (K × List V)) (k : K) (vs : List V) → Ascending less xs → Ascending less ys → sequence less ys k ≡ vs
      → ((j : K) → same less k j ≡ false → sequence less ys j ≡ sequence less xs j) → ys ≡ with_sequence less xs k vs
  with_known xs ys k vs r s h others =
      ext ys _ s (with_ascending xs k vs r)
      (λ j. ⊎_elim
      (λ t. let e = same_eq o k j t in let w = with_same xs k vs r in cc)
      (λ f. others j f ∙ sym (with_other xs k vs j f))
      (cases_Bool (same less k j)))
