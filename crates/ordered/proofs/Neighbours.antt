-- At which places of sorted entries the first, last and neighbouring keys stand.
use Rattle.std.proofs.Common.{◌≡◌, ℕ, ◌+◌, ◌-◌, ◌<◌, ◌≤◌, Bool, true, false, List, [], ◌∷◌, length, get_or, None, option_map, sym, refl, ap, ◌∙◌, subst, ⊎_elim, arith}
use Rattle.std.specs.List.{slice_get}
use Rattle.std.proofs.lemmas.Option.{slice_get_past, slice_get-get_or}
use Rattle.std.proofs.lemmas.Bool.{both_ways, cases_lt}
use Rattle.keys.specs.Order.{StrictOrder}
use Rattle.chains.specs.Contents.{first_key, last_key, key_above, key_below}
use Rattle.chains.specs.Laws.{HasValues, Least}
use Rattle.chains.proofs.Entries.{contents-ascending}
use Rattle.chains.proofs.Neighbours.{least_unique, first_least, last_greatest, above_least, below_greatest}
use Rattle.ordered.specs.declared.cell.Cell.{Cell}
use Rattle.ordered.specs.Sorted.{Sorted, smaller, not_greater, held}
use Rattle.ordered.proofs.Sorted.{sorted_at, behind_place, up_to_place, ahead_place, from_place}
use Rattle.ordered.proofs.Effects.{stretch_within, present, own}

module _ {K V : Type 0} {less : K → K → Bool} (o : StrictOrder less) (es : List (Cell K V)) (s : Sorted less es) where
  -- ---- the keys with values are the keys of the entries

  has_values : (i : ℕ) (d : Cell K V) → i < length es → HasValues less (held less es) (get_or es i d).key
  has_values i d h =
      let k = (get_or es i d).key in
      let r = o.irreflexive k in
      let le : smaller less es k ≤ i = ⊎_elim (λ lt. absurd (both_ways (less k k) r (ahead_place o es k i d s lt))) (λ le. le) (cases_lt i (smaller less es k)) in
      let t = present o es k (i - smaller less es k) i s (omega arith) d h r in
      omega arith

  placed : (k : K) → HasValues less (held less es) k → (smaller less es k < length es) × ((d : Cell K V) → (get_or es (smaller less es k) d).key ≡ k)
  placed k h = let w = stretch_within o es k in (omega arith, λ d. own o es k 0 (smaller less es k) s (omega arith) d h)

  -- ---- the least and the greatest key, by places: `before` is `less`, or that turned around

  module _ (before : K → K → Bool) (Q : K → Type 0) (d : Cell K V) (values : (k : K) → Q k → HasValues less (held less es) k) where
    best_at : (i : ℕ) → i < length es → Q (get_or es i d).key → ((j : ℕ) → j < length es → Q (get_or es j d).key → before (get_or es j d).key (get_or es i d).key ≡ false)
        → Least before Q (option_map (λ x. x.key) (slice_get es i))
    best_at i h q rest =
        let e = ap (option_map (λ x. x.key)) (slice_get-get_or es i d h) in
        rw e (q, λ k p. let v = placed k (values k p) in ap (λ x. before x (get_or es i d).key) (sym (v.1 d)) ∙ rest (smaller less es k) v.0 (subst Q (sym (v.1 d)) p))

    none_best : ((j : ℕ) → j < length es → Q (get_or es j d).key → ⊥) → Least before Q None
    none_best rest k p = let v = placed k (values k p) in rest (smaller less es k) v.0 (subst Q (sym (v.1 d)) p)

module _ {K V : Type 0} {less : K → K → Bool} (o : StrictOrder less) where
  -- ---- the four answers

  pub first_is : (es : List (Cell K V)) → Sorted less es → option_map (λ x. x.key) (slice_get es 0) ≡ first_key (held less es)
  first_is [] s = refl
  first_is (e ∷ es) s =
      least_unique o.connected (HasValues less (held less (e ∷ es))) _ _
      (best_at o (e ∷ es) s less (HasValues less (held less (e ∷ es))) e (λ k h. h) 0 (omega arith) (has_values o (e ∷ es) s 0 e (omega arith)) (λ j lt _. sorted_at o (e ∷ es) 0 j e s (omega arith) lt))
      (first_least o (held less (e ∷ es)) (contents-ascending o (λ e. e.key) (λ e. e.value) (e ∷ es)))

  pub last_is : (es : List (Cell K V)) (i : ℕ) → Sorted less es → length es ≡ i + 1 → option_map (λ x. x.key) (slice_get es i) ≡ last_key (held less es)
  last_is [] i s n = absurd (omega arith)
  last_is (e ∷ es) i s n =
      least_unique (λ x y p q. o.connected x y q p) (HasValues less (held less (e ∷ es))) _ _
      (best_at o (e ∷ es) s (λ x y. less y x) (HasValues less (held less (e ∷ es))) e (λ k h. h) i (omega arith) (has_values o (e ∷ es) s i e (omega arith)) (λ j lt _. sorted_at o (e ∷ es) j i e s (omega arith) (omega arith)))
      (last_greatest o (held less (e ∷ es)) (contents-ascending o (λ e. e.key) (λ e. e.value) (e ∷ es)))

  pub last_none : (es : List (Cell K V)) → length es ≡ 0 → last_key (held less es) ≡ None
  last_none [] n = refl
  last_none (e ∷ es) n = absurd (omega arith)

  pub above_is : (es : List (Cell K V)) (k : K) → Sorted less es → option_map (λ x. x.key) (slice_get es (not_greater less es k)) ≡ key_above less (held less es) k
  above_is [] k s = refl
  above_is (d ∷ ds) k s =
      let es = d ∷ ds in
      let i = not_greater less es k in
      let Q : K → Type 0 = λ j. HasValues less (held less es) j × (less k j ≡ true) in
      let ahead : (j : ℕ) → j < i → Q (get_or es j d).key → ⊥ = λ j lt p. both_ways (less k (get_or es j d).key) (up_to_place o es k j d s lt) p.1 in
      least_unique o.connected Q _ _
      (⊎_elim
      (λ h. best_at o es s less Q d (λ j p. p.0) i h (has_values o es s i d h, behind_place o es k i d s (omega arith) h)
      (λ j lt p. ⊎_elim (λ a. absurd (ahead j a p)) (λ b. sorted_at o es i j d s b lt) (cases_lt j i)))
      (λ h. let e = slice_get_past es i h in rw e (none_best o es s less Q d (λ j p. p.0) (λ j lt p. ahead j (omega arith) p)))
      (cases_lt i (length es)))
      (above_least o (held less es) k (contents-ascending o (λ e. e.key) (λ e. e.value) es))

  pub below_is : (es : List (Cell K V)) (k : K) (i : ℕ) → Sorted less es → smaller less es k ≡ i + 1 → option_map (λ x. x.key) (slice_get es i) ≡ key_below less (held less es) k
  below_is [] k i s n = absurd (omega arith)
  below_is (d ∷ ds) k i s n =
      let es = d ∷ ds in
      let w = stretch_within o es k in
      let Q : K → Type 0 = λ j. HasValues less (held less es) j × (less j k ≡ true) in
      least_unique (λ x y p q. o.connected x y q p) Q _ _
      (best_at o es s (λ x y. less y x) Q d (λ j p. p.0) i (omega arith) (has_values o es s i d (omega arith), ahead_place o es k i d s (omega arith))
      (λ j lt p. ⊎_elim
      (λ a. absurd (both_ways (less (get_or es j d).key k) (from_place o es k j d s (omega arith) lt) p.1))
      (λ b. sorted_at o es j i d s b (omega arith))
      (cases_lt i j)))
      (below_greatest o (held less es) k (contents-ascending o (λ e. e.key) (λ e. e.value) es))

  pub below_none : (es : List (Cell K V)) (k : K) → Sorted less es → smaller less es k ≡ 0 → None ≡ key_below less (held less es) k
  below_none [] k s n = refl
  below_none (d ∷ ds) k s n =
      let es = d ∷ ds in
      let Q : K → Type 0 = λ j. HasValues less (held less es) j × (less j k ≡ true) in
      least_unique (λ x y p q. o.connected x y q p) Q None _
      (none_best o es s (λ x y. less y x) Q d (λ j p. p.0) (λ j lt p. both_ways (less (get_or es j d).key k) (from_place o es k j d s (omega arith) lt) p.1))
      (below_greatest o (held less es) k (contents-ascending o (λ e. e.key) (λ e. e.value) es))
