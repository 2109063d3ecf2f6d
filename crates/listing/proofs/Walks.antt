-- A walk over contents by key, from the first to the one above, is a walk over the list.
use Rattle.std.proofs.Common.{◌≡◌, ℕ, zero, suc, ◌<◌, ◌++◌, take, Bool, true, false, List, [], ◌∷◌, length, drop, Some, None, sym, refl, ap, ◌∙◌, arith}
use Rattle.std.specs.List.{slice_get}
use Rattle.keys.specs.Order.{StrictOrder}
use Rattle.chains.specs.Contents.{sequence, BelowAll, Ascending, first_key, key_above}
use Rattle.chains.proofs.Orders.{asymmetric, same_refl, same_less}

-- ---- by place

drop_nth : {X : Type 0} (xs : List X) (i : ℕ) (x : X) → slice_get xs i ≡ Some x → drop i xs ≡ x ∷ drop (suc i) xs
drop_nth [] i x h = let z : ◌≡◌ {A = ℕ} 0 1 = cc in absurd (omega arith)
drop_nth (y ∷ xs) zero x h = let e : y ≡ x = cc in ap (λ (z : _). z ∷ xs) e
drop_nth (y ∷ xs) (suc i) x h = drop_nth xs i x h

pub take_dropped : {X : Type 0} (xs : List X) (i : ℕ) (x : X) → drop i xs ≡ x ∷ drop (suc i) xs → take (suc i) xs ≡ take i xs ++ x ∷ []
take_dropped [] zero x h = let z : ◌≡◌ {A = ℕ} 0 1 = ap length h in absurd (omega arith)
take_dropped [] (suc i) x h = let z : ◌≡◌ {A = ℕ} 0 1 = ap length h in absurd (omega arith)
take_dropped (y ∷ xs) zero x h = let e : y ≡ x = cc in ap (λ (z : _). z ∷ []) e
take_dropped (y ∷ xs) (suc i) x h = ap (λ (zs : _). y ∷ zs) (take_dropped xs i x h)

pub take_nth : {X : Type 0} (xs : List X) (i : ℕ) (x : X) → slice_get xs i ≡ Some x → take (suc i) xs ≡ take i xs ++ x ∷ []
take_nth xs i x h = take_dropped xs i x (drop_nth xs i x h)

-- ---- by key

module _ {K V : Type 0} {less : K → K → Bool} (o : StrictOrder less) where
  -- what stands at place i, if key is the first from there on
  pub record Turn (c : List (K × List V)) (i : ℕ) (key : K) : Type 0 where
    pub within : i < length c
    pub here : drop i c ≡ (key, sequence less c key) ∷ drop (suc i) c
    pub after : key_above less c key ≡ first_key (drop (suc i) c)

  above-first : (c : List (K × List V)) (k : K) → BelowAll less k c → key_above less c k ≡ first_key c
  above-first [] k h = refl
  above-first (e ∷ c) k h = let t = h.0 in rw t

  below_later : (c : List (K × List V)) (k : K) (i : ℕ) (key : K) → BelowAll less k c → first_key (drop i c) ≡ Some key → less k key ≡ true
  below_later [] k zero key h f = let z : ◌≡◌ {A = ℕ} 0 1 = cc in absurd (omega arith)
  below_later [] k (suc i) key h f = let z : ◌≡◌ {A = ℕ} 0 1 = cc in absurd (omega arith)
  below_later (e ∷ c) k zero key h f = let q : e.0 ≡ key = cc in ap (less k) (sym q) ∙ h.0
  below_later (e ∷ c) k (suc i) key h f = below_later c k i key h.1 f

  pub turn : (c : List (K × List V)) (i : ℕ) (key : K) → Ascending less c → first_key (drop i c) ≡ Some key → Turn c i key
  turn [] zero key r f = let z : ◌≡◌ {A = ℕ} 0 1 = cc in absurd (omega arith)
  turn [] (suc i) key r f = let z : ◌≡◌ {A = ℕ} 0 1 = cc in absurd (omega arith)
  turn (e ∷ c) zero key r f =
      let q : e.0 ≡ key = cc in
      let t = same_refl o e.0 key q in
      let n : less key e.0 ≡ false = ap (λ x. less x e.0) (sym q) ∙ o.irreflexive e.0 in
      record {
        within = omega arith;
        here = rw t (ap (λ k. (k, e.1) ∷ c) q);
        after = rw n (ap (key_above less c) (sym q) ∙ above-first c e.0 r.1);
      }
  turn (e ∷ c) (suc i) key r f =
      let b = below_later c e.0 i key r.1 f in
      let s = same_less o e.0 key b in
      let n = asymmetric o e.0 key b in
      let t = turn c i key r.2 f in
      record { within = omega (arith, t.within); here = rw s t.here; after = rw n t.after }

  pub no_turn : (c : List (K × List V)) (i : ℕ) → first_key (drop i c) ≡ None → drop i c ≡ []
  no_turn [] zero f = refl
  no_turn [] (suc i) f = refl
  no_turn (e ∷ c) zero f = let z : ◌≡◌ {A = ℕ} 0 1 = cc in absurd (omega arith)
  no_turn (e ∷ c) (suc i) f = no_turn c i f
