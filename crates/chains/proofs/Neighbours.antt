-- The first, last and neighbouring keys of contents are the nearest keys with values.
use Rattle.std.proofs.Common.{◌≡◌, ◌<◌, Bool, true, false, List, [], ◌∷◌, length, Some, None, Option, sym, refl, ap, ◌∙◌, ⊎_elim, arith}
use Rattle.std.proofs.lemmas.Bool.{both_ways, cases_Bool}
use Rattle.keys.specs.Order.{StrictOrder, same}
use Rattle.chains.specs.Contents.{sequence, BelowAll, Ascending, or_else, first_key, last_key, key_above, key_below}
use Rattle.chains.specs.Laws.{HasValues, Least, Greatest, ContentsLaws}
use Rattle.chains.proofs.Orders.{asymmetric, same_refl, same_less, same_eq}
use Rattle.chains.proofs.Contents.{below_all_none, with_same, with_other, with_ascending, ext}

some_value : {V : Type 0} (vs : List V) → 0 < length vs → vs ≡ [] → ⊥
some_value vs h e = let z = ap length e in omega arith

-- there is one least key at most
pub least_unique : {K : Type 0} {less : K → K → Bool} → ((x y : K) → less x y ≡ false → less y x ≡ false → x ≡ y) → (P : K → Type 0) (r s : Option K) → Least less P r → Least less P s → r ≡ s
least_unique c P None None a b = refl
least_unique c P None (Some j) a b = absurd (a j b.0)
least_unique c P (Some i) None a b = absurd (b i a.0)
least_unique c P (Some i) (Some j) a b = ap Some (c i j (b.1 i a.0) (a.1 j b.0))

module _ {K V : Type 0} {less : K → K → Bool} (o : StrictOrder less) where
  -- a key of which k is smaller than all listed ones has values only if k is smaller than it
  listed : (c : List (K × List V)) (k j : K) → BelowAll less k c → HasValues less c j → less k j ≡ true
  listed c k j a h =
      ⊎_elim (λ t. t) (λ f. absurd (some_value (sequence less c j) h (below_all_none o c k j a f))) (cases_Bool (less k j))

  at_head : (e : K × List V) (c : List (K × List V)) → Ascending less (e ∷ c) → HasValues less (e ∷ c) e.0
  at_head e c r = let t = same_refl o e.0 e.0 refl in rw t r.0

  in_tail : (e : K × List V) (c : List (K × List V)) (j : K) → Ascending less (e ∷ c) → HasValues less c j → HasValues less (e ∷ c) j
  in_tail e c j r h = let f = same_less o e.0 j (listed c e.0 j r.1 h) in rw f h

  -- a key with values is the first one, or a later one
  placed : (e : K × List V) (c : List (K × List V)) (j : K) (P : Type 0) → HasValues less (e ∷ c) j → (e.0 ≡ j → P) → (HasValues less c j → P) → P
  placed e c j P h here there =
      ⊎_elim
      (λ (t : same less e.0 j ≡ true). here (same_eq o e.0 j t))
      (λ (f : same less e.0 j ≡ false). there (rw f at h))
      (cases_Bool (same less e.0 j))

  -- no key with values is smaller than the first
  not_before : (e : K × List V) (c : List (K × List V)) (j : K) → Ascending less (e ∷ c) → HasValues less (e ∷ c) j → less j e.0 ≡ false
  not_before e c j r h =
      placed e c j (less j e.0 ≡ false) h
      (λ q. ap (λ x. less x e.0) (sym q) ∙ o.irreflexive e.0)
      (λ t. asymmetric o e.0 j (listed c e.0 j r.1 t))

  pub first_least : (c : List (K × List V)) → Ascending less c → Least less (HasValues less c) (first_key c)
  first_least [] r = λ j h. omega arith
  first_least (e ∷ c) r = (at_head e c r, λ j h. not_before e c j r h)

  last_step : (e : K × List V) (c : List (K × List V)) (l : Option K) → Ascending less (e ∷ c) → Greatest less (HasValues less c) l
      → Greatest less (HasValues less (e ∷ c)) (or_else l e.0)
  last_step e c None r g =
      (at_head e c r, λ j h. placed e c j (less e.0 j ≡ false) h (λ q. ap (less e.0) (sym q) ∙ o.irreflexive e.0) (λ t. absurd (g j t)))
  last_step e c (Some l) r g =
      (in_tail e c l r g.0, λ j h. placed e c j (less l j ≡ false) h (λ q. ap (less l) (sym q) ∙ asymmetric o e.0 l (listed c e.0 l r.1 g.0)) (λ t. g.1 j t))

  pub last_greatest : (c : List (K × List V)) → Ascending less c → Greatest less (HasValues less c) (last_key c)
  last_greatest [] r = λ j h. omega arith
  last_greatest (e ∷ c) r = last_step e c (last_key c) r (last_greatest c r.2)

  above_step : (e : K × List V) (c : List (K × List V)) (k : K) (a : Option K) → Ascending less (e ∷ c) → less k e.0 ≡ false
      → Least less (λ j. HasValues less c j × (less k j ≡ true)) a → Least less (λ j. HasValues less (e ∷ c) j × (less k j ≡ true)) a
  above_step e c k None r f g = λ j h.
      placed e c j ⊥ h.0 (λ q. both_ways (less k j) (ap (less k) (sym q) ∙ f) h.1) (λ t. g j (t, h.1))
  above_step e c k (Some a) r f g = (
    (in_tail e c a r g.0.0, g.0.1),
    λ j h. placed e c j (less j a ≡ false) h.0 (λ q. absurd (both_ways (less k j) (ap (less k) (sym q) ∙ f) h.1)) (λ t. g.1 j (t, h.1)),
  )

  pub above_least : (c : List (K × List V)) (k : K) → Ascending less c → Least less (λ j. HasValues less c j × (less k j ≡ true)) (key_above less c k)
  above_least [] k r = λ j h. omega (arith, h.0)
  above_least (e ∷ c) k r =
      ⊎_elim
      (λ (t : less k e.0 ≡ true). rw t ((at_head e c r, t), λ j h. not_before e c j r h.0))
      (λ (f : less k e.0 ≡ false). rw f (above_step e c k (key_above less c k) r f (above_least c k r.2)))
      (cases_Bool (less k e.0))

  below_step : (e : K × List V) (c : List (K × List V)) (k : K) (b : Option K) → Ascending less (e ∷ c) → less e.0 k ≡ true
      → Greatest less (λ j. HasValues less c j × (less j k ≡ true)) b → Greatest less (λ j. HasValues less (e ∷ c) j × (less j k ≡ true)) (or_else b e.0)
  below_step e c k None r t g =
      ((at_head e c r, t), λ j h. placed e c j (less e.0 j ≡ false) h.0 (λ q. ap (less e.0) (sym q) ∙ o.irreflexive e.0) (λ u. absurd (g j (u, h.1))))
  below_step e c k (Some b) r t g = (
    (in_tail e c b r g.0.0, g.0.1),
    λ j h. placed e c j (less b j ≡ false) h.0 (λ q. ap (less b) (sym q) ∙ asymmetric o e.0 b (listed c e.0 b r.1 g.0.0)) (λ u. g.1 j (u, h.1)),
  )

  pub below_greatest : (c : List (K × List V)) (k : K) → Ascending less c → Greatest less (λ j. HasValues less c j × (less j k ≡ true)) (key_below less c k)
  below_greatest [] k r = λ j h. omega (arith, h.0)
  below_greatest (e ∷ c) k r =
      ⊎_elim
      (λ (t : less e.0 k ≡ true). rw t (below_step e c k (key_below less c k) r t (below_greatest c k r.2)))
      (λ (f : less e.0 k ≡ false). rw f (λ j h.
      ⊎_elim
      (λ (u : less e.0 j ≡ true). both_ways (less e.0 k) f (o.transitive e.0 j k u h.1))
      (λ (u : less e.0 j ≡ false). both_ways (less e.0 k) f (ap (λ x. less x k) (o.connected e.0 j u (not_before e c j r h.0)) ∙ h.1))
      (cases_Bool (less e.0 j))))
      (cases_Bool (less e.0 k))

  pub contents_laws : ContentsLaws less V
  contents_laws = record {
    replaced = with_same o;
    others = λ c k j vs n. with_other o c k vs j (⊎_elim (λ t. absurd (n (same_eq o k j t))) (λ f. f) (cases_Bool (same less k j)));
    ascending = with_ascending o;
    known = ext o;
    first = first_least;
    last = last_greatest;
    above = above_least;
    below = below_greatest;
  }
