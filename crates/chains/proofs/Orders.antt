-- What follows from a strict order's laws.
use Rattle.std.proofs.Common.{◌≡◌, Bool, true, false, ◌⊎◌, inl, inr, ⊎_elim}
use Rattle.std.proofs.lemmas.Bool.{both_ways, cases_Bool}
use Rattle.keys.specs.Order.{StrictOrder, same}

module _ {K : Type 0} {less : K → K → Bool} (o : StrictOrder less) where
  pub asymmetric : (x y : K) → less x y ≡ true → less y x ≡ false
  asymmetric x y h =
      ⊎_elim
      (λ t. absurd (both_ways (less x x) (o.irreflexive x) (o.transitive x y x h t)))
      (λ f. f)
      (cases_Bool (less y x))

  pub same_refl : (x y : K) → x ≡ y → same less x y ≡ true
  same_refl x y e = let i = o.irreflexive x in let f : less x y ≡ false = cc in let g : less y x ≡ false = cc in rw (f, g)

  pub same_less : (x y : K) → less x y ≡ true → same less x y ≡ false
  same_less x y h = rw h

  pub same_greater : (x y : K) → less y x ≡ true → same less x y ≡ false
  same_greater x y h = let f = asymmetric y x h in rw (f, h)

  -- one of three holds
  pub trichotomy : (x y : K) → ((less x y ≡ true) × (less y x ≡ false)) ⊎ (((less x y ≡ false) × (less y x ≡ true)) ⊎ (x ≡ y))
  trichotomy x y =
      ⊎_elim
      (λ t. inl (t, asymmetric x y t))
      (λ f. ⊎_elim (λ t. inr (inl (f, t))) (λ g. inr (inr (o.connected x y f g))) (cases_Bool (less y x)))
      (cases_Bool (less x y))

  pub same_eq : (x y : K) → same less x y ≡ true → x ≡ y
  same_eq x y h =
      ⊎_elim
      (λ w. absurd (both_ways (same less x y) (same_less x y w.0) h))
      (⊎_elim (λ w. absurd (both_ways (same less x y) (same_greater x y w.1) h)) (λ e. e))
      (trichotomy x y)
