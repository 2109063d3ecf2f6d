-- Contents in two parts: those of the keys smaller than a boundary, then those of the others.
use Rattle.std.proofs.Common.{◌≡◌, Bool, true, false, cond, List, [], ◌∷◌, ◌++◌, sym, refl, arith}
use Rattle.std.proofs.lemmas.List.{append-nil, append_assoc}
use Rattle.keys.specs.Order.{StrictOrder}
use Rattle.chains.specs.Contents.{sequence, entry, with_sequence, BelowAll}
use Rattle.chains.proofs.Orders.{asymmetric, same_less}
use Rattle.chains.proofs.Contents.{below_all_none}
use Rattle.split.specs.Joined.{EachKey, AllBelow, NoneBelow}

module _ {K : Type 0} {less : K → K → Bool} (o : StrictOrder less) where
  -- a key below the boundary is smaller than one that is not
  apart : (x k boundary : K) → less x boundary ≡ true → less k boundary ≡ false → less x k ≡ true
  apart x k boundary a b = grind (arith, o.transitive k x boundary, o.connected x k)

module _ {K V : Type 0} {less : K → K → Bool} (o : StrictOrder less) where
  pub before_high : (ys : List (K × List V)) (k boundary : K) → less k boundary ≡ true → NoneBelow less boundary ys → BelowAll less k ys
  before_high [] k boundary t f = tt
  before_high (y ∷ ys) k boundary t f = (apart o k y.0 boundary t f.0, before_high ys k boundary t f.1)

  pub behind_low : (xs : List (K × List V)) (k boundary : K) → less k boundary ≡ false → AllBelow less boundary xs → AllBelow less k xs
  behind_low [] k boundary f u = tt
  behind_low (x ∷ xs) k boundary f u = (apart o x.0 k boundary u.0 f, behind_low xs k boundary f u.1)

  -- ---- the sequence of a key that stands before ys, or behind xs

  pub low_sequence : (xs ys : List (K × List V)) (k : K) → BelowAll less k ys → sequence less (xs ++ ys) k ≡ sequence less xs k
  low_sequence [] ys k b = below_all_none o ys k k b (o.irreflexive k)
  low_sequence (x ∷ xs) ys k b = rw (low_sequence xs ys k b)

  pub high_sequence : (xs ys : List (K × List V)) (k : K) → AllBelow less k xs → sequence less (xs ++ ys) k ≡ sequence less ys k
  high_sequence [] ys k u = refl
  high_sequence (x ∷ xs) ys k u = rw (same_less o x.0 k u.0, high_sequence xs ys k u.1)

  pub low_with : (xs ys : List (K × List V)) (k : K) (vs : List V) → BelowAll less k ys → with_sequence less (xs ++ ys) k vs ≡ with_sequence less xs k vs ++ ys
  low_with [] [] k vs b = sym (append-nil (entry k vs))
  low_with [] (y ∷ ys) k vs b = rw (asymmetric o k y.0 b.0, b.0)
  low_with (x ∷ xs) ys k vs b =
      let ih = low_with xs ys k vs b in
      grind (arith, append_assoc)

  pub high_with : (xs ys : List (K × List V)) (k : K) (vs : List V) → AllBelow less k xs → with_sequence less (xs ++ ys) k vs ≡ xs ++ with_sequence less ys k vs
  high_with [] ys k vs u = refl
  high_with (x ∷ xs) ys k vs u = rw (u.0, high_with xs ys k vs u.1)

-- ---- what holds of each listed key holds after a sequence was replaced, if it holds of its key

module _ {K V : Type 0} (P : K → Type 0) where
  either_each : (b : Bool) (xs ys : List (K × List V)) → EachKey P xs → EachKey P ys → EachKey P (cond b xs ys)
  either_each true xs ys p q = p
  either_each false xs ys p q = q

  entry_each : (es : List (K × List V)) (k : K) (vs : List V) → EachKey P es → P k → EachKey P (entry k vs ++ es)
  entry_each es k [] u t = u
  entry_each es k (v ∷ vs) u t = (t, u)

  pub with_each : (less : K → K → Bool) (es : List (K × List V)) (k : K) (vs : List V) → EachKey P es → P k → EachKey P (with_sequence less es k vs)
  with_each less [] k [] u t = tt
  with_each less [] k (v ∷ vs) u t = (t, tt)
  with_each less (e ∷ es) k vs u t =
      either_each (less e.0 k) _ _ (u.0, with_each less es k vs u.1 t)
      (either_each (less k e.0) _ _ (entry_each (e ∷ es) k vs u t) (entry_each es k vs u.1 t))
