-- The last and the neighbouring keys of contents in two parts.
use Rattle.std.proofs.Common.{◌≡◌, Bool, List, [], ◌∷◌, ◌++◌, refl, arith}
use Rattle.std.specs.Option.{option_or}
use Rattle.keys.specs.Order.{StrictOrder}
use Rattle.chains.specs.Contents.{BelowAll, first_key, last_key, key_above, key_below}
use Rattle.chains.proofs.Orders.{asymmetric}
use Rattle.split.specs.Joined.{AllBelow}

module _ {K V : Type 0} where
  pub last_append : (xs ys : List (K × List V)) → last_key (xs ++ ys) ≡ option_or (last_key ys) (last_key xs)
  last_append [] ys = grind arith
  last_append (x ∷ xs) ys = let ih = last_append xs ys in grind arith

module _ {K V : Type 0} {less : K → K → Bool} (o : StrictOrder less) where
  -- ---- of a key that stands before ys

  pub above_low : (xs ys : List (K × List V)) (k : K) → BelowAll less k ys → key_above less (xs ++ ys) k ≡ option_or (key_above less xs k) (first_key ys)
  above_low [] [] k b = refl
  above_low [] (y ∷ ys) k b = rw b.0
  above_low (x ∷ xs) ys k b = let ih = above_low xs ys k b in grind arith

  pub below_low : (xs ys : List (K × List V)) (k : K) → BelowAll less k ys → key_below less (xs ++ ys) k ≡ key_below less xs k
  below_low [] [] k b = refl
  below_low [] (y ∷ ys) k b = rw (asymmetric o k y.0 b.0)
  below_low (x ∷ xs) ys k b = let ih = below_low xs ys k b in grind arith

  -- ---- of a key that stands behind xs

  pub above_high : (xs ys : List (K × List V)) (k : K) → AllBelow less k xs → key_above less (xs ++ ys) k ≡ key_above less ys k
  above_high [] ys k u = refl
  above_high (x ∷ xs) ys k u = rw (asymmetric o x.0 k u.0, above_high xs ys k u.1)

  pub below_high : (xs ys : List (K × List V)) (k : K) → AllBelow less k xs → key_below less (xs ++ ys) k ≡ option_or (key_below less ys k) (last_key xs)
  below_high [] ys k u = grind arith
  below_high (x ∷ xs) ys k u = let ih = below_high xs ys k u.1 in rw u.0 (grind arith)
