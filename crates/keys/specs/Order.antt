-- What a total order of keys is, by its test: less x y is true where x is smaller than y.
use Rattle.std.specs.Prelude.{◌≡◌, Bool, true, false, cond}

pub record StrictOrder {K : Type 0} (less : K → K → Bool) : Type 0 where
  pub irreflexive : (x : K) → less x x ≡ false
  pub transitive : (x y z : K) → less x y ≡ true → less y z ≡ true → less x z ≡ true
  -- keys of which neither is smaller are the same key
  pub connected : (x y : K) → less x y ≡ false → less y x ≡ false → x ≡ y

-- neither of two keys is smaller
abbrev pub same : {K : Type 0} → (K → K → Bool) → K → K → Bool
same less x y = cond (less x y) false (cond (less y x) false true)
