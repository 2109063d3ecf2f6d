-- The cell that an insert or a remove carries from block to block, and what a remove leaves.
use Rattle.std.proofs.Common.{◌≡◌, ℕ, ◌-◌, ◌<◌, ◌≤◌, min, List, length, take, sym, ◌∙◌, arith}
use Rattle.std.specs.List.{insert}
use Rattle.row.proofs.Lists.{shrunk}

module _ {X : Type 0} where
  -- x has yet to go into the cells c, at s or past the first n cells if that comes first, which then are t
  pub record Pending (c : List X) (x : X) (s n m : ℕ) (t : List X) : Type 0 where
    pub at : ℕ
    pub after : min s n ≤ at
    pub before : at ≤ s
    pub within : at ≤ m
    pub is : t ≡ insert c at x

  -- a list is another with some cell put in at a place from n to m
  pub record PutPast (l : List X) (x : X) (n m : ℕ) (t : List X) : Type 0 where
    pub at : ℕ
    pub after : n ≤ at
    pub within : at ≤ m
    pub is : t ≡ insert l at x

  -- x, put at s, or past the first n cells if that comes first, gives the cells l with some cell put past the first n
  pub record Carried (c : List X) (x : X) (s n : ℕ) (l : List X) (x0 : X) : Type 0 where
    pub put : (q : ℕ) → min s n ≤ q → q ≤ s → q ≤ length c → PutPast l x0 n (length c) (insert c q x)

  module _ {c : List X} {x : X} {s n : ℕ} {l : List X} {x0 : X} (D : Carried c x s n l x0) where
    pub carried_end : (q : ℕ) (m : List X) (i : ℕ) (y : X) → min s n ≤ q → q ≤ s → q ≤ length c → i < n → i ≤ length m → length l ≡ length c → insert c q x ≡ insert m i y → take n l ≡ insert (take (n - 1) m) i y
    carried_end q m i y lo hi le lt lm ll f =
        let v = D.put q lo hi le in
        shrunk l m i n v.at x0 y lt lm v.after (omega (arith, v.within)) (sym v.is ∙ f)
