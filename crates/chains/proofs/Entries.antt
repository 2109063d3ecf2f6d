-- The contents that entries make, in any order of the entries.
use Rattle.std.proofs.Common.{◌≡◌, ℕ, zero, suc, Bool, true, false, List, [], ◌∷◌, ◌++◌, length, drop, set, Some, sym, refl, ap, ◌∙◌, ⊎_elim, arith}
use Rattle.std.specs.List.{insert, remove, slice_get}
use Rattle.std.proofs.lemmas.List.{take_at, drop_at, set_at}
use Rattle.std.proofs.lemmas.Bool.{cases_Bool}
use Rattle.keys.specs.Order.{StrictOrder, same}
use Rattle.chains.specs.Contents.{sequence, with_sequence, used, Ascending}
use Rattle.chains.specs.Entries.{values_under, contents_of}
use Rattle.chains.proofs.Orders.{same_refl, same_eq}
use Rattle.chains.proofs.Contents.{with_ascending, with_same, with_other, with_used, with_known}

drop_suc : {X : Type 0} (p : List X) (y : X) (q : List X) (n : ℕ) → length p ≡ n → drop (suc n) (p ++ y ∷ q) ≡ q
drop_suc [] y q zero h = refl
drop_suc [] y q (suc n) h = absurd (omega arith)
drop_suc (x ∷ p) y q zero h = absurd (omega arith)
drop_suc (x ∷ p) y q (suc n) h = drop_suc p y q n (omega arith)

nth_at : {X : Type 0} (p : List X) (y : X) (q : List X) (n : ℕ) → length p ≡ n → slice_get (p ++ y ∷ q) n ≡ Some y
nth_at [] y q zero h = refl
nth_at [] y q (suc n) h = absurd (omega arith)
nth_at (x ∷ p) y q zero h = absurd (omega arith)
nth_at (x ∷ p) y q (suc n) h = nth_at p y q n (omega arith)

module _ {X K V : Type 0} {less : K → K → Bool} (o : StrictOrder less) (key : X → K) (value : X → V) where
  pub contents-ascending : (es : List X) → Ascending less (contents_of less key value es)
  contents-ascending [] = tt
  contents-ascending (e ∷ es) = with_ascending o (contents_of less key value es) (key e) _ (contents-ascending es)

  pub contents-sequence : (es : List X) (k : K) → sequence less (contents_of less key value es) k ≡ values_under less key value es k
  contents-sequence [] k = refl
  contents-sequence (e ∷ es) k =
      let vs = value e ∷ sequence less (contents_of less key value es) (key e) in
      let ih = contents-sequence es k in
      ⊎_elim
      (λ (t : same less (key e) k ≡ true). let q = same_eq o (key e) k t in let s = with_same o (contents_of less key value es) (key e) vs (contents-ascending es) in
      rw t (cc))
      (λ (f : same less (key e) k ≡ false). rw f (with_other o (contents_of less key value es) (key e) vs k f ∙ ih))
      (cases_Bool (same less (key e) k))

  -- over one section, each entry takes up one place
  pub contents-used : (es : List X) → used (λ _. 0) (contents_of less key value es) 0 ≡ length es
  contents-used [] = refl
  contents-used (e ∷ es) =
      let w = with_used o (λ _. 0) (contents_of less key value es) (key e) (value e ∷ sequence less (contents_of less key value es) (key e)) 0 (contents-ascending es) refl in
      let ih = contents-used es in omega (arith, w, ih)

  pub values-++ : (xs ys : List X) (k : K) → values_under less key value (xs ++ ys) k ≡ values_under less key value xs k ++ values_under less key value ys k
  values-++ [] ys k = refl
  values-++ (x ∷ xs) ys k =
      ⊎_elim
      (λ (t : same less (key x) k ≡ true). rw (t, values-++ xs ys k))
      (λ (f : same less (key x) k ≡ false). rw (f, values-++ xs ys k))
      (cases_Bool (same less (key x) k))

  -- ---- one entry among others

  own : (xs : List X) (c : X) (ys : List X) (k : K) → key c ≡ k
      → values_under less key value (xs ++ c ∷ ys) k ≡ values_under less key value xs k ++ value c ∷ values_under less key value ys k
  own xs c ys k q = let a = same_refl o (key c) k q in values-++ xs (c ∷ ys) k ∙ rw a

  others : (xs : List X) (c : X) (ys : List X) (k j : K) → key c ≡ k → same less k j ≡ false
      → values_under less key value (xs ++ c ∷ ys) j ≡ values_under less key value (xs ++ ys) j
  others xs c ys k j q f =
      let a : same less (key c) j ≡ false = ap (λ x. same less x j) q ∙ f in values-++ xs (c ∷ ys) j ∙ rw a (sym (values-++ xs ys j))

  -- an entry more: its value comes in at the rank that the entries before it give
  pub entry_put : (xs : List X) (c : X) (ys : List X) (k : K) (rank : ℕ) → key c ≡ k → length (values_under less key value xs k) ≡ rank
      → contents_of less key value (xs ++ c ∷ ys)
      ≡ with_sequence less (contents_of less key value (xs ++ ys)) k (insert (sequence less (contents_of less key value (xs ++ ys)) k) rank (value c))
  entry_put xs c ys k rank q n =
      with_known o (contents_of less key value (xs ++ ys)) (contents_of less key value (xs ++ c ∷ ys)) k _ (contents-ascending (xs ++ ys)) (contents-ascending (xs ++ c ∷ ys))
      (let e = contents-sequence (xs ++ ys) k ∙ values-++ xs ys k in
      let a = take_at (values_under less key value xs k) (values_under less key value ys k) rank n in
      let b = drop_at (values_under less key value xs k) (values_under less key value ys k) rank n in
      contents-sequence (xs ++ c ∷ ys) k ∙ own xs c ys k q ∙ rw (e, a, b))
      (λ j f. contents-sequence (xs ++ c ∷ ys) j ∙ others xs c ys k j q f ∙ sym (contents-sequence (xs ++ ys) j))

  -- an entry less
  pub entry-taken : (xs : List X) (c : X) (ys : List X) (k : K) (rank : ℕ) → key c ≡ k → length (values_under less key value xs k) ≡ rank
      → contents_of less key value (xs ++ ys)
      ≡ with_sequence less (contents_of less key value (xs ++ c ∷ ys)) k (remove (sequence less (contents_of less key value (xs ++ c ∷ ys)) k) rank)
  entry-taken xs c ys k rank q n =
      with_known o (contents_of less key value (xs ++ c ∷ ys)) (contents_of less key value (xs ++ ys)) k _ (contents-ascending (xs ++ c ∷ ys)) (contents-ascending (xs ++ ys))
      (let e = contents-sequence (xs ++ c ∷ ys) k ∙ own xs c ys k q in
      let a = take_at (values_under less key value xs k) (value c ∷ values_under less key value ys k) rank n in
      let b = drop_suc (values_under less key value xs k) (value c) (values_under less key value ys k) rank n in
      contents-sequence (xs ++ ys) k ∙ values-++ xs ys k ∙ rw (e, a, b))
      (λ j f. contents-sequence (xs ++ ys) j ∙ sym (others xs c ys k j q f) ∙ sym (contents-sequence (xs ++ c ∷ ys) j))

  -- another entry of the same key in its place
  pub entry_set : (xs : List X) (c d : X) (ys : List X) (k : K) (rank : ℕ) → key c ≡ k → key d ≡ k → length (values_under less key value xs k) ≡ rank
      → contents_of less key value (xs ++ d ∷ ys)
      ≡ with_sequence less (contents_of less key value (xs ++ c ∷ ys)) k (set (sequence less (contents_of less key value (xs ++ c ∷ ys)) k) rank (value d))
  entry_set xs c d ys k rank q p n =
      with_known o (contents_of less key value (xs ++ c ∷ ys)) (contents_of less key value (xs ++ d ∷ ys)) k _ (contents-ascending (xs ++ c ∷ ys)) (contents-ascending (xs ++ d ∷ ys))
      (let e = contents-sequence (xs ++ c ∷ ys) k ∙ own xs c ys k q in
      let a = set_at (values_under less key value xs k) (value c) (values_under less key value ys k) (value d) rank n in
      contents-sequence (xs ++ d ∷ ys) k ∙ own xs d ys k p ∙ rw (e, a))
      (λ j f. contents-sequence (xs ++ d ∷ ys) j ∙ others xs d ys k j p f ∙ sym (others xs c ys k j q f) ∙ sym (contents-sequence (xs ++ c ∷ ys) j))

  pub entry_nth : (xs : List X) (c : X) (ys : List X) (k : K) (rank : ℕ) → key c ≡ k → length (values_under less key value xs k) ≡ rank
      → slice_get (sequence less (contents_of less key value (xs ++ c ∷ ys)) k) rank ≡ Some (value c)
  entry_nth xs c ys k rank q n =
      let e = contents-sequence (xs ++ c ∷ ys) k ∙ own xs c ys k q in
      rw e (nth_at (values_under less key value xs k) (value c) (values_under less key value ys k) rank n)
