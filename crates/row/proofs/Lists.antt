-- Parts of a list: one put back, replaced or written to, and an item that goes in or comes out.
use Rattle.std.proofs.Common.{◌≡◌, ℕ, suc, ◌+◌, ◌-◌, ◌<◌, ◌≤◌, List, ◌∷◌, ◌++◌, length, get_or, take, drop, set, sym, ap, ◌∙◌, add-one, arith}
use lib.Seq.{take-append-add}
use borrow.Rule.Slice.PartMut.{put_mid}
use Rattle.std.specs.List.{insert, remove}
use Rattle.std.proofs.lemmas.List.Edits.{insert-append_left, insert-append_right}
use Rattle.std.proofs.lemmas.List.{take_at, drop_at, get_or_at, take-append-drop, take-append-le, drop-drop, length-take-le, length-drop, length-append, length-take, set-append_left, set-append_right, take-take, drop-take}

module _ {X : Type 0} where
  -- a part put back where it stands
  pub put_back : (z : List X) (a k : ℕ) → put_mid a k z (take k (drop a z)) ≡ z
  put_back z a k = ap (λ (v : List X). take a z ++ v) (take-append-drop k (drop a z)) ∙ take-append-drop a z

  pub length_put_mid : (a k : ℕ) (c z : List X) → length z ≡ k → a + k ≤ length c → length (put_mid a k c z) ≡ length c
  length_put_mid a k c z lz le = simp (length-append, length-take, length-drop) (omega arith)

  pub length_block : (c : List X) (a e : ℕ) → a ≤ e → e ≤ length c → length (take (e - a) (drop a c)) ≡ e - a
  length_block c a e le le' = length-take-le (e - a) (drop a c) (rw length-drop (omega arith))

  -- a write to a part
  pub set_mid : (p r q : List X) (a i n : ℕ) (x : X) → length p ≡ a → i < length r → n ≡ a + i → set (p ++ (r ++ q)) n x ≡ p ++ (set r i x ++ q)
  set_mid p r q a i n x lp lt e =
      let m : n - a ≡ i = omega arith in
      set-append_right p (r ++ q) a n x lp (omega arith) ∙ ap (λ (v : ℕ). p ++ set (r ++ q) v x) m ∙ ap (λ (t : List X). p ++ t) (set-append_left r q i x lt)

  -- a cell put into a part
  pub inserted_mid : (p r q : List X) (a to : ℕ) (x : X) → length p ≡ a → to ≤ length r → insert (p ++ (r ++ q)) (a + to) x ≡ p ++ (insert r to x ++ q)
  inserted_mid p r q a to x lp le =
      let m : a + to - a ≡ to = omega arith in
      insert-append_right p (r ++ q) a (a + to) x lp (omega arith) ∙ ap (λ (n : ℕ). p ++ insert (r ++ q) n x) m ∙ ap (λ (t : List X). p ++ t) (insert-append_left r q to x le)

  pub take_inserted : (l : List X) (i n : ℕ) (x : X) → i ≤ n → i ≤ length l → take (n + 1) (insert l i x) ≡ insert (take n l) i x
  take_inserted l i n x le le' =
      let li : length (take i l) ≡ i = length-take-le i l le' in
      let m : n + 1 ≡ length (take i l) + suc (n - i) = omega arith in
      let a : take (length (take i l) + suc (n - i)) (take i l ++ x ∷ drop i l) ≡ take i l ++ x ∷ take (n - i) (drop i l) = take-append-add (take i l) (x ∷ drop i l) (suc (n - i)) in
      let t : take i (take n l) ≡ take i l = take-take i n l le in
      let k : i + (n - i) ≡ n = omega arith in
      let d : drop i (take (i + (n - i)) l) ≡ take (n - i) (drop i l) = drop-take i (n - i) l in
      let d' : drop i (take n l) ≡ take (n - i) (drop i l) = rw k at d in
      ap (λ (v : ℕ). take v (insert l i x)) m ∙ a ∙ sym (rw (t, d'))

  -- the items before the place where a cell goes in
  take-before : (l : List X) (p n : ℕ) (x : X) → n ≤ p → p ≤ length l → take n (insert l p x) ≡ take n l
  take-before l p n x le le' =
      let lp : length (take p l) ≡ p = length-take-le p l le' in
      take-append-le n (take p l) (x ∷ drop p l) (omega arith) ∙ take-take n p l le

  -- what a cascade leaves
  pub grown : (l m : List X) (i n p : ℕ) (x y : X) → i ≤ n → i ≤ length l → n < p → p ≤ length m → insert m p y ≡ insert l i x → take (n + 1) m ≡ insert (take n l) i x
  grown l m i n p x y le le' lt lt' e =
      sym (take-before m p (n + 1) y (omega arith) lt') ∙ ap (λ (t : List X). take (n + 1) t) e ∙ take_inserted l i n x le le'

  pub shrunk : (l m : List X) (i n p : ℕ) (x y : X) → i < n → i ≤ length m → n ≤ p → p ≤ length l → insert l p x ≡ insert m i y → take n l ≡ insert (take (n - 1) m) i y
  shrunk l m i n p x y lt le lt' le' e =
      let k : n - 1 + 1 ≡ n = omega arith in
      let t : take (n - 1 + 1) (insert m i y) ≡ insert (take (n - 1) m) i y = take_inserted m i (n - 1) y (omega arith) le in
      let t' : take n (insert m i y) ≡ insert (take (n - 1) m) i y = rw k at t in
      sym (take-before l p n x lt' le') ∙ ap (λ (t : List X). take n t) e ∙ t'

  -- what was put in can be read, and taken out
  pub taken_out : (xs ys : List X) (i : ℕ) (y : X) → i ≤ length ys → xs ≡ insert ys i y → (ys ≡ remove xs i) × ((d : X) → y ≡ get_or xs i d)
  taken_out xs ys i y le e =
      let li : length (take i ys) ≡ i = length-take-le i ys le in
      let t : take i (insert ys i y) ≡ take i ys = take_at (take i ys) (y ∷ drop i ys) i li in
      let d0 : drop i (insert ys i y) ≡ y ∷ drop i ys = drop_at (take i ys) (y ∷ drop i ys) i li in
      let d1 : drop (i + 1) (insert ys i y) ≡ drop i ys = sym (drop-drop 1 i (insert ys i y)) ∙ ap (λ (v : List X). drop 1 v) d0 in
      let d2 : drop (suc i) (insert ys i y) ≡ drop i ys = rw add-one at d1 in (
        sym (ap (λ (v : List X). remove v i) e ∙ ap (λ (v : List X). v ++ drop (suc i) (insert ys i y)) t ∙ ap (λ (v : List X). take i ys ++ v) d2 ∙ take-append-drop i ys),
        λ d. sym (ap (λ (v : List X). get_or v i d) e ∙ get_or_at (take i ys) y (drop i ys) d i li),
      )
