-- Where the entries of a key stand among sorted entries, and which edits keep them sorted.
use Rattle.std.proofs.Common.{◌≡◌, ℕ, zero, suc, ◌+◌, ◌<◌, ◌≤◌, min, Bool, true, false, cond, not, List, [], ◌∷◌, ◌++◌, length, get_or, take, drop, set, count_by, sym, refl, ap, ◌∙◌, subst, ⊎_elim, arith}
use Rattle.std.proofs.lemmas.List.Sums.{sum_by-cons, count_by-le-length}
use Rattle.std.proofs.lemmas.Bool.{both_ways, cases_Bool}
use Rattle.keys.specs.Order.{StrictOrder}
use Rattle.chains.specs.Entries.{values_under}
use Rattle.chains.proofs.Orders.{trichotomy}
use Rattle.row.specs.Partition.{Partitioned}
use Rattle.ordered.specs.declared.cell.Cell.{Cell}
use Rattle.ordered.specs.Sorted.{NoneSmaller, Sorted, smaller, not_greater}

-- ---- a list that a test parts in two, and how many of its items pass

module _ {X : Type 0} (p : X → Bool) where
  tail : (x : X) (xs : List X) → Partitioned p (x ∷ xs) → Partitioned p xs
  tail x xs P j k d le lt = P (suc j) (suc k) d (omega arith) (omega arith)

  pub counted : (x : X) (xs : List X) → count_by p (x ∷ xs) ≡ cond (p x) 1 0 + count_by p xs
  counted x xs = sum_by-cons (λ (y : X). cond (p y) 1 0) x xs

  counted_yes : (x : X) (xs : List X) → p x ≡ true → count_by p (x ∷ xs) ≡ 1 + count_by p xs
  counted_yes x xs t = counted x xs ∙ rw t

  counted_no : (x : X) (xs : List X) → p x ≡ false → count_by p (x ∷ xs) ≡ count_by p xs
  counted_no x xs f = counted x xs ∙ rw f (omega arith)

  -- behind an item that fails, all fail
  none_behind : (x : X) (xs : List X) → Partitioned p (x ∷ xs) → p x ≡ false → count_by p xs ≡ 0
  none_behind x [] P f = refl
  none_behind x (y ∷ ys) P f =
      ⊎_elim
      (λ t. absurd (both_ways (p x) f (P 0 1 x (omega arith) (omega arith) t)))
      (λ g. counted_no y ys g ∙ none_behind y ys (tail x (y ∷ ys) P) g)
      (cases_Bool (p y))

  -- those that pass are the first ones
  pub at_count : (xs : List X) → Partitioned p xs → (i : ℕ) (d : X) → (i < count_by p xs → p (get_or xs i d) ≡ true) × (count_by p xs ≤ i → i < length xs → p (get_or xs i d) ≡ false)
  at_count [] P i d = (λ h. absurd (omega arith), λ h lt. absurd (omega arith))
  at_count (x ∷ xs) P zero d =
      ⊎_elim
      (λ t. let n = counted_yes x xs t in (λ h. t, λ h lt. absurd (omega arith)))
      (λ f. let n = counted_no x xs f in let z = none_behind x xs P f in (λ h. absurd (omega arith), λ h lt. f))
      (cases_Bool (p x))
  at_count (x ∷ xs) P (suc i) d =
      let ih = at_count xs (tail x xs P) i d in
      ⊎_elim
      (λ t. let n = counted_yes x xs t in (λ h. ih.0 (omega arith), λ h lt. ih.1 (omega arith) (omega arith)))
      (λ f. let n = counted_no x xs f in let z = none_behind x xs P f in (λ h. absurd (omega arith), λ h lt. ih.1 (omega arith) (omega arith)))
      (cases_Bool (p x))

  count_take : (xs : List X) → Partitioned p xs → (i : ℕ) → count_by p (take i xs) ≡ min i (count_by p xs)
  count_take [] P zero = omega arith
  count_take [] P (suc i) = omega arith
  count_take (x ∷ xs) P zero = omega arith
  count_take (x ∷ xs) P (suc i) =
      let ih = count_take xs (tail x xs P) i in
      ⊎_elim
      (λ t. let n = counted_yes x xs t in let m = counted_yes x (take i xs) t in omega arith)
      (λ f. let n = counted_no x xs f in let m = counted_no x (take i xs) f in let z = none_behind x xs P f in omega arith)
      (cases_Bool (p x))

module _ {K : Type 0} {less : K → K → Bool} (o : StrictOrder less) where
  -- y is not smaller than x
  less_of : (x y k : K) → less y x ≡ false → less y k ≡ true → less x k ≡ true
  less_of x y k a b = grind (arith, o.irreflexive, o.transitive, o.connected)

  greater_of : (x y k : K) → less y x ≡ false → less k x ≡ true → less k y ≡ true
  greater_of x y k a b = grind (arith, o.irreflexive, o.transitive, o.connected)

not_back : (b c : Bool) → not b ≡ not c → b ≡ c
not_back true true e = refl
not_back true false e = cc
not_back false true e = cc
not_back false false e = refl

module _ {K V : Type 0} {less : K → K → Bool} (o : StrictOrder less) where
  -- an entry's key is smaller than k, k itself, or greater
  pub bounds : (es : List (Cell K V)) (k : K) → smaller less es k + length (values_under less (λ e. e.key) (λ e. e.value) es k) ≡ not_greater less es k
  bounds [] k = refl
  bounds (e ∷ es) k =
      let ih = bounds es k in
      let m = counted (λ (x : Cell K V). less x.key k) e es in
      let n = counted (λ (x : Cell K V). not (less k x.key)) e es in
      ⊎_elim
      (λ w. let t = w.0 in let f = w.1 in let a = rw t at m in let b = rw f at n in rw (t, f) (omega arith))
      (⊎_elim
      (λ w. let f = w.0 in let t = w.1 in let a = rw f at m in let b = rw t at n in rw (f, t) (omega arith))
      (λ q. let i = o.irreflexive k in let f : less e.key k ≡ false = cc in let g : less k e.key ≡ false = cc in let a = rw f at m in let b = rw g at n in rw (f, g) (omega arith)))
      (trichotomy o e.key k)

  none_at : (es : List (Cell K V)) (k : K) (i : ℕ) (d : Cell K V) → NoneSmaller less k es → i < length es → less (get_or es i d).key k ≡ false
  none_at [] k i d n h = absurd (omega arith)
  none_at (e ∷ es) k zero d n h = n.0
  none_at (e ∷ es) k (suc i) d n h = none_at es k i d n.1 (omega arith)

  pub sorted_at : (es : List (Cell K V)) (i j : ℕ) (d : Cell K V) → Sorted less es → i ≤ j → j < length es → less (get_or es j d).key (get_or es i d).key ≡ false
  sorted_at [] i j d s le lt = absurd (omega arith)
  sorted_at (e ∷ es) zero zero d s le lt = o.irreflexive e.key
  sorted_at (e ∷ es) zero (suc j) d s le lt = none_at es e.key j d s.0 (omega arith)
  sorted_at (e ∷ es) (suc i) zero d s le lt = absurd (omega arith)
  sorted_at (e ∷ es) (suc i) (suc j) d s le lt = sorted_at es i j d s.1 (omega arith) (omega arith)

  -- ---- both tests of a search part the entries

  pub smaller-parts : (es : List (Cell K V)) (k : K) → Sorted less es → Partitioned (λ (e : Cell K V). less e.key k) es
  smaller-parts es k s i j d le lt t = less_of o (get_or es i d).key (get_or es j d).key k (sorted_at es i j d s le lt) t

  pub not_greater-parts : (es : List (Cell K V)) (k : K) → Sorted less es → Partitioned (λ (e : Cell K V). not (less k e.key)) es
  not_greater-parts es k s i j d le lt t =
      ⊎_elim
      (λ (u : less k (get_or es i d).key ≡ true). absurd (both_ways (less k (get_or es j d).key) (not_back _ false t) (greater_of o (get_or es i d).key (get_or es j d).key k (sorted_at es i j d s le lt) u)))
      (λ (f : less k (get_or es i d).key ≡ false). rw f)
      (cases_Bool (less k (get_or es i d).key))

-- ---- the entries of a key

module _ {K V : Type 0} {less : K → K → Bool} (o : StrictOrder less) (es : List (Cell K V)) (k : K) (i : ℕ) (d : Cell K V) (s : Sorted less es) where
  -- an entry before those of k is smaller, and from there on none is
  pub ahead_place : i < smaller less es k → less (get_or es i d).key k ≡ true
  ahead_place h = (at_count (λ (e : Cell K V). less e.key k) es (smaller-parts o es k s) i d).0 h

  pub from_place : smaller less es k ≤ i → i < length es → less (get_or es i d).key k ≡ false
  from_place h lt = (at_count (λ (e : Cell K V). less e.key k) es (smaller-parts o es k s) i d).1 h lt

  -- up to the last one of k none is greater, and an entry behind it is
  pub up_to_place : i < not_greater less es k → less k (get_or es i d).key ≡ false
  up_to_place h = not_back _ false ((at_count (λ (e : Cell K V). not (less k e.key)) es (not_greater-parts o es k s) i d).0 h)

  pub behind_place : not_greater less es k ≤ i → i < length es → less k (get_or es i d).key ≡ true
  behind_place h lt = not_back _ true ((at_count (λ (e : Cell K V). not (less k e.key)) es (not_greater-parts o es k s) i d).1 h lt)

  pub key_at : smaller less es k ≤ i → i < not_greater less es k → (get_or es i d).key ≡ k
  key_at a b = let n = count_by-le-length (λ (e : Cell K V). not (less k e.key)) es in o.connected (get_or es i d).key k (from_place a (omega arith)) (up_to_place b)

module _ {K V : Type 0} {less : K → K → Bool} (o : StrictOrder less) where
  -- before a place among k's entries there are as many values of k as the place lies past the first of them
  pub before_place : (es : List (Cell K V)) (k : K) (i : ℕ) → Sorted less es → smaller less es k ≤ i → i ≤ not_greater less es k
      → smaller less es k + length (values_under less (λ e. e.key) (λ e. e.value) (take i es) k) ≡ i
  before_place es k i s a b =
      let n = bounds o (take i es) k in
      let x = count_take (λ (e : Cell K V). less e.key k) es (smaller-parts o es k s) i in
      let y = count_take (λ (e : Cell K V). not (less k e.key)) es (not_greater-parts o es k s) i in
      omega arith

  -- ---- edits that keep entries sorted

  none_all : (es : List (Cell K V)) (k : K) → ((j : ℕ) (d : Cell K V) → j < length es → less (get_or es j d).key k ≡ false) → NoneSmaller less k es
  none_all [] k h = tt
  none_all (e ∷ es) k h = (h 0 e (omega arith), none_all es k (λ j d lt. h (suc j) d (omega arith)))

  none_put : (es : List (Cell K V)) (x : K) (i : ℕ) (c : Cell K V) → NoneSmaller less x es → less c.key x ≡ false → NoneSmaller less x (take i es ++ c ∷ drop i es)
  none_put [] x zero c n f = (f, tt)
  none_put [] x (suc i) c n f = (f, tt)
  none_put (e ∷ es) x zero c n f = (f, n)
  none_put (e ∷ es) x (suc i) c n f = (n.0, none_put es x i c n.1 f)

  -- an entry that is not smaller than those before the place, and no greater than those from there on
  put_between : (es : List (Cell K V)) (i : ℕ) (c : Cell K V) → Sorted less es → ((j : ℕ) (d : Cell K V) → j < i → j < length es → less c.key (get_or es j d).key ≡ false)
      → ((j : ℕ) (d : Cell K V) → i ≤ j → j < length es → less (get_or es j d).key c.key ≡ false) → Sorted less (take i es ++ c ∷ drop i es)
  put_between [] zero c s a b = (tt, tt)
  put_between [] (suc i) c s a b = (tt, tt)
  put_between (e ∷ es) zero c s a b = (none_all (e ∷ es) c.key (λ j d lt. b j d (omega arith) lt), s)
  put_between (e ∷ es) (suc i) c s a b = (
    none_put es e.key i c s.0 (a 0 e (omega arith) (omega arith)),
    put_between es i c s.1 (λ j d h lt. a (suc j) d (omega arith) (omega arith)) (λ j d h lt. b (suc j) d (omega arith) (omega arith)),
  )

  pub sorted_put : (es : List (Cell K V)) (i : ℕ) (c : Cell K V) → Sorted less es → smaller less es c.key ≤ i → i ≤ not_greater less es c.key → Sorted less (take i es ++ c ∷ drop i es)
  sorted_put es i c s a b = put_between es i c s (λ j d h lt. up_to_place o es c.key j d s (omega arith)) (λ j d h lt. from_place o es c.key j d s (omega arith) lt)

  none_take : (es : List (Cell K V)) (x : K) (i : ℕ) → NoneSmaller less x es → NoneSmaller less x (take i es ++ drop (suc i) es)
  none_take [] x zero n = tt
  none_take [] x (suc i) n = tt
  none_take (e ∷ es) x zero n = n.1
  none_take (e ∷ es) x (suc i) n = (n.0, none_take es x i n.1)

  pub sorted_take : (es : List (Cell K V)) (i : ℕ) → Sorted less es → Sorted less (take i es ++ drop (suc i) es)
  sorted_take [] zero s = tt
  sorted_take [] (suc i) s = tt
  sorted_take (e ∷ es) zero s = s.1
  sorted_take (e ∷ es) (suc i) s = (none_take es e.key i s.0, sorted_take es i s.1)

  none_set : (es : List (Cell K V)) (x : K) (i : ℕ) (c d : Cell K V) → NoneSmaller less x es → c.key ≡ (get_or es i d).key → NoneSmaller less x (set es i c)
  none_set [] x i c d n q = tt
  none_set (e ∷ es) x zero c d n q = (ap (λ y. less y x) q ∙ n.0, n.1)
  none_set (e ∷ es) x (suc i) c d n q = (n.0, none_set es x i c d n.1 q)

  pub sorted_set : (es : List (Cell K V)) (i : ℕ) (c d : Cell K V) → Sorted less es → c.key ≡ (get_or es i d).key → Sorted less (set es i c)
  sorted_set [] i c d s q = tt
  sorted_set (e ∷ es) zero c d s q = let P : K → Type 0 = λ y. NoneSmaller less y es in (subst P (sym q) s.0, s.1)
  sorted_set (e ∷ es) (suc i) c d s q = (none_set es e.key i c d s.0 q, sorted_set es i c d s.1 q)
