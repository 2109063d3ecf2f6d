-- What a shift of a run of cells leaves, and a cell put into or taken out of a ring.
use Rattle.std.proofs.Common.{◌≡◌, ℕ, zero, suc, ◌+◌, ◌-◌, ◌<◌, ◌≤◌, ◌⊎◌, List, [], ◌∷◌, ◌++◌, Some, length, get_or, take, drop, set, sym, refl, ap, ◌∙◌, subst, inl, inr, arith}
use lib.Seq.{take-append-add, paste}
use borrow.Rule.Slice.PartMut.{put_mid}
use Rattle.std.specs.List.{insert, slice_get}
use Rattle.std.proofs.lemmas.Option.{slice_get_past, get_or_from_slice_get}
use Rattle.std.proofs.lemmas.List.{take_at, drop_at, set_at, append_assoc, append-nil, take-append-drop, drop_more, take_more, drop-drop, length-take-le, length-drop, length-append, take_all, drop_all, set-set, set-get_or, get_or-set_same, drop-set, take-set, length-set}
use Rattle.std.proofs.lemmas.List.Edits.{length-insert}
use Rattle.row.proofs.Lists.{inserted_mid, length_put_mid, put_back}
use Rattle.row.proofs.Rings.{length-ring}
use Rattle.row.specs.Rings.{ring}

module _ {X : Type 0} where
  pub up : (r s : List X) (x y : X) → slice_get r (length r - 1) ≡ Some y → s ≡ paste r 1 r (length r - 1 - 0) → x ∷ r ≡ set s 0 x ++ y ∷ []
  up [] s x y h e = let z = slice_get_past {X = X} [] (length {A = X} [] - 1) (omega arith) in cc
  up (z ∷ r) s x y h e =
      let g : y ≡ get_or (z ∷ r) (length (z ∷ r) - 1) y = sym (get_or_from_slice_get (z ∷ r) (length (z ∷ r) - 1) y y h) in
      let n : length (z ∷ r) - 1 - 0 ≡ length r = omega arith in
      let m : length (z ∷ r) - 1 ≡ length r = omega arith in
      let k : 1 + length r ≡ suc (length r) = omega arith in
      let q : drop (length r) r ≡ [] = drop_all (length r) r (omega arith) in
      let t : take (length r + 1) (z ∷ r) ≡ take (length r) (z ∷ r) ++ get_or (z ∷ r) (length r) y ∷ [] = take_more (z ∷ r) (length r) y (omega arith) in
      let a : take (length r + 1) (z ∷ r) ≡ z ∷ r = take_all (length r + 1) (z ∷ r) (omega arith) in
      let f : paste (z ∷ r) 1 (z ∷ r) (length r) ≡ z ∷ take (length r) (z ∷ r) = rw (k, q) (ap (λ (t : List X). z ∷ t) (append-nil (take (length r) (z ∷ r)))) in
      let e' : s ≡ z ∷ take (length r) (z ∷ r) = e ∙ rw n f in
      let g' : y ≡ get_or (z ∷ r) (length r) y = rw m at g in
      rw e' (ap (λ (t : List X). x ∷ t) (sym a ∙ t ∙ ap (λ (v : X). take (length r) (z ∷ r) ++ v ∷ []) (sym g')))

  pub down : (r s : List X) (x y : X) → slice_get r 0 ≡ Some y → s ≡ paste r 0 (drop 1 r) (length r - 1) → r ++ x ∷ [] ≡ y ∷ set s (length r - 1) x
  down [] s x y h e = let z = slice_get_past {X = X} [] 0 (omega arith) in cc
  down (z ∷ r) s x y h e =
      let g : y ≡ get_or (z ∷ r) 0 y = sym (get_or_from_slice_get (z ∷ r) 0 y y h) in
      let m : length (z ∷ r) - 1 ≡ length r = omega arith in
      let k : 0 + length r ≡ length r = omega arith in
      let a : take (length r) r ≡ r = take_all (length r) r (omega arith) in
      let q : drop (length r) (z ∷ r) ≡ get_or (z ∷ r) (length r) z ∷ drop (length r + 1) (z ∷ r) = drop_more (z ∷ r) (length r) z (omega arith) in
      let f : paste (z ∷ r) 0 r (length r) ≡ r ++ get_or (z ∷ r) (length r) z ∷ drop (length r + 1) (z ∷ r) = rw (k, a, q) in
      let d : drop (length r + 1) (z ∷ r) ≡ [] = drop_all (length r + 1) (z ∷ r) (omega arith) in
      let e' : s ≡ r ++ get_or (z ∷ r) (length r) z ∷ [] = e ∙ rw m (f ∙ rw d) in
      rw (m, e', g) (ap (λ (t : List X). z ∷ t) (sym (set_at r (get_or (z ∷ r) (length r) z) [] x (length r) refl)))

  inserted-at : (p q : List X) (n : ℕ) (x : X) → length p ≡ n → insert (p ++ q) n x ≡ p ++ x ∷ q
  inserted-at p q n x e = rw (take_at p q n e, drop_at p q n e)

  inserted_end : (z : List X) (n : ℕ) (x : X) → length z ≡ n → insert z n x ≡ z ++ x ∷ []
  inserted_end z n x e = rw (take_all n z (omega arith), drop_all n z (omega arith))

  ring-at : (h : ℕ) (p q : List X) → length p ≡ h → ring h (p ++ q) ≡ q ++ p
  ring-at h p q e = rw (take_at p q h e, drop_at p q h e)

  same_length : (r s : List X) (x y : X) → x ∷ r ≡ s ++ y ∷ [] → length s ≡ length r
  same_length r s x y e = let l = ap length e ∙ length-append s (y ∷ []) in omega arith

  -- a run of a ring takes x in before it, and lets y out behind it
  run_in : (p d u t : List X) (to k : ℕ) (x y : X) → length p ≡ to → length d ≡ k → x ∷ d ≡ u ++ y ∷ [] → insert (p ++ (d ++ t)) to x ≡ insert (p ++ (u ++ t)) (to + k) y
  run_in p d u t to k x y lp ld e =
      let lu : length u ≡ k = same_length d u x y e ∙ ld in
      let a : insert (p ++ (u ++ t)) (to + k) y ≡ p ++ (insert u k y ++ t) = inserted_mid p u t to k y lp (omega arith) in
      let b : insert u k y ≡ u ++ y ∷ [] = inserted_end u k y lu in
      inserted-at p (d ++ t) to x lp ∙ ap (λ (v : List X). p ++ (v ++ t)) (e ∙ sym b) ∙ sym a

  -- a ring around a run between the head and the end of the block
  near_ring : (z : List X) (h to a k : ℕ) (u : List X) → a ≡ h + to → a + k ≤ length z → ring h (put_mid a k z u) ≡ take to (drop h z) ++ (u ++ (drop k (drop a z) ++ take h z))
  near_ring z h to a k u e le =
      let p = take h z in
      let c = take to (drop h z) in
      let f = drop k (drop a z) in
      let lp : length p ≡ h = length-take-le h z (omega arith) in
      let t : take (length p + to) (p ++ drop h z) ≡ p ++ c = take-append-add p (drop h z) to in
      let m : length p + to ≡ a = omega arith in
      let t' : take a z ≡ p ++ c = rw (m, take-append-drop h z) at t in
      let s : put_mid a k z u ≡ p ++ (c ++ (u ++ f)) = ap (λ (v : List X). v ++ (u ++ f)) t' ∙ append_assoc p c (u ++ f) in
      ap (λ (v : List X). ring h v) s ∙ ring-at h p (c ++ (u ++ f)) lp ∙ append_assoc c (u ++ f) p ∙ ap (λ (v : List X). c ++ v) (append_assoc u f p)

  -- a ring around a run before the head
  far_ring : (z : List X) (h a k : ℕ) (u : List X) → h ≤ length z → a + k ≤ h → length u ≡ k → ring h (put_mid a k z u) ≡ (drop h z ++ take a z) ++ (u ++ take (h - (a + k)) (drop (a + k) z))
  far_ring z h a k u hl le lu =
      let c = take a z in
      let q = drop h z in
      let f = take (h - (a + k)) (drop (a + k) z) in
      let lc : length c ≡ a = length-take-le a z (omega arith) in
      let lf : length f ≡ h - (a + k) = length-take-le (h - (a + k)) (drop (a + k) z) (rw length-drop (omega arith)) in
      let d : drop k (drop a z) ≡ drop (a + k) z = drop-drop k a z in
      let g : drop (h - (a + k)) (drop (a + k) z) ≡ q = drop-drop (h - (a + k)) (a + k) z ∙ (let n : a + k + (h - (a + k)) ≡ h = omega arith in rw n) in
      let w : drop k (drop a z) ≡ f ++ q = d ∙ sym (take-append-drop (h - (a + k)) (drop (a + k) z)) ∙ ap (λ (v : List X). f ++ v) g in
      let s : put_mid a k z u ≡ (c ++ (u ++ f)) ++ q = ap (λ (v : List X). c ++ (u ++ v)) w ∙ ap (λ (v : List X). c ++ v) (sym (append_assoc u f q)) ∙ sym (append_assoc c (u ++ f) q) in
      let l : length (c ++ (u ++ f)) ≡ h = simp length-append (omega arith) in
      ap (λ (v : List X). ring h v) s ∙ ring-at h (c ++ (u ++ f)) q l ∙ sym (append_assoc q c (u ++ f))

  pub near_in : (z : List X) (h to a k p : ℕ) (x y : X) (u : List X) → a ≡ h + to → a + k ≤ length z → p ≡ to + k → x ∷ take k (drop a z) ≡ u ++ y ∷ [] → insert (ring h z) to x ≡ insert (ring h (put_mid a k z u)) p y
  near_in z h to a k p x y u e le q f =
      let d = take k (drop a z) in
      let t = drop k (drop a z) ++ take h z in
      let c = take to (drop h z) in
      let ld : length d ≡ k = length-take-le k (drop a z) (rw length-drop (omega arith)) in
      let lc : length c ≡ to = length-take-le to (drop h z) (rw length-drop (omega arith)) in
      let r0 : ring h z ≡ c ++ (d ++ t) = ap (λ (v : List X). ring h v) (sym (put_back z a k)) ∙ near_ring z h to a k d e le in
      let r1 : ring h (put_mid a k z u) ≡ c ++ (u ++ t) = near_ring z h to a k u e le in
      ap (λ (v : List X). insert v to x) r0 ∙ run_in c d u t to k x y lc ld f ∙ ap (λ (v : ℕ). insert (c ++ (u ++ t)) v y) (sym q) ∙ ap (λ (v : List X). insert v p y) (sym r1)

  pub far_in : (z : List X) (h to a k p : ℕ) (x y : X) (u : List X) → h ≤ length z → to ≡ length z - h + a → a + k ≤ h → p ≡ to + k → x ∷ take k (drop a z) ≡ u ++ y ∷ [] → insert (ring h z) to x ≡ insert (ring h (put_mid a k z u)) p y
  far_in z h to a k p x y u hl e le q f =
      let d = take k (drop a z) in
      let c = drop h z ++ take a z in
      let t = take (h - (a + k)) (drop (a + k) z) in
      let ld : length d ≡ k = length-take-le k (drop a z) (rw length-drop (omega arith)) in
      let lu : length u ≡ k = same_length d u x y f ∙ ld in
      let la : length (take a z) ≡ a = length-take-le a z (omega arith) in
      let lc : length c ≡ to = simp (length-append, length-drop) (omega arith) in
      let r0 : ring h z ≡ c ++ (d ++ t) = ap (λ (v : List X). ring h v) (sym (put_back z a k)) ∙ far_ring z h a k d hl le ld in
      let r1 : ring h (put_mid a k z u) ≡ c ++ (u ++ t) = far_ring z h a k u hl le lu in
      ap (λ (v : List X). insert v to x) r0 ∙ run_in c d u t to k x y lc ld f ∙ ap (λ (v : ℕ). insert (c ++ (u ++ t)) v y) (sym q) ∙ ap (λ (v : List X). insert v p y) (sym r1)

  -- a run that was put in can be read, and put back
  read_back : (z : List X) (a k : ℕ) (u : List X) → length u ≡ k → a + k ≤ length z → (take k (drop a (put_mid a k z u)) ≡ u) × (put_mid a k (put_mid a k z u) (take k (drop a z)) ≡ z)
  read_back z a k u lu le =
      let c = take a z in
      let f = drop k (drop a z) in
      let lc : length c ≡ a = length-take-le a z (omega arith) in
      let e1 : drop a (put_mid a k z u) ≡ u ++ f = drop_at c (u ++ f) a lc in
      let e2 : take a (put_mid a k z u) ≡ c = take_at c (u ++ f) a lc in
      let e3 : drop k (u ++ f) ≡ f = drop_at u f k lu in
      let e4 : drop k (drop a (put_mid a k z u)) ≡ f = ap (λ (v : List X). drop k v) e1 ∙ e3 in
      (ap (λ (v : List X). take k v) e1 ∙ take_at u f k lu, ap (λ (v : List X). v ++ (take k (drop a z) ++ drop k (drop a (put_mid a k z u)))) e2 ∙ ap (λ (v : List X). c ++ (take k (drop a z) ++ v)) e4 ∙ put_back z a k)

  run_length : (z : List X) (a k : ℕ) (u : List X) (x y : X) → a + k ≤ length z → take k (drop a z) ++ x ∷ [] ≡ y ∷ u → length u ≡ k
  run_length z a k u x y le f = sym (same_length u (take k (drop a z)) y x (sym f)) ∙ length-take-le k (drop a z) (rw length-drop (omega arith))

  pub near_out : (z : List X) (h to a k p : ℕ) (x y : X) (u : List X) → a ≡ h + to → a + k ≤ length z → p ≡ to + k → take k (drop a z) ++ x ∷ [] ≡ y ∷ u → insert (ring h z) p x ≡ insert (ring h (put_mid a k z u)) to y
  near_out z h to a k p x y u e le q f =
      let w = put_mid a k z u in
      let lu = run_length z a k u x y le f in
      let n : length w ≡ length z = length_put_mid a k z u lu le in
      let b = read_back z a k u lu le in
      let f' : y ∷ take k (drop a w) ≡ take k (drop a z) ++ x ∷ [] = ap (λ (v : List X). y ∷ v) b.0 ∙ sym f in
      sym (near_in w h to a k p y x (take k (drop a z)) e (omega arith) q f' ∙ ap (λ (v : List X). insert (ring h v) p x) b.1)

  pub far_out : (z : List X) (h to a k p : ℕ) (x y : X) (u : List X) → h ≤ length z → to ≡ length z - h + a → a + k ≤ h → p ≡ to + k → take k (drop a z) ++ x ∷ [] ≡ y ∷ u → insert (ring h z) p x ≡ insert (ring h (put_mid a k z u)) to y
  far_out z h to a k p x y u hl e le q f =
      let w = put_mid a k z u in
      let lu = run_length z a k u x y (omega arith) f in
      let n : length w ≡ length z = length_put_mid a k z u lu (omega arith) in
      let b = read_back z a k u lu (omega arith) in
      let f' : y ∷ take k (drop a w) ≡ take k (drop a z) ++ x ∷ [] = ap (λ (v : List X). y ∷ v) b.0 ∙ sym f in
      sym (far_in w h to a k p y x (take k (drop a z)) (omega arith) (omega arith) le q f' ∙ ap (λ (v : List X). insert (ring h v) p x) b.1)

  -- a ring that ends where its block ends may as well begin there
  pub ring_wrap : (z : List X) → ring 0 z ≡ ring (length z) z
  ring_wrap z = rw (append-nil z, take_all (length z) z (omega arith), drop_all (length z) z (omega arith))

  -- a full ring takes x in at its front, and lets its last cell out: one write, and the head moves back
  pub front_in : (z : List X) (h : ℕ) (x y : X) → h < length z → y ≡ get_or z h y → insert (ring (h + 1) z) 0 x ≡ insert (ring h (set z h x)) (length z) y
  front_in z h x y lt e =
      let t : take (h + 1) z ≡ take h z ++ y ∷ [] = take_more z h y lt ∙ ap (λ (v : X). take h z ++ v ∷ []) (sym e) in
      let a : drop h (set z h x) ≡ x ∷ drop (h + 1) z = drop-set z h x lt in
      let b : take h (set z h x) ≡ take h z = take-set z h x in
      let r : ring h (set z h x) ≡ (x ∷ drop (h + 1) z) ++ take h z = rw (a, b) in
      let l : length (ring h (set z h x)) ≡ length z = length-ring h (set z h x) ∙ length-set z h x in
      let f : insert (ring h (set z h x)) (length z) y ≡ ring h (set z h x) ++ y ∷ [] = inserted_end (ring h (set z h x)) (length z) y l in
      rw t (sym (append_assoc (x ∷ drop (h + 1) z) (take h z) (y ∷ [])) ∙ ap (λ (t : List X). t ++ y ∷ []) (sym r) ∙ sym f)

  insert_twice : (l : List X) (i j : ℕ) (x y : X) → i ≤ j → j ≤ length l → insert (insert l j y) i x ≡ insert (insert l i x) (suc j) y
  insert_twice l zero j x y le lt = refl
  insert_twice l (suc i) zero x y le lt = absurd (omega arith)
  insert_twice [] (suc i) (suc j) x y le lt = absurd (omega arith)
  insert_twice (v ∷ l) (suc i) (suc j) x y le lt = ap (λ (t : List X). v ∷ t) (insert_twice l i j x y (omega arith) (omega arith))

  -- what went in at s, and let y out at e, moved on to a place between them
  pub moved_on : (l m n : List X) (s to e : ℕ) (x y w : X) → s ≤ to → to < e → e ≤ length m → insert l s x ≡ insert m e y → insert m (suc to) x ≡ insert n s w → insert l to x ≡ insert n e y
  moved_on l m n s to zero x y w le lt le' f g = absurd (omega arith)
  moved_on l [] n s to (suc e) x y w le lt le' f g = absurd (omega arith)
  moved_on l (v ∷ m) n zero to (suc e) x y w le lt le' f g =
      let a : l ≡ insert m e y = ap (λ (t : List X). drop 1 t) f in
      let b : n ≡ insert m to x = sym (ap (λ (t : List X). drop 1 t) g) in
      rw (a, b) (insert_twice m to e x y (omega arith) (omega arith))
  moved_on l (v ∷ m) n (suc s) zero (suc e) x y w le lt le' f g = absurd (omega arith)
  moved_on [] (v ∷ m) n (suc s) (suc to) (suc e) x y w le lt le' f g = absurd (let k = ap length f in omega (arith, length-insert m e y))
  moved_on (u ∷ l) (v ∷ m) [] (suc s) (suc to) (suc e) x y w le lt le' f g = absurd (let k = ap length g in omega (arith, length-insert m (suc to) x))
  moved_on (u ∷ l) (v ∷ m) (t ∷ n) (suc s) (suc to) (suc e) x y w le lt le' f g =
      let i = moved_on l m n s to e x y w (omega arith) (omega arith) (omega arith) (ap (λ (t : List X). drop 1 t) f) (ap (λ (t : List X). drop 1 t) g) in
      let h : u ≡ t = cc in
      rw h (ap (λ (r : List X). t ∷ r) i)

  -- a full ring takes x in at its end, and lets its first cell out: one write, and the head moves on
  pub back_in : (z : List X) (h : ℕ) (x y : X) → h < length z → y ≡ get_or z h y → insert (ring h z) (length z) x ≡ insert (ring (h + 1) (set z h x)) 0 y
  back_in z h x y lt e =
      let s : set (set z h x) h y ≡ z = set-set z h x y ∙ ap (λ (v : X). set z h v) e ∙ set-get_or z h y in
      let n : length (set z h x) ≡ length z = length-set z h x in
      let g : x ≡ get_or (set z h x) h x = sym (get_or-set_same z h x x lt) in
      let f = front_in (set z h x) h y x (omega arith) g in
      sym (rw (s, n) at f)

  pub front_in_from : (z : List X) (h b : ℕ) (x y : X) → b < length z → (b + 1 ≡ h) ⊎ ((h ≡ 0) × (b + 1 ≡ length z)) → y ≡ get_or z b y → insert (ring h z) 0 x ≡ insert (ring b (set z b x)) (length z) y
  front_in_from z h b x y lt (inl e) g = let P : ℕ → Type 0 = λ h. insert (ring h z) 0 x ≡ insert (ring b (set z b x)) (length z) y in subst P e (front_in z b x y lt g)
  front_in_from z h b x y lt (inr e) g =
      let w : ring h z ≡ ring (b + 1) z = ap (λ (n : ℕ). ring n z) e.0 ∙ ring_wrap z ∙ ap (λ (n : ℕ). ring n z) (sym e.1) in
      ap (λ (t : List X). x ∷ t) w ∙ front_in z b x y lt g

  pub back_in_to : (z : List X) (h n : ℕ) (x y : X) → h < length z → (n ≡ h + 1) ⊎ ((n ≡ 0) × (h + 1 ≡ length z)) → y ≡ get_or z h y → insert (ring h z) (length z) x ≡ insert (ring n (set z h x)) 0 y
  back_in_to z h n x y lt (inl e) g = let P : ℕ → Type 0 = λ n. insert (ring h z) (length z) x ≡ insert (ring n (set z h x)) 0 y in subst P (sym e) (back_in z h x y lt g)
  back_in_to z h n x y lt (inr e) g =
      let l : h + 1 ≡ length (set z h x) = e.1 ∙ sym (length-set z h x) in
      let w : ring n (set z h x) ≡ ring (h + 1) (set z h x) = ap (λ (n : ℕ). ring n (set z h x)) e.0 ∙ ring_wrap (set z h x) ∙ ap (λ (n : ℕ). ring n (set z h x)) (sym l) in
      back_in z h x y lt g ∙ ap (λ (t : List X). y ∷ t) (sym w)
