-- One ring, the rings of all blocks, and the block in which an item stands.
use Rattle.std.proofs.Common.{◌≡◌, ℕ, suc, ◌+◌, ◌-◌, ◌*◌, ◌<◌, ◌≤◌, min, ◌⊎◌, List, [], ◌∷◌, ◌++◌, length, get_or, take, drop, set, sym, refl, ap, ◌∙◌, subst, inl, inr, suc-mul, zero-mul, arith}
use lib.Seq.{take-set-lt}
use borrow.Rule.Slice.PartMut.{put_mid}
use Rattle.std.proofs.lemmas.List.{take_at, drop_at, append_assoc, append-nil, take-append-drop, take-append-le, drop-append-le, length-take-le, length-drop, length-append, length-take, nil_from_length, take_all, drop_all, set_split, set-get_or, set-append_left, set-append_right, drop-set-add, drop-set-lt, take-set-le, length-set, get_or_default, get_or_append_left, get_or-append_right, get_or-take, get_or-drop}
use Rattle.std.proofs.lemmas.Bool.{cases_lt}
use Rattle.row.specs.Rings.{ring, rings}
use Rattle.std.specs.List.{insert}
use Rattle.row.proofs.Lists.{put_back, set_mid, inserted_mid}

-- the item at place o of a ring of k cells stands in its cell `at`
abbrev pub InRing : ℕ → ℕ → ℕ → ℕ → Type 0
InRing h o k at = ((h + o < k) × (at ≡ h + o)) ⊎ ((k ≤ h + o) × (at ≡ h + o - k))

pub in_ring_below : (h o k at : ℕ) → h ≤ k → o < k → InRing h o k at → at < k
in_ring_below h o k at hl lt (inl v) = omega (arith, v.0, v.1)
in_ring_below h o k at hl lt (inr v) = omega (arith, v.0, v.1)

module _ {X : Type 0} where
  -- one ring
  pub length-ring : (h : ℕ) (z : List X) → length (ring h z) ≡ length z
  length-ring h z = simp (length-append, length-drop, length-take) (omega arith)

  pub ring_near : (h o : ℕ) (z : List X) (d : X) → h + o < length z → get_or (ring h z) o d ≡ get_or z (h + o) d
  ring_near h o z d lt = get_or_append_left (drop h z) (take h z) d o (simp length-drop (omega arith)) ∙ get_or-drop h z o d

  pub ring_far : (h o : ℕ) (z : List X) (d : X) → h ≤ length z → length z ≤ h + o → o < length z → get_or (ring h z) o d ≡ get_or z (h + o - length z) d
  ring_far h o z d hl le lt =
      let n : o - (length z - h) ≡ h + o - length z = omega arith in
      get_or-append_right (drop h z) (take h z) (length z - h) o d (length-drop h z) (omega arith) ∙ ap (λ (v : ℕ). get_or (take h z) v d) n ∙ get_or-take h z (h + o - length z) d (omega arith)

  pub ring_read : (h o at k : ℕ) (z : List X) (d : X) → h ≤ k → o < k → length z ≡ k → InRing h o k at → get_or (ring h z) o d ≡ get_or z at d
  ring_read h o at k z d hl lt lz (inl v) = ring_near h o z d (omega (arith, v.0)) ∙ ap (λ (n : ℕ). get_or z n d) (sym v.1)
  ring_read h o at k z d hl lt lz (inr v) = ring_far h o z d (omega arith) (omega (arith, v.0)) (omega arith) ∙ ap (λ (n : ℕ). get_or z n d) (omega (arith, v.1))

  ring_set_near : (h o : ℕ) (z : List X) (x : X) → h + o < length z → ring h (set z (h + o) x) ≡ set (ring h z) o x
  ring_set_near h o z x lt =
      let l : o < length (drop h z) = simp length-drop (omega arith) in
      rw (drop-set-add h z o x, take-set-le h z (h + o) x (omega arith), set-append_left (drop h z) (take h z) o x l)

  ring_set_far : (h o : ℕ) (z : List X) (x : X) → h ≤ length z → length z ≤ h + o → o < length z → ring h (set z (h + o - length z) x) ≡ set (ring h z) o x
  ring_set_far h o z x hl le lt =
      let n : o - (length z - h) ≡ h + o - length z = omega arith in
      let s : set (ring h z) o x ≡ drop h z ++ set (take h z) (o - (length z - h)) x = set-append_right (drop h z) (take h z) (length z - h) o x (length-drop h z) (omega arith) in
      rw (drop-set-lt h z (h + o - length z) x (omega arith), take-set-lt h z (h + o - length z) x (omega arith)) (sym (s ∙ ap (λ (v : ℕ). drop h z ++ set (take h z) v x) n))

  ring_written : (h o at k : ℕ) (z : List X) (x : X) → h ≤ k → o < k → length z ≡ k → InRing h o k at → ring h (set z at x) ≡ set (ring h z) o x
  ring_written h o at k z x hl lt lz (inl v) = ap (λ (n : ℕ). ring h (set z n x)) v.1 ∙ ring_set_near h o z x (omega (arith, v.0))
  ring_written h o at k z x hl lt lz (inr v) = ap (λ (n : ℕ). ring h (set z n x)) (omega (arith, v.1)) ∙ ring_set_far h o z x (omega arith) (omega (arith, v.0)) (omega arith)

  -- all rings
  pub length-rings : (w : ℕ) (hs : List ℕ) (c : List X) → length (rings w hs c) ≡ length c
  length-rings w [] c = refl
  length-rings w (h ∷ hs) c =
      let l = length-append (take w c) (drop w c) in
      let s = ap length (take-append-drop w c) in
      let i = length-rings w hs (drop w c) in
      length-append (ring h (take w c)) (rings w hs (drop w c)) ∙ omega (arith, length-ring h (take w c))

  rings-append : (w : ℕ) (hs gs : List ℕ) (c d : List X) → length c ≡ length hs * w → rings w (hs ++ gs) (c ++ d) ≡ rings w hs c ++ rings w gs d
  rings-append w [] gs c d e =
      let n : c ≡ [] = nil_from_length c (e ∙ zero-mul w) in
      rw n
  rings-append w (h ∷ hs) gs c d e =
      let m = suc-mul (length hs) w in
      let le : w ≤ length c = omega arith in
      let t = take-append-le w c d le in
      let r = drop-append-le w c d le in
      let l : length (drop w c) ≡ length hs * w = simp length-drop (omega arith) in
      let i = rings-append w hs gs (drop w c) d l in
      rw (t, r, i) (sym (append_assoc (ring h (take w c)) (rings w hs (drop w c)) (rings w gs d)))

  rings-first : (w h : ℕ) (hs : List ℕ) (z t : List X) → length z ≤ w → (length z ≡ w) ⊎ (length t ≡ 0) → rings w (h ∷ hs) (z ++ t) ≡ ring h z ++ rings w hs t
  rings-first w h hs z t le (inl e) = rw (take_at z t w e, drop_at z t w e)
  rings-first w h hs z t le (inr e) =
      let n : t ≡ [] = nil_from_length t e in
      let P : List X → Type 0 = λ t. rings w (h ∷ hs) (z ++ t) ≡ ring h z ++ rings w hs t in
      let a : z ++ [] ≡ z = append-nil z in
      subst P (sym n) (rw (a, take_all w z le, drop_all w z le))

  -- what stands before a block, and behind it
  abbrev pub front : ℕ → List ℕ → ℕ → ℕ → List X → List X
  front w hs b s cells = rings w (take b hs) (take s cells)

  abbrev pub back : ℕ → List ℕ → ℕ → ℕ → ℕ → List X → List X
  back w hs b s k cells = rings w (drop (suc b) hs) (drop k (drop s cells))

  -- all rings up to the last head, and the cells past it
  pub rings-past : (w : ℕ) (hs : List ℕ) (c : List X) (m : ℕ) → m ≡ min (length c) (length hs * w) → rings w hs c ≡ rings w hs (take m c) ++ drop m c
  rings-past w hs c m e =
      elim (cases_lt (length hs * w) (length c)) [
        | inl l ↦ (let lt : length (take m c) ≡ length hs * w = length-take-le m c (omega arith) ∙ omega arith in
            let r = rings-append w hs [] (take m c) (drop m c) lt in
            rw (append-nil hs, take-append-drop m c) at r)
        | inr l ↦ rw (take_all m c (omega arith), drop_all m c (omega arith)) (sym (append-nil (rings w hs c)))
      ]

  -- a block of k cells, and what stands around it
  pub record Block (w : ℕ) (hs : List ℕ) (cells : List X) (b s k : ℕ) : Type 0 where
    pub start : s ≡ b * w
    pub named : b < length hs
    pub head : get_or hs b 0 < k
    pub within : s + k ≤ length cells
    pub small : k ≤ w
    pub whole : (k ≡ w) ⊎ (length (drop k (drop s cells)) ≡ 0)

  module _ {w : ℕ} {hs : List ℕ} {c : List X} {b s k : ℕ} (B : Block w hs c b s k) where
    pub length_block : length (take k (drop s c)) ≡ k
    length_block = length-take-le k (drop s c) (rw length-drop (omega (arith, B.within)))

    pub length_front : length (front w hs b s c) ≡ s
    length_front = length-rings w (take b hs) (take s c) ∙ length-take-le s c (omega (arith, B.within))

    pub rings-at : (h : ℕ) (z : List X) → length z ≡ k → rings w (set hs b h) (put_mid s k c z) ≡ front w hs b s c ++ (ring h z ++ back w hs b s k c)
    rings-at h z lz =
        let n : b < length hs = B.named in
        let l : length (take b hs) ≡ b = length-take-le b hs (omega arith) in
        let m : length (take s c) ≡ length (take b hs) * w = rw l (length-take-le s c (omega (arith, B.within)) ∙ B.start) in
        let p = set_split hs b h n in
        let a = rings-append w (take b hs) (h ∷ drop (suc b) hs) (take s c) (z ++ drop k (drop s c)) m in
        let wh : (length z ≡ w) ⊎ (length (drop k (drop s c)) ≡ 0) = rw lz B.whole in
        let f = rings-first w h (drop (suc b) hs) z (drop k (drop s c)) (omega (arith, B.small)) wh in
        rw p (a ∙ ap (λ (t : List X). front w hs b s c ++ t) f)

    -- the cells as they stand
    pub rings-here : rings w hs c ≡ front w hs b s c ++ (ring (get_or hs b 0) (take k (drop s c)) ++ back w hs b s k c)
    rings-here =
        let z = take k (drop s c) in
        let e : put_mid s k c z ≡ c = put_back c s k in
        let g : set hs b (get_or hs b 0) ≡ hs = set-get_or hs b 0 in
        ap (λ (t : List X). rings w hs t) (sym e) ∙ ap (λ (t : List ℕ). rings w t (put_mid s k c z)) (sym g) ∙ rings-at (get_or hs b 0) z length_block

    -- the items of a block
    pub of_block : (o : ℕ) (d : X) → o < k → get_or (rings w hs c) (s + o) d ≡ get_or (ring (get_or hs b 0) (take k (drop s c))) o d
    of_block o d ol =
        let h = get_or hs b 0 in
        let z = take k (drop s c) in
        let lr : length (ring h z) ≡ k = length-ring h z ∙ length_block in
        let po : s + o - s ≡ o = omega arith in
        ap (λ (t : List X). get_or t (s + o) d) rings-here
        ∙ get_or-append_right (front w hs b s c) (ring h z ++ back w hs b s k c) s (s + o) d length_front (omega arith)
        ∙ ap (λ (n : ℕ). get_or (ring h z ++ back w hs b s k c) n d) po
        ∙ get_or_append_left (ring h z) (back w hs b s k c) d o (omega arith)

    -- the cell where an item stands
    pub read : (o at p : ℕ) (d : X) → o < k → InRing (get_or hs b 0) o k at → p ≡ s + o → get_or (rings w hs c) p d ≡ get_or c (s + at) d
    read o at p d ol way q =
        let h = get_or hs b 0 in
        let hl : h ≤ k = omega (arith, B.head) in
        ap (λ (n : ℕ). get_or (rings w hs c) n d) q
        ∙ of_block o d ol
        ∙ ring_read h o at k (take k (drop s c)) d hl ol length_block way
        ∙ get_or-take k (drop s c) at d (in_ring_below h o k at hl ol way) ∙ get_or-drop s c at d

    -- a write to a cell of the block
    pub parted : (at : ℕ) (x : X) → at < k → set c (s + at) x ≡ put_mid s k c (set (take k (drop s c)) at x)
    parted at x al =
        let z = take k (drop s c) in
        let lz : length z ≡ k = length_block in
        let ls : length (take s c) ≡ s = length-take-le s c (omega (arith, B.within)) in
        ap (λ (t : List X). set t (s + at) x) (sym (put_back c s k)) ∙ set_mid (take s c) z (drop k (drop s c)) s at (s + at) x ls (omega arith) refl

    -- a write to the cell where an item stands changes that item alone
    pub written : (o at p : ℕ) (x : X) → o < k → InRing (get_or hs b 0) o k at → p ≡ s + o → rings w hs (set c (s + at) x) ≡ set (rings w hs c) p x
    written o at p x ol way q =
        let h = get_or hs b 0 in
        let hl : h ≤ k = omega (arith, B.head) in
        let z = take k (drop s c) in
        let lz : length z ≡ k = length_block in
        let lr : length (ring h z) ≡ k = length-ring h z ∙ lz in
        ap (λ (t : List X). rings w hs t) (parted at x (in_ring_below h o k at hl ol way))
        ∙ ap (λ (t : List ℕ). rings w t (put_mid s k c (set z at x))) (sym (set-get_or hs b 0)) ∙ rings-at h (set z at x) (length-set z at x ∙ lz)
        ∙ ap (λ (t : List X). front w hs b s c ++ (t ++ back w hs b s k c)) (ring_written h o at k z x hl ol lz way)
        ∙ sym (set_mid (front w hs b s c) (ring h z) (back w hs b s k c) s o p x length_front (omega arith) q)
        ∙ ap (λ (t : List X). set t p x) (sym rings-here)

    -- a block takes x in at one place, and lets y out at another: its head is h then
    pub passed : (h to to' p p' : ℕ) (z : List X) (x y : X) → length z ≡ k → to ≤ k → to' ≤ k → p ≡ s + to → p' ≡ s + to'
        → insert (ring (get_or hs b 0) (take k (drop s c))) to x ≡ insert (ring h z) to' y
        → insert (rings w hs c) p x ≡ insert (rings w (set hs b h) (put_mid s k c z)) p' y
    passed h to to' p p' z x y lz le le' q q' e =
        let r = ring (get_or hs b 0) (take k (drop s c)) in
        let u = front w hs b s c in
        let v = back w hs b s k c in
        let l0 : to ≤ length r = omega (arith, length-ring (get_or hs b 0) (take k (drop s c)), length_block) in
        let l1 : to' ≤ length (ring h z) = rw length-ring (omega arith) in
        ap (λ (n : ℕ). insert (rings w hs c) n x) q
        ∙ ap (λ (t : List X). insert t (s + to) x) rings-here ∙ inserted_mid u r v s to x length_front l0
        ∙ ap (λ (t : List X). u ++ (t ++ v)) e
        ∙ sym (inserted_mid u (ring h z) v s to' y length_front l1) ∙ ap (λ (t : List X). insert t (s + to') y) (sym (rings-at h z lz))
        ∙ ap (λ (n : ℕ). insert (rings w (set hs b h) (put_mid s k c z)) n y) (sym q')

    -- the same where the head stays
    pub passed_on : (to to' p p' : ℕ) (z : List X) (x y : X) → length z ≡ k → to ≤ k → to' ≤ k → p ≡ s + to → p' ≡ s + to'
        → insert (ring (get_or hs b 0) (take k (drop s c))) to x ≡ insert (ring (get_or hs b 0) z) to' y
        → insert (rings w hs c) p x ≡ insert (rings w hs (put_mid s k c z)) p' y
    passed_on to to' p p' z x y lz le le' q q' e =
        passed (get_or hs b 0) to to' p p' z x y lz le le' q q' e ∙ ap (λ (t : List ℕ). insert (rings w t (put_mid s k c z)) p' y) (set-get_or hs b 0)

    -- the same where one cell of the block is written
    pub turned : (at h to to' p p' : ℕ) (x y : X) → at < k → to ≤ k → to' ≤ k → p ≡ s + to → p' ≡ s + to'
        → insert (ring (get_or hs b 0) (take k (drop s c))) to x ≡ insert (ring h (set (take k (drop s c)) at x)) to' y
        → insert (rings w hs c) p x ≡ insert (rings w (set hs b h) (set c (s + at) x)) p' y
    turned at h to to' p p' x y al le le' q q' e =
        let z = take k (drop s c) in
        passed h to to' p p' (set z at x) x y (length-set z at x ∙ length_block) le le' q q' e ∙ ap (λ (t : List X). insert (rings w (set hs b h) t) p' y) (sym (parted at x al))

    -- a cell of the block, read
    pub cell_in : (at : ℕ) (d d' : X) → at < k → get_or c (s + at) d ≡ get_or (take k (drop s c)) at d'
    cell_in at d d' al = get_or_default c (s + at) d d' (omega (arith, B.within)) ∙ sym (get_or-take k (drop s c) at d' al ∙ get_or-drop s c at d')
