-- Laws of lists that are threaded through cells.
use Rattle.std.proofs.Common.{◌≡◌, ℕ, zero, suc, ◌+◌, ◌<◌, ◌≤◌, ◌≢◌, List, [], ◌∷◌, ◌++◌, length, Some, None, Option, sym, refl, ap, ◌∙◌, ⊎_elim, arith, length-append}
use Rattle.std.proofs.Props.{props}
use Rattle.std.specs.List.{AllByRecursion}
use Rattle.std.proofs.ByRecursion.{All-append, All-weaker}
use Rattle.std.proofs.lemmas.Bool.{cases_eq}
use Rattle.hashed.specs.Links.{walk, Linked, onto, collected, gathered, front}

-- ---- parts of All
pub all_left : {X : Type 0} (P : X → Type 0) (xs ys : List X) → AllByRecursion P (xs ++ ys) → AllByRecursion P xs
all_left P [] ys h = tt
all_left P (x ∷ xs) ys h = (h.0, all_left P xs ys h.1)

pub all_right : {X : Type 0} (P : X → Type 0) (xs ys : List X) → AllByRecursion P (xs ++ ys) → AllByRecursion P ys
all_right P [] ys h = h
all_right P (x ∷ xs) ys h = all_right P xs ys h.1

-- two facts of each element give a third
pub all_both : {X : Type 0} (P Q R : X → Type 0) → ((x : X) → P x → Q x → R x) → (xs : List X) → AllByRecursion P xs → AllByRecursion Q xs → AllByRecursion R xs
all_both P Q R f [] p q = tt
all_both P Q R f (x ∷ xs) p q = (f x p.0 q.0, all_both P Q R f xs p.1 q.1)

-- that links lead through a list has one proof at most
pub Linked-prop : (next : ℕ → Option ℕ) (l : Option ℕ) (xs : List ℕ) → IsProp (Linked next l xs)
Linked-prop next l [] = hlevel props
Linked-prop next l (x ∷ xs) = hlevel (Linked-prop next (next x) xs, props)

-- ---- what a walk gives
pub walk-linked : (next : ℕ → Option ℕ) (f : ℕ) (l : Option ℕ) (xs : List ℕ) → Linked next l xs → length xs ≤ f → walk next f l ≡ xs
walk-linked next zero l [] c h = refl
walk-linked next zero l (x ∷ xs) c h = absurd (omega arith)
walk-linked next (suc f) l [] c h = ap (walk next (suc f)) c
walk-linked next (suc f) l (x ∷ xs) c h =
    ap (walk next (suc f)) c.0 ∙ ap (λ r. x ∷ r) (walk-linked next f (next x) xs c.2 (omega arith))

-- ---- a change elsewhere
pub linked_frame : (next next' : ℕ → Option ℕ) (l : Option ℕ) (xs : List ℕ) → AllByRecursion (λ z. next' z ≡ next z) xs → Linked next l xs → Linked next' l xs
linked_frame next next' l [] h c = c
linked_frame next next' l (x ∷ xs) h c =
    (c.0, c.1, rw h.0 (linked_frame next next' (next x) xs h.1 c.2))

pub collected_frame : {E : Type 0} (held held' : ℕ → Option E) (xs : List ℕ) → AllByRecursion (λ z. held' z ≡ held z) xs → collected held' xs ≡ collected held xs
collected_frame held held' [] h = refl
collected_frame held held' (x ∷ xs) h = rw h.0 (ap (onto (held x)) (collected_frame held held' xs h.1))

onto-append : {E : Type 0} (o : Option E) (es fs : List E) → onto o (es ++ fs) ≡ onto o es ++ fs
onto-append None es fs = refl
onto-append (Some e) es fs = refl

pub collected-append : {E : Type 0} (held : ℕ → Option E) (xs ys : List ℕ) → collected held (xs ++ ys) ≡ collected held xs ++ collected held ys
collected-append held [] ys = refl
collected-append held (x ∷ xs) ys =
    ap (onto (held x)) (collected-append held xs ys) ∙ onto-append (held x) (collected held xs) (collected held ys)

-- ---- the cells of a list differ
pub linked_apart : (next : ℕ → Option ℕ) (l : Option ℕ) (xs : List ℕ) (y : ℕ) (ys : List ℕ) → Linked next l (xs ++ y ∷ ys) → AllByRecursion (λ z. z ≢ y) xs
linked_apart next l [] y ys c = tt
linked_apart next l (x ∷ xs) y ys c =
    (λ e. (all_right (λ z. z ≢ x) xs (y ∷ ys) c.1).0 (sym e), linked_apart next (next x) xs y ys c.2)

pub linked_after : (next : ℕ → Option ℕ) (l : Option ℕ) (xs : List ℕ) (y : ℕ) (ys : List ℕ) → Linked next l (xs ++ y ∷ ys) → AllByRecursion (λ z. z ≢ y) ys × Linked next (next y) ys
linked_after next l [] y ys c = (c.1, c.2)
linked_after next l (x ∷ xs) y ys c = linked_after next (next x) xs y ys c.2

-- ---- a cell comes in
module _ (next next' : ℕ → Option ℕ) (x : ℕ) where
  -- at the front
  pub linked-front : (l : Option ℕ) (xs : List ℕ) → Linked next l xs → AllByRecursion (λ z. z ≢ x) xs → next' x ≡ l
      → ((z : ℕ) → z ≢ x → next' z ≡ next z) → Linked next' (Some x) (x ∷ xs)
  linked-front l xs c out here same =
      (refl, out, rw here (linked_frame next next' l xs (All-weaker (λ z. z ≢ x) (λ z. next' z ≡ next z) same xs out) c))

  -- behind y
  pub linked-insert : (y : ℕ) (l : Option ℕ) (pre post : List ℕ) → Linked next l (pre ++ y ∷ post) → AllByRecursion (λ z. z ≢ x) (pre ++ y ∷ post)
      → next' y ≡ Some x → next' x ≡ next y → ((z : ℕ) → z ≢ x → z ≢ y → next' z ≡ next z) → Linked next' l (pre ++ y ∷ x ∷ post)
  linked-insert y l [] post c out to on same = (
    c.0,
    (λ e. out.0 (sym e), c.1),
    (
      to,
      out.1,
      rw on (linked_frame next next' (next y) post
          (all_both (λ z. z ≢ x) (λ z. z ≢ y) (λ z. next' z ≡ next z) same post out.1 c.1) c.2),
    ),
  )
  linked-insert y l (p ∷ ps) post c out to on same =
      let apart : AllByRecursion (λ z. z ≢ p) ps × AllByRecursion (λ z. z ≢ p) (y ∷ post) =
      (all_left (λ z. z ≢ p) ps (y ∷ post) c.1, all_right (λ z. z ≢ p) ps (y ∷ post) c.1) in (
        c.0,
        All-append (λ z. z ≢ p) ps (y ∷ x ∷ post) apart.0 (apart.1.0, (λ e. out.0 (sym e), apart.1.1)),
        rw (same p out.0 (λ e. apart.1.0 (sym e))) (linked-insert y (next p) ps post c.2 out.1 to on same),
      )

  -- ---- a cell goes out, from behind y
  pub linked-remove : (y : ℕ) (l : Option ℕ) (pre post : List ℕ) → Linked next l (pre ++ y ∷ x ∷ post)
      → next' y ≡ next x → ((z : ℕ) → z ≢ x → z ≢ y → next' z ≡ next z) → Linked next' l (pre ++ y ∷ post)
  linked-remove y l [] post c to same = (
    c.0,
    c.1.1,
    rw to (linked_frame next next' (next x) post
        (all_both (λ z. z ≢ x) (λ z. z ≢ y) (λ z. next' z ≡ next z) same post c.2.1 c.1.1) c.2.2),
  )
  linked-remove y l (p ∷ ps) post c to same =
      let l : AllByRecursion (λ z. z ≢ p) ps = all_left (λ z. z ≢ p) ps (y ∷ x ∷ post) c.1 in
      let r : AllByRecursion (λ z. z ≢ p) (y ∷ x ∷ post) = all_right (λ z. z ≢ p) ps (y ∷ x ∷ post) c.1 in (
        c.0,
        All-append (λ z. z ≢ p) ps (y ∷ post) l (r.0, r.1.1),
        rw (same p (λ e. r.1.0 (sym e)) (λ e. r.0 (sym e))) (linked-remove y (next p) ps post c.2 to same),
      )

-- ---- lists one after the other
pub gathered-same : {E : Type 0} (f g : ℕ → List E) (n : ℕ) → ((b : ℕ) → b < n → g b ≡ f b) → gathered g n ≡ gathered f n
gathered-same f g zero h = refl
gathered-same f g (suc n) h = rw (h n (omega arith), gathered-same f g n (λ b l. h b (omega arith)))

pub gathered-most : {E : Type 0} (f : ℕ → List E) (n b : ℕ) → b < n → length (f b) ≤ length (gathered f n)
gathered-most f zero b h = absurd (omega arith)
gathered-most f (suc n) b h =
    rw length-append (⊎_elim (λ e. rw e (omega arith)) (λ no. let i = gathered-most f n b (omega arith) in omega arith) (cases_eq b n))

-- the size where one list gains or loses
pub gathered_change : {E : Type 0} (f g : ℕ → List E) (n b : ℕ) → b < n → ((c : ℕ) → c < n → c ≢ b → g c ≡ f c)
    → length (gathered g n) + length (f b) ≡ length (gathered f n) + length (g b)
gathered_change f g zero b h same = absurd (omega arith)
gathered_change f g (suc n) b h same =
    simp length-append
    (⊎_elim
    (λ (e : b ≡ n).
    let q : gathered g n ≡ gathered f n = gathered-same f g n (λ c l. same c (omega arith) (λ d. absurd (omega arith))) in
    rw (q, ← e) (omega arith))
    (λ (no : b ≢ n).
    let i = gathered_change f g n b (omega arith) (λ c l. same c (omega arith)) in
    rw (same n (omega arith) (λ e. no (sym e))) (omega arith))
    (cases_eq b n))

pub walk-length : (next : ℕ → Option ℕ) (f : ℕ) (l : Option ℕ) → length (walk next f l) ≤ f
walk-length next zero l = omega arith
walk-length next (suc f) None = omega arith
walk-length next (suc f) (Some x) = let i = walk-length next f (next x) in omega arith

pub linked_start : (next : ℕ → Option ℕ) (l : Option ℕ) (xs : List ℕ) → Linked next l xs → l ≡ front xs
linked_start next l [] c = c
linked_start next l (x ∷ xs) c = c.0

-- the first cell of a list that a link leads to
pub first_left : (next : ℕ → Option ℕ) (l : Option ℕ) (x : ℕ) (xs : List ℕ) → Linked next l xs → l ≡ Some x → (ys : List ℕ) × (xs ≡ x ∷ ys)
first_left next l x [] c e = absurd cc
first_left next l x (y ∷ ys) c e = let q : y ≡ x = cc (c.0, e) in (ys, ap (λ w. w ∷ ys) q)
