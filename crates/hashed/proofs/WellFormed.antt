-- What a change of one bucket's links and of the free cells keeps.
use Rattle.std.proofs.Common.{◌≡◌, ℕ, ◌+◌, ◌<◌, ◌≤◌, cond, eqb, ◌≢◌, List, [], ◌∷◌, ◌++◌, length, Some, None, Option, sym, refl, ap, ◌∙◌, subst, ⊎_elim, append_assoc, arith, length-append, eq-eqb, ne_eqb}
use mathlib.Core.Path.{fun_ext}
use Rattle.std.specs.List.{AllByRecursion}
use Rattle.std.proofs.ByRecursion.{All-append, All-weaker}
use Rattle.std.proofs.lemmas.Bool.{cases_eq}
use Rattle.hashed.specs.declared.cell.Cell.{Cell}
use Rattle.hashed.specs.Links.{walk, Linked, onto, collected, gathered, LastIs, front}
use Rattle.hashed.specs.Cells.{next_of, first_of, entry_of, bucket_of, bucket_entries, OwnList, WellFormed, Redirected, Relinked}
use Rattle.hashed.proofs.Writes.{Rewritten}
use Rattle.hashed.proofs.Links.{all_left, all_right, all_both, walk-linked, walk-length, linked_frame, linked_start, collected_frame, collected-append, linked_apart, linked_after, linked-front, linked-insert, linked-remove, gathered-most, gathered_change}

-- ---- one bucket and the free cells change

-- the lists are in order again, and bucket b holds es
pub record Changed {K V : Type 0} (n : ℕ) (cells cells' : List (Cell K V)) (free : Option ℕ) (b : ℕ) (es : List (K × V)) : Type 0 where
  pub good : WellFormed n cells' free
  pub others : (c : ℕ) → c < n → c ≢ b → bucket_entries n cells' c ≡ bucket_entries n cells c
  pub entries : bucket_entries n cells' b ≡ es

-- what stays of a cell
record Stays {K V : Type 0} (n : ℕ) (own own' : ℕ → ℕ) (cells cells' : List (Cell K V)) (z : ℕ) : Type 0 where
  next : next_of n cells' z ≡ next_of n cells z
  entry : entry_of cells' z ≡ entry_of cells z
  owner : own' z ≡ own z

module _ {K V : Type 0} (n : ℕ) (own own' : ℕ → ℕ) (cells cells' : List (Cell K V)) where
  list_frame : (c : ℕ) (l : Option ℕ) (xs : List ℕ) → OwnList own n cells c l xs → AllByRecursion (λ z. next_of n cells' z ≡ next_of n cells z) xs
      → AllByRecursion (λ z. own' z ≡ own z) xs → OwnList own' n cells' c l xs
  list_frame c l xs list nx ow =
      record {
        linked = linked_frame (next_of n cells) (next_of n cells') l xs nx list.linked;
        within = list.within;
        owned = all_both (λ z. own' z ≡ own z) (λ z. own z ≡ c) (λ z. own' z ≡ c) (λ z p q. p ∙ q) xs ow list.owned;
      }

module _ {K V : Type 0} (n : ℕ) (own' : ℕ → ℕ) (cells cells' : List (Cell K V))
    (free free' : Option ℕ) (good : WellFormed n cells free) (b : ℕ) (in_room : b < n)
    (firsts : (c : ℕ) → c ≢ b → first_of n cells' c ≡ first_of n cells c)
    (kept : (z : ℕ) → good.own z ≢ b → good.own z ≢ n → Stays n good.own own' cells cells' z)
    (ys : List ℕ) (list : OwnList own' n cells' b (first_of n cells' b) ys) (few : length ys ≤ n) where
  bucket_new : bucket_of n cells' b ≡ ys
  bucket_new = walk-linked (next_of n cells') n (first_of n cells' b) ys list.linked few

  same_at : (c : ℕ) → c < n → c ≢ b → AllByRecursion (Stays n good.own own' cells cells') (bucket_of n cells c)
  same_at c h ne =
      All-weaker (λ z. good.own z ≡ c) (Stays n good.own own' cells cells')
      (λ z p. kept z (λ q. ne (sym p ∙ q)) (λ q. absurd (let t : c ≡ n = sym p ∙ q in omega arith)))
      (bucket_of n cells c) (good.buckets c h).owned

  list_other : (c : ℕ) → c < n → c ≢ b → OwnList own' n cells' c (first_of n cells c) (bucket_of n cells c)
  list_other c h ne =
      list_frame n good.own own' cells cells' c (first_of n cells c) (bucket_of n cells c) (good.buckets c h)
      (All-weaker (Stays n good.own own' cells cells') (λ z. next_of n cells' z ≡ next_of n cells z) (λ z p. p.next) (bucket_of n cells c) (same_at c h ne))
      (All-weaker (Stays n good.own own' cells cells') (λ z. own' z ≡ good.own z) (λ z p. p.owner) (bucket_of n cells c) (same_at c h ne))

  bucket_other : (c : ℕ) → c < n → c ≢ b → bucket_of n cells' c ≡ bucket_of n cells c
  bucket_other c h ne =
      ap (walk (next_of n cells') n) (firsts c ne)
      ∙ walk-linked (next_of n cells') n (first_of n cells c) (bucket_of n cells c) (list_other c h ne).linked (walk-length (next_of n cells) n (first_of n cells c))

  entries_other : (c : ℕ) → c < n → c ≢ b → bucket_entries n cells' c ≡ bucket_entries n cells c
  entries_other c h ne =
      ap (collected (entry_of cells')) (bucket_other c h ne)
      ∙ collected_frame (entry_of cells) (entry_of cells') (bucket_of n cells c)
      (All-weaker (Stays n good.own own' cells cells') (λ z. entry_of cells' z ≡ entry_of cells z) (λ z p. p.entry) (bucket_of n cells c) (same_at c h ne))

  list_all : (c : ℕ) → c < n → OwnList own' n cells' c (first_of n cells' c) (bucket_of n cells' c)
  list_all c h =
      ⊎_elim
      (λ (e : c ≡ b). subst (λ d. OwnList own' n cells' d (first_of n cells' d) (bucket_of n cells' d)) (sym e) (subst (OwnList own' n cells' b (first_of n cells' b)) (sym bucket_new) list))
      (λ (ne : c ≢ b). subst (λ l. OwnList own' n cells' c l (bucket_of n cells' c)) (sym (firsts c ne)) (subst (OwnList own' n cells' c (first_of n cells c)) (sym (bucket_other c h ne)) (list_other c h ne)))
      (cases_eq c b)

  good_change : (zs : List ℕ) → OwnList own' n cells' n free' zs → length zs + length ys ≡ length good.unused + length (bucket_of n cells b) → WellFormed n cells' free'
  good_change zs lz size =
      let g = gathered_change (bucket_of n cells) (bucket_of n cells') n b in_room bucket_other in
      record {
        own = own';
        buckets = list_all;
        unused = zs;
        freed = lz;
        all = omega (arith, g, ap length bucket_new, good.all, size);
      }

  changed : (zs : List ℕ) → OwnList own' n cells' n free' zs → length zs + length ys ≡ length good.unused + length (bucket_of n cells b)
      → (es : List (K × V)) → collected (entry_of cells') ys ≡ es → Changed n cells cells' free' b es
  changed zs lz size es now = record { good = good_change zs lz size; others = entries_other; entries = ap (collected (entry_of cells')) bucket_new ∙ now }

-- ---- one cell gets another owner

abbrev given_to : (ℕ → ℕ) → ℕ → ℕ → ℕ → ℕ
given_to own x b z = cond (eqb z x) b (own z)

given_here : (own : ℕ → ℕ) (x b : ℕ) → given_to own x b x ≡ b
given_here own x b = ap (λ t. cond t b (own x)) (eq-eqb x x refl)

given_else : (own : ℕ → ℕ) (x b z : ℕ) → z ≢ x → given_to own x b z ≡ own z
given_else own x b z ne = ap (λ t. cond t b (own z)) (ne_eqb z x ne)

-- ---- the links of the bucket

module _ (next next' : ℕ → Option ℕ) (l l' : Option ℕ) (x : ℕ) where
  abbrev Led : Option ℕ → Option ℕ → Type 0
  Led None to = (l' ≡ to) × ((z : ℕ) → z ≢ x → next' z ≡ next z)
  Led (Some y) to = (l' ≡ l) × (next' y ≡ to) × ((z : ℕ) → z ≢ x → z ≢ y → next' z ≡ next z)

  put_linked : (previous : Option ℕ) (before rest : List ℕ) → LastIs previous before → Linked next l (before ++ rest) → AllByRecursion (λ z. z ≢ x) (before ++ rest)
      → next' x ≡ front rest → Led previous (Some x) → Linked next' l' (before ++ x ∷ rest)
  put_linked None [] rest at c out on led =
      subst (λ t. Linked next' t (x ∷ rest)) (sym led.0) (linked-front next next' x l rest c out (on ∙ sym (linked_start next l rest c)) led.1)
  put_linked None (y ∷ before) rest at c out on led = absurd cc
  put_linked (Some y) before rest at c out on led =
      let e : before ++ rest ≡ at.0 ++ y ∷ rest = ap (λ d. d ++ rest) at.1 ∙ append_assoc at.0 (y ∷ []) rest in
      let e' : before ++ x ∷ rest ≡ at.0 ++ y ∷ x ∷ rest = ap (λ d. d ++ x ∷ rest) at.1 ∙ append_assoc at.0 (y ∷ []) (x ∷ rest) in
      let c₁ : Linked next l (at.0 ++ y ∷ rest) = subst (Linked next l) e c in
      subst (Linked next' l') (sym e') (subst (λ t. Linked next' t (at.0 ++ y ∷ x ∷ rest)) (sym led.0)
      (linked-insert next next' x y l at.0 rest c₁ (subst (AllByRecursion (λ z. z ≢ x)) e out) led.1
      (on ∙ sym (linked_start next (next y) rest (linked_after next l at.0 y rest c₁).1)) led.2))

  take-linked : (previous : Option ℕ) (before rest : List ℕ) → LastIs previous before → Linked next l (before ++ x ∷ rest)
      → Led previous (next x) → Linked next' l' (before ++ rest)
  take-linked None [] rest at c led =
      subst (λ t. Linked next' t rest) (sym led.0) (linked_frame next next' (next x) rest (All-weaker (λ z. z ≢ x) (λ z. next' z ≡ next z) led.1 rest c.1) c.2)
  take-linked None (y ∷ before) rest at c led = absurd cc
  take-linked (Some y) before rest at c led =
      let e : before ++ x ∷ rest ≡ at.0 ++ y ∷ x ∷ rest = ap (λ d. d ++ x ∷ rest) at.1 ∙ append_assoc at.0 (y ∷ []) (x ∷ rest) in
      let e' : before ++ rest ≡ at.0 ++ y ∷ rest = ap (λ d. d ++ rest) at.1 ∙ append_assoc at.0 (y ∷ []) rest in
      subst (Linked next' l') (sym e') (subst (λ t. Linked next' t (at.0 ++ y ∷ rest)) (sym led.0)
      (linked-remove next next' x y l at.0 rest (subst (Linked next l) e c) led.1 led.2))

-- what a change says of the links of its bucket, of the first cells of the others, and of the other cells
module _ {K V : Type 0} (n : ℕ) (cells cells' : List (Cell K V)) (b x : ℕ) where
  led_from : (previous to : Option ℕ) → Redirected n cells cells' b x previous to
      → Led (next_of n cells) (next_of n cells') (first_of n cells b) (first_of n cells' b) x previous to
  led_from None to r = (r.0, r.2)
  led_from (Some y) to r = (r.1 b, r.0, r.2)

  firsts-from : (previous to : Option ℕ) → Redirected n cells cells' b x previous to → (c : ℕ) → c ≢ b → first_of n cells' c ≡ first_of n cells c
  firsts-from None to r c ne = r.1 c ne
  firsts-from (Some y) to r c ne = r.1 c

  nexts-from : (previous to : Option ℕ) → Redirected n cells cells' b x previous to
      → (z : ℕ) → z ≢ x → ((y : ℕ) → previous ≡ Some y → z ≢ y) → next_of n cells' z ≡ next_of n cells z
  nexts-from None to r z ne far = r.2 z ne
  nexts-from (Some y) to r z ne far = r.2 z ne (far y refl)

-- the cell before a place stands in the bucket
previous_in : (P : ℕ → Type 0) (previous : Option ℕ) (before rest : List ℕ) → LastIs previous before → AllByRecursion P (before ++ rest) → (y : ℕ) → previous ≡ Some y → P y
previous_in P previous before rest at h y e =
    let last : LastIs (Some y) before = subst (λ o. LastIs o before) e at in
    (all_right P last.0 (y ∷ []) (subst (AllByRecursion P) last.1 (all_left P before rest h))).0

-- ---- a free cell comes in

module _ {K V : Type 0} (n : ℕ) (cells cells' : List (Cell K V)) (b x : ℕ) (previous : Option ℕ) (e : K × V)
    (before rest fs : List ℕ) (at : LastIs previous before)
    (good : WellFormed n cells (Some x)) (unused : good.unused ≡ x ∷ fs)
    (in_room : b < n) (parts : bucket_of n cells b ≡ before ++ rest) where
  put_old : OwnList good.own n cells b (first_of n cells b) (before ++ rest)
  put_old = subst (OwnList good.own n cells b (first_of n cells b)) parts (good.buckets b in_room)

  put_free : OwnList good.own n cells n (Some x) (x ∷ fs)
  put_free = subst (OwnList good.own n cells n (Some x)) unused good.freed

  -- x is in no bucket
  out : AllByRecursion (λ z. z ≢ x) (before ++ rest)
  out =
      All-weaker (λ z. good.own z ≡ b) (λ z. z ≢ x)
      (λ z p q. let t : b ≡ n = sym p ∙ ap good.own q ∙ put_free.owned.0 in absurd (omega arith))
      (before ++ rest) put_old.owned

  mate : (y : ℕ) → previous ≡ Some y → good.own y ≡ b
  mate = previous_in (λ z. good.own z ≡ b) previous before rest at put_old.owned

  pub put_apart : (y : ℕ) → previous ≡ Some y → y ≢ x
  put_apart = previous_in (λ z. z ≢ x) previous before rest at out

  module _ (linked : Relinked n cells cells' b previous x (front rest) e (Some x)) where
    put_kept : (z : ℕ) → good.own z ≢ b → good.own z ≢ n → Stays n good.own (given_to good.own x b) cells cells' z
    put_kept z nb nf =
        let nx : z ≢ x = λ q. nf (ap good.own q ∙ put_free.owned.0) in
        record {
          next = nexts-from n cells cells' b x previous (Some x) linked.links z nx (λ y p q. nb (ap good.own q ∙ mate y p));
          entry = linked.elsewhere z nx;
          owner = given_else good.own x b z nx;
        }

    put_list : OwnList (given_to good.own x b) n cells' b (first_of n cells' b) (before ++ x ∷ rest)
    put_list =
        let H : ℕ → Type 0 = λ z. given_to good.own x b z ≡ b in
        let h : AllByRecursion H (before ++ rest) = all_both (λ z. z ≢ x) (λ z. good.own z ≡ b) H (λ z ne p. given_else good.own x b z ne ∙ p) (before ++ rest) out put_old.owned in
        record {
          linked = put_linked (next_of n cells) (next_of n cells') (first_of n cells b) (first_of n cells' b) x previous before rest at put_old.linked out linked.onward (led_from n cells cells' b x previous (Some x) linked.links);
          within = All-append (λ z. z < n) before (x ∷ rest) (all_left (λ z. z < n) before rest put_old.within) (put_free.within.0, all_right (λ z. z < n) before rest put_old.within);
          owned = All-append H before (x ∷ rest) (all_left H before rest h) (given_here good.own x b, all_right H before rest h);
        }

    free_left : OwnList (given_to good.own x b) n cells' n (next_of n cells x) fs
    free_left =
        list_frame n good.own (given_to good.own x b) cells cells' n (next_of n cells x) fs
        (record { linked = put_free.linked.2; within = put_free.within.1; owned = put_free.owned.1 })
        (all_both (λ z. z ≢ x) (λ z. good.own z ≡ n) (λ z. next_of n cells' z ≡ next_of n cells z)
        (λ z ne p. nexts-from n cells cells' b x previous (Some x) linked.links z ne
        (λ y q r. let t : n ≡ b = sym p ∙ ap good.own r ∙ mate y q in absurd (omega arith)))
        fs put_free.linked.1 put_free.owned.1)
        (All-weaker (λ z. z ≢ x) (λ z. given_to good.own x b z ≡ good.own z) (given_else good.own x b) fs put_free.linked.1)

    put_few : length (before ++ x ∷ rest) ≤ n
    put_few =
        let m = gathered-most (bucket_of n cells) n b in_room in
        omega (arith, m, ap length parts, length-append before rest, length-append before (x ∷ rest), ap length unused, good.all)

    pub put_change : Changed n cells cells' (next_of n cells x) b (collected (entry_of cells) before ++ e ∷ collected (entry_of cells) rest)
    put_change =
        let S : ℕ → Type 0 = λ z. entry_of cells' z ≡ entry_of cells z in
        let s : AllByRecursion S (before ++ rest) = All-weaker (λ z. z ≢ x) S linked.elsewhere (before ++ rest) out in
        changed n (given_to good.own x b) cells cells' (Some x) (next_of n cells x) good b in_room (firsts-from n cells cells' b x previous (Some x) linked.links) put_kept
        (before ++ x ∷ rest) put_list put_few fs free_left
        (omega (arith, ap length parts, length-append before rest, length-append before (x ∷ rest), ap length unused)) _
        (collected-append (entry_of cells') before (x ∷ rest)
        ∙ ap (λ t. t ++ collected (entry_of cells') (x ∷ rest)) (collected_frame (entry_of cells) (entry_of cells') before (all_left S before rest s))
        ∙ ap (λ t. collected (entry_of cells) before ++ onto t (collected (entry_of cells') rest)) linked.here
        ∙ ap (λ t. collected (entry_of cells) before ++ e ∷ t) (collected_frame (entry_of cells) (entry_of cells') rest (all_right S before rest s)))

-- ---- a cell goes out

module _ {K V : Type 0} (n : ℕ) (cells cells' : List (Cell K V)) (b x : ℕ) (previous free : Option ℕ) (e : K × V)
    (before rest : List ℕ) (at : LastIs previous before)
    (good : WellFormed n cells free) (in_room : b < n) (parts : bucket_of n cells b ≡ before ++ x ∷ rest) where
  take_old : OwnList good.own n cells b (first_of n cells b) (before ++ x ∷ rest)
  take_old = subst (OwnList good.own n cells b (first_of n cells b)) parts (good.buckets b in_room)

  x_own : good.own x ≡ b
  x_own = (all_right (λ z. good.own z ≡ b) before (x ∷ rest) take_old.owned).0

  clear : AllByRecursion (λ z. z ≢ x) (before ++ rest)
  clear =
      All-append (λ z. z ≢ x) before rest
      (linked_apart (next_of n cells) (first_of n cells b) before x rest take_old.linked) (linked_after (next_of n cells) (first_of n cells b) before x rest take_old.linked).0

  pub take_apart : (y : ℕ) → previous ≡ Some y → y ≢ x
  take_apart = previous_in (λ z. z ≢ x) previous before rest at clear

  -- what holds of the bucket's cells holds of those that stay
  without : (P : ℕ → Type 0) → AllByRecursion P (before ++ x ∷ rest) → AllByRecursion P (before ++ rest)
  without P h = All-append P before rest (all_left P before (x ∷ rest) h) (all_right P before (x ∷ rest) h).1

  -- no free cell is in the bucket
  free_out : AllByRecursion (λ z. good.own z ≢ b) good.unused
  free_out =
      All-weaker (λ z. good.own z ≡ n) (λ z. good.own z ≢ b)
      (λ z p q. let t : n ≡ b = sym p ∙ q in absurd (omega arith)) good.unused good.freed.owned

  module _ (linked : Relinked n cells cells' b previous x free e (next_of n cells x)) where
    take_stays : (z : ℕ) → good.own z ≢ b → Stays n good.own (given_to good.own x n) cells cells' z
    take_stays z nb =
        let nx : z ≢ x = λ q. nb (ap good.own q ∙ x_own) in
        record {
          next = nexts-from n cells cells' b x previous (next_of n cells x) linked.links z nx
              (λ y p q. nb (ap good.own q ∙ previous_in (λ w. good.own w ≡ b) previous before (x ∷ rest) at take_old.owned y p));
          entry = linked.elsewhere z nx;
          owner = given_else good.own x n z nx;
        }

    take_list : OwnList (given_to good.own x n) n cells' b (first_of n cells' b) (before ++ rest)
    take_list =
        record {
          linked = take-linked (next_of n cells) (next_of n cells') (first_of n cells b) (first_of n cells' b) x previous before rest at take_old.linked (led_from n cells cells' b x previous (next_of n cells x) linked.links);
          within = without (λ z. z < n) take_old.within;
          owned = all_both (λ z. z ≢ x) (λ z. good.own z ≡ b) (λ z. given_to good.own x n z ≡ b) (λ z ne p. given_else good.own x n z ne ∙ p) (before ++ rest) clear (without (λ z. good.own z ≡ b) take_old.owned);
        }

    free_more : OwnList (given_to good.own x n) n cells' n (Some x) (x ∷ good.unused)
    free_more =
        let kept = list_frame n good.own (given_to good.own x n) cells cells' n free good.unused good.freed
        (All-weaker (λ z. good.own z ≢ b) (λ z. next_of n cells' z ≡ next_of n cells z) (λ z p. (take_stays z p).next) good.unused free_out)
        (All-weaker (λ z. good.own z ≢ b) (λ z. given_to good.own x n z ≡ good.own z) (λ z p. (take_stays z p).owner) good.unused free_out) in
        record {
          linked = (
            refl,
            All-weaker (λ z. good.own z ≢ b) (λ z. z ≢ x) (λ z p q. p (ap good.own q ∙ x_own)) good.unused free_out,
            subst (λ l. Linked (next_of n cells') l good.unused) (sym linked.onward) kept.linked,
          );
          within = ((all_right (λ z. z < n) before (x ∷ rest) take_old.within).0, kept.within);
          owned = (given_here good.own x n, kept.owned);
        }

    take_few : length (before ++ rest) ≤ n
    take_few =
        let m = walk-length (next_of n cells) n (first_of n cells b) in
        omega (arith, m, ap length parts, length-append before (x ∷ rest), length-append before rest)

    pub take_change : Changed n cells cells' (Some x) b (collected (entry_of cells) before ++ collected (entry_of cells) rest)
    take_change =
        changed n (given_to good.own x n) cells cells' free (Some x) good b in_room (firsts-from n cells cells' b x previous (next_of n cells x) linked.links) (λ z p q. take_stays z p)
        (before ++ rest) take_list take_few (x ∷ good.unused) free_more
        (omega (arith, ap length parts, length-append before rest, length-append before (x ∷ rest))) _
        (collected_frame (entry_of cells) (entry_of cells') (before ++ rest) (All-weaker (λ z. z ≢ x) (λ z. entry_of cells' z ≡ entry_of cells z) linked.elsewhere (before ++ rest) clear)
        ∙ collected-append (entry_of cells) before rest)

  -- ---- a cell gets another entry

  module _ (written : Rewritten n cells cells' x e) where
    same-bucket : (c : ℕ) → bucket_of n cells' c ≡ bucket_of n cells c
    same-bucket c =
        ap (λ (f : ℕ → Option ℕ). walk f n (first_of n cells' c)) (fun_ext written.nexts) ∙ ap (walk (next_of n cells) n) (written.firsts c)

    same_list : (c : ℕ) (l : Option ℕ) (xs : List ℕ) → OwnList good.own n cells c l xs → OwnList good.own n cells' c l xs
    same_list c l xs list =
        record {
          linked = subst (λ (f : ℕ → Option ℕ). Linked f l xs) (sym (fun_ext written.nexts)) list.linked;
          within = list.within;
          owned = list.owned;
        }

    pub set_change : Changed n cells cells' free b (collected (entry_of cells) before ++ e ∷ collected (entry_of cells) rest)
    set_change =
        let q = ap (λ (f : ℕ → List ℕ). length (gathered f n)) (fun_ext same-bucket) in
        let S : ℕ → Type 0 = λ z. entry_of cells' z ≡ entry_of cells z in
        let s : AllByRecursion S (before ++ rest) = All-weaker (λ z. z ≢ x) S written.elsewhere (before ++ rest) clear in
        record {
          good = record {
            own = good.own;
            buckets = λ c h. subst (λ l. OwnList good.own n cells' c l (bucket_of n cells' c)) (sym (written.firsts c))
                (subst (OwnList good.own n cells' c (first_of n cells c)) (sym (same-bucket c)) (same_list c (first_of n cells c) (bucket_of n cells c) (good.buckets c h)));
            unused = good.unused;
            freed = same_list n free good.unused good.freed;
            all = omega (arith, q, good.all);
          };
          others = λ c h ne. ap (collected (entry_of cells')) (same-bucket c)
              ∙ collected_frame (entry_of cells) (entry_of cells') (bucket_of n cells c)
              (All-weaker (λ z. good.own z ≡ c) S (λ z q. written.elsewhere z (λ w. ne (sym q ∙ ap good.own w ∙ x_own))) (bucket_of n cells c) (good.buckets c h).owned);
          entries = ap (collected (entry_of cells')) (same-bucket b ∙ parts)
              ∙ collected-append (entry_of cells') before (x ∷ rest)
              ∙ ap (λ t. t ++ collected (entry_of cells') (x ∷ rest)) (collected_frame (entry_of cells) (entry_of cells') before (all_left S before rest s))
              ∙ ap (λ t. collected (entry_of cells) before ++ onto t (collected (entry_of cells') rest)) written.here
              ∙ ap (λ t. collected (entry_of cells) before ++ e ∷ t) (collected_frame (entry_of cells) (entry_of cells') rest (all_right S before rest s));
        }
