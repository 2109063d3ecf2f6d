-- What a change of one bucket does to the entries and to what they hold.
use Rattle.std.proofs.Common.{◌≡◌, ℕ, zero, suc, ◌%◌, ◌<◌, Bool, true, false, ◌≢◌, List, [], ◌∷◌, ◌++◌, length, Option, sym, refl, ap, ◌∙◌, subst, ⊎_elim, append_assoc, arith}
use Rattle.std.specs.List.{AllByRecursion}
use Rattle.std.proofs.lemmas.List.{append-nil}
use Rattle.std.proofs.lemmas.Bool.{cases_eq, cases_Bool}
use Rattle.keys.specs.Order.{StrictOrder, same}
use Rattle.chains.specs.Contents.{sequence}
use Rattle.chains.proofs.Orders.{same_eq}
use Rattle.chains.proofs.Entries.{contents-sequence}
use Rattle.hashed.specs.declared.cell.Cell.{Cell}
use Rattle.hashed.specs.Links.{collected, gathered}
use Rattle.hashed.specs.Cells.{target, entry_of, bucket_of, bucket_entries, entries_in, values_in, held, Placed, ValidCells}
use Rattle.hashed.proofs.Links.{gathered-same, collected-append}
use Rattle.hashed.proofs.Walks.{values-append}
use Rattle.hashed.proofs.WellFormed.{Changed}

-- ---- one list of those that are gathered changes

record Split {E : Type 0} (f g : ℕ → List E) (n b : ℕ) : Type 0 where
  post : List E
  old : gathered f n ≡ gathered f b ++ (f b ++ post)
  new : gathered g n ≡ gathered f b ++ (g b ++ post)

split_at : {E : Type 0} (f g : ℕ → List E) (n b : ℕ) → b < n → ((c : ℕ) → c < n → c ≢ b → g c ≡ f c) → Split f g n b
split_at f g zero b h same = absurd (omega arith)
split_at {E} f g (suc n) b h same =
    ⊎_elim
    (λ (e : b ≡ n).
    let q : gathered g n ≡ gathered f n = gathered-same f g n (λ c l. same c (omega arith) (λ d. absurd (omega arith))) in
    record { post = []; old = simp (e, append-nil); new = simp (e, q, append-nil) })
    (λ (no : b ≢ n).
    let s = split_at f g n b (omega arith) (λ c l. same c (omega arith)) in
    record { post = s.post ++ f n; old = simp (s.old, append_assoc); new = simp (s.new, same n (omega arith) (λ e. no (sym e)), append_assoc) })
    (cases_eq b n)

regroup : {E : Type 0} (a d m r p : List E) → a ++ ((d ++ (m ++ r)) ++ p) ≡ (a ++ d) ++ (m ++ (r ++ p))
regroup a d m r p = simp append_assoc

-- a part of that list changes
record Around {E : Type 0} (f g : ℕ → List E) (n b : ℕ) (d m m' : List E) : Type 0 where
  rest : List E
  old : gathered f n ≡ (gathered f b ++ d) ++ (m ++ rest)
  new : gathered g n ≡ (gathered f b ++ d) ++ (m' ++ rest)

around : {E : Type 0} (f g : ℕ → List E) (n b : ℕ) (d m m' r : List E) → b < n → ((c : ℕ) → c < n → c ≢ b → g c ≡ f c)
    → f b ≡ d ++ (m ++ r) → g b ≡ d ++ (m' ++ r) → Around f g n b d m m'
around {E} f g n b d m m' r h same p q =
    let s = split_at f g n b h same in
    record {
      rest = r ++ s.post;
      old = s.old ∙ ap (λ (t : List E). gathered f b ++ (t ++ s.post)) p ∙ regroup (gathered f b) d m r s.post;
      new = s.new ∙ ap (λ (t : List E). gathered f b ++ (t ++ s.post)) q ∙ regroup (gathered f b) d m' r s.post;
    }

-- ---- the values of a key are in its bucket

module _ {K V : Type 0} (less : K → K → Bool) (k : K) where
  gathered_none : (f : ℕ → List (K × V)) (n : ℕ) → ((c : ℕ) → c < n → values_in less (f c) k ≡ []) → values_in less (gathered f n) k ≡ []
  gathered_none f zero h = refl
  gathered_none f (suc n) h = rw (values-append less (gathered f n) (f n) k, gathered_none f n (λ c l. h c (omega arith)), h n (omega arith))

  gathered_only : (f : ℕ → List (K × V)) (n b : ℕ) → b < n → ((c : ℕ) → c < n → c ≢ b → values_in less (f c) k ≡ []) → values_in less (gathered f n) k ≡ values_in less (f b) k
  gathered_only f zero b h none = absurd (omega arith)
  gathered_only f (suc n) b h none =
      ⊎_elim
      (λ (e : b ≡ n). rw (values-append less (gathered f n) (f n) k, gathered_none f n (λ c l. none c (omega arith) (λ d. absurd (omega arith))), e))
      (λ (no : b ≢ n). rw (values-append less (gathered f n) (f n) k, none n (omega arith) (λ e. no (sym e)), append-nil (values_in less (gathered f n) k)) (gathered_only f n b (omega arith) (λ c l. none c (omega arith))))
      (cases_eq b n)

module _ {K V : Type 0} {less : K → K → Bool} (o : StrictOrder less) (hash : K → ℕ) (n : ℕ) where
  bucket_none : (k : K) (c : ℕ) → (hash k % n ≡ c → ⊥) → (es : List (K × V)) → AllByRecursion (λ e. hash e.0 % n ≡ c) es → values_in less es k ≡ []
  bucket_none k c out [] h = refl
  bucket_none k c out (e ∷ es) h =
      ⊎_elim
      (λ (t : same less e.0 k ≡ true). absurd (out (ap (λ j. hash j % n) (sym (same_eq o e.0 k t)) ∙ h.0)))
      (λ (f : same less e.0 k ≡ false). rw f (bucket_none k c out es h.1))
      (cases_Bool (same less e.0 k))

  module _ (cells : List (Cell K V)) (k : K) (b : ℕ) (placed : Placed hash n cells) (in_room : b < n) (home : b ≡ hash k % n) where
    pre_none : values_in less (gathered (bucket_entries n cells) b) k ≡ []
    pre_none =
        gathered_none less k (bucket_entries n cells) b
        (λ c l. bucket_none k c (λ q. absurd (let t : c ≡ b = sym q ∙ sym home in omega arith)) (bucket_entries n cells c) (placed c (omega arith)))

    rank_before : (d : List (K × V)) → length (values_in less (gathered (bucket_entries n cells) b ++ d) k) ≡ length (values_in less d k)
    rank_before d = ap length (values-append less (gathered (bucket_entries n cells) b) d k ∙ ap (λ (t : List V). t ++ values_in less d k) pre_none)

    all_here : values_in less (entries_in n cells) k ≡ values_in less (bucket_entries n cells b) k
    all_here =
        gathered_only less k (bucket_entries n cells) n b in_room
        (λ c l ne. bucket_none k c (λ q. ne (sym q ∙ sym home)) (bucket_entries n cells c) (placed c l))

    -- the sequence of a key, in two parts of its bucket
    pub sequence-parts : (before rest : List ℕ) → bucket_of n cells b ≡ before ++ rest
        → sequence less (held less (entries_in n cells)) k ≡ values_in less (collected (entry_of cells) before) k ++ values_in less (collected (entry_of cells) rest) k
    sequence-parts before rest parts =
        contents-sequence o (λ e. e.0) (λ e. e.1) (entries_in n cells) k
        ∙ all_here
        ∙ ap (λ (xs : List ℕ). values_in less (collected (entry_of cells) xs) k) parts
        ∙ ap (λ (es : List (K × V)). values_in less es k) (collected-append (entry_of cells) before rest)
        ∙ values-append less (collected (entry_of cells) before) (collected (entry_of cells) rest) k

    -- what is held changes as it does where the bucket's part m becomes m'
    pub contents_after : (cells' : List (Cell K V)) (free : Option ℕ) (d m m' r : List (K × V)) → bucket_entries n cells b ≡ d ++ (m ++ r) → Changed n cells cells' free b (d ++ (m' ++ r))
        → (f : List (K × List V) → List (K × List V))
        → ((pre post : List (K × V)) → length (values_in less pre k) ≡ length (values_in less d k) → held less (pre ++ (m' ++ post)) ≡ f (held less (pre ++ (m ++ post))))
        → held less (entries_in n cells') ≡ f (held less (entries_in n cells))
    contents_after cells' free d m m' r was c f step =
        let a = around (bucket_entries n cells) (bucket_entries n cells') n b d m m' r in_room c.others was c.entries in
        ap (held less) a.new ∙ step (gathered (bucket_entries n cells) b ++ d) a.rest (rank_before d) ∙ ap (λ (es : List (K × V)). f (held less es)) (sym a.old)

    -- entries that belong into the bucket leave every entry in its place
    pub valid_after : (cells' : List (Cell K V)) (free : ℕ) (es : List (K × V)) → Changed n cells cells' (target n free) b es → AllByRecursion (λ e. hash e.0 % n ≡ b) es → ValidCells hash n cells' free
    valid_after cells' free es made h = (
      made.good,
      λ c l. ⊎_elim
          (λ (e : c ≡ b). subst (λ (m : ℕ). AllByRecursion (λ e. hash e.0 % n ≡ m) (bucket_entries n cells' m)) (sym e) (subst (AllByRecursion (λ e. hash e.0 % n ≡ b)) (sym made.entries) h))
          (λ (ne : c ≢ b). subst (λ (fs : List (K × V)). AllByRecursion (λ e. hash e.0 % n ≡ c) fs) (sym (made.others c l ne)) (placed c l))
          (cases_eq c b),
    )
