-- The outcomes of a store's calls, by the place that a search found and what became of the cells.
use Rattle.std.proofs.Common.{◌≡◌, ℕ, zero, suc, ◌+◌, ◌%◌, ◌<◌, ◌≤◌, Bool, true, false, cond, ◌≢◌, List, [], ◌∷◌, ◌++◌, length, get_or, take, drop, set, Some, None, Ok, Err, Option, sym, refl, ap, ◌∙◌, subst, ⊎_elim, arith, length-append, length-set}
use Rattle.std.specs.List.{insert, remove, AllByRecursion, slice_get}
use Rattle.std.proofs.ByRecursion.{All-append}
use Rattle.std.proofs.lemmas.List.{append-nil}
use Rattle.std.proofs.lemmas.Option.{slice_get_past, slice_get-get_or}
use Rattle.std.proofs.lemmas.Bool.{cases_lt}
use Rattle.keys.specs.Order.{StrictOrder, same}
use Rattle.chains.specs.Contents.{sequence, with_sequence}
use Rattle.chains.specs.State.{StoreState, with_values, put_outcome, set_outcome, take_outcome}
use Rattle.chains.specs.declared.refusal.Refusal.TheVariants.{Full}
use Rattle.chains.proofs.Entries.{contents-used, entry_put, entry-taken, entry_set}
use Rattle.chains.proofs.Orders.{same_eq, same_refl}
use Rattle.chains.proofs.Outcomes.{put_full, put_done, set_done, take_done}
use Rattle.hashed.specs.declared.cell.Cell.{Cell}
use Rattle.hashed.specs.declared.list.Place.{Place}
use Rattle.hashed.specs.Links.{Linked, onto, collected, gathered, front}
use Rattle.hashed.specs.Cells.{target, next_of, first_of, entry_of, entry_in, bucket_of, bucket_entries, entries_in, values_in, held, room_of, used_of, Placed, WellFormed, ValidCells, Relinked}
use Rattle.hashed.specs.Store.{state_of, InRange, PlaceOf}
use Rattle.hashed.proofs.Links.{all_left, all_right, collected-append, first_left, walk-length}
use Rattle.hashed.proofs.Used.{part-length, from_part, after}
use Rattle.hashed.proofs.Writes.{target_in, Rewritten, rewritten}
use Rattle.hashed.proofs.WellFormed.{Changed, put_apart, put_change, take_apart, take_change, set_change}
use Rattle.hashed.proofs.Effects.{sequence-parts, contents_after, valid_after}

-- ---- how many entries there are

nth_is : {X : Type 0} (xs : List X) (i : ℕ) → i < length xs → (x : X) × (slice_get xs i ≡ Some x)
nth_is [] i l = absurd (omega arith)
nth_is (x ∷ xs) zero l = (x, refl)
nth_is (x ∷ xs) (suc i) l = nth_is xs i (omega arith)

module _ {K V : Type 0} (n : ℕ) (cells : List (Cell K V)) (fits : n ≤ length cells) where
  collected-length : (xs : List ℕ) → AllByRecursion (λ x. x < n) xs → length (collected (entry_of cells) xs) ≡ length xs
  collected-length [] h = refl
  collected-length (x ∷ xs) h =
      let l = h.0 in
      ap (λ (t : Option (Cell K V)). length (onto (entry_in t) (collected (entry_of cells) xs))) (nth_is cells x (omega arith)).1 ∙ ap suc (collected-length xs h.1)

  entries-length : (m : ℕ) → ((b : ℕ) → b < m → AllByRecursion (λ x. x < n) (bucket_of n cells b)) → length (gathered (bucket_entries n cells) m) ≡ length (gathered (bucket_of n cells) m)
  entries-length zero h = refl
  entries-length (suc m) h =
      let ih = entries-length m (λ b l. h b (omega arith)) in
      let c = collected-length (bucket_of n cells m) (h m (omega arith)) in
      simp length-append (omega (arith, ih, c))

  -- the entries and the free cells are as many as the room
  pub room_left : (free : Option ℕ) (good : WellFormed n cells free) → length good.unused + length (entries_in n cells) ≡ n
  room_left free good = let e = entries-length n (λ b l. (good.buckets b l).within) in omega (arith, e, good.all)

values-most : {K V : Type 0} (less : K → K → Bool) (es : List (K × V)) (k : K) → length (values_in less es k) ≤ length es
values-most less [] k = omega arith
values-most less (e ∷ es) k =
    let i = values-most less es k in
    elim (same less e.0 k) as (λ t. length (cond t (e.1 ∷ values_in less es k) (values_in less es k)) ≤ suc (length es)) [ true ↦ omega arith | false ↦ omega arith ]

-- the cells are in order, and the answer with what they mean is the outcome of a call
abbrev pub Outcome : {K V R : Type 0} → (K → K → Bool) → (K → ℕ) → R → R × StoreState K V → ℕ → ℕ → List (Cell K V) → Type 0
Outcome less hash answer outcome free n cells = ValidCells hash n cells free × ((answer, state_of less (entries_in n cells) n) ≡ outcome)

-- ---- a place and its sequence

module _ {K V : Type 0} {less : K → K → Bool} (o : StrictOrder less) (hash : K → ℕ) (n : ℕ) (cells : List (Cell K V)) (k : K) (rank : ℕ) (p : Place)
    (placed : Placed hash n cells) (range : InRange n p) (at : PlaceOf less hash n cells k rank p) where
  -- with no room there is nothing
  nothing : (m : ℕ) (before rest : List ℕ) → m ≤ 0 → bucket_of m cells p.bucket ≡ before ++ rest
      → sequence less (held less (entries_in m cells)) k ≡ values_in less (collected (entry_of cells) before) k ++ values_in less (collected (entry_of cells) rest) k
  nothing zero [] [] h e = refl
  nothing zero [] (x ∷ rest) h e = let l = ap length e in absurd (omega arith)
  nothing zero (x ∷ before) rest h e = let l = ap length e in absurd (omega arith)
  nothing (suc m) before rest h e = absurd (omega arith)

  parts_any : (before rest : List ℕ) → bucket_of n cells p.bucket ≡ before ++ rest
      → sequence less (held less (entries_in n cells)) k ≡ values_in less (collected (entry_of cells) before) k ++ values_in less (collected (entry_of cells) rest) k
  parts_any before rest e =
      ⊎_elim
      (λ (h : 0 < n). sequence-parts o hash n cells k p.bucket placed (range.bucket h) (at.home h) before rest e)
      (λ (h : n ≤ 0). nothing n before rest h e)
      (cases_lt 0 n)

  -- at the end of the list, the whole sequence was passed
  pub at_end : target n p.link.0 ≡ None → length (sequence less (held less (entries_in n cells)) k) ≡ p.passed
  at_end none = go at.found.rest (sym at.found.at ∙ none) (parts_any at.found.before at.found.rest at.found.parts)
    where
      go : (rest : List ℕ) → front rest ≡ None
          → sequence less (held less (entries_in n cells)) k ≡ values_in less (collected (entry_of cells) at.found.before) k ++ values_in less (collected (entry_of cells) rest) k
          → length (sequence less (held less (entries_in n cells)) k) ≡ p.passed
      go [] e q = ap length (q ∙ append-nil (values_in less (collected (entry_of cells) at.found.before) k)) ∙ sym at.found.count
      go (x ∷ rest) e q = absurd cc

  pub not_past : rank ≤ p.passed → rank ≤ length (sequence less (held less (entries_in n cells)) k)
  not_past h =
      let before = values_in less (collected (entry_of cells) at.found.before) k in
      let rest = values_in less (collected (entry_of cells) at.found.rest) k in
      let q = ap length (parts_any at.found.before at.found.rest at.found.parts) in
      omega (arith, q, length-append before rest, at.found.count)

  pub past_end : (here : Option ℕ) → target n p.link.0 ≡ here → p.passed < rank → length (sequence less (held less (entries_in n cells)) k) < rank
  past_end None e h = let q = at_end e in omega arith
  past_end (Some x) e h = let s = (at.found.stops x e).0 in absurd (omega arith)

  -- the entry at the place
  pub record Standing (x : ℕ) : Type 0 where
    pub after : List ℕ
    pub parts : bucket_of n cells p.bucket ≡ at.found.before ++ x ∷ after
    pub entry : K × V
    pub holds : entry_of cells x ≡ Some entry
    pub key : entry.0 ≡ k
    pub counted : length (values_in less (collected (entry_of cells) at.found.before) k) ≡ rank

  pub standing : (x : ℕ) → target n p.link.0 ≡ Some x → Standing x
  standing x e = go at.found.rest (sym at.found.at ∙ e) at.found.parts
    where
      go : (rest : List ℕ) → front rest ≡ Some x → bucket_of n cells p.bucket ≡ at.found.before ++ rest → Standing x
      go [] q parts = absurd cc
      go (y ∷ rest) q parts =
          let w : y ≡ x = cc in
          let s = at.found.stops x e in
          record {
            after = rest;
            parts = subst (λ (z : ℕ). bucket_of n cells p.bucket ≡ at.found.before ++ z ∷ rest) w parts;
            entry = s.1.0;
            holds = s.1.1;
            key = same_eq o s.1.0.0 k s.1.2;
            counted = sym at.found.count ∙ s.0;
          }

  pub sequence-at : (x : ℕ) (s : Standing x)
      → sequence less (held less (entries_in n cells)) k ≡ values_in less (collected (entry_of cells) at.found.before) k ++ s.entry.1 ∷ values_in less (collected (entry_of cells) s.after) k
  sequence-at x s =
      let before = values_in less (collected (entry_of cells) at.found.before) k in
      let t = same_refl o s.entry.0 k s.key in
      parts_any at.found.before (x ∷ s.after) s.parts
      ∙ ap (λ (w : Option (K × V)). before ++ values_in less (onto w (collected (entry_of cells) s.after)) k) s.holds
      ∙ ap (λ (b : Bool). before ++ cond b (s.entry.1 ∷ values_in less (collected (entry_of cells) s.after) k) (values_in less (collected (entry_of cells) s.after) k)) t

  pub stands_within : (x : ℕ) → target n p.link.0 ≡ Some x → rank < length (sequence less (held less (entries_in n cells)) k)
  stands_within x e =
      let s = standing x e in
      let before = values_in less (collected (entry_of cells) at.found.before) k in
      let q = ap length (sequence-at x s) ∙ length-append before (s.entry.1 ∷ values_in less (collected (entry_of cells) s.after) k) in
      omega (arith, q, s.counted)

  pub value_there : n ≤ length cells → (x : ℕ) (d : Cell K V) → target n p.link.0 ≡ Some x → Some (get_or cells x d).value ≡ slice_get (sequence less (held less (entries_in n cells)) k) rank
  value_there fits x d e =
      let s = standing x e in
      let before = values_in less (collected (entry_of cells) at.found.before) k in
      let l = target_in n p.link.0 x e in
      let q : Some ((get_or cells x d).key, (get_or cells x d).value) ≡ Some s.entry = sym (ap entry_in (slice_get-get_or cells x d (omega arith))) ∙ s.holds in
      let w : (get_or cells x d).value ≡ s.entry.1 = cc in
      ap Some w ∙ sym (ap (λ (vs : List V). slice_get vs rank) (sequence-at x s) ∙ nth_at before s.entry.1 (values_in less (collected (entry_of cells) s.after) k) rank s.counted)
    where
      nth_at : (vs : List V) (w : V) (ws : List V) (i : ℕ) → length vs ≡ i → slice_get (vs ++ w ∷ ws) i ≡ Some w
      nth_at [] w ws zero h = refl
      nth_at [] w ws (suc i) h = absurd (omega arith)
      nth_at (u ∷ vs) w ws zero h = absurd (omega arith)
      nth_at (u ∷ vs) w ws (suc i) h = nth_at vs w ws i (omega arith)

  pub value_none : target n p.link.0 ≡ None → None ≡ slice_get (sequence less (held less (entries_in n cells)) k) rank
  value_none e = let q = at_end e in sym (slice_get_past (sequence less (held less (entries_in n cells)) k) rank (omega (arith, at.found.most)))

  -- a search for a rank that no sequence reaches passes the whole sequence
  pub passes_all : n ≤ rank → (here : Option ℕ) → target n p.link.0 ≡ here → p.passed ≡ length (sequence less (held less (entries_in n cells)) k)
  passes_all far None e = sym (at_end e)
  passes_all far (Some x) e =
      let s = standing x e in
      let before = at.found.before in
      let m = values-most less (collected (entry_of cells) before) k in
      let c = collected-most before in
      let l = ap length s.parts ∙ length-append before (x ∷ s.after) in
      let w = walk-length (next_of n cells) n (first_of n cells p.bucket) in
      absurd (omega (arith, m, c, l, w, s.counted))
    where
      onto-most : (w : Option (K × V)) (es : List (K × V)) → length (onto w es) ≤ suc (length es)
      onto-most None es = omega arith
      onto-most (Some e) es = omega arith

      collected-most : (xs : List ℕ) → length (collected (entry_of cells) xs) ≤ length xs
      collected-most [] = omega arith
      collected-most (x ∷ xs) = let i = collected-most xs in let j = onto-most (entry_of cells x) (collected (entry_of cells) xs) in omega arith

  -- ---- what the calls do

  changed : (es es' : List (K × V)) (vs : List V) → held less es' ≡ with_sequence less (held less es) k vs → state_of less es' n ≡ with_values less (state_of less es n) k vs
  changed es es' vs q = λ i. record { contents = q i; section = λ _. 0; room = λ _. n }

  module _ (fits : n ≤ length cells) (free : ℕ) (good : WellFormed n cells (target n free)) where
    pub put_refuses : (v : V) → target n free ≡ None → rank ≤ p.passed → (Err Full, state_of less (entries_in n cells) n) ≡ put_outcome less (state_of less (entries_in n cells) n) k rank v
    put_refuses v none h =
        let u = contents-used o (λ e. e.0) (λ e. e.1) (entries_in n cells) in
        let l = room_left n cells fits (target n free) good in
        let e = none_left good.unused (subst (λ (t : Option ℕ). Linked (next_of n cells) t good.unused) none good.freed.linked) in
        put_full less (state_of less (entries_in n cells) n) k rank v (not_past h) (omega (arith, u, l, e))
      where
        none_left : (xs : List ℕ) → Linked (next_of n cells) None xs → length xs ≡ 0
        none_left [] c = refl
        none_left (x ∷ xs) c = absurd (cc c.0)

    module _ (cells' : List (Cell K V)) (x : ℕ) (in_use : x < n) where
      in_room : p.bucket < n
      in_room = range.bucket (omega arith)

      home : p.bucket ≡ hash k % n
      home = at.home (omega arith)

      pub put_does : (v : V) (free' : ℕ) → target n free ≡ Some x → rank ≤ p.passed → target n free' ≡ next_of n cells x
          → (((y : ℕ) → p.previous ≡ Some y → y ≢ x) → Relinked n cells cells' p.bucket p.previous x (target n p.link.0) (k, v) (Some x))
          → Outcome less hash (Ok tt) (put_outcome less (state_of less (entries_in n cells) n) k rank v) free' n cells'
      put_does v free' is h next linked =
          let good' : WellFormed n cells (Some x) = subst (λ (t : Option ℕ). WellFormed n cells t) is good in
          let fl = first_left (next_of n cells) (Some x) x good'.unused good'.freed.linked refl in
          let f = at.found in
          let b = p.bucket in
          let d : List (K × V) = collected (entry_of cells) f.before in
          let r : List (K × V) = collected (entry_of cells) f.rest in
          let apart = put_apart n cells cells' b x p.previous (k, v) f.before f.rest fl.0 f.last good' fl.1 in_room f.parts in
          let relinked : Relinked n cells cells' b p.previous x (front f.rest) (k, v) (Some x) =
          subst (λ (t : Option ℕ). Relinked n cells cells' b p.previous x t (k, v) (Some x)) f.at (linked apart) in
          let made : Changed n cells cells' (target n free') b (d ++ (k, v) ∷ r) =
          subst (λ (t : Option ℕ). Changed n cells cells' t b (d ++ (k, v) ∷ r)) (sym next) (put_change n cells cells' b x p.previous (k, v) f.before f.rest fl.0 f.last good' fl.1 in_room f.parts relinked) in
          let was : bucket_entries n cells b ≡ d ++ r = ap (collected (entry_of cells)) f.parts ∙ collected-append (entry_of cells) f.before f.rest in
          let P : K × V → Type 0 = λ e. hash e.0 % n ≡ b in
          let old : AllByRecursion P (d ++ r) = subst (AllByRecursion P) was (placed b in_room) in
          let u = contents-used o (λ e. e.0) (λ e. e.1) (entries_in n cells) in
          let l = room_left n cells fits (Some x) good' in (
            valid_after o hash n cells k b placed in_room home cells' free' _ made (All-append P d ((k, v) ∷ r) (all_left P d r old) (sym home, all_right P d r old)),
            put_done less (state_of less (entries_in n cells) n) k rank v _ (not_past h) (omega (arith, u, l, ap length fl.1))
                (changed (entries_in n cells) (entries_in n cells') _ (contents_after o hash n cells k b placed in_room home cells' (target n free') d [] ((k, v) ∷ []) r was made
                (λ c. with_sequence less c k (insert (sequence less c k) rank v))
                (λ pre post q. entry_put o (λ e. e.0) (λ e. e.1) pre (k, v) post k rank refl (omega (arith, q, f.count, f.most))))),
          )

      module _ (link : target n p.link.0 ≡ Some x) where
        s : Standing x
        s = standing x link

        was : bucket_entries n cells p.bucket ≡ collected (entry_of cells) at.found.before ++ s.entry ∷ collected (entry_of cells) s.after
        was =
            ap (collected (entry_of cells)) s.parts ∙ collected-append (entry_of cells) at.found.before (x ∷ s.after)
            ∙ ap (λ (t : Option (K × V)). collected (entry_of cells) at.found.before ++ onto t (collected (entry_of cells) s.after)) s.holds

        old : AllByRecursion (λ e. hash e.0 % n ≡ p.bucket) (collected (entry_of cells) at.found.before ++ s.entry ∷ collected (entry_of cells) s.after)
        old = subst (AllByRecursion (λ e. hash e.0 % n ≡ p.bucket)) was (placed p.bucket in_room)

        pub take_does : ((e : K × V) → entry_of cells x ≡ Some e → ((y : ℕ) → p.previous ≡ Some y → y ≢ x) → Relinked n cells cells' p.bucket p.previous x (target n free) e (next_of n cells x))
            → Outcome less hash true (take_outcome less (state_of less (entries_in n cells) n) k rank) p.link.0 n cells'
        take_does linked =
            let f = at.found in
            let b = p.bucket in
            let e = s.entry in
            let d : List (K × V) = collected (entry_of cells) f.before in
            let r : List (K × V) = collected (entry_of cells) s.after in
            let made : Changed n cells cells' (target n p.link.0) b (d ++ r) =
            subst (λ (t : Option ℕ). Changed n cells cells' t b (d ++ r)) (sym link) (take_change n cells cells' b x p.previous (target n free) e f.before s.after f.last good in_room s.parts
            (linked e s.holds (take_apart n cells cells' b x p.previous (target n free) e f.before s.after f.last good in_room s.parts))) in
            let P : K × V → Type 0 = λ e. hash e.0 % n ≡ b in (
              valid_after o hash n cells k b placed in_room home cells' p.link.0 _ made (All-append P d r (all_left P d (e ∷ r) old) (all_right P d (e ∷ r) old).1),
              take_done less (state_of less (entries_in n cells) n) k rank _ (stands_within x link)
                  (changed (entries_in n cells) (entries_in n cells') _ (contents_after o hash n cells k b placed in_room home cells' (target n p.link.0) d (e ∷ []) [] r was made
                  (λ c. with_sequence less c k (remove (sequence less c k) rank))
                  (λ pre post q. entry-taken o (λ e. e.0) (λ e. e.1) pre e post k rank s.key (q ∙ s.counted)))),
            )

        pub set_does : (v : V) → ((e : K × V) → entry_of cells x ≡ Some e → Rewritten n cells cells' x (e.0, v))
            → Outcome less hash true (set_outcome less (state_of less (entries_in n cells) n) k rank v) free n cells'
        set_does v written =
            let f = at.found in
            let b = p.bucket in
            let e = s.entry in
            let d : List (K × V) = collected (entry_of cells) f.before in
            let r : List (K × V) = collected (entry_of cells) s.after in
            let made = set_change n cells cells' b x p.previous (target n free) (e.0, v) f.before s.after f.last good in_room s.parts (written e s.holds) in
            let P : K × V → Type 0 = λ e. hash e.0 % n ≡ b in (
              valid_after o hash n cells k b placed in_room home cells' free _ made (All-append P d ((e.0, v) ∷ r) (all_left P d (e ∷ r) old) (all_right P d (e ∷ r) old)),
              set_done less (state_of less (entries_in n cells) n) k rank v _ (stands_within x link)
                  (changed (entries_in n cells) (entries_in n cells') _ (contents_after o hash n cells k b placed in_room home cells' (target n free) d (e ∷ []) ((e.0, v) ∷ []) r was made
                  (λ c. with_sequence less c k (set (sequence less c k) rank v))
                  (λ pre post q. entry_set o (λ e. e.0) (λ e. e.1) pre e (e.0, v) post k rank s.key s.key (q ∙ s.counted)))),
            )

-- ---- what the calls leave in the lent cells

module _ {K V : Type 0} {less : K → K → Bool} (o : StrictOrder less) (hash : K → ℕ) (old : List (Cell K V)) (r : ℕ) (is : r ≡ room_of old) (k : K) (rank : ℕ) (p : Place)
    (range : InRange (room_of old) p) (at : PlaceOf less hash (room_of old) (used_of old) k rank p) (free : ℕ) (v : ValidCells hash (room_of old) (used_of old) free) (x : ℕ) where
  abbrev meant : StoreState K V
  meant = state_of less (entries_in (room_of old) (used_of old)) (room_of old)

  fits : room_of old ≤ length (used_of old)
  fits = omega (arith, part-length old (room_of old) refl)

  leads : (l : ℕ) → target r l ≡ Some x → target (room_of old) l ≡ Some x
  leads l e = subst (λ (n : ℕ). target n l ≡ Some x) is e

  module _ (xs : List (Cell K V)) (same : length xs ≡ length (take r old)) where
    pub put_leaves : (w : V) (free' : ℕ) → target r free ≡ Some x → rank ≤ p.passed → target (length (take r old)) free' ≡ next_of (length (take r old)) (take r old) x
        → (((y : ℕ) → p.previous ≡ Some y → y ≢ x) → Relinked (length (take r old)) (take r old) xs p.bucket p.previous x (target (length (take r old)) p.link.0) (k, w) (Some x))
        → Outcome less hash (Ok tt) (put_outcome less meant k rank w) free' (room_of (xs ++ drop r old)) (used_of (xs ++ drop r old))
    put_leaves w free' e h next linked =
        after old r is (Outcome less hash (Ok tt) (put_outcome less meant k rank w) free') xs same
        (put_does o hash (room_of old) (used_of old) k rank p v.1 range at fits free v.0 xs x (target_in (room_of old) free x (leads free e)) w free' (leads free e) h
        (from_part old r is (λ (n : ℕ) (cells : List (Cell K V)). target n free' ≡ next_of n cells x) next)
        (from_part old r is (λ (n : ℕ) (cells : List (Cell K V)). ((y : ℕ) → p.previous ≡ Some y → y ≢ x) → Relinked n cells xs p.bucket p.previous x (target n p.link.0) (k, w) (Some x)) linked))

    pub take_leaves : target r p.link.0 ≡ Some x
        → ((e : K × V) → entry_of (take r old) x ≡ Some e → ((y : ℕ) → p.previous ≡ Some y → y ≢ x)
        → Relinked (length (take r old)) (take r old) xs p.bucket p.previous x (target (length (take r old)) free) e (next_of (length (take r old)) (take r old) x))
        → Outcome less hash true (take_outcome less meant k rank) p.link.0 (room_of (xs ++ drop r old)) (used_of (xs ++ drop r old))
    take_leaves e linked =
        after old r is (Outcome less hash true (take_outcome less meant k rank) p.link.0) xs same
        (take_does o hash (room_of old) (used_of old) k rank p v.1 range at fits free v.0 xs x (target_in (room_of old) p.link.0 x (leads p.link.0 e)) (leads p.link.0 e)
        (from_part old r is (λ (n : ℕ) (cells : List (Cell K V)). (e : K × V) → entry_of cells x ≡ Some e → ((y : ℕ) → p.previous ≡ Some y → y ≢ x) → Relinked n cells xs p.bucket p.previous x (target n free) e (next_of n cells x)) linked))

  abbrev written : Cell K V → V → List (Cell K V)
  written d w = set (take r old) x (record { key = (get_or (take r old) x d).key; value = w; first = (get_or (take r old) x d).first; next = (get_or (take r old) x d).next })

  pub set_leaves : (d : Cell K V) (w : V) → target r p.link.0 ≡ Some x
      → Outcome less hash true (set_outcome less meant k rank w) free (room_of (written d w ++ drop r old)) (used_of (written d w ++ drop r old))
  set_leaves d w e =
      let within = target_in (room_of old) p.link.0 x (leads p.link.0 e) in
      after old r is (Outcome less hash true (set_outcome less meant k rank w) free) (written d w) (length-set (take r old) x _)
      (set_does o hash (room_of old) (used_of old) k rank p v.1 range at fits free v.0 (written d w) x within (leads p.link.0 e) w
      (from_part old r is (λ (n : ℕ) (cells : List (Cell K V)). (e : K × V) → entry_of cells x ≡ Some e → Rewritten n cells (written d w) x (e.0, w))
      (rewritten (length (take r old)) (take r old) x d w (omega (arith, part-length old r is, within)))))
