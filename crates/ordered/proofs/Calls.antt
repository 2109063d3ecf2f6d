-- The outcomes of a store's calls, by what was found among its entries and what became of them.
use Rattle.std.proofs.Common.{◌≡◌, ℕ, ◌+◌, ◌<◌, ◌≤◌, min, Bool, true, false, ◌&&◌, ltb, leb, List, length, get_or, set, not, is_some, Some, None, option_map, Ok, Err, Option, sym, refl, ap, ◌∙◌, subst, ⊎_elim, arith}
use mathlib.Core.HLevel.{is_prop→PathP}
use Rattle.std.specs.Option.{MatchOption}
use Rattle.std.specs.Bool.{then_some}
use Rattle.std.specs.List.{insert, remove, slice_get}
use Rattle.std.proofs.lemmas.Option.{slice_get_within, slice_get_past, slice_get_cases, get_or_from_slice_get}
use Rattle.std.proofs.lemmas.Bool.{both_ways, cases_Bool, ltb-true, ltb-false, and_parts, and_cases, le-leb, lt-ltb}
use Rattle.keys.specs.Order.{StrictOrder}
use Rattle.keys.specs.declared.key.Key.{Ghosts}
use Rattle.chains.specs.Contents.{with_sequence}
use Rattle.chains.specs.State.{values, with_values, put_outcome, set_outcome, take_outcome}
use Rattle.chains.specs.declared.refusal.Refusal.TheVariants.{Full}
use Rattle.chains.proofs.Entries.{contents-used}
use Rattle.chains.proofs.Outcomes.{put_full, put_done, set_done, take_done}
use Rattle.row.proofs.Rooms.{items_fit, room_small}
use Rattle.row.specs.Row.{items, room}
use Rattle.row.specs.declared.row.Row.{Row}
use Rattle.ordered.specs.declared.cell.Cell.{Cell}
use Rattle.ordered.specs.declared.ordered.Found.{Found}
use Rattle.ordered.specs.declared.ordered.Ordered.{Ordered}
use Rattle.ordered.specs.Sorted.{Sorted, Sorted-prop, smaller, held}
use Rattle.ordered.specs.Store.{state_of, entries, room_of, state, StandsAt, GoesAt}
use Rattle.ordered.proofs.Sorted.{sorted_take}
use Rattle.ordered.proofs.Effects.{stretch_within, present, absent, value_at, put_at, put_sorted, take_at, set_at, set_sorted}

-- a store is known by its row
pub same_store : {K V : Type 0} {order : Ghosts K} (s t : Ordered K V order) → s.row ≡ t.row → s ≡ t
same_store {order = order} s t e = λ i. record {
  row = e i;
  sorted = is_prop→PathP (λ j. Sorted order.less (items (e j))) (λ j. Sorted-prop order.less (items (e j))) s.sorted t.sorted i;
}

module _ {K V : Type 0} {order : Ghosts K} (o : StrictOrder order.less) (s : Ordered K V order) (k : K) (start rank place : ℕ) (a : start ≡ smaller order.less (entries s) k) (p : place ≡ min (start + rank) 18446744073709551615) where
  -- ---- what a search at a rank finds: the place is the key's first plus the rank, unless that passes 64 bits

  pub none_there : slice_get (entries s) place ≡ None → length (values order.less (state s) k) ≤ rank
  none_there n =
      let w = stretch_within o (entries s) k in
      let past : length (entries s) ≤ place = grind (arith, slice_get_cases, n) in
      omega (arith, items_fit s.row, room_small s.row)

  pub found : (c : Cell K V) (b : Bool) (r : Option (Found V)) → slice_get (entries s) place ≡ Some c → b ≡ order.less k c.key → r ≡ then_some (not b) (record { place = place; value = c.value })
      → MatchOption r (length (values order.less (state s) k) ≤ rank) (λ f. StandsAt s k rank f.place) × (option_map (λ f. f.value) r ≡ slice_get (values order.less (state s) k) rank)
  found c b r n t e = go b t e
    where
      lt : place < length (entries s)
      lt = slice_get_within (entries s) place c n

      here : get_or (entries s) place c ≡ c
      here = get_or_from_slice_get (entries s) place c c n

      at : place ≡ smaller order.less (entries s) k + rank
      at = omega (arith, lt, items_fit s.row, room_small s.row)

      go : (b : Bool) → b ≡ order.less k c.key → r ≡ then_some (not b) (record { place = place; value = c.value })
          → MatchOption r (length (values order.less (state s) k) ≤ rank) (λ f. StandsAt s k rank f.place) × (option_map (λ f. f.value) r ≡ slice_get (values order.less (state s) k) rank)
      go true t e =
          let past = absent o (entries s) k rank place s.sorted at c (ap (λ (x : Cell K V). order.less k x.key) here ∙ sym t) in
          rw e (past, sym (slice_get_past (values order.less (state s) k) rank past))
      go false t e =
          let there = present o (entries s) k rank place s.sorted at c lt (ap (λ (x : Cell K V). order.less k x.key) here ∙ sym t) in
          rw e ((at, there), sym (value_at o (entries s) k rank place s.sorted at c there ∙ ap (λ (x : Cell K V). Some x.value) here))

pub nothing : {X : Type 0} (o : Option X) (b : Bool) → b ≡ is_some o → b ≡ false → o ≡ None
nothing None b e f = refl
nothing (Some x) b e f = cc

-- ---- what becomes of a store whose row a call changed at a place that was found
module _ {K V : Type 0} {order : Ghosts K} (o : StrictOrder order.less) (s : Ordered K V order) (k : K) (rank : ℕ) where
  -- entries that hold what the call should leave make the state that it should leave
  changed : (es : List (Cell K V)) (r : ℕ) (vs : List V) → held order.less es ≡ with_sequence order.less (held order.less (entries s)) k vs → r ≡ room_of s → state_of order.less es r ≡ with_values order.less (state s) k vs
  changed es r vs p q = λ i. record { contents = p i; section = λ _. 0; room = λ _. q i }

  -- a row stays sorted by a call that sorts it, or leaves it as it was
  either : (row : Row (Cell K V)) (answer : Bool) (es : List (Cell K V)) → (answer ≡ true → items row ≡ es) → (answer ≡ false → row ≡ s.row) → Sorted order.less es → Sorted order.less (items row)
  either row answer es e f h =
      let P : List (Cell K V) → Type 0 = λ x. Sorted order.less x in
      ⊎_elim (λ t. subst P (sym (e t)) h) (λ g. subst P (ap items (sym (f g))) s.sorted) (cases_Bool answer)

  module _ (v : V) where
    pub put_sorts : (place : ℕ) (answer : Bool) (row : Row (Cell K V)) → answer ≡ (leb place (length (entries s)) && ltb (length (entries s)) (room_of s)) → (answer ≡ true → items row ≡ insert (entries s) place (record { key = k; value = v })) → (answer ≡ false → row ≡ s.row) → GoesAt s k rank place
        → Sorted order.less (items row)
    put_sorts place answer row _ e f p = either row answer _ e f (put_sorted o (entries s) k rank place s.sorted p.0 v p.1)

    pub put_does : (place : ℕ) (answer : Bool) (row : Row (Cell K V)) → answer ≡ (leb place (length (entries s)) && ltb (length (entries s)) (room_of s)) → answer ≡ true
        → (answer ≡ true → items row ≡ insert (entries s) place (record { key = k; value = v })) → room row ≡ room_of s → GoesAt s k rank place
        → (Ok tt, state_of order.less (items row) (room row)) ≡ put_outcome order.less (state s) k rank v
    put_does place answer row a t e q p =
        let u = contents-used o (λ e. e.key) (λ e. e.value) (entries s) in
        let free = ltb-true (length (entries s)) (room_of s) (and_parts (leb place (length (entries s))) (ltb (length (entries s)) (room_of s)) (sym a ∙ t)).1 in
        put_done order.less (state s) k rank v _ p.1 (omega arith) (changed (items row) (room row) _ (ap (λ (x : List (Cell K V)). held order.less x) (e t) ∙ put_at o (entries s) k rank place s.sorted p.0 v p.1) q)

    pub put_refuses : (place : ℕ) (answer : Bool) (row : Row (Cell K V)) → answer ≡ (leb place (length (entries s)) && ltb (length (entries s)) (room_of s)) → answer ≡ false
        → (answer ≡ false → row ≡ s.row) → GoesAt s k rank place → (Err Full, state_of order.less (items row) (room row)) ≡ put_outcome order.less (state s) k rank v
    put_refuses place answer row a f e p =
        let w = stretch_within o (entries s) k in
        let u = contents-used o (λ e. e.key) (λ e. e.value) (entries s) in
        let full : room_of s ≤ length (entries s) =
        ⊎_elim
        (λ q. absurd (both_ways (leb place (length (entries s))) q (le-leb place (length (entries s)) (omega arith))))
        (λ q. ltb-false (length (entries s)) (room_of s) q)
        (and_cases (leb place (length (entries s))) (ltb (length (entries s)) (room_of s)) (sym a ∙ f)) in
        ap (λ (r : Row (Cell K V)). (Err Full, state_of order.less (items r) (room r))) (e f) ∙ put_full order.less (state s) k rank v p.1 (omega arith)

    pub set_sorts : (place : ℕ) (answer : Bool) (row : Row (Cell K V)) → answer ≡ ltb place (length (entries s)) → (answer ≡ true → items row ≡ set (entries s) place (record { key = k; value = v })) → (answer ≡ false → row ≡ s.row) → StandsAt s k rank place
        → Sorted order.less (items row)
    set_sorts place answer row _ e f p = either row answer _ e f (set_sorted o (entries s) k rank place s.sorted p.0 v p.1)

    pub set_does : (place : ℕ) (answer : Bool) (row : Row (Cell K V)) → answer ≡ ltb place (length (entries s)) → (answer ≡ true → items row ≡ set (entries s) place (record { key = k; value = v })) → room row ≡ room_of s
        → StandsAt s k rank place → (answer, state_of order.less (items row) (room row)) ≡ set_outcome order.less (state s) k rank v
    set_does place answer row a e q p =
        let w = stretch_within o (entries s) k in
        let t : answer ≡ true = a ∙ lt-ltb place (length (entries s)) (omega arith) in
        rw t (set_done order.less (state s) k rank v _ p.1 (changed (items row) (room row) _ (ap (λ (x : List (Cell K V)). held order.less x) (e t) ∙ set_at o (entries s) k rank place s.sorted p.0 v p.1) q))

  pub take_sorts : (place : ℕ) (row : Row (Cell K V)) → items row ≡ remove (entries s) place → Sorted order.less (items row)
  take_sorts place row e = let P : List (Cell K V) → Type 0 = λ x. Sorted order.less x in subst P (sym e) (sorted_take o (entries s) place s.sorted)

  pub take_does : (place : ℕ) (answer : Bool) (row : Row (Cell K V)) → items row ≡ remove (entries s) place → answer ≡ is_some (slice_get (entries s) place) → room row ≡ room_of s
      → StandsAt s k rank place → (answer, state_of order.less (items row) (room row)) ≡ take_outcome order.less (state s) k rank
  take_does place answer row e a q p =
      let w = stretch_within o (entries s) k in
      let t : answer ≡ true = grind (arith, slice_get_cases, a) in
      rw t (take_done order.less (state s) k rank _ p.1 (changed (items row) (room row) _ (ap (λ (x : List (Cell K V)). held order.less x) e ∙ take_at o (entries s) k rank place s.sorted p.0 p.1) q))
