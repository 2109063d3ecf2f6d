-- What a call at a rank of a key's sequence does to sorted entries and to what they hold.
use Rattle.std.proofs.Common.{not, ◌≡◌, ℕ, suc, ◌+◌, ◌<◌, ◌≤◌, Bool, true, false, List, [], ◌∷◌, ◌++◌, length, get_or, take, drop, set, Some, sym, refl, ap, ◌∙◌, subst, ⊎_elim, add-one, arith}
use Rattle.std.specs.List.{insert, remove, slice_get}
use Rattle.std.proofs.lemmas.List.Sums.{count_by-le-length}
use Rattle.std.proofs.lemmas.List.{take-append-drop, drop_more, set_split}
use Rattle.std.proofs.lemmas.Bool.{both_ways, cases_lt}
use Rattle.keys.specs.Order.{StrictOrder}
use Rattle.chains.specs.Contents.{sequence, with_sequence}
use Rattle.chains.specs.Entries.{values_under}
use Rattle.chains.proofs.Entries.{contents-sequence, entry_put, entry-taken, entry_set, entry_nth}
use Rattle.ordered.specs.declared.cell.Cell.{Cell}
use Rattle.ordered.specs.Sorted.{Sorted, smaller, not_greater, held}
use Rattle.ordered.proofs.Sorted.{bounds, before_place, key_at, behind_place, sorted_put, sorted_set}

module _ {K V : Type 0} {less : K → K → Bool} (o : StrictOrder less) where
  -- the sequence of a key is as long as the stretch of its entries
  pub stretch : (es : List (Cell K V)) (k : K) → smaller less es k + length (sequence less (held less es) k) ≡ not_greater less es k
  stretch es k =
      let e = ap (λ (t : List V). length t) (contents-sequence o (λ e. e.key) (λ e. e.value) es k) in
      let b = bounds o es k in
      omega (arith, e, b)

  pub stretch_within : (es : List (Cell K V)) (k : K) → smaller less es k + length (sequence less (held less es) k) ≤ length es
  stretch_within es k = let s = stretch es k in let n = count_by-le-length (λ (e : Cell K V). not (less k e.key)) es in omega arith

-- a rank of a key's sequence, and its place among sorted entries
module _ {K V : Type 0} {less : K → K → Bool} (o : StrictOrder less) (es : List (Cell K V)) (k : K) (rank i : ℕ) (s : Sorted less es) (at : i ≡ smaller less es k + rank) where
  -- ---- which places are a key's

  pub present : (d : Cell K V) → i < length es → less k (get_or es i d).key ≡ false → rank < length (sequence less (held less es) k)
  present d lt f =
      let b = stretch o es k in
      ⊎_elim (λ h. h) (λ h. absurd (both_ways (less k (get_or es i d).key) f (behind_place o es k i d s (omega arith) lt))) (cases_lt rank (length (sequence less (held less es) k)))

  pub own : (d : Cell K V) → rank < length (sequence less (held less es) k) → (get_or es i d).key ≡ k
  own d lt = let b = stretch o es k in key_at o es k i d s (omega arith) (omega arith)

  pub absent : (d : Cell K V) → less k (get_or es i d).key ≡ true → length (sequence less (held less es) k) ≤ rank
  absent d t =
      ⊎_elim (λ h. absurd (both_ways (less k k) (o.irreflexive k) (sym (ap (λ x. less k x) (own d h)) ∙ t))) (λ h. h) (cases_lt rank (length (sequence less (held less es) k)))

  -- ---- what stands at a rank, and what changes there

  before_rank : rank ≤ length (sequence less (held less es) k) → length (values_under less (λ e. e.key) (λ e. e.value) (take i es) k) ≡ rank
  before_rank le = let b = stretch o es k in let f = before_place o es k i s (omega arith) (omega arith) in omega arith

  split : (d : Cell K V) → rank < length (sequence less (held less es) k) → take i es ++ get_or es i d ∷ drop (suc i) es ≡ es
  split d lt =
      let w = stretch_within o es k in
      let e : suc i ≡ i + 1 = sym (add-one i) in
      ap (λ (m : ℕ). take i es ++ get_or es i d ∷ drop m es) e ∙ ap (λ (t : List (Cell K V)). take i es ++ t) (sym (drop_more es i d (omega arith))) ∙ take-append-drop i es

  pub value_at : (d : Cell K V) → rank < length (sequence less (held less es) k) → slice_get (sequence less (held less es) k) rank ≡ Some (get_or es i d).value
  value_at d lt =
      let P : List (Cell K V) → Type 0 = λ x. slice_get (sequence less (held less x) k) rank ≡ Some (get_or es i d).value in
      subst P (split d lt) (entry_nth o (λ e. e.key) (λ e. e.value) (take i es) (get_or es i d) (drop (suc i) es) k rank (own d lt) (before_rank (omega arith)))

  pub put_at : (v : V) → rank ≤ length (sequence less (held less es) k)
      → held less (insert es i (record { key = k; value = v })) ≡ with_sequence less (held less es) k (insert (sequence less (held less es) k) rank v)
  put_at v le =
      let c : Cell K V = record { key = k; value = v } in
      let P : List (Cell K V) → Type 0 = λ x. held less (insert es i c) ≡ with_sequence less (held less x) k (insert (sequence less (held less x) k) rank v) in
      subst P (take-append-drop i es) (entry_put o (λ e. e.key) (λ e. e.value) (take i es) c (drop i es) k rank refl (before_rank le))

  pub put_sorted : (v : V) → rank ≤ length (sequence less (held less es) k) → Sorted less (insert es i (record { key = k; value = v }))
  put_sorted v le = let b = stretch o es k in sorted_put o es i (record { key = k; value = v }) s (omega arith) (omega arith)

  pub take_at : rank < length (sequence less (held less es) k) → held less (remove es i) ≡ with_sequence less (held less es) k (remove (sequence less (held less es) k) rank)
  take_at lt = go es refl
    where
      go : (xs : List (Cell K V)) → es ≡ xs → held less (remove es i) ≡ with_sequence less (held less es) k (remove (sequence less (held less es) k) rank)
      go [] q = let w = stretch_within o es k in let n = ap (λ (t : List (Cell K V)). length t) q in absurd (omega arith)
      go (d ∷ _) q =
          let P : List (Cell K V) → Type 0 = λ x. held less (remove es i) ≡ with_sequence less (held less x) k (remove (sequence less (held less x) k) rank) in
          subst P (split d lt) (entry-taken o (λ e. e.key) (λ e. e.value) (take i es) (get_or es i d) (drop (suc i) es) k rank (own d lt) (before_rank (omega arith)))

  pub set_at : (v : V) → rank < length (sequence less (held less es) k)
      → held less (set es i (record { key = k; value = v })) ≡ with_sequence less (held less es) k (set (sequence less (held less es) k) rank v)
  set_at v lt =
      let c : Cell K V = record { key = k; value = v } in
      let w = stretch_within o es k in
      let P : List (Cell K V) → Type 0 = λ x. held less (set es i c) ≡ with_sequence less (held less x) k (set (sequence less (held less x) k) rank v) in
      subst P (split c lt)
      (ap (λ (x : List (Cell K V)). held less x) (set_split es i c (omega arith))
      ∙ entry_set o (λ e. e.key) (λ e. e.value) (take i es) (get_or es i c) c (drop (suc i) es) k rank (own c lt) refl (before_rank (omega arith)))

  pub set_sorted : (v : V) → rank < length (sequence less (held less es) k) → Sorted less (set es i (record { key = k; value = v }))
  set_sorted v lt = let c : Cell K V = record { key = k; value = v } in sorted_set o es i c c s (sym (own c lt))
