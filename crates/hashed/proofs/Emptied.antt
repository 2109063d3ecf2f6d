-- Cells whose buckets are emptied one after the other.
use Rattle.std.proofs.Common.{◌≡◌, ℕ, zero, suc, ◌+◌, ◌%◌, ◌<◌, ◌≤◌, ◌≢◌, List, [], ◌++◌, length, take, drop, set, Some, None, Option, sym, refl, ap, ◌∙◌, subst, ⊎_elim, add-one, arith}
use Rattle.std.specs.List.{AllByRecursion}
use Rattle.std.proofs.ByRecursion.{All-weaker}
use Rattle.std.proofs.lemmas.Bool.{cases_eq}
use Rattle.hashed.specs.declared.cell.Cell.{Cell}
use Rattle.hashed.specs.declared.cell.Link.{Link}
use Rattle.hashed.specs.Links.{walk, collected, gathered}
use Rattle.hashed.specs.Cells.{target, next_in, first_in, next_of, first_of, entry_of, bucket_of, bucket_entries, entries_in, below, room_of, used_of, Emptied, OwnList, ValidCells}
use Rattle.hashed.proofs.Links.{linked-front}
use Rattle.hashed.proofs.Used.{part-length, after}
use Rattle.hashed.proofs.Writes.{target_of, target_none, set_here, set_there}

all-below : (m n : ℕ) → m ≤ n → AllByRecursion (λ z. z < n) (below m)
all-below zero n h = tt
all-below (suc m) n h = (omega arith, all-below m n (omega arith))

pub emptied_more : {K V : Type 0} (n : ℕ) (cells : List (Cell K V)) (r : Cell K V) (free to : Link) (i : ℕ) → i < length cells → i < n → n ≤ 32768 → to.0 ≡ i → Emptied n cells (target n free.0) i
    → Emptied n (set cells i (record { key = r.key; value = r.value; first = record { 0 = 32768 }; next = free })) (target n to.0) (i + 1)
emptied_more {K} {V} n cells r free to i h l small e f =
    let c : Cell K V = record { key = r.key; value = r.value; first = record { 0 = 32768 }; next = free } in
    let made : Emptied n (set cells i c) (Some i) (suc i) =
    record {
      linked = linked-front (next_of n cells) (next_of n (set cells i c)) i (target n free.0) (below i) f.linked
          (All-weaker (λ z. z < i) (λ z. z ≢ i) (λ z q w. absurd (omega arith)) (below i) (all-below i i (omega arith)))
          (set_here (next_in n) cells i c h)
          (λ z ne. set_there (next_in n) cells i c z ne);
      empty = λ z q. ⊎_elim
          (λ (w : z ≡ i). ap (first_of n (set cells i c)) w ∙ set_here (first_in n) cells i c h ∙ target_none n 32768 small)
          (λ (ne : z ≢ i). set_there (first_in n) cells i c z ne ∙ f.empty z (omega arith))
          (cases_eq z i);
    } in
    subst (λ (m : ℕ). Emptied n (set cells i c) (target n to.0) m) (sym (add-one i)) (subst (λ (t : Option ℕ). Emptied n (set cells i c) t (suc i)) (sym (target_of n to.0 i e l)) made)

walk_none : (next : ℕ → Option ℕ) (n : ℕ) → walk next n None ≡ []
walk_none next zero = refl
walk_none next (suc n) = refl

length-below : (n : ℕ) → length (below n) ≡ n
length-below zero = refl
length-below (suc n) = ap suc (length-below n)

gathered_nil : {E : Type 0} (f : ℕ → List E) (n : ℕ) → ((b : ℕ) → b < n → f b ≡ []) → gathered f n ≡ []
gathered_nil f zero h = refl
gathered_nil f (suc n) h = rw (h n (omega arith), gathered_nil f n (λ b l. h b (omega arith)))

module _ {K V : Type 0} (n : ℕ) (cells : List (Cell K V)) (free : ℕ) (emptied : Emptied n cells (target n free) n) where
  no_cells : (b : ℕ) → b < n → bucket_of n cells b ≡ []
  no_cells b h = ap (walk (next_of n cells) n) (emptied.empty b h) ∙ walk_none (next_of n cells) n

  no_entries : (b : ℕ) → b < n → bucket_entries n cells b ≡ []
  no_entries b h = ap (collected (entry_of cells)) (no_cells b h)

  pub emptied-entries : entries_in n cells ≡ []
  emptied-entries = gathered_nil (bucket_entries n cells) n no_entries

  pub emptied_valid : (hash : K → ℕ) → ValidCells hash n cells free
  emptied_valid hash = (
    record {
      own = λ z. n;
      buckets = λ b h. subst (OwnList (λ z. n) n cells b (first_of n cells b)) (sym (no_cells b h)) (record { linked = emptied.empty b h; within = tt; owned = tt });
      unused = below n;
      freed = record { linked = emptied.linked; within = all-below n n (omega arith); owned = All-weaker (λ z. z < n) (λ z. n ≡ n) (λ z q. refl) (below n) (all-below n n (omega arith)) };
      all = omega (arith, length-below n, ap length (gathered_nil (bucket_of n cells) n no_cells));
    },
    λ b h. subst (AllByRecursion (λ e. hash e.0 % n ≡ b)) (sym (no_entries b h)) tt,
  )

-- the lent cells, where those in use were emptied
module _ {K V : Type 0} (hash : K → ℕ) (old : List (Cell K V)) (r : ℕ) (is : r ≡ room_of old) (xs : List (Cell K V)) (same : length xs ≡ length (take r old)) (free : ℕ)
    (made : Emptied (length (take r old)) xs (target (length (take r old)) free) (length (take r old))) where
  pub cleared : ValidCells hash (room_of (xs ++ drop r old)) (used_of (xs ++ drop r old)) free
      × (entries_in (room_of (xs ++ drop r old)) (used_of (xs ++ drop r old)) ≡ []) × (room_of (xs ++ drop r old) ≡ room_of old)
  cleared =
      let e = subst (λ (n : ℕ). Emptied n xs (target n free) n) (part-length old r is) made in
      after old r is (λ (n : ℕ) (cells : List (Cell K V)). ValidCells hash n cells free × (entries_in n cells ≡ []) × (n ≡ room_of old)) xs same
      (emptied_valid (room_of old) xs free e hash, emptied-entries (room_of old) xs free e, refl)
