-- How the text of a report and its counts grow from key to key and from rank to rank.
use Rattle.std.proofs.Common.{◌≡◌, ℕ, suc, ◌+◌, ◌<◌, ◌≤◌, List, [], ◌∷◌, ◌++◌, length, drop, take, Some, None, decimal, Option, sym, refl, ap, ◌∙◌, add-one, arith, length-drop}
use Rattle.std.specs.List.{slice_get}
use Rattle.std.proofs.lemmas.List.{append-nil, append_assoc, take_all}
use Rattle.keys.proofs.Orders.{letters_order}
use Rattle.keys.specs.Letters.{letters_less}
use Rattle.keys.specs.declared.letters.LettersKey.{LettersKey}
use Rattle.chains.specs.Contents.{sequence, used, Ascending, first_key, key_above}
use Rattle.chains.proofs.Entries.{contents-ascending, contents-used}
use Rattle.row.proofs.Rooms.{items_fit, room_small}
use Rattle.ordered.specs.Store.{entries}
use Rattle.listing.specs.Listing.{contents}
use Rattle.listing.specs.declared.listing.Listing.{Listing}
use Rattle.listing.specs.Report.{spaced, line_text, lines_text, total}
use Rattle.listing.proofs.Walks.{take_dropped, take_nth, turn, no_turn}

-- ---- the places of one key

spaced-append : (ms ns : List ℕ) → spaced (ms ++ ns) ≡ spaced ms ++ spaced ns
spaced-append [] ns = refl
spaced-append (m ∷ ms) ns = ap (λ (text : List ℕ). 32 ∷ decimal m ++ text) (spaced-append ms ns) ∙ sym (append_assoc (32 ∷ decimal m) (spaced ms) (spaced ns))

-- one place more behind what is written
pub spaced_more : (text places : List ℕ) (rank n : ℕ) → slice_get places rank ≡ Some n → (text ++ spaced (take rank places)) ++ 32 ∷ decimal n ≡ text ++ spaced (take (rank + 1) places)
spaced_more text places rank n h =
    let m : spaced (take (suc rank) places) ≡ spaced (take rank places) ++ 32 ∷ decimal n =
    ap spaced (take_nth places rank n h) ∙ spaced-append (take rank places) (n ∷ []) ∙ ap (λ (t : List ℕ). spaced (take rank places) ++ 32 ∷ t) (append-nil (decimal n)) in
    rw add-one (append_assoc text (spaced (take rank places)) (32 ∷ decimal n) ∙ ap (λ (t : List ℕ). text ++ t) (sym m))

-- ---- the lines of all keys

total-used : (c : List (LettersKey × List ℕ)) → total c ≡ used (λ _. 0) c 0
total-used [] = refl
total-used (e ∷ c) = ap (λ (n : ℕ). length e.1 + n) (total-used c)

-- a store holds no more than 32,768 values, and a key at least one
pub total-small : (l : Listing) → total (contents l) ≤ 32768
total-small l =
    omega (arith, total-used (contents l), contents-used letters_order (λ e. e.key) (λ e. e.value) (entries l.store), items_fit l.store.row, room_small l.store.row)

keys_le_total : (c : List (LettersKey × List ℕ)) → Ascending letters_less c → length c ≤ total c
keys_le_total [] r = omega arith
keys_le_total (e ∷ c) r = let n = keys_le_total c r.2 in omega (arith, r.0)

pub held-ascending : (l : Listing) → Ascending letters_less (contents l)
held-ascending l = contents-ascending letters_order (λ e. e.key) (λ e. e.value) (entries l.store)

pub keys_small : (l : Listing) → length (contents l) ≤ 32768
keys_small l = omega (arith, keys_le_total (contents l) (held-ascending l), total-small l)

lines_text-append : (c d : List (LettersKey × List ℕ)) → lines_text (c ++ d) ≡ lines_text c ++ lines_text d
lines_text-append [] d = refl
lines_text-append (e ∷ c) d = ap (λ (text : List ℕ). line_text e.0 e.1 ++ text) (lines_text-append c d) ∙ sym (append_assoc (line_text e.0 e.1) (lines_text c) (lines_text d))

-- the first i keys are listed: the next key, and how many values they have
pub record Listed (c : List (LettersKey × List ℕ)) (i : ℕ) (next : Option LettersKey) (values : ℕ) : Type 0 where
  pub within : i ≤ length c
  pub first : next ≡ first_key (drop i c)
  pub counted : values + total (drop i c) ≡ total c

module _ (c : List (LettersKey × List ℕ)) (i : ℕ) (next : Option LettersKey) (values : ℕ) (h : Listed c i next values) where
  pub key_within : (key : LettersKey) → Ascending letters_less c → next ≡ Some key → i < length c
  key_within key r n = (turn letters_order c i key r (sym h.first ∙ n)).within

  pub listed_more : (key : LettersKey) (above : Option LettersKey) (count : ℕ) → Ascending letters_less c → next ≡ Some key
      → above ≡ key_above letters_less c key → count ≡ length (sequence letters_less c key)
      → Listed c (i + 1) above (values + count)
  listed_more key above count r n a k =
      let t = turn letters_order c i key r (sym h.first ∙ n) in
      let m : total (drop i c) ≡ length (sequence letters_less c key) + total (drop (suc i) c) = ap total t.here in
      record {
        within = omega (arith, t.within);
        first = rw add-one (a ∙ t.after);
        counted = rw add-one (omega (arith, m, k, h.counted));
      }

  pub lines_more : (key : LettersKey) → Ascending letters_less c → next ≡ Some key
      → lines_text (take i c) ++ line_text key (sequence letters_less c key) ≡ lines_text (take (i + 1) c)
  lines_more key r n =
      let places = sequence letters_less c key in
      let m : lines_text (take (suc i) c) ≡ lines_text (take i c) ++ line_text key places =
      ap lines_text (take_dropped c i (key, places) (turn letters_order c i key r (sym h.first ∙ n)).here) ∙ lines_text-append (take i c) ((key, places) ∷ [])
      ∙ ap (λ (t : List ℕ). lines_text (take i c) ++ t) (append-nil (line_text key places)) in
      rw add-one (sym m)

  pub listed_all : next ≡ None → (i ≡ length c) × (values ≡ total c)
  listed_all n =
      let d = no_turn letters_order c i (sym h.first ∙ n) in (
        omega (arith, h.within, length-drop i c, ap length d),
        omega (arith, h.counted, ap total d),
      )

  pub lines_all : next ≡ None → lines_text (take i c) ≡ lines_text c
  lines_all n = ap lines_text (take_all i c (omega (arith, (listed_all n).0)))
