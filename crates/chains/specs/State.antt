-- What a store means, and what each of its calls does to that.
use Rattle.std.specs.Prelude.{ℕ, ◌≤◌, Bool, true, false, cond, List, [], length, Ok, Err, Result, nat_le, nat_lt, slice_set}
use Rattle.std.specs.List.{insert, remove}
use Rattle.chains.specs.Contents.{sequence, with_sequence, used, Ascending}
use Rattle.chains.specs.declared.refusal.Refusal.{Refusal}
use Rattle.chains.specs.declared.refusal.Refusal.TheVariants.{Full, PastEnd}

-- the contents, the section of each key, and the room of each section
pub record StoreState (K V : Type 0) : Type 0 where
  pub contents : List (K × List V)
  pub section : K → ℕ
  pub room : ℕ → ℕ

abbrev pub values : {K V : Type 0} → (K → K → Bool) → StoreState K V → K → List V
values less s k = sequence less s.contents k

abbrev pub with_values : {K V : Type 0} → (K → K → Bool) → StoreState K V → K → List V → StoreState K V
with_values less s k vs = record { contents = with_sequence less s.contents k vs; section = s.section; room = s.room }

abbrev pub emptied : {K V : Type 0} → StoreState K V → StoreState K V
emptied s = record { contents = []; section = s.section; room = s.room }

-- a section is full when the sequences of its keys together hold as many values as its room
abbrev pub is_full : {K V : Type 0} → StoreState K V → K → Bool
is_full s k = nat_le (s.room (s.section k)) (used s.section s.contents (s.section k))

-- the keys ascend, no section holds more values than its room, and no room exceeds 32,768
pub record Lawful {K V : Type 0} (less : K → K → Bool) (s : StoreState K V) : Type 0 where
  pub ascending : Ascending less s.contents
  pub within : (n : ℕ) → used s.section s.contents n ≤ s.room n
  pub small : (n : ℕ) → s.room n ≤ 32768

module _ {K V : Type 0} (less : K → K → Bool) where
  -- put refuses a rank past the length first, a full section second
  abbrev pub put_outcome : StoreState K V → K → ℕ → V → Result (Unit {0}) Refusal × StoreState K V
  put_outcome s k rank v =
      cond (nat_lt (length (values less s k)) rank)
      (Err PastEnd, s)
      (cond (is_full s k)
      (Err Full, s)
      (Ok tt, with_values less s k (insert (values less s k) rank v)))

  abbrev pub set_outcome : StoreState K V → K → ℕ → V → Bool × StoreState K V
  set_outcome s k rank v =
      cond (nat_lt rank (length (values less s k)))
      (true, with_values less s k (slice_set (values less s k) rank v))
      (false, s)

  abbrev pub take_outcome : StoreState K V → K → ℕ → Bool × StoreState K V
  take_outcome s k rank =
      cond (nat_lt rank (length (values less s k)))
      (true, with_values less s k (remove (values less s k) rank))
      (false, s)
