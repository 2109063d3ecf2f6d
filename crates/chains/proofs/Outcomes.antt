-- Which outcome a call of a store has, by its rank and by how full the key's section is.
use Rattle.std.proofs.Common.{◌≡◌, ℕ, ◌<◌, ◌≤◌, Bool, true, false, length, set, Ok, Err}
use Rattle.std.specs.List.{insert, remove}
use Rattle.std.proofs.lemmas.Bool.{lt-ltb, le-ltb, le-leb, lt-leb}
use Rattle.chains.specs.declared.refusal.Refusal.TheVariants.{Full, PastEnd}
use Rattle.chains.specs.Contents.{used}
use Rattle.chains.specs.State.{StoreState, values, with_values, put_outcome, set_outcome, take_outcome}

module _ {K V : Type 0} (less : K → K → Bool) (s : StoreState K V) (k : K) (rank : ℕ) where
  pub put_past : (v : V) → length (values less s k) < rank → (Err PastEnd, s) ≡ put_outcome less s k rank v
  put_past v h = let t = lt-ltb (length (values less s k)) rank h in rw t

  pub put_full : (v : V) → rank ≤ length (values less s k) → s.room (s.section k) ≤ used s.section s.contents (s.section k) → (Err Full, s) ≡ put_outcome less s k rank v
  put_full v h r =
      let t = le-ltb (length (values less s k)) rank h in
      let u = le-leb (s.room (s.section k)) (used s.section s.contents (s.section k)) r in
      rw (t, u)

  pub put_done : (v : V) (t : StoreState K V) → rank ≤ length (values less s k) → used s.section s.contents (s.section k) < s.room (s.section k)
      → t ≡ with_values less s k (insert (values less s k) rank v) → (Ok tt, t) ≡ put_outcome less s k rank v
  put_done v t h r e =
      let l = le-ltb (length (values less s k)) rank h in
      let u = lt-leb (s.room (s.section k)) (used s.section s.contents (s.section k)) r in
      rw (l, u, e)

  pub set_past : (v : V) → length (values less s k) ≤ rank → (false, s) ≡ set_outcome less s k rank v
  set_past v h = let t = le-ltb rank (length (values less s k)) h in rw t

  pub set_done : (v : V) (t : StoreState K V) → rank < length (values less s k) → t ≡ with_values less s k (set (values less s k) rank v) → (true, t) ≡ set_outcome less s k rank v
  set_done v t h e = let l = lt-ltb rank (length (values less s k)) h in rw (l, e)

  pub take_past : length (values less s k) ≤ rank → (false, s) ≡ take_outcome less s k rank
  take_past h = let t = le-ltb rank (length (values less s k)) h in rw t

  pub take_done : (t : StoreState K V) → rank < length (values less s k) → t ≡ with_values less s k (remove (values less s k) rank) → (true, t) ≡ take_outcome less s k rank
  take_done t h e = let l = lt-ltb rank (length (values less s k)) h in rw (l, e)
