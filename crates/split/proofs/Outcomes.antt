-- Put, set and take seen alike, and at a key whose values stand in one part of a whole.
use Rattle.std.proofs.Common.{◌≡◌, ℕ, Bool, true, false, cond, ltb, List, length, set as set_at, Ok, Err, Result, sym, ◌∙◌, subst, arith}
use Rattle.std.specs.List.{insert, remove}
use Rattle.chains.specs.declared.refusal.Refusal.{Refusal}
use Rattle.chains.specs.declared.refusal.Refusal.TheVariants.{Full, PastEnd}
use Rattle.chains.specs.State.{StoreState, values, with_values, is_full}

-- what a call at a key does, by the key's values and by whether its section is full: it answers, and
-- keeps the state or leaves one in which the key has other values
abbrev pub Run : Type 0 → Type 0 → Type 1
Run V R = (S : Type 0) → List V → Bool → S → (List V → S) → R × S

-- it does the same to what the states are mapped to
pub record Call {V R : Type 0} (run : Run V R) : Type 1 where
  pub mapped : (S T : Type 0) (f : S → T) (vs : List V) (full : Bool) (s : S) (with : List V → S) → ((run S vs full s with).0, f (run S vs full s with).1) ≡ run T vs full (f s) (λ ws. f (with ws))

module _ {V : Type 0} (rank : ℕ) (v : V) where
  abbrev pub put_run : Run V (Result (Unit {0}) Refusal)
  put_run S vs full s with = cond (ltb (length vs) rank) (Err PastEnd, s) (cond full (Err Full, s) (Ok tt, with (insert vs rank v)))

  pub put : Call put_run
  put = record { mapped = λ S T f vs full s with. grind arith }

  abbrev pub set_run : Run V Bool
  set_run S vs full s with = cond (ltb rank (length vs)) (true, with (set_at vs rank v)) (false, s)

  pub set : Call set_run
  set = record { mapped = λ S T f vs full s with. grind arith }

module _ (V : Type 0) (rank : ℕ) where
  abbrev pub take_run : Run V Bool
  take_run S vs full s with = cond (ltb rank (length vs)) (true, with (remove vs rank)) (false, s)

  pub take : Call take_run
  take = record { mapped = λ S T f vs full s with. grind arith }

abbrev pub outcome : {K V R : Type 0} → (K → K → Bool) → Run V R → StoreState K V → K → R × StoreState K V
outcome {K} {V} less run s k = run (StoreState K V) (values less s k) (is_full s k) s (with_values less s k)

-- ---- a key whose values stand in one part of a whole

module _ {K V R : Type 0} (less : K → K → Bool) (k : K) {part : StoreState K V} {run : Run V R} (call : Call run) {r : R} {s : StoreState K V} (p : (r, s) ≡ outcome less run part k) where
  pub whole_outcome : (whole : StoreState K V → StoreState K V) → values less (whole part) k ≡ values less part k → is_full (whole part) k ≡ is_full part k
      → ((vs : List V) → with_values less (whole part) k vs ≡ whole (with_values less part k vs)) → (r, whole s) ≡ outcome less run (whole part) k
  whole_outcome whole held full with =
      (λ i. ((p i).0, whole (p i).1))
      ∙ call.mapped _ _ whole (values less part k) (is_full part k) part (with_values less part k)
      ∙ sym (λ i. run (StoreState K V) (held i) (full i) (whole part) (λ vs. with vs i))

  pub still : (P : StoreState K V → Type 0) → P part → ((vs : List V) → P (with_values less part k vs)) → P s
  still P kept changed =
      let x = run ((q : StoreState K V) × P q) (values less part k) (is_full part k) (part, kept) (λ vs. (with_values less part k vs, changed vs)) in
      let e = call.mapped _ _ (λ (q : (q : StoreState K V) × P q). q.0) (values less part k) (is_full part k) (part, kept) (λ vs. (with_values less part k vs, changed vs)) ∙ sym p in
      subst P (λ i. (e i).1) x.1.1
