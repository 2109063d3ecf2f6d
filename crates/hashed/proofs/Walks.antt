-- A walk through the list of a bucket, on the way.
use Rattle.std.proofs.Common.{◌≡◌, ℕ, ◌+◌, ◌<◌, ◌≤◌, Bool, true, false, cond, List, [], ◌∷◌, ◌++◌, length, Some, Option, sym, refl, ap, ◌∙◌, subst, append_assoc, arith, length-append}
use Rattle.keys.specs.Order.{same}
use Rattle.hashed.specs.declared.cell.Cell.{Cell}
use Rattle.hashed.specs.Links.{walk, Linked, onto, collected, LastIs}
use Rattle.hashed.specs.Cells.{next_of, entry_of, values_in, Found}
use Rattle.hashed.proofs.Links.{collected-append, linked_start, first_left, walk-linked}

-- the values of a key among entries one after the other
pub values-append : {K V : Type 0} (less : K → K → Bool) (es fs : List (K × V)) (k : K) → values_in less (es ++ fs) k ≡ values_in less es k ++ values_in less fs k
values-append less [] fs k = refl
values-append less (e ∷ es) fs k =
    elim (same less e.0 k) as
    (λ t. cond t (e.1 ∷ values_in less (es ++ fs) k) (values_in less (es ++ fs) k) ≡ cond t (e.1 ∷ values_in less es k) (values_in less es k) ++ values_in less fs k)
    [ true ↦ ap (λ r. e.1 ∷ r) (values-append less es fs k) | false ↦ values-append less es fs k ]

-- a walk that has come to `here`: the cells before were passed, and those from there on are ahead
pub record Walking {K V : Type 0} (less : K → K → Bool) (n : ℕ) (cells : List (Cell K V)) (xs : List ℕ) (k : K) (rank : ℕ)
    (previous here : Option ℕ) (passed : ℕ) : Type 0 where
  pub before : List ℕ
  pub rest : List ℕ
  pub parts : xs ≡ before ++ rest
  pub ahead : Linked (next_of n cells) here rest
  pub last : LastIs previous before
  pub near : (y : ℕ) → previous ≡ Some y → y < n
  pub count : passed ≡ length (values_in less (collected (entry_of cells) before) k)
  pub most : passed ≤ rank

module _ {K V : Type 0} (less : K → K → Bool) (n : ℕ) (cells : List (Cell K V)) (xs : List ℕ) (k : K) (rank : ℕ) where
  -- what a cell adds to the values of the key
  gain : (o : Option (K × V)) (e : K × V) (t : Bool) → o ≡ Some e → same less e.0 k ≡ t → length (values_in less (onto o []) k) ≡ cond t 1 0
  gain o e true q h = ap (λ (w : Option (K × V)). length (values_in less (onto w []) k)) q ∙ ap (λ (b : Bool). length (cond b (e.1 ∷ []) [])) h
  gain o e false q h = ap (λ (w : Option (K × V)). length (values_in less (onto w []) k)) q ∙ ap (λ (b : Bool). length (cond b (e.1 ∷ []) [])) h

  module _ (previous here : Option ℕ) (passed : ℕ) (s : Walking less n cells xs k rank previous here passed) where
    stopped : ((x : ℕ) → here ≡ Some x → (passed ≡ rank) × ((e : K × V) × (entry_of cells x ≡ Some e) × (same less e.0 k ≡ true))) → Found less cells xs k rank previous here passed
    stopped stops =
        record { before = s.before; rest = s.rest; parts = s.parts; at = linked_start (next_of n cells) here s.rest s.ahead; last = s.last; count = s.count; most = s.most; stops = stops }

    module _ (x : ℕ) (e : K × V) (at : here ≡ Some x) (is : entry_of cells x ≡ Some e) where
      pub walk-found : same less e.0 k ≡ true → passed ≡ rank → Found less cells xs k rank previous here passed
      walk-found h full = stopped (λ y q. let p : x ≡ y = cc in (full, (e, ap (entry_of cells) (sym p) ∙ is, h)))

      pub walk_next : (on : Option ℕ) (more : ℕ) (t : Bool) → x < n → same less e.0 k ≡ t → more ≡ passed + cond t 1 0 → more ≤ rank → next_of n cells x ≡ on
          → Walking less n cells xs k rank (Some x) on more
      walk_next on more t within h step most to =
          let f = first_left (next_of n cells) here x s.rest s.ahead at in
          let c : Linked (next_of n cells) here (x ∷ f.0) = subst (Linked (next_of n cells) here) f.1 s.ahead in
          let grown = ap length (ap (λ (es : List (K × V)). values_in less es k) (collected-append (entry_of cells) s.before (x ∷ [])) ∙ values-append less (collected (entry_of cells) s.before) (onto (entry_of cells x) []) k)
          ∙ length-append (values_in less (collected (entry_of cells) s.before) k) (values_in less (onto (entry_of cells x) []) k) in
          record {
            before = s.before ++ x ∷ [];
            rest = f.0;
            parts = s.parts ∙ ap (λ r. s.before ++ r) f.1 ∙ sym (append_assoc s.before (x ∷ []) f.0);
            ahead = subst (λ l. Linked (next_of n cells) l f.0) to c.2;
            last = (s.before, refl);
            near = λ y q. let p : x ≡ y = cc in omega arith;
            count = omega (arith, grown, gain (entry_of cells x) e t is h, s.count, step);
            most = most;
          }

  -- the cells that are ahead get fewer
  pub walk_less : (previous here on : Option ℕ) (passed x : ℕ) → length xs ≤ n → Walking less n cells xs k rank previous here passed → here ≡ Some x → next_of n cells x ≡ on
      → length (walk (next_of n cells) n on) < length (walk (next_of n cells) n here)
  walk_less previous here on passed x few s at to =
      let f = first_left (next_of n cells) here x s.rest s.ahead at in
      let c : Linked (next_of n cells) here (x ∷ f.0) = subst (Linked (next_of n cells) here) f.1 s.ahead in
      let size = ap length s.parts ∙ length-append s.before s.rest in
      let now = walk-linked (next_of n cells) n here s.rest s.ahead (omega (arith, size)) in
      let then = walk-linked (next_of n cells) n on f.0 (subst (λ l. Linked (next_of n cells) l f.0) to c.2) (omega (arith, size, ap length f.1)) in
      omega (arith, ap length now, ap length then, ap length f.1)
