-- The cells in use, as a slice of those that were lent.
use Rattle.std.proofs.Common.{◌≡◌, ℕ, List, ◌++◌, length, take, drop, sym, subst, arith, length-append, length-take, length-drop, take_at}
use Rattle.hashed.specs.declared.cell.Cell.{Cell}
use Rattle.hashed.specs.Cells.{room_of, used_of}

module _ {K V : Type 0} (old : List (Cell K V)) (r : ℕ) (is : r ≡ room_of old) where
  pub part-length : length (take r old) ≡ room_of old
  part-length = omega (arith, length-take r old)

  module _ (P : ℕ → List (Cell K V) → Type 0) where
    -- the first r cells are those in use
    pub from_part : P (length (take r old)) (take r old) → P (room_of old) (used_of old)
    from_part h = subst (λ (m : ℕ). P (room_of old) (take m old)) is (subst (λ (m : ℕ). P m (take r old)) part-length h)

    pub at_part : P (room_of old) (used_of old) → P (length (take r old)) (take r old)
    at_part h = subst (λ (m : ℕ). P m (take r old)) (sym part-length) (subst (λ (m : ℕ). P (room_of old) (take m old)) (sym is) h)

    -- others come in their place
    pub after : (xs : List (Cell K V)) → length xs ≡ length (take r old) → P (room_of old) xs → P (room_of (xs ++ drop r old)) (used_of (xs ++ drop r old))
    after xs same h =
        let size : room_of old ≡ room_of (xs ++ drop r old) = omega (arith, part-length, length-append xs (drop r old), length-drop r old) in
        subst (P (room_of (xs ++ drop r old))) (sym (take_at xs (drop r old) (room_of (xs ++ drop r old)) (omega (arith, part-length, size)))) (subst (λ (m : ℕ). P m xs) size h)
