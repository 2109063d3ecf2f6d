-- The sections of two joined states: each holds the values, and has the room, that it has in its own state.
use Rattle.std.proofs.Common.{◌≡◌, ℕ, ◌+◌, ◌*◌, Bool, true, false, leb, List, [], ◌∷◌, ◌++◌, refl, arith}
use Rattle.std.proofs.lemmas.Bool.Decides.{nat_tests}
use Rattle.chains.specs.Contents.{used}
use Rattle.chains.specs.State.{StoreState, is_full}
use Rattle.split.specs.Joined.{AllBelow, NoneBelow, Divided, section_of, room_of, joined}

used-append : {K V : Type 0} (section : K → ℕ) (xs ys : List (K × List V)) (n : ℕ) → used section (xs ++ ys) n ≡ used section xs n + used section ys n
used-append section [] ys n = omega arith
used-append section (x ∷ xs) ys n =
    let ih = used-append section xs ys n in grind arith

module _ {K V : Type 0} (less : K → K → Bool) (boundary : K) (low high : StoreState K V) where
  abbrev section : K → ℕ
  section = section_of less boundary low.section high.section

  low_even : (es : List (K × List V)) (n : ℕ) → AllBelow less boundary es → used section es (2 * n) ≡ used low.section es n
  low_even [] n u = refl
  low_even (e ∷ es) n u = let ih = low_even es n u.1 in rw u.0 (grind (arith, nat_tests))

  low_odd : (es : List (K × List V)) (n : ℕ) → AllBelow less boundary es → used section es (2 * n + 1) ≡ 0
  low_odd [] n u = refl
  low_odd (e ∷ es) n u = let ih = low_odd es n u.1 in rw u.0 (grind (arith, nat_tests))

  high_even : (es : List (K × List V)) (n : ℕ) → NoneBelow less boundary es → used section es (2 * n) ≡ 0
  high_even [] n u = refl
  high_even (e ∷ es) n u = let ih = high_even es n u.1 in rw u.0 (grind (arith, nat_tests))

  high_odd : (es : List (K × List V)) (n : ℕ) → NoneBelow less boundary es → used section es (2 * n + 1) ≡ used high.section es n
  high_odd [] n u = refl
  high_odd (e ∷ es) n u = let ih = high_odd es n u.1 in rw u.0 (grind (arith, nat_tests))

  -- ---- a key's section is full in both states together where it is full in its own

  module _ (d : Divided less boundary low high) (k : K) where
    pub low_full : less k boundary ≡ true → is_full (joined less boundary low high) k ≡ is_full low k
    low_full t =
        let n = low.section k in
        let room : room_of low.room high.room (2 * n) ≡ low.room n = grind (arith, nat_tests) in
        let held : used section (low.contents ++ high.contents) (2 * n) ≡ used low.section low.contents n =
        omega (arith, used-append section low.contents high.contents (2 * n), low_even low.contents n d.below, high_even high.contents n d.from) in
        rw t (λ i. leb (room i) (held i))

    pub high_full : less k boundary ≡ false → is_full (joined less boundary low high) k ≡ is_full high k
    high_full f =
        let n = high.section k in
        let room : room_of low.room high.room (2 * n + 1) ≡ high.room n = grind (arith, nat_tests) in
        let held : used section (low.contents ++ high.contents) (2 * n + 1) ≡ used high.section high.contents n =
        omega (arith, used-append section low.contents high.contents (2 * n + 1), low_odd low.contents n d.below, high_odd high.contents n d.from) in
        rw f (λ i. leb (room i) (held i))
