-- The steps of reading a number.
use Rattle.std.proofs.Common.{◌≡◌, ℕ, suc, ◌+◌, ◌-◌, ◌*◌, ◌^◌, ◌<◌, ◌≤◌, true, false, ◌&&◌, leb, List, [], ◌∷◌, length, get_or, drop, None, Ok, Err, Result, ap, ◌∙◌, pow-suc, arith}
use native.Mathlib.Nat.{pow-le-pow_right}
use Rattle.std.specs.Result.{OkIff, result_ok}
use Rattle.std.specs.Str.Parse.{digits_value, digits_value_after}
use Rattle.std.specs.Char.{is_ascii_digit, digit_value as digitValue}
use Rattle.std.specs.Str.{all_ascii_digits}
use Rattle.std.proofs.lemmas.List.{at_drop_more}
use Rattle.std.proofs.lemmas.Bool.{and_parts, leb-true}
use Rattle.std.proofs.lemmas.Bool.Decides.{nat_tests}
use Rattle.lines.specs.Fields.{Spaceless}
use Rattle.lines.specs.Number.{number_of}

-- a digit more: one power of ten more, and within ten digits no sum wraps
pub below_more : (n d i : ℕ) → d < 10 → n < 10 ^ i → n * 10 + d < 10 ^ suc i
below_more n d i h k = omega (arith, pow-suc 10 i)

pub room : (n i : ℕ) → i < 10 → n < 10 ^ i → n * 10 + 9 < 10 ^ 10
room n i h k = omega (arith, pow-suc 10 i, pow-le-pow_right {n = 10} (omega arith) {i = suc i} {j = 10} (omega arith))

digit_value : (b : ℕ) → is_ascii_digit b ≡ true → digitValue b ≡ b - 48
digit_value b e = grind (arith, nat_tests)

-- what is left of the digits, one byte on
module _ (ds : List ℕ) (i : ℕ) (within : i < length ds) where
  pub digit_on : is_ascii_digit (get_or ds i 0) ≡ true → all_ascii_digits (drop i ds) ≡ all_ascii_digits (drop (i + 1) ds)
  digit_on e = at_drop_more all_ascii_digits ds i 0 within ∙ ap (λ t. t && all_ascii_digits (drop (i + 1) ds)) e

  pub value_on : (n : ℕ) → is_ascii_digit (get_or ds i 0) ≡ true → digits_value_after 10 n (drop i ds) ≡ digits_value_after 10 (n * 10 + (get_or ds i 0 - 48)) (drop (i + 1) ds)
  value_on n e =
      at_drop_more (digits_value_after 10 n) ds i 0 within ∙ ap (λ d. digits_value_after 10 (n * 10 + d) (drop (i + 1) ds)) (digit_value (get_or ds i 0) e)

  pub other_byte : is_ascii_digit (get_or ds i 0) ≡ false → all_ascii_digits (drop i ds) ≡ false
  other_byte e = at_drop_more all_ascii_digits ds i 0 within ∙ ap (λ t. t && all_ascii_digits (drop (i + 1) ds)) e

-- the number that digits write is answered where it fits 32 bits, and else none is
pub answered : {E : Type 0} (r : Result ℕ E) (ds : List ℕ) → 0 < length ds → length ds ≤ 10 → all_ascii_digits ds ≡ true → OkIff r (digits_value 10 ds < 2 ^ 32) (digits_value 10 ds) → result_ok r ≡ number_of ds
unfolding number_of
answered (Ok x) ds h k e f = grind (arith, nat_tests)
answered (Err x) ds h k e f = grind (arith, nat_tests)

-- and none is where a byte is no digit
pub undigited : (ds : List ℕ) → all_ascii_digits ds ≡ false → number_of ds ≡ None
unfolding number_of
undigited ds e = grind (arith, nat_tests)

-- digits hold no space
pub digits_spaceless : (ds : List ℕ) → all_ascii_digits ds ≡ true → Spaceless ds
digits_spaceless [] e = tt
digits_spaceless (b ∷ ds) e =
    let both = and_parts (is_ascii_digit b) (all_ascii_digits ds) e in
    ((λ space. omega (arith, leb-true 48 b (and_parts (leb 48 b) (leb b 57) both.0).0)), digits_spaceless ds both.1)
