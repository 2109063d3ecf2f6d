use Rattle.std.proofs.Common.{◌≡◌, ℕ, ◌^◌, ◌<◌, sym, ◌∙◌, subst, add-one, arith}
use Rattle.std.specs.Result.{OkIff}
use Rattle.std.specs.Str.Parse.{digits_value, digits_value_after}
use Rattle.std.specs.Str.{all_ascii_digits}
use Rattle.std.proofs.lemmas.List.{at_drop_all}
use Rattle.lines.proofs.Numerals.{below_more, room, digit_on, value_on, other_byte, answered, undigited}
use Rattle.lines.proofs.number.read.Goals as goal

pub with_digit-n-requires-clause-room : goal.with_digit-n-requires-clause-room
with_digit-n-requires-clause-room c = omega (arith, room c.loop-digit.n c.loop-digit.digit-index (omega arith) c.loop-digit.invariant.2)

pub returns-then-not-is_ascii_digit : goal.returns-then-not-is_ascii_digit
returns-then-not-is_ascii_digit c =
    sym (undigited c.args.digits.now (sym c.loop-digit.invariant.0 ∙ other_byte c.args.digits.now c.loop-digit.digit-index c.loop-digit-test.true (sym c.if-not-is_ascii_digit.ensures.value)))

pub loop-digit-preserved : goal.loop-digit-preserved
loop-digit-preserved c =
    let is_digit = sym c.if-not-is_ascii_digit.ensures.value in (
      sym (digit_on c.args.digits.now c.loop-digit.digit-index c.loop-digit-test.true is_digit) ∙ c.loop-digit.invariant.0,
      rw c.with_digit-n.ensures (sym (value_on c.args.digits.now c.loop-digit.digit-index c.loop-digit-test.true c.loop-digit.n is_digit) ∙ c.loop-digit.invariant.1),
      rw (c.with_digit-n.ensures, add-one) (below_more _ _ _ (omega (arith, c.if-not-is_ascii_digit.ensures.cases)) c.loop-digit.invariant.2),
    )

pub returns : goal.returns
returns c =
    let digits = at_drop_all all_ascii_digits c.args.digits.now c.loop-digit.digit-index c.loop-digit-test.false in
    let all = at_drop_all (digits_value_after 10 c.loop-digit.n) c.args.digits.now c.loop-digit.digit-index c.loop-digit-test.false in
    let is : c.loop-digit.n ≡ digits_value 10 c.args.digits.now = sym all ∙ c.loop-digit.invariant.1 in
    c.ok.ensures.value ∙ answered c.try_from.result c.args.digits.now (omega arith) (omega arith) (sym c.loop-digit.invariant.0 ∙ digits) (subst (λ (n : ℕ). OkIff c.try_from.result (n < 2 ^ 32) n) is c.try_from.ensures)
