use Rattle.std.proofs.Common.{rules, ◌≡◌, Some, None, sym, ap, ◌∙◌, arith}
use Rattle.lines.specs.Number.{number_of}
use Rattle.listing.specs.Lines.{meaning, with_place}
use Rattle.listing.proofs.Forms.{too_long, spaceless, spaced, says_whole}
use Rattle.listing.proofs.parser.parse.Goals as goal

pub returns-then-line-gt-LONGEST_LINE : goal.returns-then-line-gt-LONGEST_LINE
returns-then-line-gt-LONGEST_LINE c =
    let line = c.args.line.now in
    let says = sym (too_long line (omega arith)) in
    record { parsed = says; whole = says_whole line None says }

pub returns-in_err-key : goal.returns-in_err-key
returns-in_err-key c =
    let line = c.args.line.now in
    let says = ap meaning c.from_residual.ensures ∙ sym (spaceless line (omega arith) c.in_err-key.ensures) in
    record { parsed = says; whole = says_whole line _ says }

pub returns-in_err-place : goal.returns-in_err-place
returns-in_err-place c =
    let line = c.args.line.now in
    let key = c.in_ok-key.key.now in
    let digits = c.in_ok-key.digits.now in
    let none : None ≡ number_of digits = search rules in
    let says = ap meaning c.from_residual-in_err-place.ensures ∙ ap (with_place key) none ∙ sym (spaced line key digits (omega arith) c.in_ok-key.ensures.0 c.in_ok-key.ensures.1) in
    record { parsed = says; whole = says_whole line _ says }

pub returns : goal.returns
returns c =
    let line = c.args.line.now in
    let key = c.in_ok-key.key.now in
    let digits = c.in_ok-key.digits.now in
    let some : Some c.in_ok-place.place ≡ number_of digits = search rules in
    let says = ap (with_place key) some ∙ sym (spaced line key digits (omega arith) c.in_ok-key.ensures.0 c.in_ok-key.ensures.1) in
    record { parsed = says; whole = says_whole line _ says }
