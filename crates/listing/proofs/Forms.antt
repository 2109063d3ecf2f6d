-- What a line says, by its length and its first space.
use Rattle.std.proofs.Common.{◌≡◌, ℕ, ◌<◌, ◌≤◌, List, ◌∷◌, ◌++◌, length, None, sym, ap, ◌∙◌, ⊎_elim, arith}
use Rattle.std.specs.Str.{all_ascii_digits}
use Rattle.std.proofs.lemmas.List.{take_all, length-take-le}
use Rattle.std.proofs.lemmas.Bool.{cases_Bool, cases_lt, cond-true, cond-false, le-leb, lt-leb}
use Rattle.lines.specs.Buffer.{kept}
use Rattle.lines.specs.Fields.{Spaceless, fields}
use Rattle.lines.specs.Number.{number_of}
use Rattle.lines.proofs.Numerals.{undigited, digits_spaceless}
use Rattle.lines.proofs.Spaces.{first_field, only_field, two_fields}
use Rattle.listing.specs.Lines.{Parsed, with_place, by_fields, parsed}

pub too_long : (line : List ℕ) → 256 < length line → parsed line ≡ None
unfolding parsed
too_long line h = cond-false _ _ _ (lt-leb (length line) 256 h)

in_bounds : (line : List ℕ) → length line ≤ 256 → parsed line ≡ by_fields (fields line)
unfolding parsed
in_bounds line h = cond-true _ _ _ (le-leb (length line) 256 h)

pub spaceless : (line : List ℕ) → length line ≤ 256 → Spaceless line → parsed line ≡ None
spaceless line h s = in_bounds line h ∙ ap by_fields (only_field line s)

-- what stands after the first space is the second field, unless a space in it makes it no number
no_digits : (bytes f g : List ℕ) (fs : List (List ℕ)) → fields bytes ≡ f ∷ g ∷ fs → number_of bytes ≡ None
no_digits bytes f g fs e =
    ⊎_elim (λ t. let one = only_field bytes (digits_spaceless bytes t) in absurd (cc)) (undigited bytes) (cases_Bool (all_ascii_digits bytes))

second_field : (key digits : List ℕ) → by_fields (key ∷ fields digits) ≡ with_place key (number_of digits)
second_field key digits =
    ⊎_elim (λ s. ap (λ fs. by_fields (key ∷ fs)) (only_field digits s))
    (λ t. ap (λ fs. by_fields (key ∷ fs)) t.3 ∙ sym (ap (with_place key) (no_digits digits t.0 t.1 t.2 t.3)))
    (two_fields digits)

pub spaced : (line key digits : List ℕ) → length line ≤ 256 → line ≡ key ++ 32 ∷ digits → Spaceless key → parsed line ≡ with_place key (number_of digits)
spaced line key digits h e s =
    in_bounds line h ∙ ap (λ l. by_fields (fields l)) e ∙ ap by_fields (first_field key digits s) ∙ second_field key digits

-- a line says what the bytes say that are kept of it
of_kept : (line : List ℕ) → parsed (kept line) ≡ parsed line
of_kept line =
    ⊎_elim (λ long. too_long (kept line) (omega (arith, length-take-le 257 line long)) ∙ sym (too_long line long))
    (λ short. ap parsed (take_all 257 line (omega arith)))
    (cases_lt 256 (length line))

pub says_whole : (bytes : List ℕ) (p : Parsed) → p ≡ parsed bytes → (line : List ℕ) → kept line ≡ bytes → p ≡ parsed line
says_whole bytes p e line k = e ∙ ap parsed (sym k) ∙ of_kept line
