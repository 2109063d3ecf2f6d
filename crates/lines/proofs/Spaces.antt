-- The first space of a line, and the fields before and after it.
use Rattle.std.proofs.Common.{◌≡◌, ℕ, ◌⊎◌, inl, inr, ⊎_elim, eqb, List, [], ◌∷◌, ◌++◌, refl, ap, ◌∙◌, eq-eqb, ne_eqb}
use Rattle.std.proofs.lemmas.Bool.{cond-true, cond-false, cond_both, cases_eq}
use Rattle.lines.specs.Fields.{Spaceless, onto_first, fields}

-- the fields of a line with a space, and of one with none
pub first_field : (key rest : List ℕ) → Spaceless key → fields (key ++ 32 ∷ rest) ≡ key ∷ fields rest
first_field [] rest h = refl
first_field (b ∷ key) rest h = cond-false _ _ _ (ne_eqb b 32 h.0) ∙ ap (onto_first b) (first_field key rest h.1)

pub only_field : (line : List ℕ) → Spaceless line → fields line ≡ line ∷ []
only_field [] h = refl
only_field (b ∷ line) h = cond-false _ _ _ (ne_eqb b 32 h.0) ∙ ap (onto_first b) (only_field line h.1)

-- a line has a field, and with a space in it two
some_onto : (b : ℕ) (fs : List (List ℕ)) → (g : List ℕ) × (gs : List (List ℕ)) × (onto_first b fs ≡ g ∷ gs)
some_onto b [] = (b ∷ [], [], refl)
some_onto b (f ∷ fs) = (b ∷ f, fs, refl)

some_field : (line : List ℕ) → (f : List ℕ) × (fs : List (List ℕ)) × (fields line ≡ f ∷ fs)
some_field [] = ([], [], refl)
some_field (b ∷ line) =
    cond_both (eqb b 32) _ _ (λ gs. (f : List ℕ) × (fs : List (List ℕ)) × (gs ≡ f ∷ fs)) (λ _. ([], fields line, refl)) (λ _. some_onto b (fields line))

pub two_fields : (line : List ℕ) → Spaceless line ⊎ ((f : List ℕ) × (g : List ℕ) × (fs : List (List ℕ)) × (fields line ≡ f ∷ g ∷ fs))
two_fields [] = inl tt
two_fields (b ∷ line) =
    ⊎_elim (λ e. let (f, fs, is) = some_field line in inr ([], f, fs, cond-true _ _ _ (eq-eqb b 32 e) ∙ ap (λ gs. [] ∷ gs) is))
    (λ ne. ⊎_elim (λ s. inl (ne, s)) (λ t. inr (b ∷ t.0, t.1, t.2, cond-false _ _ _ (ne_eqb b 32 ne) ∙ ap (onto_first b) t.3)) (two_fields line))
    (cases_eq b 32)
