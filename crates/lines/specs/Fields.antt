-- The fields of a line, which single spaces part.
use Rattle.std.specs.Prelude.{ℕ, cond, List, [], ◌∷◌, ◌==◌, ◌≢◌}
use Rattle.std.specs.List.{AllByRecursion}

-- no byte is a space
abbrev pub Spaceless : List ℕ → Type 0
Spaceless bytes = AllByRecursion (λ b. b ≢ 32) bytes

-- a byte in front of the first field
abbrev pub onto_first : ℕ → List (List ℕ) → List (List ℕ)
onto_first b [] = (b ∷ []) ∷ []
onto_first b (f ∷ fs) = (b ∷ f) ∷ fs

-- a line with n spaces has n + 1 fields, any of which may be empty
abbrev pub fields : List ℕ → List (List ℕ)
fields [] = [] ∷ []
fields (b ∷ bytes) = cond (b == 32) ([] ∷ fields bytes) (onto_first b (fields bytes))
