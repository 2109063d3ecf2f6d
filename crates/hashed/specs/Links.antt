-- Lists that are threaded through numbered cells by links.
use Rattle.std.specs.Prelude.{◌≡◌, ℕ, zero, suc, ◌≢◌, List, [], ◌∷◌, ◌++◌, Some, None, Option}
use Rattle.std.specs.List.{AllByRecursion}

-- the cells that the links lead through from l on, at most fuel of them
abbrev pub walk : (ℕ → Option ℕ) → ℕ → Option ℕ → List ℕ
walk next zero l = []
walk next (suc fuel) None = []
walk next (suc fuel) (Some x) = x ∷ walk next fuel (next x)

-- from l on, the links lead through xs, each once, and there they end
abbrev pub Linked : (ℕ → Option ℕ) → Option ℕ → List ℕ → Type 0
Linked next l [] = l ≡ None
Linked next l (x ∷ xs) = (l ≡ Some x) × AllByRecursion (λ y. y ≢ x) xs × Linked next (next x) xs

abbrev pub onto : {E : Type 0} → Option E → List E → List E
onto None es = es
onto (Some e) es = e ∷ es

-- what the cells xs hold, in their order
abbrev pub collected : {E : Type 0} → (ℕ → Option E) → List ℕ → List E
collected held [] = []
collected held (x ∷ xs) = onto (held x) (collected held xs)

-- f 0, then f 1, and so on below n, one list after the other
abbrev pub gathered : {E : Type 0} → (ℕ → List E) → ℕ → List E
gathered f zero = []
gathered f (suc n) = gathered f n ++ f n

-- the last of a list, none for an empty one
abbrev pub LastIs : Option ℕ → List ℕ → Type 0
LastIs None xs = xs ≡ []
LastIs (Some y) xs = (ys : List ℕ) × (xs ≡ ys ++ y ∷ [])

-- the first of a list
abbrev pub front : List ℕ → Option ℕ
front [] = None
front (x ∷ xs) = Some x
