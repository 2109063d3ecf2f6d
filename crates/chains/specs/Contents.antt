-- The contents of a store: the keys that have values, ascending, each with its sequence. Every other
-- key has the empty sequence, so contents are a sequence for each key, empty for all but finitely many.
use Rattle.std.specs.Prelude.{◌≡◌, ℕ, ◌+◌, ◌<◌, Bool, true, cond, List, [], ◌∷◌, ◌++◌, length, Some, None, Option, ◌==◌}
use Rattle.keys.specs.Order.{same}

-- the sequence of a key
abbrev pub sequence : {K V : Type 0} → (K → K → Bool) → List (K × List V) → K → List V
sequence less [] k = []
sequence less (e ∷ es) k = cond (same less e.0 k) e.1 (sequence less es k)

-- a key with its sequence, listed unless it is empty
abbrev pub entry : {K V : Type 0} → K → List V → List (K × List V)
entry k [] = []
entry k (v ∷ vs) = (k, v ∷ vs) ∷ []

-- the contents in which the sequence of one key is replaced
abbrev pub with_sequence : {K V : Type 0} → (K → K → Bool) → List (K × List V) → K → List V → List (K × List V)
with_sequence less [] k vs = entry k vs
with_sequence less (e ∷ es) k vs =
    cond (less e.0 k) (e ∷ with_sequence less es k vs) (cond (less k e.0) (entry k vs ++ e ∷ es) (entry k vs ++ es))

-- k is smaller than each listed key
abbrev pub BelowAll : {K V : Type 0} → (K → K → Bool) → K → List (K × List V) → Type 0
BelowAll less k [] = Unit {0}
BelowAll less k (e ∷ es) = (less k e.0 ≡ true) × BelowAll less k es

-- the keys ascend, and each has a value
abbrev pub Ascending : {K V : Type 0} → (K → K → Bool) → List (K × List V) → Type 0
Ascending less [] = Unit {0}
Ascending less (e ∷ es) = (0 < length e.1) × BelowAll less e.0 es × Ascending less es

-- how many values the sequences of a section's keys hold together
abbrev pub used : {K V : Type 0} → (K → ℕ) → List (K × List V) → ℕ → ℕ
used section [] n = 0
used section (e ∷ es) n = cond (section e.0 == n) (length e.1 + used section es n) (used section es n)

abbrev pub or_else : {K : Type 0} → Option K → K → Option K
or_else (Some j) k = Some j
or_else None k = Some k

-- the least key with values, and the greatest
abbrev pub first_key : {K V : Type 0} → List (K × List V) → Option K
first_key [] = None
first_key (e ∷ es) = Some e.0

abbrev pub last_key : {K V : Type 0} → List (K × List V) → Option K
last_key [] = None
last_key (e ∷ es) = or_else (last_key es) e.0

-- the least key with values that is greater than k, and the greatest that is smaller
abbrev pub key_above : {K V : Type 0} → (K → K → Bool) → List (K × List V) → K → Option K
key_above less [] k = None
key_above less (e ∷ es) k = cond (less k e.0) (Some e.0) (key_above less es k)

abbrev pub key_below : {K V : Type 0} → (K → K → Bool) → List (K × List V) → K → Option K
key_below less [] k = None
key_below less (e ∷ es) k = cond (less e.0 k) (or_else (key_below less es k) e.0) None
