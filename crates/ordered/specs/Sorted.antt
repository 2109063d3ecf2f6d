-- Entries sorted by their keys, and where the entries of one key stand among them.
use Rattle.std.specs.Prelude.{◌≡◌, ℕ, Bool, false, not, List, [], ◌∷◌, count_by}
use Rattle.std.specs.Coded.{Coded-set, coded_bool, ×_prop, Unit-prop}
use Rattle.chains.specs.Entries.{contents_of}
use Rattle.ordered.specs.declared.cell.Cell.{Cell}

-- no entry's key is smaller than k
abbrev pub NoneSmaller : {K V : Type 0} → (K → K → Bool) → K → List (Cell K V) → Type 0
NoneSmaller less k [] = Unit {0}
NoneSmaller less k (e ∷ es) = (less e.key k ≡ false) × NoneSmaller less k es

-- no entry's key is smaller than that of an earlier entry
abbrev pub Sorted : {K V : Type 0} → (K → K → Bool) → List (Cell K V) → Type 0
Sorted less [] = Unit {0}
Sorted less (e ∷ es) = NoneSmaller less e.key es × Sorted less es

-- how many entries have a smaller key, and how many have one that is not greater: the entries of k
-- stand from the first of these places up to the second
abbrev pub smaller : {K V : Type 0} → (K → K → Bool) → List (Cell K V) → K → ℕ
smaller less es k = count_by (λ e. less e.key k) es

abbrev pub not_greater : {K V : Type 0} → (K → K → Bool) → List (Cell K V) → K → ℕ
not_greater less es k = count_by (λ e. not (less k e.key)) es

-- what the entries hold: each key's values in the order of the entries
abbrev pub held : {K V : Type 0} → (K → K → Bool) → List (Cell K V) → List (K × List V)
held less es = contents_of less (λ e. e.key) (λ e. e.value) es

-- both facts have one proof at most
pub NoneSmaller-prop : {K V : Type 0} (less : K → K → Bool) (k : K) (es : List (Cell K V)) → IsProp (NoneSmaller less k es)
NoneSmaller-prop less k [] = Unit-prop
NoneSmaller-prop less k (e ∷ es) = ×_prop (Coded-set coded_bool (less e.key k) false) (NoneSmaller-prop less k es)

pub Sorted-prop : {K V : Type 0} (less : K → K → Bool) (es : List (Cell K V)) → IsProp (Sorted less es)
Sorted-prop less [] = Unit-prop
Sorted-prop less (e ∷ es) = ×_prop (NoneSmaller-prop less e.key es) (Sorted-prop less es)
