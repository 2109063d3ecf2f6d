-- Entries, each one value under one key, and the contents that a list of them makes. An entry may be
-- of any type: `key` and `value` say what it holds.
use Rattle.std.specs.Prelude.{Bool, cond, List, [], ◌∷◌}
use Rattle.keys.specs.Order.{same}
use Rattle.chains.specs.Contents.{sequence, with_sequence}

-- the values under a key, in the order of the entries
abbrev pub values_under : {X K V : Type 0} → (K → K → Bool) → (X → K) → (X → V) → List X → K → List V
values_under less key value [] k = []
values_under less key value (e ∷ es) k =
    cond (same less (key e) k) (value e ∷ values_under less key value es k) (values_under less key value es k)

-- the contents in which each key's sequence is its values in the order of the entries
abbrev pub contents_of : {X K V : Type 0} → (K → K → Bool) → (X → K) → (X → V) → List X → List (K × List V)
contents_of less key value [] = []
contents_of less key value (e ∷ es) =
    with_sequence less (contents_of less key value es) (key e) (value e ∷ sequence less (contents_of less key value es) (key e))
