-- What contents are, said of the keys and their sequences alone.
use Rattle.std.specs.Prelude.{◌≡◌, ◌<◌, Bool, true, false, List, length, Some, None, Option, ◌≢◌}
use Rattle.chains.specs.Contents.{sequence, with_sequence, Ascending, first_key, last_key, key_above, key_below}

abbrev pub HasValues : {K V : Type 0} → (K → K → Bool) → List (K × List V) → K → Type 0
HasValues less c k = 0 < length (sequence less c k)

-- the least of the keys of which P holds, or none where it holds of none
abbrev pub Least : {K : Type 0} → (K → K → Bool) → (K → Type 0) → Option K → Type 0
Least {K} less P None = (k : K) → P k → ⊥
Least {K} less P (Some j) = P j × ((k : K) → P k → less k j ≡ false)

abbrev pub Greatest : {K : Type 0} → (K → K → Bool) → (K → Type 0) → Option K → Type 0
Greatest less P r = Least (λ x y. less y x) P r

pub record ContentsLaws {K : Type 0} (less : K → K → Bool) (V : Type 0) : Type 0 where
  -- replacing a key's sequence gives it that sequence, leaves every other key's, and keeps the form
  pub replaced : (c : List (K × List V)) (k : K) (vs : List V) → Ascending less c → sequence less (with_sequence less c k vs) k ≡ vs
  pub others : (c : List (K × List V)) (k j : K) (vs : List V) → k ≢ j → sequence less (with_sequence less c k vs) j ≡ sequence less c j
  pub ascending : (c : List (K × List V)) (k : K) (vs : List V) → Ascending less c → Ascending less (with_sequence less c k vs)
  -- contents with the same sequences are the same
  pub known : (c d : List (K × List V)) → Ascending less c → Ascending less d → ((k : K) → sequence less c k ≡ sequence less d k) → c ≡ d
  -- the four answers about keys are what they are called
  pub first : (c : List (K × List V)) → Ascending less c → Least less (HasValues less c) (first_key c)
  pub last : (c : List (K × List V)) → Ascending less c → Greatest less (HasValues less c) (last_key c)
  pub above : (c : List (K × List V)) (k : K) → Ascending less c → Least less (λ j. HasValues less c j × (less k j ≡ true)) (key_above less c k)
  pub below : (c : List (K × List V)) (k : K) → Ascending less c → Greatest less (λ j. HasValues less c j × (less j k ≡ true)) (key_below less c k)
