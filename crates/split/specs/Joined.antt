-- Two states joined at a boundary key: the smaller keys in the low one, all others in the high one.
use Rattle.std.specs.Prelude.{◌≡◌, ℕ, ◌+◌, ◌*◌, ◌/◌, ◌%◌, Bool, true, false, cond, List, [], ◌∷◌, ◌++◌, ◌==◌}
use Rattle.std.specs.Coded.{Coded-set, coded_bool, ×_prop, Unit-prop}
use Rattle.chains.specs.State.{StoreState}

-- P holds of each listed key
abbrev pub EachKey : {K V : Type 0} → (K → Type 0) → List (K × List V) → Type 0
EachKey P [] = Unit {0}
EachKey P (e ∷ es) = P e.0 × EachKey P es

-- each listed key is smaller than k
abbrev pub AllBelow : {K V : Type 0} → (K → K → Bool) → K → List (K × List V) → Type 0
AllBelow less k es = EachKey (λ j. less j k ≡ true) es

-- no listed key is smaller than k
abbrev pub NoneBelow : {K V : Type 0} → (K → K → Bool) → K → List (K × List V) → Type 0
NoneBelow less k es = EachKey (λ j. less j k ≡ false) es

-- the keys of both states stand on their side of the boundary
pub record Divided {K V : Type 0} (less : K → K → Bool) (boundary : K) (low high : StoreState K V) : Type 0 where
  pub below : AllBelow less boundary low.contents
  pub from : NoneBelow less boundary high.contents

-- it has one proof at most
each-prop : {K V : Type 0} {P : K → Type 0} → ((k : K) → IsProp (P k)) → (es : List (K × List V)) → IsProp (EachKey P es)
each-prop p [] = Unit-prop
each-prop p (e ∷ es) = ×_prop (p e.0) (each-prop p es)

pub Divided-prop : {K V : Type 0} {less : K → K → Bool} {boundary : K} {low high : StoreState K V} → IsProp (Divided less boundary low high)
Divided-prop {less = less} {boundary = boundary} {low = low} {high = high} x y i = record {
  below = each-prop (λ k. Coded-set coded_bool (less k boundary) true) low.contents x.below y.below i;
  from = each-prop (λ k. Coded-set coded_bool (less k boundary) false) high.contents x.from y.from i;
}

-- the sections of both, the low state's under the even numbers, the high state's under the odd ones
abbrev pub section_of : {K : Type 0} → (K → K → Bool) → K → (K → ℕ) → (K → ℕ) → K → ℕ
section_of less boundary low high k = cond (less k boundary) (2 * low k) (2 * high k + 1)

abbrev pub room_of : (ℕ → ℕ) → (ℕ → ℕ) → ℕ → ℕ
room_of low high n = cond (n % 2 == 0) (low (n / 2)) (high (n / 2))

-- the low contents followed by the high contents
abbrev pub joined : {K V : Type 0} → (K → K → Bool) → K → StoreState K V → StoreState K V → StoreState K V
joined less boundary low high =
    record { contents = low.contents ++ high.contents; section = section_of less boundary low.section high.section; room = room_of low.room high.room }
