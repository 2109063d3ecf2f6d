-- Each key belongs to the side of the boundary on which it stands.
use Rattle.std.proofs.Common.{◌≡◌, Bool, true, false, cond, ◌∙◌, ⊎_elim}
use Rattle.std.proofs.lemmas.Bool.{cases_Bool}
use Rattle.std.specs.Option.{option_or}
use Rattle.keys.specs.Order.{StrictOrder}
use Rattle.keys.specs.declared.key.Key
use Rattle.chains.specs.Contents.{BelowAll, first_key, last_key, key_above, key_below}
use Rattle.chains.specs.State.{StoreState, values}
use Rattle.chains.specs.declared.store.ChainStore
use Rattle.split.specs.Joined.{AllBelow, joined, Divided}
use Rattle.split.specs.Store.{state}
use Rattle.split.specs.declared.split.Split.{Split}
use Rattle.split.proofs.Contents.{before_high, behind_low, low_sequence, high_sequence, low_with, high_with, with_each}
use Rattle.split.proofs.Neighbours.{last_append, above_low, below_low, above_high, below_high}
use Rattle.split.proofs.Sections.{low_full, high_full}
use Rattle.split.proofs.Outcomes.{Run, Call, outcome, whole_outcome, still}

module _ {A B K V : Type 0} {low : ChainStore.Ghosts A K V} {key : Key.Ghosts K} {high : ChainStore.Ghosts B K V} (s : Split A B K V low key high) (k : K) (o : StrictOrder key.less) where
  before : key.less k s.boundary ≡ true → BelowAll key.less k (high.state s.high).contents
  before t = before_high o (high.state s.high).contents k s.boundary t s.divided.from

  behind : key.less k s.boundary ≡ false → AllBelow key.less k (low.state s.low).contents
  behind f = behind_low o (low.state s.low).contents k s.boundary f s.divided.below

  -- ---- what both stores say together, by what the key's own store says

  by_side : {X : Type 0} {x y z : X} → (BelowAll key.less k (high.state s.high).contents → x ≡ y) → (AllBelow key.less k (low.state s.low).contents → x ≡ z) → x ≡ cond (key.less k s.boundary) y z
  by_side l h =
      ⊎_elim
      (λ (t : key.less k s.boundary ≡ true). rw t (l (before t)))
      (λ (f : key.less k s.boundary ≡ false). rw f (h (behind f)))
      (cases_Bool (key.less k s.boundary))

  pub values_in : values key.less (state s) k ≡ cond (key.less k s.boundary) (values key.less (low.state s.low) k) (values key.less (high.state s.high) k)
  values_in = by_side (low_sequence o _ _ k) (high_sequence o _ _ k)

  pub above_in : key_above key.less (state s).contents k ≡ cond (key.less k s.boundary)
      (option_or (key_above key.less (low.state s.low).contents k) (first_key (high.state s.high).contents))
      (key_above key.less (high.state s.high).contents k)
  above_in = by_side (above_low o _ _ k) (above_high o _ _ k)

  pub below_in : key_below key.less (state s).contents k ≡ cond (key.less k s.boundary)
      (key_below key.less (low.state s.low).contents k)
      (option_or (key_below key.less (high.state s.high).contents k) (last_key (low.state s.low).contents))
  below_in = by_side (below_low o _ _ k) (below_high o _ _ k)

  -- ---- what a call leaves in the key's own store, it leaves in both together

  module _ {R : Type 0} {run : Run V R} (call : Call run) {r : R} (side : Bool) (is : key.less k s.boundary ≡ side) where
    module _ (t : side ≡ true) {q : StoreState K V} (p : (r, q) ≡ outcome key.less run (low.state s.low) k) where
      pub low_outcome : (r, joined key.less s.boundary q (high.state s.high)) ≡ outcome key.less run (state s) k
      low_outcome =
          whole_outcome key.less k call p (λ q. joined key.less s.boundary q (high.state s.high))
          (low_sequence o _ _ k (before (is ∙ t))) (low_full key.less s.boundary _ _ s.divided k (is ∙ t))
          (λ vs i. record (state s) { contents = low_with o (low.state s.low).contents (high.state s.high).contents k vs (before (is ∙ t)) i })

      pub low_divided : Divided key.less s.boundary q (high.state s.high)
      low_divided =
          still key.less k call p (λ q. Divided key.less s.boundary q (high.state s.high)) s.divided
          (λ vs. record { below = with_each (λ j. key.less j s.boundary ≡ true) key.less (low.state s.low).contents k vs s.divided.below (is ∙ t); from = s.divided.from })

    module _ (f : side ≡ false) {q : StoreState K V} (p : (r, q) ≡ outcome key.less run (high.state s.high) k) where
      pub high_outcome : (r, joined key.less s.boundary (low.state s.low) q) ≡ outcome key.less run (state s) k
      high_outcome =
          whole_outcome key.less k call p (λ q. joined key.less s.boundary (low.state s.low) q)
          (high_sequence o _ _ k (behind (is ∙ f))) (high_full key.less s.boundary _ _ s.divided k (is ∙ f))
          (λ vs i. record (state s) { contents = high_with o (low.state s.low).contents (high.state s.high).contents k vs (behind (is ∙ f)) i })

      pub high_divided : Divided key.less s.boundary (low.state s.low) q
      high_divided =
          still key.less k call p (λ q. Divided key.less s.boundary (low.state s.low) q) s.divided
          (λ vs. record { below = s.divided.below; from = with_each (λ j. key.less j s.boundary ≡ false) key.less (high.state s.high).contents k vs s.divided.from (is ∙ f) })

-- what the check looks up at each goal
pub ruleset sides = (values_in, above_in, below_in, last_append)
