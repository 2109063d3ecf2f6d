-- Two splits are the same if their stores and boundaries are.
use Rattle.std.proofs.Common.{◌≡◌}
use mathlib.Core.HLevel.{is_prop→PathP}
use Rattle.chains.specs.declared.store.ChainStore
use Rattle.keys.specs.declared.key.Key
use Rattle.split.specs.declared.split.Split.{Split}
use Rattle.split.specs.Joined.{Divided, Divided-prop}

module _ {A B K V : Type 0} {low : ChainStore.Ghosts A K V} {key : Key.Ghosts K} {high : ChainStore.Ghosts B K V} where
  pub same_split : (s t : Split A B K V low key high) → s.low ≡ t.low → s.high ≡ t.high → s.boundary ≡ t.boundary → s ≡ t
  same_split s t a b k i = record {
    low = a i;
    high = b i;
    boundary = k i;
    divided = is_prop→PathP (λ j. Divided key.less (k j) (low.state (a j)) (high.state (b j))) (λ j. Divided-prop) s.divided t.divided i;
  }
