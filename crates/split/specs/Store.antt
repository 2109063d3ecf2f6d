-- What the split store means, by what its two stores mean.
use Rattle.chains.specs.State.{StoreState}
use Rattle.chains.specs.declared.store.ChainStore
use Rattle.keys.specs.declared.key.Key
use Rattle.split.specs.declared.split.Split.{Split}
use Rattle.split.specs.Joined.{joined}

module _ {A B K V : Type 0} {low : ChainStore.Ghosts A K V} {key : Key.Ghosts K} {high : ChainStore.Ghosts B K V} where
  abbrev pub state : Split A B K V low key high → StoreState K V
  state s = joined key.less s.boundary (low.state s.low) (high.state s.high)

  abbrev pub outside : Split A B K V low key high → low.Outside × high.Outside
  outside s = (low.outside s.low, high.outside s.high)
