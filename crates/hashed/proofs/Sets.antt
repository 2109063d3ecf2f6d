-- Two proofs that two outcomes of a call are the same are the same proof.
use Rattle.std.proofs.Common.{Bool, List, Result}
use Rattle.std.proofs.Props.{props}
use Rattle.std.specs.Coded.{Coded, Coded-set, coded_list, coded×}
use mathlib.Core.Sum.{⊎_set}
use Rattle.chains.specs.State.{StoreState}
use Rattle.chains.specs.declared.refusal.Refusal.{Refusal}

module _ {K V : Type 0} (k : Coded K) (v : Coded V) where
  state_set : IsSet (StoreState K V)
  state_set = let c : IsSet (List (K × List V)) = Coded-set (coded_list (coded× k (coded_list v))) in hlevel (c, props)

  pub answer_set : IsSet (Bool × StoreState K V)
  answer_set = hlevel (state_set, props)

  pub outcome_set : IsSet (Result (Unit {0}) Refusal × StoreState K V)
  outcome_set = hlevel (state_set, ⊎_set, props)
