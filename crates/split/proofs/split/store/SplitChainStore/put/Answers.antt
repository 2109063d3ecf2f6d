use Rattle.std.proofs.Common.{refl}
use Rattle.split.proofs.Outcomes.{put}
use Rattle.split.proofs.Same.{same_split}
use Rattle.split.proofs.Sides.{low_outcome, low_divided, high_outcome, high_divided}
use Rattle.split.proofs.split.store.SplitChainStore.put.Goals as goal

pub invariant_of-self : goal.invariant_of-self
invariant_of-self g c = record { divided = search (low_divided c.args.self.now c.args.key g.met.A.Key.Key.order (put c.args.rank c.args.value)) }

pub invariant_of-self-else-is_low : goal.invariant_of-self-else-is_low
invariant_of-self-else-is_low g c = record { divided = search (high_divided c.args.self.now c.args.key g.met.A.Key.Key.order (put c.args.rank c.args.value)) }

pub returns-then-is_low-clause-effect : goal.returns-then-is_low-clause-effect
returns-then-is_low-clause-effect g c = search (low_outcome c.args.self.now c.args.key g.met.A.Key.Key.order (put c.args.rank c.args.value))

pub returns-else-is_low-clause-effect : goal.returns-else-is_low-clause-effect
returns-else-is_low-clause-effect g c = search (high_outcome c.args.self.now c.args.key g.met.A.Key.Key.order (put c.args.rank c.args.value))

pub returns-then-is_low-clause-refused : goal.returns-then-is_low-clause-refused
returns-then-is_low-clause-refused g c h = same_split _ _ (c.put.ensures.refused h) refl refl

pub returns-else-is_low-clause-refused : goal.returns-else-is_low-clause-refused
returns-else-is_low-clause-refused g c h = same_split _ _ refl (c.put-else-is_low.ensures.refused h) refl
