use Rattle.std.proofs.Common.{rules}
use Rattle.ordered.proofs.Calls.{same_store, nothing, take_sorts, take_does}
use Rattle.ordered.proofs.ordered.store.OrderedChainStore.take.Goals as goal

pub invariant_of-self : goal.invariant_of-self
invariant_of-self g c = record { sorted = search (rules, take_sorts g.met.K.Key.order c.args.self.now c.args.key c.args.rank) }

pub returns-clause-effect : goal.returns-clause-effect
returns-clause-effect g c = search (rules, take_does g.met.K.Key.order c.args.self.now c.args.key c.args.rank c.in-Some.found.place)

pub returns-clause-refused : goal.returns-clause-refused
returns-clause-refused g c = λ f. same_store _ _ (search (rules, nothing))
