use Rattle.std.proofs.Common.{rules}
use Rattle.ordered.proofs.Calls.{same_store, put_sorts, put_does, put_refuses}
use Rattle.ordered.proofs.ordered.store.OrderedChainStore.put.Goals as goal

pub invariant_of-self : goal.invariant_of-self
invariant_of-self g c = record { sorted = search (rules, put_sorts g.met.K.Key.order c.args.self.now c.args.key c.args.rank c.args.value) }

pub returns-then-insert-clause-effect : goal.returns-then-insert-clause-effect
returns-then-insert-clause-effect g c = search (rules, put_does g.met.K.Key.order c.args.self.now c.args.key c.args.rank c.args.value)

pub returns-else-insert-clause-effect : goal.returns-else-insert-clause-effect
returns-else-insert-clause-effect g c = search (rules, put_refuses g.met.K.Key.order c.args.self.now c.args.key c.args.rank c.args.value)

pub returns-else-insert-clause-refused : goal.returns-else-insert-clause-refused
returns-else-insert-clause-refused g c = λ f. same_store _ _ (search rules)
