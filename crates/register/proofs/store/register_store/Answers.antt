use Rattle.std.proofs.Common.{ap, ◌∙◌}
use Rattle.chains.specs.State.{StoreState}
use Rattle.keys.specs.declared.length.LengthKey.{LengthKey}
use Rattle.register.specs.declared.usage.Use.{Use}
use Rattle.register.proofs.store.register_store.Goals as goal

pub returns-clause-sections : goal.returns-clause-sections
returns-clause-sections c k = ap (λ (s : StoreState LengthKey Use). s.section k) c.new-3.ensures.state

pub returns-clause-short_room : goal.returns-clause-short_room
returns-clause-short_room c = ap (λ (s : StoreState LengthKey Use). s.room 0) c.new-3.ensures.state ∙ c.new.ensures.room

pub returns-clause-long_room : goal.returns-clause-long_room
returns-clause-long_room c = ap (λ (s : StoreState LengthKey Use). s.room 1) c.new-3.ensures.state ∙ c.new-2.ensures.room
