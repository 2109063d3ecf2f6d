-- The number of each refusal.
use Rattle.std.specs.Prelude.{ℕ}
use Rattle.chains.specs.declared.refusal.Refusal.{Refusal}
use Rattle.chains.specs.declared.refusal.Refusal.TheVariants.{Full, PastEnd}

abbrev pub number_of : Refusal → ℕ
number_of Full = 1
number_of PastEnd = 6
