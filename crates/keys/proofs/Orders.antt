-- That keys are in a total order, for proofs that speak of one kind of key.
use Rattle.std.proofs.Common.{rules}
use Rattle.keys.specs.Letters.{letters_less}
use Rattle.keys.specs.Order.{StrictOrder}

pub letters_order : StrictOrder letters_less
letters_order = search rules
