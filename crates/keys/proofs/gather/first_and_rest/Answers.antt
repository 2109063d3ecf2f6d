use Rattle.std.proofs.Common.{rules}
use Rattle.std.proofs.lemmas.List.{take_rest, get_or_past, drop_all}
use Rattle.keys.proofs.gather.first_and_rest.Goals as goal

pub returns-in-empty : goal.returns-in-empty
returns-in-empty c = search (rules, get_or_past, drop_all)

pub returns-in-len1-up : goal.returns-in-len1-up
returns-in-len1-up c = search (rules, take_rest)
