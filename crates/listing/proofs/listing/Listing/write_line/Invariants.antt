use Rattle.std.proofs.Common.{◌++◌, take, decimal}
use Rattle.std.specs.Fmt.{HasWritten, IsPlainFormatter}
use Rattle.chains.specs.State.{values}
use Rattle.keys.specs.Letters.{letters_less}
use Rattle.listing.specs.Listing.{state}
use Rattle.listing.specs.Report.{spaced}
use Rattle.listing.proofs.listing.Listing.write_line.Given as goal

-- the key and the places so far are written
abbrev pub invariant-loop-rank : goal.invariant-loop-rank
invariant-loop-rank g l =
    IsPlainFormatter l.fn.f
    → HasWritten g.W.Write.write_str_gives l.fn.f (decimal l.fn.key.number ++ spaced (take l.rank (values letters_less (state l.fn.self) l.fn.key))) l.f
