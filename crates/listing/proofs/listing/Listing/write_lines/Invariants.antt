use Rattle.std.proofs.Common.{◌-◌, length, take}
use Rattle.std.specs.Fmt.{HasWritten, IsPlainFormatter}
use Rattle.listing.specs.Listing.{contents}
use Rattle.listing.specs.Report.{lines_text}
use Rattle.listing.proofs.Texts.{Listed}
use Rattle.listing.proofs.listing.Listing.write_lines.Given as goal

abbrev pub invariant-loop-next : goal.invariant-loop-next
invariant-loop-next g l =
    Listed (contents l.fn.self) l.keys l.next l.places
    × (IsPlainFormatter l.fn.f → HasWritten g.W.Write.write_str_gives l.fn.f (lines_text (take l.keys (contents l.fn.self))) l.f)

abbrev pub decreases-loop-next : goal.decreases-loop-next
decreases-loop-next g l = length (contents l.fn.self) - l.keys
