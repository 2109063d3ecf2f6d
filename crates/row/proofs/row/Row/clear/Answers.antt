use Rattle.std.proofs.Common.{refl}
use Rattle.std.proofs.lemmas.List.{nil_from_length}
use Rattle.row.specs.Row.{room, outside}
use Rattle.row.proofs.Rooms.{length-items}
use Rattle.row.proofs.row.Row.clear.Goals as goal

pub returns : goal.returns
unfolding room outside
returns g c = record { empty = nil_from_length _ (length-items _); room = refl; outside = refl }
