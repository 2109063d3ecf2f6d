use Rattle.std.proofs.Common.{◌≡◌, ℕ, ◌*◌, ◌≤◌, length, get_or, replicate, refl, arith}
use Rattle.std.proofs.lemmas.List.{get_or-replicate, length-replicate, nil_from_length}
use Rattle.row.specs.Rings.{HeadsWithin}
use Rattle.row.specs.Row.{room, outside}
use Rattle.row.proofs.Rooms.{length-items}
use Rattle.row.proofs.row.Row.new.Goals as goal

headed_start : (n m : ℕ) → m ≤ n * 256 → HeadsWithin 256 (replicate n 0) m
headed_start n m le b lt =
    let z : get_or (replicate {A = ℕ} n 0) b 0 ≡ 0 = get_or-replicate n b 0 0 (omega arith) in
    let l : length (replicate {A = ℕ} n 0) ≡ n = length-replicate n 0 in
    (omega arith, omega arith, omega arith)

pub invariant_of-result : goal.invariant_of-result
invariant_of-result g c = record { fits = omega arith; headed = headed_start 128 _ (omega arith) }

pub returns : goal.returns
unfolding room outside
returns g c = record { empty = nil_from_length _ (length-items _); room = refl; outside = refl }
