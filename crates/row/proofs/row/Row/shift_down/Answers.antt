use Rattle.std.proofs.Common.{◌≡◌, ◌-◌, ◌/◌, length, refl, ◌∙◌, arith}
use Rattle.row.specs.Row.{room}
use Rattle.row.proofs.Rooms.{block_in, kept_by}
use Rattle.row.proofs.Rings.{length_block, passed_on}
use Rattle.row.proofs.row.Row.shift_down.Goals as goal

pub returns : goal.returns
unfolding room
returns g c =
    let r = c.args.self.now in
    let (s, e) = c.block-start.result in
    let f = c.shift_down in
    let B = block_in r (c.args.i / 256) s e (omega arith) c.block-start.ensures.start c.block-start.ensures.end in
    let l0 = length_block B in
    let lz : length f.new.block ≡ e - s = f.auto.block ∙ l0 in
    record {
      kept = kept_by r _ refl refl s (e - s) f.new.block refl lz (omega arith);
      items = passed_on B (c.args.stop - s) (c.args.i - s) c.args.stop c.args.i f.new.block c.args.x f.result lz (omega arith) (omega arith) (omega arith) (omega arith) f.ensures;
    }
