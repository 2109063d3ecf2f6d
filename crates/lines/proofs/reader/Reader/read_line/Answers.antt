use Rattle.std.proofs.Common.{Ok, ap, refl, rules, ◌∙◌}
use Rattle.std.specs.Io.Buffered.{reader_remaining}
use Rattle.std.proofs.lemmas.Result.{IfOk-at_ok}
use Rattle.lines.proofs.Blocks.{goes_on, one_line, ended, found}
use Rattle.lines.proofs.reader.Reader.read_line.Goals as goal

pub loop-left-preserved-in-Ok-Continue : goal.loop-left-preserved-in-Ok-Continue
loop-left-preserved-in-Ok-Continue g c =
    let left = reader_remaining g.R.Read.remaining in
    let (part, within, added, taken) = IfOk-at_ok _ (c.in-Ok-Continue.is ∙ ap Ok c.in-Ok-Continue.field-0-is) c.take_block.ensures.brings in
    (c.loop-left.invariant.0, goes_on (left c.args.self.now.input) (left c.loop-left.self.input) (left c.take_block.new.input) _ _ part c.loop-left.invariant.1 within added taken)

pub returns-in-Ok-Break : goal.returns-in-Ok-Break
returns-in-Ok-Break g c =
    let left = reader_remaining g.R.Read.remaining in
    let is = c.in-Ok-Break.is ∙ ap Ok c.in-Ok-Break.field-0-is in
    let (part, within, added, taken) = IfOk-at_ok _ is c.take_block.ensures.brings in
    let old = left c.args.self.now.input in
    let mid = left c.loop-left.self.input in
    let new = left c.take_block.new.input in
    let read = c.loop-left.invariant.1 in
    let whole = ended old mid new _ _ part read within added taken in
    record {
      falls = search rules;
      ended = search rules;
      error = search rules;
      one_line = one_line old mid new _ _ part read within added;
      found = found old mid _ _ read (IfOk-at_ok _ is c.take_block.ensures.found _ refl);
      line = whole.0;
      rest = whole.1;
    }
