use Rattle.std.proofs.Common.{◌≡◌}
use Rattle.std.specs.Io.Buffered.{reader_remaining}
use Rattle.lines.specs.Buffer.{contents}
use Rattle.lines.proofs.Blocks.{Reading}
use Rattle.lines.proofs.reader.Reader.read_line.Given as goal

abbrev pub invariant-loop-left : goal.invariant-loop-left
invariant-loop-left g l =
    let left = reader_remaining g.R.Read.remaining in
    (l.self.error ≡ l.fn.self.error) × Reading (left l.fn.self.input) (left l.self.input) (contents l.self.line)
