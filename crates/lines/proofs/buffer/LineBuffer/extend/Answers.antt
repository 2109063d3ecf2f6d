use Rattle.std.proofs.Common.{Some, ◌∙◌, subst}
use Rattle.std.specs.Io.KnownBytes.{WriteAppends}
use Rattle.lines.proofs.Kept.{filled}
use Rattle.lines.proofs.buffer.LineBuffer.extend.Goals as goal

pub returns-else-bytes-lt-FEW : goal.returns-else-bytes-lt-FEW
returns-else-bytes-lt-FEW c =
    let line = c.args.self.now.bytes.items in
    let written = c.write-taken.new.self.items in
    let added = subst (λ r. WriteAppends (Some line) (Some written) r c.args.bytes.now) c.write-taken.ensures.count c.write-taken.ensures.bytes in
    added ∙ filled line c.args.bytes.now c.args.self.now.within
