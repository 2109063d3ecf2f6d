use Rattle.lines.proofs.Kept.{pushed, unmoved}
use Rattle.lines.proofs.buffer.LineBuffer.push.Goals as goal

pub returns : goal.returns
returns c =
    let e = c.try_push-fits.ensures in
    let old = c.args.self.now.bytes in
    let new = c.try_push-fits.new.self in
    let same = unmoved c.try_push-fits.result new old (λ v. v.items) e.err in
    pushed c.try_push-fits.result old.items new.items c.args.byte c.args.self.now.within e.variant e.ok same e.full
