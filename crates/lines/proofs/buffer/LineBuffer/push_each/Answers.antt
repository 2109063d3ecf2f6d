use Rattle.std.proofs.Common.{[], ◌∷◌, ◌++◌, get_or, ap, ◌∙◌, arith}
use Rattle.std.proofs.lemmas.List.{take_all}
use Rattle.lines.specs.Buffer.{contents, kept}
use Rattle.lines.proofs.Kept.{start, more}
use Rattle.lines.proofs.buffer.LineBuffer.push_each.Goals as goal

pub loop-byte-init : goal.loop-byte-init
loop-byte-init c = start (contents c.args.self.now) c.args.self.now.within

pub loop-byte-preserved : goal.loop-byte-preserved
loop-byte-preserved c =
    c.push.ensures ∙ ap (λ line. kept (line ++ get_or c.args.bytes.now c.loop-byte.byte-index 0 ∷ [])) c.loop-byte.invariant ∙ more _ c.args.bytes.now c.loop-byte.byte-index (omega arith)

pub returns : goal.returns
returns c =
    c.loop-byte.invariant ∙ ap (λ l. kept (contents c.args.self.now ++ l)) (take_all c.loop-byte.byte-index c.args.bytes.now c.loop-byte-test.false)
