use Rattle.std.proofs.Common.{◌≡◌, ◌+◌, length}
use Rattle.lines.specs.Buffer.{contents}
use Rattle.lines.proofs.buffer.LineBuffer.clear.Given as goal

abbrev pub invariant-loop : goal.invariant-loop
invariant-loop l = length (contents l.self) + l.counter ≡ length (contents l.initial.self)
