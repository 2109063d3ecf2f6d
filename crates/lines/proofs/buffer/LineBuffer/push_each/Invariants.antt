use Rattle.std.proofs.Common.{◌≡◌, ◌++◌, take}
use Rattle.lines.specs.Buffer.{contents, kept}
use Rattle.lines.proofs.buffer.LineBuffer.push_each.Given as goal

abbrev pub invariant-loop-byte : goal.invariant-loop-byte
invariant-loop-byte l = contents l.self ≡ kept (contents l.initial.self ++ take l.byte-index l.bytes)
