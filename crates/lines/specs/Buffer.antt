-- What a line's buffer holds.
use Rattle.std.specs.Prelude.{ℕ, List, take}
use Rattle.lines.specs.declared.buffer.LineBuffer.{LineBuffer}

abbrev pub contents : LineBuffer → List ℕ
contents b = b.bytes.items

-- of a line: as much as the longest has, and one byte more
abbrev pub kept : List ℕ → List ℕ
kept line = take 257 line
