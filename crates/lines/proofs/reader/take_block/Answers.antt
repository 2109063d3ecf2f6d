use Rattle.std.proofs.Common.{◌+◌, Some, [], length, take, sym, subst, arith, append-nil, inl, inr, take_all, eqb-true, le_refl}
use Rattle.std.specs.Io.Buffered.{reader_remaining, reader_buffer}
use Rattle.std.specs.Io.KnownBytes.{Consumes}
use Rattle.std.proofs.lemmas.List.Elements.{All-nil}
use Rattle.lines.proofs.Blocks.{no_end_before, with_end, nothing_left, taken}
use Rattle.lines.proofs.reader.take_block.Goals as goal

pub returns-then-is_empty-clause-brings : goal.returns-then-is_empty-clause-brings
returns-then-is_empty-clause-brings g c =
    let block = c.in_ok-block.block.now in
    let line = c.args.line.now.bytes.items in
    let left = reader_remaining g.R.Read.remaining in
    let none = eqb-true (length block) 0 (sym c.if-is_empty.ensures) in (
      [],
      All-nil _,
      rw append-nil (sym (take_all 257 line c.args.line.now.within)),
      inr (nothing_left (left c.args.input.now) (left c.fill_buf.follows.lender-at-none) (length block) none c.in_ok-block.ensures.end c.fill_buf.follows.holds-at-none.0),
    )

pub returns-in-Some-clause-brings : goal.returns-in-Some-clause-brings
returns-in-Some-clause-brings g c =
    let block = c.in_ok-block.block in
    let rested = c.fill_buf.follows.lender-at-none in
    let end = c.in-Some.ensures.end in
    let left = reader_remaining g.R.Read.remaining in
    let consumed = taken (left c.args.input.now) (left rested) (left c.consume.new.self) (Some (length (reader_buffer rested))) c.fill_buf.result block (c.in-Some.end + 1) _ (omega arith) c.in_ok-block.was (omega (arith, end.0)) c.in_ok-block.ensures.front c.in_ok-block.ensures.end c.fill_buf.follows.holds-at-none c.consume.ensures.bytes in (
      take c.in-Some.end block.now,
      no_end_before block.now c.in-Some.end (omega (arith, end.0)) end.2,
      c.in-Some.ensures.added,
      inl (subst (Consumes (left c.args.input.now) (left c.consume.new.self)) (with_end block.now c.in-Some.end end.0 end.1) consumed),
    )

pub returns-in-None-clause-brings : goal.returns-in-None-clause-brings
returns-in-None-clause-brings g c =
    let block = c.in_ok-block.block in
    let rested = c.fill_buf.follows.lender-at-none in
    let left = reader_remaining g.R.Read.remaining in (
      take (length block.now) block.now,
      no_end_before block.now (length block.now) (le_refl (length block.now)) c.in-None.ensures.end,
      c.in-None.ensures.added,
      taken (left c.args.input.now) (left rested) (left c.consume-in-None.new.self) (Some (length (reader_buffer rested))) c.fill_buf.result block (length block.now) _ (omega arith) c.in_ok-block.was (le_refl (length block.now)) c.in_ok-block.ensures.front c.in_ok-block.ensures.end c.fill_buf.follows.holds-at-none c.consume-in-None.ensures.bytes,
    )
