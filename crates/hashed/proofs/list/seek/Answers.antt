use Rattle.std.proofs.Common.{true, false, length, sym, arith}
use Rattle.hashed.specs.Cells.{target, next_of, first_of, bucket_of}
use Rattle.hashed.proofs.Links.{walk-length}
use Rattle.hashed.proofs.Writes.{reached}
use Rattle.hashed.proofs.Walks.{walk_next, walk-found, walk_less}
use Rattle.hashed.proofs.list.seek.Goals as goal
use Rattle.hashed.proofs.list.seek.Goals.{then-is_same+else-passed-rank, else-is_same}

pub loop-x-preserved : goal.loop-x-preserved
loop-x-preserved g c =
    let cells = c.args.cells.now in
    let s = c.loop-x in
    let r = c.index-cells-x.result in
    let at = sym c.in-Some.ensures in
    let read = reached cells s.link.0 c.in-Some.x r at c.index-cells-x.is in
    let step = walk_next g.K.Key.less (length cells) cells (bucket_of (length cells) cells c.args.bucket) c.args.key c.args.rank s.previous (target (length cells) s.link.0) s.passed s.invariant
    c.in-Some.x (r.key, r.value) at read.1 (target (length cells) r.next.0) c.if-is_same.passed in
    elim c.if-is_same.branch [
      | then-is_same+else-passed-rank w ↦ step true read.0 (cc) w.passed-is (omega (arith, s.invariant.most)) read.2
      | else-is_same w ↦ step false read.0 (cc) (omega arith) (omega (arith, s.invariant.most)) read.2
    ]

pub loop-x-smaller : goal.loop-x-smaller
loop-x-smaller g c =
    let cells = c.args.cells.now in
    let s = c.loop-x in
    let at = sym c.in-Some.ensures in
    walk_less g.K.Key.less (length cells) cells (bucket_of (length cells) cells c.args.bucket) c.args.key c.args.rank s.previous (target (length cells) s.link.0) _ s.passed c.in-Some.x
    (walk-length (next_of (length cells) cells) (length cells) (first_of (length cells) cells c.args.bucket)) s.invariant at (reached cells s.link.0 c.in-Some.x c.index-cells-x.result at c.index-cells-x.is).2

pub returns-then-passed-rank-clause-found : goal.returns-then-passed-rank-clause-found
returns-then-passed-rank-clause-found g c =
    let cells = c.args.cells.now in
    let s = c.loop-x in
    let r = c.index-cells-x.result in
    let at = sym c.in-Some.ensures in
    walk-found g.K.Key.less (length cells) cells (bucket_of (length cells) cells c.args.bucket) c.args.key c.args.rank s.previous (target (length cells) s.link.0) s.passed s.invariant
    c.in-Some.x (r.key, r.value) at (reached cells s.link.0 c.in-Some.x r at c.index-cells-x.is).1 (cc) c.if-passed-rank.true
