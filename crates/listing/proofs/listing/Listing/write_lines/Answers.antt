use Rattle.std.proofs.Common.{refl, rules, arith}
use Rattle.std.proofs.Output.{has_written_append, has_written_of_eq}
use Rattle.listing.specs.Listing.{contents}
use Rattle.listing.proofs.Texts.{held-ascending, keys_small, total-small, key_within, listed_more, listed_all, lines_more, lines_all}
use Rattle.listing.proofs.listing.Listing.write_lines.Goals as goal

pub overflow_add-keys : goal.overflow_add-keys
overflow_add-keys g c =
    let l = c.args.self.now in
    omega (arith, key_within (contents l) c.loop-next.keys c.loop-next.next c.loop-next.places c.loop-next.invariant.0 c.in-Some.key (held-ascending l) c.in-Some.is, keys_small l)

pub overflow_add-places : goal.overflow_add-places
overflow_add-places g c =
    let l = c.args.self.now in
    let more = listed_more (contents l) c.loop-next.keys c.loop-next.next c.loop-next.places c.loop-next.invariant.0
    c.in-Some.key _ c.count-places.result (held-ascending l) c.in-Some.is refl c.count-places.ensures in
    omega (arith, more.counted, total-small l)

pub loop-next-preserved : goal.loop-next-preserved
loop-next-preserved g c =
    let l = c.args.self.now in
    let now = c.loop-next.invariant in (
      listed_more (contents l) c.loop-next.keys c.loop-next.next c.loop-next.places now.0 c.in-Some.key _ c.count-places.result (held-ascending l) c.in-Some.is (search rules) c.count-places.ensures,
      λ plain. has_written_of_eq _ _ _ _ _ (lines_more (contents l) c.loop-next.keys c.loop-next.next c.loop-next.places now.0 c.in-Some.key (held-ascending l) c.in-Some.is)
          (has_written_append _ _ _ _ _ _ (now.1 plain) (search rules)),
    )

pub returns-clause-text : goal.returns-clause-text
returns-clause-text g c =
    λ plain. has_written_of_eq _ _ _ _ _ (lines_all (contents c.args.self.now) c.loop-next.keys c.loop-next.next c.loop-next.places c.loop-next.invariant.0 c.in_default.is) (c.loop-next.invariant.1 plain)

pub returns-clause-keys : goal.returns-clause-keys
returns-clause-keys g c = (listed_all (contents c.args.self.now) c.loop-next.keys c.loop-next.next c.loop-next.places c.loop-next.invariant.0 c.in_default.is).0
