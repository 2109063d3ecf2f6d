use Rattle.std.proofs.Common.{decimal, rules, sym, ◌∙◌}
use Rattle.std.proofs.Output.{has_written_append, has_written_of_eq}
use Rattle.chains.specs.State.{values}
use Rattle.keys.specs.Letters.{letters_less}
use Rattle.listing.specs.Listing.{state}
use Rattle.listing.proofs.Texts.{spaced_more}
use Rattle.listing.proofs.listing.Listing.write_line.Goals as goal

pub loop-rank-preserved : goal.loop-rank-preserved
loop-rank-preserved g c =
    let places = values letters_less (state c.args.self.now) c.args.key in
    λ plain. has_written_of_eq _ _ _ _ _ (spaced_more (decimal c.args.key.number) places c.loop-rank.rank c.unwrap-place.result (sym c.value.ensures ∙ c.unwrap-place.ensures))
    (has_written_append _ _ _ _ _ _ (c.loop-rank.invariant plain) (search rules))
