use Rattle.std.proofs.Common.{eqb}
use Rattle.std.proofs.lemmas.List.Filters.{dedup_is}
use Rattle.bp_regions.proofs.Ends.{sorted_ends}
use Rattle.bp_regions.proofs.cuts.cuts_of.Goals as goal

pub returns : goal.returns
returns c =
    sorted_ends c.args.side c.args.axis c.args.balls.now c.in_ok-cuts.cuts.items c.sort.new.self.items c.dedup.new.self.items c.in_ok-cuts.ensures c.in_ok-sort.ensures.permutation c.in_ok-sort.ensures.sorted (dedup_is eqb c.sort.new.self.items c.dedup.new.self.items c.dedup.ensures.filtered)
