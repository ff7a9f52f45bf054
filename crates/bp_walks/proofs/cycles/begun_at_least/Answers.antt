use Rattle.std.proofs.Common.{◌∙◌}
use Rattle.bp_walks.proofs.Trails.{turned_list}
use Rattle.bp_walks.proofs.cycles.begun_at_least.Goals as goal

pub unreachable-requires : goal.unreachable-requires
unreachable-requires c = c.in-None.ensures (turned_list c.args.cycle.now c.rotate_left.new.self c.place_of_least-first.result c.requires c.rotate_left.ensures.after)

pub returns : goal.returns
returns c =
    (c.place_of_least-first.result, c.place_of_least-first.ensures.within, c.in-Some.ensures.1 ∙ c.rotate_left.ensures.after, c.place_of_least-first.ensures.least)
