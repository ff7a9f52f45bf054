use Rattle.std.proofs.Common.{◌∙◌, ◌++◌, map, refl, sym, subst}
use Rattle.bp_metric.specs.Records.{paths_left}
use Rattle.bp_metric.specs.Refutation.{Fits}
use Rattle.bp_join.specs.Joined.{node_of}
use Rattle.bp_written.specs.Told.{IsOfPairs}
use Rattle.bp_revise.specs.Apart.{examined, nodes_below, open_paths}
use Rattle.bp_revise.specs.Course.{IsBegun}
use Rattle.bp_revise.proofs.Begins.{begins, on_course}
use Rattle.bp_written.proofs.PathPairs.{no_pairs}
use Rattle.bp_revise.proofs.revising.begin.Goals as goal

pub take_apart-requires-clause-fits : goal.take_apart-requires-clause-fits
take_apart-requires-clause-fits c = subst (Fits c.args.metric.now.tree c.args.metric.now.sheet c.args.kept) (sym c.empty-root.ensures) c.requires.fits

pub take_apart-requires-clause-pairs : goal.take_apart-requires-clause-pairs
take_apart-requires-clause-pairs c = subst (IsOfPairs c.args.metric.now.tree) (sym c.empty-root.ensures) (no_pairs c.args.metric.now.tree)

pub returns-clause-begun : goal.returns-clause-begun
returns-clause-begun c =
    let T = c.args.metric.now.tree in
    let G = c.args.metric.now.sheet in
    begins T G c.args.kept c.take_apart.new.parts.records c.take_apart.new.parts.left
    (c.in_ok-take_apart.ensures.records ∙ (λ i. map (node_of T G) (c.new.ensures i) ++ examined (nodes_below T G c.args.kept (c.empty-root.ensures i))))
    (c.in_ok-take_apart.ensures.left ∙ (λ i. paths_left (c.new-2.ensures i) ++ open_paths (nodes_below T G c.args.kept (c.empty-root.ensures i))))

pub returns-clause-course : goal.returns-clause-course
returns-clause-course c =
    let T = c.args.metric.now.tree in
    let G = c.args.metric.now.sheet in
    let begun : IsBegun T G c.args.kept c.take_apart.new.parts.records c.take_apart.new.parts.left =
    begins T G c.args.kept c.take_apart.new.parts.records c.take_apart.new.parts.left
    (c.in_ok-take_apart.ensures.records ∙ (λ i. map (node_of T G) (c.new.ensures i) ++ examined (nodes_below T G c.args.kept (c.empty-root.ensures i))))
    (c.in_ok-take_apart.ensures.left ∙ (λ i. paths_left (c.new-2.ensures i) ++ open_paths (nodes_below T G c.args.kept (c.empty-root.ensures i)))) in
    on_course T G c.args.kept c.requires.fits c.args.start c.take_apart.new.parts.records c.take_apart.new.parts.left begun c.args.start.side c.args.start.points refl refl c.requires.valid
