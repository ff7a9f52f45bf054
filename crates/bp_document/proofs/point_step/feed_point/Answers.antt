use Rattle.std.proofs.Common.{◌≡◌, ◌<◌, List, ℕ, Ok, subst, sym, ◌∙◌, ap, get_or, length}
use Rattle.bp_base.specs.declared.point.Point.{Point}
use Rattle.bp_base.specs.Tree.{leaf_count, leaf_nodes}
use Rattle.bp_document.specs.declared.stage.Stage.{Stage}
use Rattle.bp_document.specs.Stages.{FeedsStage}
use Rattle.bp_document.proofs.HeadSteps.{point_fed}
use Rattle.bp_document.proofs.point_step.feed_point.Goals as goal

pub returns-clause-stage : goal.returns-clause-stage
returns-clause-stage c =
    let place = c.in-Some.ensures.place in
    let less : length c.args.parts.points < leaf_count c.args.parts.tree = subst (λ (k : ℕ). k < leaf_count c.args.parts.tree) c.len.ensures.count place.1 in
    let node : get_or (leaf_nodes c.args.parts.tree) (length c.args.parts.points) 0 ≡ c.in-Some.node = ap (λ (k : ℕ). get_or (leaf_nodes c.args.parts.tree) k 0) (sym c.len.ensures.count) ∙ place.2 in
    subst (λ (points : List Point). FeedsStage (Stage.Points c.args.parts) c.args.bytes.now (Ok (Stage.Points (record c.args.parts { points = points }))))
    (sym c.push.ensures) (point_fed c.args.parts c.args.bytes.now c.in-Some.node less node c.in_ok-point.point c.in_ok-point.ensures)
