use Rattle.std.proofs.Common.{None, Some, ◌∙◌, refl}
use Rattle.bp_check.proofs.Ending.{reason_there, with_floor}
use Rattle.bp_check.proofs.Reasoning.{found_verdict}
use Rattle.bp_check.proofs.intake.verdict.Goals as goal

pub returns-in-Some : goal.returns-in-Some
returns-in-Some c = λ D parts bound found.
    let H = c.args.head.now in
    reason_there c.args.metric.now.tree D H.tree c.args.metric.now.sheet H.side H.points c.as_slice-points.result.now H.floor (Some c.in-Some.reason) c.as_slice-points.ensures c.in-Some.ensures parts

pub returns : goal.returns
returns c = λ D parts bound found.
    let H = c.args.head.now in
    let T = c.args.metric.now.tree in
    let G = c.args.metric.now.sheet in
    let before = reason_there T D H.tree G H.side H.points c.as_slice-points.result.now H.floor None c.as_slice-points.ensures c.in_default.ensures parts in
    found_verdict T G D c.args.found c.verdict_of.result parts.sheet_is before found (c.verdict_of.ensures ∙ with_floor D H.bound H.floor.side H.tree G H.side H.points H.floor c.args.found parts bound refl)
