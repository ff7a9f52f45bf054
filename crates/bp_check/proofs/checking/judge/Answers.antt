use Rattle.std.proofs.Common.{refl, sym}
use Rattle.bp_check.specs.Verdicts.{HasParts}
use Rattle.bp_check.proofs.Reasoning.{found_verdict}
use Rattle.bp_check.proofs.checking.judge.Goals as goal

pub returns-in-Some : goal.returns-in-Some
returns-in-Some c =
    c.in-Some.ensures c.args.document.now (record { tree_is = refl; sheet_is = c.requires.sheet; side_is = refl; points_are = sym c.as_slice-points.ensures; floor_is = refl })

pub returns : goal.returns
returns c =
    let D = c.args.document.now in
    let parts : HasParts D D.tree c.args.metric.now.sheet D.side c.as_slice-points.result.now D.floor = record { tree_is = refl; sheet_is = c.requires.sheet; side_is = refl; points_are = sym c.as_slice-points.ensures; floor_is = refl } in
    found_verdict c.args.metric.now.tree c.args.metric.now.sheet D c.in_ok-found.found c.verdict_of.result c.requires.sheet (c.in_default.ensures D parts) c.in_ok-found.ensures c.verdict_of.ensures
