use Rattle.std.proofs.Common.{refl, length}
use Rattle.std.specs.Prelude.{nat_lt}
use Rattle.bp_base.specs.Tree.{leaf_count}
use Rattle.bp_document.specs.declared.stage.Stage.{Stage}
use Rattle.bp_document.specs.Places.{next_leaf}
use Rattle.bp_document.specs.Stages.{head_of}
use Rattle.bp_document.proofs.Leads.{cut_steps, plain_at, plain_steps, gives_point}
use Rattle.bp_document.proofs.step.take_line.Goals as goal

pub returns-then-not-ended : goal.returns-then-not-ended
returns-then-not-ended c = cut_steps c.args.stage c.args.bytes.now c.args.ended c.cut.result c.if-not-ended.true c.cut.ensures

pub returns-in-Version : goal.returns-in-Version
returns-in-Version c =
    plain_at c.args.stage (Stage.Version c.in-Version.memory) c.args.bytes.now c.args.ended c.plain.result c.in-Version.is c.if-not-ended.false
    (plain_steps (Stage.Version c.in-Version.memory) c.args.bytes.now c.feed_version.result c.plain.result tt refl (λ es. tt) c.feed_version.ensures.stage c.feed_version.ensures.within c.plain.ensures)

pub returns-in-Sheet : goal.returns-in-Sheet
returns-in-Sheet c =
    plain_at c.args.stage (Stage.Sheet c.in-Sheet.memory) c.args.bytes.now c.args.ended c.plain-in-Sheet.result c.in-Sheet.is c.if-not-ended.false
    (plain_steps (Stage.Sheet c.in-Sheet.memory) c.args.bytes.now c.feed_sheet.result c.plain-in-Sheet.result tt refl (λ es. tt) c.feed_sheet.ensures.stage c.feed_sheet.ensures.within c.plain-in-Sheet.ensures)

pub returns-in-Edges : goal.returns-in-Edges
returns-in-Edges c =
    plain_at c.args.stage (Stage.Edges c.in-Edges.sheet c.in-Edges.memory) c.args.bytes.now c.args.ended c.plain-in-Edges.result c.in-Edges.is c.if-not-ended.false
    (plain_steps (Stage.Edges c.in-Edges.sheet c.in-Edges.memory) c.args.bytes.now c.feed_edge_count.result c.plain-in-Edges.result tt refl (λ es. tt) c.feed_edge_count.ensures.stage c.feed_edge_count.ensures.within c.plain-in-Edges.ensures)

pub returns-in-Edge : goal.returns-in-Edge
returns-in-Edge c =
    plain_at c.args.stage (Stage.Edge c.in-Edge.sheet c.in-Edge.count c.in-Edge.left c.in-Edge.memory) c.args.bytes.now c.args.ended c.plain-in-Edge.result c.in-Edge.is c.if-not-ended.false
    (plain_steps (Stage.Edge c.in-Edge.sheet c.in-Edge.count c.in-Edge.left c.in-Edge.memory) c.args.bytes.now c.feed_edge.result c.plain-in-Edge.result tt refl (λ es. tt) c.feed_edge.ensures.stage c.feed_edge.ensures.within c.plain-in-Edge.ensures)

pub returns-in-Side : goal.returns-in-Side
returns-in-Side c =
    plain_at c.args.stage (Stage.Side c.in-Side.parts) c.args.bytes.now c.args.ended c.plain-in-Side.result c.in-Side.is c.if-not-ended.false
    (plain_steps (Stage.Side c.in-Side.parts) c.args.bytes.now c.feed_side.result c.plain-in-Side.result tt refl (λ es. tt) c.feed_side.ensures.stage c.feed_side.ensures.within c.plain-in-Side.ensures)

pub returns-in-Bound : goal.returns-in-Bound
returns-in-Bound c =
    plain_at c.args.stage (Stage.Bound c.in-Bound.parts) c.args.bytes.now c.args.ended c.plain-in-Bound.result c.in-Bound.is c.if-not-ended.false
    (plain_steps (Stage.Bound c.in-Bound.parts) c.args.bytes.now c.feed_bound.result c.plain-in-Bound.result tt refl (λ es. tt) c.feed_bound.ensures.stage c.feed_bound.ensures.within c.plain-in-Bound.ensures)

pub returns-in-Points : goal.returns-in-Points
returns-in-Points c =
    plain_at c.args.stage (Stage.Points c.in-Points.parts) c.args.bytes.now c.args.ended c.plain-in-Points.result c.in-Points.is c.if-not-ended.false
    (plain_steps (Stage.Points c.in-Points.parts) c.args.bytes.now c.feed_point.result c.plain-in-Points.result tt refl (λ es. gives_point (next_leaf (head_of c.in-Points.parts 0 0)) c.args.bytes.now (nat_lt (length c.in-Points.parts.points) (leaf_count c.in-Points.parts.tree))) c.feed_point.ensures.stage c.feed_point.ensures.within c.plain-in-Points.ensures)

pub returns-in-Proof : goal.returns-in-Proof
returns-in-Proof c =
    plain_at c.args.stage (Stage.Proof c.in-Proof.parts c.in-Proof.m c.in-Proof.side) c.args.bytes.now c.args.ended c.plain-in-Proof.result c.in-Proof.is c.if-not-ended.false
    (plain_steps (Stage.Proof c.in-Proof.parts c.in-Proof.m c.in-Proof.side) c.args.bytes.now c.feed_proof.result c.plain-in-Proof.result tt refl (λ es. tt) c.feed_proof.ensures.stage c.feed_proof.ensures.within c.plain-in-Proof.ensures)
