use Rattle.std.proofs.Common.{◌≡◌, ◌+◌, ◌-◌, ◌++◌, List, ℕ, length, codes, ap, subst, ◌∙◌, arith}
use Rattle.bp_base.specs.declared.point.Report.{Report}
use Rattle.bp_base.specs.Tree.{TreeValue, IsTree, name_of}
use Rattle.bp_regions.specs.Cells.{Reach}
use Rattle.bp_pieces.specs.Pieces.{IsReport}
use Rattle.bp_engine.specs.Documents.{report_text}
use Rattle.bp_engine.proofs.Drawn.{more_edges, all_edges, some_nodes}
use Rattle.bp_engine.proofs.drawing.parts_text.Goals as goal

pub loop-edge-preserved : goal.loop-edge-preserved
loop-edge-preserved c =
    let e = c.loop-edge.edge in
    let S = c.args.regions.now.side in
    let P = c.args.regions.now.points in
    let found = c.in_ok-found.found in
    let here : e ≡ e - 1 + 1 = omega (arith, c.loop-edge.auto.edge) in
    let after : e + 1 - 1 ≡ e - 1 + 1 = omega (arith, c.loop-edge.auto.edge) in
    let named = c.name_at.ensures ∙ ap (λ (T : TreeValue). name_of T e) c.tree-tree.ensures.tree in
    more_edges report_text c.args.regions.now.tree (λ (k : ℕ) (r : Report). IsReport (Reach c.args.regions.now.tree S P k) S r) (codes "pieces 1\n") (e - 1) (e + 1 - 1) e c.loop-edge.text.items c.add_report.new.text.items found c.loop-edge.invariant here after c.in_ok-found.ensures.report
    (c.in_ok-add_report.ensures ∙ ap (λ (n : List ℕ). c.loop-edge.text.items ++ report_text n found) named)

pub returns : goal.returns
returns c =
    all_edges report_text c.args.regions.now.tree (λ (k : ℕ) (r : Report). IsReport (Reach c.args.regions.now.tree c.args.regions.now.side c.args.regions.now.points k) c.args.regions.now.side r) (codes "pieces 1\n") (c.loop-edge.edge - 1) c.loop-edge.text.items c.add-2.new.text.items c.loop-edge.invariant
    (omega (arith, c.loop-edge.auto.edge, c.loop-edge.auto.edge-end, c.loop-edge-test.false, ap length c.parents.ensures.value, ap (λ (T : TreeValue). length T.parents) c.tree-tree.ensures.tree, some_nodes c.args.regions.now.tree (subst IsTree c.tree-tree.ensures.tree c.parents.ensures.tree)))
    c.in_ok-add-2.ensures
