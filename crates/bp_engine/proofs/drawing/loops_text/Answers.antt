use Rattle.std.proofs.Common.{◌≡◌, ◌+◌, ◌-◌, ◌++◌, List, ℕ, length, codes, map, ap, subst, ◌∙◌, arith}
use Rattle.bp_base.specs.declared.point.Point.{Point}
use Rattle.bp_base.specs.Tree.{TreeValue, IsTree, name_of}
use Rattle.bp_contour.specs.declared.loops.Loop.{Loop}
use Rattle.bp_regions.specs.Cells.{Reach}
use Rattle.bp_regions.specs.Contours.{AreContours}
use Rattle.bp_engine.specs.Documents.{edge_text}
use Rattle.bp_engine.proofs.Drawn.{more_edges, all_edges, some_nodes}
use Rattle.bp_engine.proofs.drawing.loops_text.Goals as goal

pub loop-edge-preserved : goal.loop-edge-preserved
loop-edge-preserved c =
    let e = c.loop-edge.edge in
    let loops = map (λ (l : Loop). l.points) c.in_ok-loops.loops.items in
    let here : e ≡ e - 1 + 1 = omega (arith, c.loop-edge.auto.edge) in
    let after : e + 1 - 1 ≡ e - 1 + 1 = omega (arith, c.loop-edge.auto.edge) in
    let named = c.name_at.ensures ∙ ap (λ (T : TreeValue). name_of T e) c.tree-tree.ensures.tree in
    more_edges edge_text c.args.regions.now.tree (λ (k : ℕ) (l : List (List Point)). AreContours (Reach c.args.regions.now.tree c.args.regions.now.side c.args.regions.now.points k) l) (codes "contours 1\n") (e - 1) (e + 1 - 1) e c.loop-edge.text.items c.add_edge.new.text.items loops c.loop-edge.invariant here after c.in_ok-loops.ensures
    (c.in_ok-add_edge.ensures ∙ ap (λ (n : List ℕ). c.loop-edge.text.items ++ edge_text n (map (λ (l : Loop). l.points) c.deref.result.now)) named ∙ ap (λ (ls : List Loop). c.loop-edge.text.items ++ edge_text (name_of c.args.regions.now.tree e) (map (λ (l : Loop). l.points) ls)) c.deref.ensures.value)

pub returns : goal.returns
returns c =
    all_edges edge_text c.args.regions.now.tree (λ (k : ℕ) (l : List (List Point)). AreContours (Reach c.args.regions.now.tree c.args.regions.now.side c.args.regions.now.points k) l) (codes "contours 1\n") (c.loop-edge.edge - 1) c.loop-edge.text.items c.add-2.new.text.items c.loop-edge.invariant
    (omega (arith, c.loop-edge.auto.edge, c.loop-edge.auto.edge-end, c.loop-edge-test.false, ap length c.parents.ensures.value, ap (λ (T : TreeValue). length T.parents) c.tree-tree.ensures.tree, some_nodes c.args.regions.now.tree (subst IsTree c.tree-tree.ensures.tree c.parents.ensures.tree)))
    c.in_ok-add-2.ensures
