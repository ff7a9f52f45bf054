use Rattle.std.proofs.Common.{ℕ, List, ◌<◌, subst, sym}
use Rattle.std.specs.List.{All}
use Rattle.bp_base.specs.Tree.{node_count}
use Rattle.bp_metric.proofs.Distances.{leaf_nodes_within}
use Rattle.bp_metric.proofs.table.table_of.Goals as goal

pub add_row-requires-clause-leaves : goal.add_row-requires-clause-leaves
add_row-requires-clause-leaves c =
    let T = c.args.tree.now in
    subst (λ (l : List ℕ). All (λ k. k < node_count T) l) (sym c.requires) (leaf_nodes_within T)

pub add_row-requires-clause-from : goal.add_row-requires-clause-from
add_row-requires-clause-from c =
    let T = c.args.tree.now in
    let all = subst (λ (l : List ℕ). All (λ k. k < node_count T) l) (sym c.requires) (leaf_nodes_within T) in
    all c.loop-from.from-index 0 c.loop-from-test.true
