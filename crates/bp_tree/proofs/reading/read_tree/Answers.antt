use Rattle.bp_tree.specs.Text.{TreeOf}
use Rattle.bp_tree.specs.Faults.{IsTreeFault}
use Rattle.bp_tree.proofs.OneFault.{one_fault, stopped}
use Rattle.bp_tree.proofs.Whole.{end_fault, no_tree, one_tree, tree_found}
use Rattle.bp_tree.proofs.reading.read_tree.Goals as goal

of_whole : (c : goal.After-of_the_whole-in-Err-finish) → IsTreeFault c.args.bytes.now (record { line = 0; kind = c.in-Err-finish.kind })
of_whole c =
    end_fault c.args.bytes.now _ c.in-Ok-read_edges.ensures.growing tt c.in-Ok-read_edges.ensures.edges c.in-Err-finish.kind c.if-bytes-gt-MOST_TREE_BYTES.false c.in-Err-finish.ensures

pub returns-in-Err-read_edges-clause-reads : goal.returns-in-Err-read_edges-clause-reads
returns-in-Err-read_edges-clause-reads c =
    (stopped c.args.bytes.now c.read_edges.new.grower c.in-Err-read_edges.error c.if-bytes-gt-MOST_TREE_BYTES.false c.in-Err-read_edges.ensures.edges).0

pub returns-in-Err-read_edges-clause-only : goal.returns-in-Err-read_edges-clause-only
returns-in-Err-read_edges-clause-only c =
    (stopped c.args.bytes.now c.read_edges.new.grower c.in-Err-read_edges.error c.if-bytes-gt-MOST_TREE_BYTES.false c.in-Err-read_edges.ensures.edges).1

pub returns-in-Err-finish-clause-reads : goal.returns-in-Err-finish-clause-reads
returns-in-Err-finish-clause-reads c =
    rw c.of_the_whole-in-Err-finish.ensures (of_whole c, no_tree c.args.bytes.now (record { line = 0; kind = c.in-Err-finish.kind }) (of_whole c))

pub returns-in-Err-finish-clause-only : goal.returns-in-Err-finish-clause-only
returns-in-Err-finish-clause-only c =
    rw c.of_the_whole-in-Err-finish.ensures (λ g. one_fault c.args.bytes.now (record { line = 0; kind = c.in-Err-finish.kind }) g (of_whole c))

pub returns-in-Ok-finish-clause-only : goal.returns-in-Ok-finish-clause-only
returns-in-Ok-finish-clause-only c =
    let found : TreeOf c.args.bytes.now c.in-Ok-finish.tree = tree_found c.args.bytes.now _ c.in-Ok-finish.tree tt c.if-bytes-gt-MOST_TREE_BYTES.false c.in-Ok-read_edges.ensures.edges c.in-Ok-finish.ensures in
    (λ U. one_tree c.args.bytes.now c.in-Ok-finish.tree U found, λ f fault. no_tree c.args.bytes.now f fault c.in-Ok-finish.tree found)
