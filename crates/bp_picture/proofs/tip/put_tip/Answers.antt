use Rattle.std.proofs.Common.{refl}
use Rattle.bp_text.proofs.Puts.{puts_same}
use Rattle.bp_picture.proofs.Told.{tip_is}
use Rattle.bp_picture.proofs.tip.put_tip.Goals as goal

pub returns-clause-text : goal.returns-clause-text
returns-clause-text g c =
    puts_same _ _ _ _ _ c.put_label.ensures.text
    (tip_is c.args.metric.now.tree c.tree-tree.result.now c.args.side c.args.points.now c.args.leaf c.leaf_node-node.result c.lengths.result.now c.name_at-name.result.now _ c.label_of-label.result c.tree-tree.ensures.tree c.leaf_node-node.ensures.node c.name_at-name.ensures c.lengths.ensures.value refl c.label_of-label.ensures)
