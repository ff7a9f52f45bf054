use Rattle.std.proofs.Common.{arith}
use Rattle.bp_tree.proofs.TwoLeaves.{one_is, tree_is}
use Rattle.bp_tree.proofs.grower.Grower.finish.Goals as goal

pub returns-then-root_children-lt2 : goal.returns-then-root_children-lt2
returns-then-root_children-lt2 c =
    one_is c.args.self _ c.self.view_is c.self.invariant.0 c.deref.result.now c.deref.ensures.value c.root_children.result c.root_children.ensures c.if-root_children-lt2.true (omega (arith, c.len.ensures, c.if-len-le1.false, c.self.inside.parents.ok.0))

pub of-requires : goal.of-requires
of-requires c =
    tree_is _ c.self.invariant.0 c.deref.result.now c.deref-2.result.now c.deref.ensures.value c.deref-2.ensures.value c.root_children.result c.leaf_count.result c.root_children.ensures c.leaf_count.ensures c.if-root_children-lt2.false c.if-leaf_count-gt-MOST_LEAVES.false
