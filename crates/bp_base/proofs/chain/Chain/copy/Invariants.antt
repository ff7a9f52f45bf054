use Rattle.std.proofs.Common.{◌≡◌, take}
use Rattle.bp_base.specs.Chain.{IsChainList}
use Rattle.bp_base.proofs.chain.Chain.copy.Given as goal

abbrev pub invariant-loop-leaf : goal.invariant-loop-leaf
invariant-loop-leaf l =
    (l.kept.items ≡ take l.leaf-index l.leaf-items) × (l.kept.capacity ≡ 32) × IsChainList l.leaf-items × (l.leaf-items ≡ l.initial.leaf-items)
