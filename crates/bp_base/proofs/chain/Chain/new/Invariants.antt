use Rattle.std.proofs.Common.{◌≡◌, ◌≤◌, take, All}
use Rattle.bp_base.specs.Limits.{most_number}
use Rattle.bp_base.proofs.chain.Chain.new.Given as goal

abbrev pub invariant-loop-leaf : goal.invariant-loop-leaf
invariant-loop-leaf l =
    (l.kept.items ≡ take l.leaf-index l.leaves) × (l.kept.capacity ≡ 32) × All (λ k. k ≤ most_number) (take l.leaf-index l.leaves)
