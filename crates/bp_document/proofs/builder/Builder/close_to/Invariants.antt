use Rattle.std.proofs.Common.{◌≡◌, ◌≤◌, min, length}
use Rattle.bp_document.specs.Built.{KeepsNodes}
use Rattle.bp_document.proofs.builder.Builder.close_to.Given as goal

abbrev pub invariant-loop-self : goal.invariant-loop-self
invariant-loop-self l =
    KeepsNodes l.fn.self l.self
    × (min l.depth (length l.fn.self.branches.items) ≤ length l.self.branches.items)
    × (length l.self.branches.items ≤ length l.fn.self.branches.items)
    × (1 ≤ l.depth → l.self.root ≡ l.fn.self.root)
    × (length l.fn.self.branches.items ≤ l.depth → l.self.root ≡ l.fn.self.root)

abbrev pub decreases-loop-self : goal.decreases-loop-self
decreases-loop-self l = length l.self.branches.items
