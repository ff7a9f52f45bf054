use Rattle.std.proofs.Common.{◌≡◌, ℕ, ◌<◌, get_or}
use Rattle.bp_chain.proofs.claim.stands_before.Given as goal

abbrev pub invariant-loop-m : goal.invariant-loop-m
invariant-loop-m l = (p : ℕ) → p < l.m → get_or l.chain p 0 ≡ l.leaf → ⊥
