use Rattle.std.proofs.Common.{◌≡◌, false, take}
use Rattle.std.specs.List.{list_any}
use Rattle.bp_base.specs.declared.path.Step.{Step}
use Rattle.bp_check.specs.Tests.{is_same_pair}
use Rattle.bp_check.proofs.stack.stands_on.Given as goal

abbrev pub invariant-loop-k : goal.invariant-loop-k
invariant-loop-k l = list_any (λ (s : Step). is_same_pair s.pair l.pair) (take l.k l.path) ≡ false
