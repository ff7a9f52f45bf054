use Rattle.std.proofs.Common.{◌≡◌, ◌++◌}
use Rattle.std.specs.List.{flat_map}
use Rattle.bp_machine.specs.State.{HandValue}
use Rattle.bp_machine.proofs.state.State.gather.Given as goal

abbrev pub invariant-loop-hand : goal.invariant-loop-hand
invariant-loop-hand l = record {
  records : l.records.items ≡ flat_map (λ (h : HandValue). h.records) l.yielded;
  left : l.left.items ≡ flat_map (λ (h : HandValue). h.kept ++ h.deque) l.yielded;
}
