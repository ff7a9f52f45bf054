use Rattle.std.proofs.Common.{◌≡◌, ◌≤◌, length, map, take}
use Rattle.bp_pairs.specs.Sets.{choices_of}
use Rattle.bp_turn.specs.Turns.{child}
use Rattle.bp_turn.proofs.children.push_children.Given as goal

abbrev pub invariant-loop-k : goal.invariant-loop-k
invariant-loop-k l = record {
  within : l.k ≤ length (choices_of l.choices);
  made : l.children ≡ map (child l.path l.bound l.pair) (take l.k (choices_of l.choices));
}
