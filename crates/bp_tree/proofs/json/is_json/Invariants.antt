use Rattle.std.proofs.Common.{◌≡◌, ◌<◌, ℕ, true, get_or}
use Rattle.bp_tree.specs.Json.{is_space}
use Rattle.bp_tree.proofs.json.is_json.Given as goal

abbrev pub invariant-loop-byte : goal.invariant-loop-byte
invariant-loop-byte l = (k : ℕ) → k < l.byte-index → is_space (get_or l.bytes k 0) ≡ true
