use Rattle.std.proofs.Common.{◌≡◌, ◌+◌, ◌*◌, ◌<◌, ℕ, map}
use Rattle.std.specs.Prelude.{string_bytes}
use Rattle.bp_words.specs.Words.{word_at}
use Rattle.bp_words.proofs.options.place_of.Given as goal

abbrev pub invariant-loop-k : goal.invariant-loop-k
invariant-loop-k l = (j : ℕ) → j < l.k → word_at (map string_bytes l.words) (1 + 2 * j) ≡ l.name → ⊥
