use Rattle.std.proofs.Common.{◌≡◌, ◌<◌, ℕ, map, get_or}
use Rattle.bp_words.proofs.options.is_known.Given as goal

abbrev pub invariant-loop-known : goal.invariant-loop-known
invariant-loop-known l = (j : ℕ) → j < l.known-index → get_or (map (λ name. name.now) l.names) j l.name ≡ l.name → ⊥
