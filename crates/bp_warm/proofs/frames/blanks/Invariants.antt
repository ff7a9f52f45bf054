use Rattle.std.proofs.Common.{◌≡◌, length, All}
use Rattle.bp_warm.proofs.frames.blanks.Given as goal

abbrev pub invariant-loop : goal.invariant-loop
invariant-loop l =
    (length l.frames.items ≡ l.counter) × All (λ f. (length f.xs ≡ l.n) × (length f.ys ≡ l.n)) l.frames.items
