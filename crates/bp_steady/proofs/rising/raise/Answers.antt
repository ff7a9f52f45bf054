use Rattle.std.proofs.Common.{◌≡◌, ℕ, ◌+◌, ◌-◌, ◌*◌, ◌≤◌, ◌<◌, List, length, get_or, sum, arith}
use Rattle.std.proofs.lemmas.List.Sums.{sum_by-le}
use Rattle.std.proofs.lemmas.Option.{slice_get-get_or, get_or_from_slice_get}
use Rattle.bp_base.specs.Limits.{most_number}
use Rattle.bp_steady.proofs.rising.raise.Goals as goal

fewer : (old new : List ℕ) → length new ≡ 64 → ((k : ℕ) → get_or new k 0 ≤ most_number) → sum old < sum new → 64 * most_number + 1 - sum new < 64 * most_number + 1 - sum old
fewer old new each small more =
    let most : sum new ≤ length new * most_number = sum_by-le (λ (x : ℕ). x) most_number new (λ k d less. omega (arith, small k, get_or_from_slice_get new k (get_or new k 0) d (slice_get-get_or new k 0 less))) in
    omega (arith, most, each, more)

pub loop-smaller : goal.loop-smaller
loop-smaller c = fewer c.loop.row c.pass.new.row c.pass.array_long (c.in-Risen.ensures.0).small c.in-Risen.ensures.1
