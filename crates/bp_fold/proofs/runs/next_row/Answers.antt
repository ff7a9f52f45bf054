use Rattle.std.proofs.Common.{ℕ, ◌+◌, ◌<◌, arith, sym, ◌∙◌, inl, inr, subst}
use Rattle.std.proofs.lemmas.Bool.{cases_eq, false≢true}
use Rattle.bp_fold.specs.Meshes.{crossing}
use Rattle.bp_fold.specs.Vertices.{IsVertex}
use Rattle.bp_fold.proofs.Along.{up_goes_on, upper_within}
use Rattle.bp_fold.proofs.runs.next_row.Goals as goal

pub loop-next-init : goal.loop-next-init
loop-next-init c =
    let M = c.args.mesh.now in (
      omega arith,
      upper_within M.regions.now M.xs.now M.ys.now M.owners.items c.requires.mesh c.args.column c.args.row c.requires.row c.requires.upper,
      λ k after before. absurd (omega (arith, after, before)),
    )

pub loop-next-preserved : goal.loop-next-preserved
loop-next-preserved c =
    let M = c.args.mesh.now in
    let W : ℕ → Type 0 = λ k. IsVertex M.regions.now (crossing M.xs.now M.ys.now c.args.column k) in
    let none : W c.loop-next.next → ⊥ = λ v. false≢true (sym c.loop-next-test.true ∙ c.is_vertex.ensures.1 v) in
    let free : (k : ℕ) → c.args.row < k → k < c.loop-next.next + 1 → W k → ⊥ = λ k after before. elim (cases_eq k c.loop-next.next) [
      | inl same ↦ λ v. none (subst W same v)
      | inr apart ↦ c.loop-next.invariant.2 k after (omega (arith, before, apart))
    ] in (
      omega (arith, c.loop-next.invariant.0),
      up_goes_on M.regions.now M.xs.now M.ys.now M.owners.items c.requires.mesh c.args.column c.args.row c.loop-next.next c.loop-next.invariant.0 c.requires.column c.loop-next.invariant.1 c.requires.upper (λ k after up_to. free k after (omega (arith, up_to))),
      free,
    )
