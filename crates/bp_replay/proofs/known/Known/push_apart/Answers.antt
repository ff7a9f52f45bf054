use Rattle.std.proofs.Common.{◌≡◌, ℕ, ◌+◌, ◌-◌, ◌*◌, ◌<◌, get_or, subst, arith}
use Rattle.bp_lemmas.specs.Knowledge.{raised, lowered, pushed}
use Rattle.bp_replay.specs.Kept.{Keeps, most_code}
use Rattle.bp_replay.proofs.Shown.{kept_shows, below_most}
use Rattle.bp_replay.proofs.known.Known.push_apart.Goals as goal

pub returns : goal.returns
unfolding pushed
returns c = λ t K keeps.
    let S = c.args.self.now in
    let u = c.args.u in
    let v = c.args.v in
    let w = c.args.w in
    let kept = kept_shows t S K c.requires.whole keeps in
    let lower : get_or S.lower u 0 ≡ K.lower u = kept.0.lower u c.requires.fits.0 in
    let upper : get_or S.upper v 0 ≡ K.upper v = kept.0.upper v c.requires.fits.1 in
    let small : K.lower u < most_code = below_most t S K kept.0 kept.1 u in
    let low : c.saturating_add-low.result ≡ K.lower u + 2 * w = omega (arith, c.saturating_add-low.ensures, lower, small, c.requires.fits.2) in
    let high : c.saturating_sub-high.result ≡ K.upper v - 2 * w = omega (arith, c.saturating_sub-high.ensures, upper) in
    let M = raised K v (K.lower u + 2 * w) in
    let one : Keeps t c.raise.new.self M = subst (λ (code : ℕ). Keeps t c.raise.new.self (raised K v code)) low (c.raise.ensures t K keeps) in
    subst (λ (code : ℕ). Keeps t c.lessen.new.self (lowered M u code)) high (c.lessen.ensures t M one)
