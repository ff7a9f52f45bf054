use Rattle.std.proofs.Common.{◌≡◌, ℕ, ◌*◌, get_or, sym, ◌∙◌, subst, arith}
use Rattle.bp_lemmas.specs.Knowledge.{lowered, facing_upper, pushed}
use Rattle.bp_replay.specs.Tasks.{system_of}
use Rattle.bp_replay.specs.Kept.{Keeps}
use Rattle.bp_replay.proofs.Shown.{kept_shows}
use Rattle.bp_replay.proofs.Tied.{bound_is}
use Rattle.bp_replay.proofs.known.Known.push_facing.Goals as goal

pub returns : goal.returns
unfolding pushed
returns c = λ K keeps.
    let t = c.args.given.now in
    let S = c.args.self.now in
    let u = c.args.u in
    let v = c.args.v in
    let w = c.args.w in
    let bound = (system_of t).bound in
    let kept = kept_shows t S K c.requires.whole keeps in
    let same : c.bound-bound.result ≡ bound = c.bound-bound.ensures.value ∙ sym (bound_is t.ties t.tree t.sheet t.bound t.heads) in
    let one : get_or S.lower u 0 ≡ K.lower u = kept.0.lower u c.requires.fits.0 in
    let two : get_or S.lower v 0 ≡ K.lower v = kept.0.lower v c.requires.fits.1 in
    let first : 2 * c.saturating_sub-first.result ≡ facing_upper bound w (K.lower v) = omega (arith, c.saturating_sub-first.ensures, same, two) in
    let second : 2 * c.saturating_sub-second.result ≡ facing_upper bound w (K.lower u) = omega (arith, c.saturating_sub-second.ensures, same, one) in
    let M = lowered K u (facing_upper bound w (K.lower v)) in
    let less : Keeps t c.lessen.new.self M = subst (λ (code : ℕ). Keeps t c.lessen.new.self (lowered K u code)) first (c.lessen.ensures t K keeps) in
    subst (λ (code : ℕ). Keeps t c.lessen-2.new.self (lowered M v code)) second (c.lessen-2.ensures t M less)
