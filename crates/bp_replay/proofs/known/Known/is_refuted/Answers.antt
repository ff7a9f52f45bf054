use Rattle.std.proofs.Common.{◌≡◌, ℕ, ◌+◌, ◌*◌, ◌/◌, ◌<◌, get_or, sym, ap, ◌∙◌, subst, arith}
use Rattle.std.specs.Prelude.{nat_le}
use Rattle.bp_lemmas.specs.Knowledge.{is_refuted}
use Rattle.bp_replay.specs.declared.relation.Relation.{Relation}
use Rattle.bp_replay.specs.Tasks.{system_of}
use Rattle.bp_replay.specs.Kept.{most_code}
use Rattle.bp_replay.specs.Readings.{Fits, order_as}
use Rattle.bp_replay.proofs.Shown.{kept_shows, below_most}
use Rattle.bp_replay.proofs.Tied.{bound_is}
use Rattle.bp_replay.proofs.known.Known.is_refuted.Goals as goal

pub returns-in-Apart : goal.returns-in-Apart
unfolding is_refuted
returns-in-Apart c = λ K keeps whole.
    let t = c.args.given.now in
    let S = c.args.self.now in
    let u = c.in-Apart.u in
    let v = c.in-Apart.v in
    let w = c.in-Apart.w in
    let fits = subst (λ (r : Relation). Fits (order_as r)) c.in-Apart.is c.requires in
    let kept = kept_shows t S K whole keeps in
    let upper : get_or S.upper v 0 ≡ K.upper v = kept.0.upper v fits.1 in
    let small : K.lower u < most_code = below_most t S K kept.0 kept.1 u in
    let low : c.saturating_add.result ≡ K.lower u + 2 * w = omega (arith, c.saturating_add.ensures, kept.0.lower u fits.0, small, fits.2) in
    ap (λ (x : ℕ). nat_le x c.saturating_add.result) upper ∙ ap (λ (x : ℕ). nat_le (K.upper v) x) low
    ∙ ap (λ (r : Relation). is_refuted (system_of t) K (order_as r)) (sym c.in-Apart.is)

pub returns-in-Facing : goal.returns-in-Facing
unfolding is_refuted
returns-in-Facing c = λ K keeps whole.
    let t = c.args.given.now in
    let S = c.args.self.now in
    let u = c.in-Facing.u in
    let v = c.in-Facing.v in
    let w = c.in-Facing.w in
    let fits = subst (λ (r : Relation). Fits (order_as r)) c.in-Facing.is c.requires in
    let kept = kept_shows t S K whole keeps in
    let one : K.lower u < most_code = below_most t S K kept.0 kept.1 u in
    let two : K.lower v < most_code = below_most t S K kept.0 kept.1 v in
    let low : c.saturating_add-in-Facing.result ≡ K.lower u / 2 + K.lower v / 2 + w = omega (arith, c.saturating_add-in-Facing.ensures, kept.0.lower u fits.0, kept.0.lower v fits.1, one, two, fits.2) in
    ap (λ (x : ℕ). nat_le x c.saturating_add-in-Facing.result) (c.bound.ensures.value ∙ sym (bound_is t.ties t.tree t.sheet t.bound t.heads))
    ∙ ap (λ (x : ℕ). nat_le (system_of t).bound x) low
    ∙ ap (λ (r : Relation). is_refuted (system_of t) K (order_as r)) (sym c.in-Facing.is)

pub returns-in-FacingItself : goal.returns-in-FacingItself
unfolding is_refuted
returns-in-FacingItself c = λ K keeps whole.
    let t = c.args.given.now in
    let S = c.args.self.now in
    let u = c.in-FacingItself.u in
    let w = c.in-FacingItself.w in
    let fits = subst (λ (r : Relation). Fits (order_as r)) c.in-FacingItself.is c.requires in
    let kept = kept_shows t S K whole keeps in
    let one : K.lower u < most_code = below_most t S K kept.0 kept.1 u in
    let low : c.saturating_add-in-FacingItself.result ≡ K.lower u / 2 + K.lower u / 2 + w = omega (arith, c.saturating_add-in-FacingItself.ensures, kept.0.lower u fits.0, one, fits.1) in
    ap (λ (x : ℕ). nat_le x c.saturating_add-in-FacingItself.result) (c.bound-in-FacingItself.ensures.value ∙ sym (bound_is t.ties t.tree t.sheet t.bound t.heads))
    ∙ ap (λ (x : ℕ). nat_le (system_of t).bound x) low
    ∙ ap (λ (r : Relation). is_refuted (system_of t) K (order_as r)) (sym c.in-FacingItself.is)

pub returns-in-Never : goal.returns-in-Never
unfolding is_refuted
returns-in-Never c = λ K keeps whole. ap (λ (r : Relation). is_refuted (system_of c.args.given.now) K (order_as r)) (sym c.in-Never.is)
