use Rattle.std.proofs.Common.{◌≡◌, ℕ, ◌+◌, ◌*◌, ◌/◌, sym, ap, ◌∙◌, subst, arith}
use Rattle.bp_lemmas.specs.Systems.{Order}
use Rattle.bp_lemmas.specs.Knowledge.{lowered, facing_itself_upper, pushed}
use Rattle.bp_replay.specs.declared.relation.Relation.{Relation}
use Rattle.bp_replay.specs.Tasks.{system_of}
use Rattle.bp_replay.specs.Kept.{Keeps}
use Rattle.bp_replay.specs.Readings.{Fits, order_as}
use Rattle.bp_replay.proofs.Breaks.{pushed_stays}
use Rattle.bp_replay.proofs.Shown.{kept_broken, keeps_broken}
use Rattle.bp_replay.proofs.Tied.{bound_is}
use Rattle.bp_replay.proofs.known.Known.push.Goals as goal

pub returns-then-self : goal.returns-then-self
returns-then-self c = λ K keeps.
    let t = c.args.given.now in
    let o = (system_of t).order c.args.axis c.args.first c.args.second in
    keeps_broken t c.args.self.now (pushed (system_of t) K o) c.if-self.true (pushed_stays (system_of t) K o (kept_broken t c.args.self.now K c.if-self.true keeps))

pub push_apart-requires-clause-fits : goal.push_apart-requires-clause-fits
push_apart-requires-clause-fits c = subst (λ (r : Relation). Fits (order_as r)) c.in-Apart.is c.relation.ensures.fits

pub push_facing-requires-clause-fits : goal.push_facing-requires-clause-fits
push_facing-requires-clause-fits c = subst (λ (r : Relation). Fits (order_as r)) c.in-Facing.is c.relation.ensures.fits

pub lessen-requires : goal.lessen-requires
lessen-requires c = (subst (λ (r : Relation). Fits (order_as r)) c.in-FacingItself.is c.relation.ensures.fits).0

pub returns-in-Apart : goal.returns-in-Apart
returns-in-Apart c = λ K keeps.
    let t = c.args.given.now in
    subst (λ (o : Order). Keeps t c.push_apart.new.self (pushed (system_of t) K o)) (sym (ap order_as c.in-Apart.is) ∙ c.relation.ensures.order) (c.push_apart.ensures t K keeps)

pub returns-in-Facing : goal.returns-in-Facing
returns-in-Facing c = λ K keeps.
    let t = c.args.given.now in
    subst (λ (o : Order). Keeps t c.push_facing.new.self (pushed (system_of t) K o)) (sym (ap order_as c.in-Facing.is) ∙ c.relation.ensures.order) (c.push_facing.ensures K keeps)

pub returns-in-FacingItself : goal.returns-in-FacingItself
unfolding pushed
returns-in-FacingItself c = λ K keeps.
    let t = c.args.given.now in
    let u = c.in-FacingItself.u in
    let w = c.in-FacingItself.w in
    let bound = (system_of t).bound in
    let same : c.bound.result ≡ bound = c.bound.ensures.value ∙ sym (bound_is t.ties t.tree t.sheet t.bound t.heads) in
    let code : (c.saturating_sub.result + 1) / 2 * 2 ≡ facing_itself_upper bound w = omega (arith, c.saturating_sub.ensures, same) in
    subst (λ (o : Order). Keeps t c.lessen.new.self (pushed (system_of t) K o)) (sym (ap order_as c.in-FacingItself.is) ∙ c.relation.ensures.order)
    (subst (λ (k : ℕ). Keeps t c.lessen.new.self (lowered K u k)) code (c.lessen.ensures t K keeps))

pub returns-in-Never : goal.returns-in-Never
unfolding pushed
returns-in-Never c = λ K keeps.
    let t = c.args.given.now in
    subst (λ (o : Order). Keeps t c.args.self.now (pushed (system_of t) K o)) (sym (ap order_as c.in-Never.is) ∙ c.relation.ensures.order) keeps
