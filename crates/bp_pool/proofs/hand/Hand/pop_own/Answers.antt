use Rattle.std.proofs.Common.{◌++◌, ◌∷◌, [], ap, sym, ◌∙◌, subst}
use Rattle.std.specs.List.{sum_by}
use Rattle.bp_pool.specs.Hands.{HandView, IsAllTaken}
use Rattle.bp_pool.proofs.Hands.{as_it_was, popped, popped_same, recounted, recount, hand_count, all_taken_here, not_all_taken}
use Rattle.bp_pool.proofs.hand.Hand.pop_own.Goals as goal

pub invariant_of-self : goal.invariant_of-self
invariant_of-self c = rw c.saturating_add-self-inside.ensures (popped c.self.inside c.self.invariant c.pop.new.owner c.in-Some.task c.in-Some.ensures.same c.in-Some.ensures.done.0 c.in-Some.ensures.done.1)

pub invariant_of-self-in-None : goal.invariant_of-self-in-None
invariant_of-self-in-None c =
    let o = c.self.inside in
    let was = c.self.invariant in
    let w = c.pop.new.owner in
    recounted (record o { own = w }) (as_it_was o was w c.in-None.ensures.same c.in-None.ensures.done) c.count_up.new.counts o.lost
    (recount _ _ _ was.misses c.count_up.ensures.same c.count_up.ensures.counts.0) was.lost

pub returns-in-Some-clause-taken : goal.returns-in-Some-clause-taken
returns-in-Some-clause-taken c = λ h. popped_same c.self.inside c.self.invariant c.pop.new.owner c.in-Some.task c.in-Some.ensures.done.0 h ∙ ap (λ (v : HandView). sum_by h (v.taken ++ c.in-Some.task ∷ [])) c.self.view_is

pub returns-in-Some-clause-alone : goal.returns-in-Some-clause-alone
returns-in-Some-clause-alone c = λ is all. not_all_taken c.self.inside c.self.invariant c.pop.new.owner c.in-Some.task (hand_count c.self.inside c.self.invariant _ c.self.view_is ∙ is) c.in-Some.ensures.done.0 c.in-Some.ensures.all (subst IsAllTaken (sym c.self.view_is) all)

pub returns-in-None-clause-alone : goal.returns-in-None-clause-alone
returns-in-None-clause-alone c = λ is. subst IsAllTaken c.self.view_is (all_taken_here c.self.inside c.self.invariant (hand_count c.self.inside c.self.invariant _ c.self.view_is ∙ is) c.in-None.ensures.all)
