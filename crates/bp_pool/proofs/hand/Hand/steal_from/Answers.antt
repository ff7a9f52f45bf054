use Rattle.std.proofs.Common.{◌≡◌, ◌+◌, ◌<◌, ◌-◌, ◌++◌, ◌∷◌, [], length, get_or, set, min, arith, ap, sym, ◌∙◌, refl}
use Rattle.std.specs.List.{sum_by, flat_map}
use Rattle.crossbeam_deque.specs.Handles.{worker_view}
use Rattle.bp_base.specs.declared.record.Task.{Task}
use Rattle.bp_pool.specs.declared.tries.Stolen.TheVariants as stolen
use Rattle.bp_pool.specs.Shares.{IsTaskOf, taken_of}
use Rattle.bp_pool.specs.Hands.{HandView, top}
use Rattle.bp_pool.specs.Kept.{each_of, all_taken, taken_by, view_of}
use Rattle.bp_pool.proofs.Hands.{stole, stolen_same, in_place, theft_at, known_good, grown, as_before, recounted, recount, hand_count}
use Rattle.bp_pool.proofs.hand.Hand.steal_from.Goals as goal

pub invariant_of-self : goal.invariant_of-self
invariant_of-self c =
    let o = c.self.inside in
    let was = c.self.invariant in
    let ts = o.thefts.items in
    let i = c.args.from - 1 in
    let old = c.index_mut.result.now in
    let new = c.steal.new.self in
    let n = hand_count o was _ c.self.view_is in
    let number = ap (λ (v : HandView). v.number) c.self.view_is in
    let lt : i < length ts = omega (arith, n, c.requires) in
    let at : get_or ts i old ≡ old = sym c.index_mut.ensures.value in
    let theft = theft_at o was i old lt at in
    let leaves = (worker_view o.own).facts.leaves in
    let Good : Task → Type 0 = IsTaskOf (view_of old).facts.leaves in
    let t : Task = c.in-Task.task in
    let same = stolen_same o was i old new (stolen.Task t) Good lt at c.in-Task.ensures.taken in
    let good = known_good (each_of (length ts)) leaves (length ts) o.number c.args.from old t refl theft c.requires.0 (omega (arith, n, c.requires)) (λ e. c.requires.2 (e ∙ number)) was.number.0 was.number.1 c.in-Task.ensures.taken.1 in
    let taken = taken_of (worker_view o.own) ++ flat_map taken_by (set ts i new) in
    rw c.saturating_add-self-inside.ensures (stole o was _ (min (o.takes + 1) top) i old new refl at c.steal.ensures.same (c.steal.ensures.theft (each_of (length ts)) leaves theft) (grown (IsTaskOf leaves) (all_taken o) taken t o.takes same was.takes was.good good))

pub invariant_of-self-in-Empty : goal.invariant_of-self-in-Empty
invariant_of-self-in-Empty c =
    let o = c.self.inside in
    let was = c.self.invariant in
    let ts = o.thefts.items in
    let i = c.args.from - 1 in
    let old = c.index_mut.result.now in
    let new = c.steal.new.self in
    let n = hand_count o was _ c.self.view_is in
    let number = ap (λ (v : HandView). v.number) c.self.view_is in
    let lt : i < length ts = omega (arith, n, c.requires) in
    let at : get_or ts i old ≡ old = sym c.index_mut.ensures.value in
    let theft = theft_at o was i old lt at in
    let leaves = (worker_view o.own).facts.leaves in
    let Good : Task → Type 0 = IsTaskOf (view_of old).facts.leaves in
    let same = stolen_same o was i old new stolen.Empty Good lt at c.in-Empty.ensures.taken in
    let taken = taken_of (worker_view o.own) ++ flat_map taken_by (set ts i new) in
    let is_stolen = stole o was _ o.takes i old new refl at c.steal.ensures.same (c.steal.ensures.theft (each_of (length ts)) leaves theft) (as_before (IsTaskOf leaves) (all_taken o) taken o.takes same was.takes was.good) in
    recounted _ is_stolen c.count_up.new.counts o.lost (recount _ _ _ is_stolen.misses c.count_up.ensures.same c.count_up.ensures.counts.0) is_stolen.lost

pub invariant_of-self-in-Lost : goal.invariant_of-self-in-Lost
invariant_of-self-in-Lost c =
    let o = c.self.inside in
    let was = c.self.invariant in
    let ts = o.thefts.items in
    let i = c.args.from - 1 in
    let old = c.index_mut.result.now in
    let new = c.steal.new.self in
    let n = hand_count o was _ c.self.view_is in
    let number = ap (λ (v : HandView). v.number) c.self.view_is in
    let lt : i < length ts = omega (arith, n, c.requires) in
    let at : get_or ts i old ≡ old = sym c.index_mut.ensures.value in
    let theft = theft_at o was i old lt at in
    let leaves = (worker_view o.own).facts.leaves in
    let Good : Task → Type 0 = IsTaskOf (view_of old).facts.leaves in
    let same = stolen_same o was i old new stolen.Lost Good lt at c.in-Lost.ensures.taken in
    let taken = taken_of (worker_view o.own) ++ flat_map taken_by (set ts i new) in
    let is_stolen = stole o was _ o.takes i old new refl at c.steal.ensures.same (c.steal.ensures.theft (each_of (length ts)) leaves theft) (as_before (IsTaskOf leaves) (all_taken o) taken o.takes same was.takes was.good) in
    recounted _ is_stolen o.misses c.count_up-in-Lost.new.counts is_stolen.misses (recount _ _ _ is_stolen.lost c.count_up-in-Lost.ensures.same c.count_up-in-Lost.ensures.counts.0)

pub returns-in-Task-clause-hand : goal.returns-in-Task-clause-hand
returns-in-Task-clause-hand c = in_place c.self.inside c.self.invariant _ (c.args.from - 1) c.index_mut.result.now c.steal.new.self c.self.view_is (sym c.index_mut.ensures.value) c.steal.ensures.same.1

pub returns-in-Task-clause-taken : goal.returns-in-Task-clause-taken
returns-in-Task-clause-taken c =
    let o = c.self.inside in
    let was = c.self.invariant in
    let ts = o.thefts.items in
    let i = c.args.from - 1 in
    let old = c.index_mut.result.now in
    let new = c.steal.new.self in
    let n = hand_count o was _ c.self.view_is in
    let number = ap (λ (v : HandView). v.number) c.self.view_is in
    let lt : i < length ts = omega (arith, n, c.requires) in
    let at : get_or ts i old ≡ old = sym c.index_mut.ensures.value in
    let theft = theft_at o was i old lt at in
    let leaves = (worker_view o.own).facts.leaves in
    let Good : Task → Type 0 = IsTaskOf (view_of old).facts.leaves in
    λ h. stolen_same o was i old new (stolen.Task c.in-Task.task) Good lt at c.in-Task.ensures.taken h ∙ ap (λ (v : HandView). sum_by h (v.taken ++ c.in-Task.task ∷ [])) c.self.view_is

pub returns-in-Empty-clause-hand : goal.returns-in-Empty-clause-hand
returns-in-Empty-clause-hand c = in_place c.self.inside c.self.invariant _ (c.args.from - 1) c.index_mut.result.now c.steal.new.self c.self.view_is (sym c.index_mut.ensures.value) c.steal.ensures.same.1

pub returns-in-Empty-clause-taken : goal.returns-in-Empty-clause-taken
returns-in-Empty-clause-taken c =
    let o = c.self.inside in
    let was = c.self.invariant in
    let ts = o.thefts.items in
    let i = c.args.from - 1 in
    let old = c.index_mut.result.now in
    let new = c.steal.new.self in
    let n = hand_count o was _ c.self.view_is in
    let number = ap (λ (v : HandView). v.number) c.self.view_is in
    let lt : i < length ts = omega (arith, n, c.requires) in
    let at : get_or ts i old ≡ old = sym c.index_mut.ensures.value in
    let theft = theft_at o was i old lt at in
    let leaves = (worker_view o.own).facts.leaves in
    let Good : Task → Type 0 = IsTaskOf (view_of old).facts.leaves in
    λ h. stolen_same o was i old new stolen.Empty Good lt at c.in-Empty.ensures.taken h ∙ ap (λ (v : HandView). sum_by h (v.taken)) c.self.view_is

pub returns-in-Lost-clause-hand : goal.returns-in-Lost-clause-hand
returns-in-Lost-clause-hand c = in_place c.self.inside c.self.invariant _ (c.args.from - 1) c.index_mut.result.now c.steal.new.self c.self.view_is (sym c.index_mut.ensures.value) c.steal.ensures.same.1

pub returns-in-Lost-clause-taken : goal.returns-in-Lost-clause-taken
returns-in-Lost-clause-taken c =
    let o = c.self.inside in
    let was = c.self.invariant in
    let ts = o.thefts.items in
    let i = c.args.from - 1 in
    let old = c.index_mut.result.now in
    let new = c.steal.new.self in
    let n = hand_count o was _ c.self.view_is in
    let number = ap (λ (v : HandView). v.number) c.self.view_is in
    let lt : i < length ts = omega (arith, n, c.requires) in
    let at : get_or ts i old ≡ old = sym c.index_mut.ensures.value in
    let theft = theft_at o was i old lt at in
    let leaves = (worker_view o.own).facts.leaves in
    let Good : Task → Type 0 = IsTaskOf (view_of old).facts.leaves in
    λ h. stolen_same o was i old new stolen.Lost Good lt at c.in-Lost.ensures.taken h ∙ ap (λ (v : HandView). sum_by h (v.taken)) c.self.view_is
