use Rattle.std.proofs.Common.{◌≡◌, ◌<◌, ◌-◌, length, set, get_or, None, Some, sym, ap, subst, arith, ◌∙◌}
use Rattle.std.proofs.lemmas.List.{length-map}
use Rattle.bp_pool.specs.Tries.{PopsOwn}
use Rattle.bp_pool.specs.Mem.{MemView}
use Rattle.bp_pool.proofs.Mems.{items_of, popped, popped_none}
use Rattle.bp_pool.proofs.mem.MemTries.pop_own.Goals as goal

pub returns-in-Some-clause-deques : goal.returns-in-Some-clause-deques
returns-in-Some-clause-deques c =
    let vs = c.self.inside.deques.items in
    let i = c.self.inside.number - 1 in
    let old = c.index_mut.result.now in
    let new = c.take_last.new.tasks in
    let at : get_or vs i old ≡ old = sym c.index_mut.ensures.value in
    let len : length vs ≡ length c.args.self.now.deques = sym (length-map vs (λ v. v.items)) ∙ ap (λ (m : MemView). length m.deques) c.self.view_is in
    let lt : i < length vs = omega (arith, len, c.self.invariant.number) in
    subst (λ (m : MemView). PopsOwn (Some m.deques) (m.number - 1) (Some c.in-Some.task) (Some (items_of (set vs i new)))) c.self.view_is (popped vs i old new c.in-Some.task lt at c.in-Some.ensures)

pub returns-in-None-clause-deques : goal.returns-in-None-clause-deques
returns-in-None-clause-deques c =
    let vs = c.self.inside.deques.items in
    let i = c.self.inside.number - 1 in
    let old = c.index_mut.result.now in
    let new = c.take_last.new.tasks in
    let at : get_or vs i old ≡ old = sym c.index_mut.ensures.value in
    let len : length vs ≡ length c.args.self.now.deques = sym (length-map vs (λ v. v.items)) ∙ ap (λ (m : MemView). length m.deques) c.self.view_is in
    let lt : i < length vs = omega (arith, len, c.self.invariant.number) in
    subst (λ (m : MemView). PopsOwn (Some m.deques) (m.number - 1) None (Some (items_of (set vs i new)))) c.self.view_is (popped_none vs i old new lt at c.in-None.ensures)
