use Rattle.std.proofs.Common.{◌≡◌, ◌<◌, ◌-◌, length, set, get_or, Some, sym, ap, subst, arith, ◌∙◌}
use Rattle.std.proofs.lemmas.List.{length-map}
use Rattle.bp_pool.specs.declared.tries.Stolen.TheVariants as stolen
use Rattle.bp_pool.specs.Tries.{StealsFirst}
use Rattle.bp_pool.specs.Mem.{MemView}
use Rattle.bp_pool.proofs.Mems.{items_of, stole, stole_none}
use Rattle.bp_pool.proofs.mem.MemTries.steal_from.Goals as goal

pub returns-in-Some-clause-deques : goal.returns-in-Some-clause-deques
returns-in-Some-clause-deques c =
    let vs = c.self.inside.deques.items in
    let i = c.args.from - 1 in
    let old = c.index_mut.result.now in
    let new = c.take_first.new.tasks in
    let at : get_or vs i old ≡ old = sym c.index_mut.ensures.value in
    let len : length vs ≡ length c.args.self.now.deques = sym (length-map vs (λ v. v.items)) ∙ ap (λ (m : MemView). length m.deques) c.self.view_is in
    let lt : i < length vs = omega (arith, len, c.self.invariant.number, c.requires) in
    subst (λ (m : MemView). StealsFirst (Some m.deques) i (stolen.Task c.in-Some.task) (Some (items_of (set vs i new)))) c.self.view_is (stole vs i old new c.in-Some.task lt at c.in-Some.ensures)

pub returns-in-None-clause-deques : goal.returns-in-None-clause-deques
returns-in-None-clause-deques c =
    let vs = c.self.inside.deques.items in
    let i = c.args.from - 1 in
    let old = c.index_mut.result.now in
    let new = c.take_first.new.tasks in
    let at : get_or vs i old ≡ old = sym c.index_mut.ensures.value in
    let len : length vs ≡ length c.args.self.now.deques = sym (length-map vs (λ v. v.items)) ∙ ap (λ (m : MemView). length m.deques) c.self.view_is in
    let lt : i < length vs = omega (arith, len, c.self.invariant.number, c.requires) in
    subst (λ (m : MemView). StealsFirst (Some m.deques) i stolen.Empty (Some (items_of (set vs i new)))) c.self.view_is (stole_none vs i old new lt at c.in-None.ensures)
