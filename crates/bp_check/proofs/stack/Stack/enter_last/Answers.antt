use Rattle.std.proofs.Common.{◌∙◌, ◌+◌, refl, sym, ap, subst, arith, length, length-append, [], ◌∷◌, ◌++◌}
use Rattle.std.proofs.lemmas.List.{length-map}
use Rattle.bp_check.specs.Stack.{KeepsWithin, step_of}
use Rattle.bp_check.proofs.Kept.{last_pair, few_steps, enter_is, keeps_child}
use Rattle.bp_check.proofs.stack.Stack.enter_last.Goals as goal

pub step_of-requires : goal.step_of-requires
step_of-requires c =
    last_pair c.args.metric.now.tree c.args.metric.now.sheet c.args.self.now.count c.args.self.now c.pop.new.self c.in-Some.split c.in-Some.ensures c.requires.kept

pub push-requires : goal.push-requires
push-requires c =
    let few = few_steps c.args.metric.now.tree c.args.metric.now.sheet c.leaves-leaves.ensures.metric.tree c.args.self.now.count c.args.self.now c.requires.kept in
    omega (arith, few, ap length c.take_last-step.ensures, length-append c.take_last-step.new.self (c.take_last-step.result ∷ []))

pub push-requires-in-Some : goal.push-requires-in-Some
push-requires-in-Some c =
    let S = c.args.self.now in
    let T = c.args.metric.now.tree in
    let G = c.args.metric.now.sheet in
    let few = few_steps T G c.leaves-leaves.ensures.metric.tree S.count S c.requires.kept in
    omega (arith, few, ap length c.requires.kept.path, length-map S.splits (step_of T G), ap length c.in-Some.ensures, length-append c.pop.new.self (c.in-Some.split ∷ []))

pub returns-in-Some-clause-entered : goal.returns-in-Some-clause-entered
returns-in-Some-clause-entered c =
    enter_is c.args.metric.now.tree c.args.metric.now.sheet c.args.self.now _ c.take_last-step.new.self c.pop.new.self c.in-Some.split c.take_last-step.result c.requires.kept.path c.in-Some.ensures c.take_last-step.ensures
    (c.push.ensures ∙ ap (λ s. c.take_last-step.new.self ++ s ∷ []) c.step_of.ensures) c.push-in-Some.ensures refl refl

pub returns-in-Some-clause-kept : goal.returns-in-Some-clause-kept
returns-in-Some-clause-kept c =
    let S = c.args.self.now in
    let T = c.args.metric.now.tree in
    let G = c.args.metric.now.sheet in
    subst (KeepsWithin T G (S.count + 1)) (sym (returns-in-Some-clause-entered c)) (keeps_child T G S.count S S.count S.found c.requires.kept)
