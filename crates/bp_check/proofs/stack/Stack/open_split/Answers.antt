use Rattle.std.proofs.Common.{◌∙◌, ◌+◌, refl, sym, ap, subst, arith, length, [], ◌∷◌, ◌++◌}
use Rattle.std.proofs.lemmas.List.{length-map}
use Rattle.bp_check.specs.Stack.{opened, step_of, KeepsWithin}
use Rattle.bp_check.proofs.Kept.{split_pair, room_for, keeps_open, same_stack, path_push}
use Rattle.bp_check.proofs.stack.Stack.open_split.Goals as goal

pub step_of-requires : goal.step_of-requires
step_of-requires c = split_pair c.args.metric.now.tree c.args.metric.now.sheet c.args.self.now.path c.args.pair c.requires.good

pub push-requires : goal.push-requires
push-requires c =
    room_for c.args.metric.now.tree c.args.metric.now.sheet c.leaves-leaves.ensures.metric.tree (c.args.self.now.count + 1) 0 c.args.self.now c.args.pair c.requires.good c.requires.kept

pub push-requires-2 : goal.push-requires-2
push-requires-2 c =
    let room = room_for c.args.metric.now.tree c.args.metric.now.sheet c.leaves-leaves.ensures.metric.tree (c.args.self.now.count + 1) 0 c.args.self.now c.args.pair c.requires.good c.requires.kept in
    omega (arith, room, ap length c.requires.kept.path, length-map c.args.self.now.splits (step_of c.args.metric.now.tree c.args.metric.now.sheet))

pub returns-clause-split : goal.returns-clause-split
returns-clause-split c =
    let S = c.args.self.now in
    let T = c.args.metric.now.tree in
    let G = c.args.metric.now.sheet in
    let o = opened S.count c.args.pair in
    let path = c.push.ensures ∙ ap (λ s. S.path ++ s ∷ []) c.step_of.ensures ∙ path_push T G S.path S.splits o c.requires.kept.path in
    same_stack T G _ (S.splits ++ o ∷ []) (S.count + 1) S.found path c.push-2.ensures refl refl

pub returns-clause-kept : goal.returns-clause-kept
returns-clause-kept c =
    let S = c.args.self.now in
    let T = c.args.metric.now.tree in
    let G = c.args.metric.now.sheet in
    let more = keeps_open T G (S.count + 1) S.count S c.args.pair (S.count + 1) S.found c.requires.good c.requires.kept in
    subst (KeepsWithin T G (S.count + 1)) (sym (returns-clause-split c)) more
