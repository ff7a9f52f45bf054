use Rattle.std.proofs.Common.{[], ◌∷◌, ◌++◌, Some, refl}
use Rattle.bp_verify.proofs.Heads.{judged_more, lemma_small, room, told_ahead}
use Rattle.bp_verify.proofs.intake.Intake.judge.Goals as goal

pub next_judge-requires : goal.next_judge-requires
next_judge-requires c = record { told = told_ahead c.args.self.now c.args.lemma c.requires.ahead }

pub feed-requires-clause-lemma : goal.feed-requires-clause-lemma
feed-requires-clause-lemma c = lemma_small c.args.self.now c.args.lemma c.requires.ahead

pub feed-requires-clause-room : goal.feed-requires-clause-room
feed-requires-clause-room c =
    let p = c.args.self.now in
    let l = c.args.lemma in
    let a = c.requires.ahead in
    let told = told_ahead p l a in
    room p l a a.0 told.head c.in_ok-judge.judge (c.in_ok-judge.ensures.judge a.0 a.1 (a.2 ++ l ∷ []) a.2 told.head a.3 told.told)

pub returns-clause-judged : goal.returns-clause-judged
returns-clause-judged c = λ T text ls scanned.
    let p = c.args.self.now in
    let l = c.args.lemma in
    let told = told_ahead p l c.requires.ahead in
    judged_more T p (record c.next_judge.new.self { judge = Some c.in_ok-feed.field-0 }) c.in_ok-feed.field-0 text ls l told.head c.in_ok-judge.ensures.scanner c.in_ok-judge.ensures.tree refl told.told scanned
    (c.in_ok-feed.ensures T told.head ls (c.in_ok-judge.ensures.judge T text (ls ++ l ∷ []) ls told.head scanned told.told))
