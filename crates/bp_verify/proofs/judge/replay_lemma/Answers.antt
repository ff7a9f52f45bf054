use Rattle.bp_verify.proofs.Judged.{fed_fell, fed_stood}
use Rattle.bp_verify.proofs.judge.replay_lemma.Goals as goal

pub returns-then-branch : goal.returns-then-branch
returns-then-branch c = λ T H ls judged.
    fed_stood T H ls c.args.lemma.now c.args.replay c.args.count judged c.feed.new.self c.as_slice.result.now c.as_slice-2.result.now c.in_ok-feed.field-0 c.as_slice.ensures c.as_slice-2.ensures c.in_ok-feed.ensures.stands c.in_ok-feed.ensures.kept c.if-branch.true

pub returns-else-branch : goal.returns-else-branch
returns-else-branch c = λ T H ls judged.
    fed_fell T H ls c.args.lemma.now c.args.replay c.args.count judged c.feed.new.self c.as_slice.result.now c.as_slice-2.result.now c.in_ok-feed.field-0 c.as_slice.ensures c.as_slice-2.ensures c.in_ok-feed.ensures.stands c.if-branch.false
