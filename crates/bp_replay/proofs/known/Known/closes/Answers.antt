use Rattle.std.proofs.Common.{refl, drop, arith}
use Rattle.std.proofs.lemmas.Bool.{false≢true}
use Rattle.bp_replay.proofs.Closing.{step_left, left_broken, left_bad, left_none}
use Rattle.bp_replay.proofs.known.Known.closes.Goals as goal

pub returns-then-self : goal.returns-then-self
returns-then-self c = λ K keeps. (
  λ flag. left_broken c.args.given.now c.args.store.now c.loop-k.self (drop c.loop-k.k c.args.hints.now) c.args.hints.now K c.if-self.true (c.loop-k.invariant K keeps),
  λ closes. refl,
)

pub returns-then-not-take : goal.returns-then-not-take
returns-then-not-take c = λ K keeps. (
  λ flag. absurd (false≢true flag),
  λ closes. absurd (left_bad c.args.given.now c.args.store.now c.loop-k.self c.take.new.self c.args.hints.now c.loop-k.k _ K (omega (arith, c.loop-k-test.true)) c.if-self.false (λ M kept. c.if-not-take.ensures M kept) (c.loop-k.invariant K keeps) closes),
)

pub loop-k-preserved : goal.loop-k-preserved
loop-k-preserved c = λ K keeps.
    step_left c.args.given.now c.args.store.now c.loop-k.self c.take.new.self c.args.hints.now c.loop-k.k _ K (omega (arith, c.loop-k-test.true)) c.if-self.false (λ M kept. c.if-not-take.ensures M kept) (c.loop-k.invariant K keeps)

pub returns : goal.returns
returns c = λ K keeps. left_none c.args.given.now c.args.store.now c.loop-k.self c.args.hints.now c.loop-k.k K (omega (arith, c.loop-k-test.false)) (c.loop-k.invariant K keeps)
