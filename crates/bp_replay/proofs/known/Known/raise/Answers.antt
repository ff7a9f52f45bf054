use Rattle.bp_replay.proofs.Shown.{raise_broken, raise_left, raise_breaks, raise_written}
use Rattle.bp_replay.proofs.known.Known.raise.Goals as goal

pub returns-then-self : goal.returns-then-self
returns-then-self c = λ t K keeps. raise_broken t c.args.self.now K c.args.at c.args.code c.requires keeps c.if-self.true

pub returns-then-code-self : goal.returns-then-code-self
returns-then-code-self c = λ t K keeps. raise_left t c.args.self.now K c.args.at c.args.code c.requires keeps c.if-self.false c.if-code-self.true

pub returns-then-self-at : goal.returns-then-self-at
returns-then-self-at c = λ t K keeps. raise_breaks t c.args.self.now K c.args.at c.args.code c.requires keeps c.if-self.false c.if-self-at.true

pub returns-else-self-at : goal.returns-else-self-at
returns-else-self-at c = λ t K keeps. raise_written t c.args.self.now K c.args.at c.args.code c.requires keeps c.if-self.false c.if-code-self.false c.if-self-at.false
