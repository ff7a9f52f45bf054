use Rattle.bp_replay.proofs.Shown.{lessen_broken, lessen_left, lessen_breaks, lessen_written}
use Rattle.bp_replay.proofs.known.Known.lessen.Goals as goal

pub returns-then-self : goal.returns-then-self
returns-then-self c = λ t K keeps. lessen_broken t c.args.self.now K c.args.at c.args.code c.requires keeps c.if-self.true

pub returns-then-self-at : goal.returns-then-self-at
returns-then-self-at c = λ t K keeps. lessen_left t c.args.self.now K c.args.at c.args.code c.requires keeps c.if-self.false c.if-self-at.true

pub returns-then-code-self : goal.returns-then-code-self
returns-then-code-self c = λ t K keeps. lessen_breaks t c.args.self.now K c.args.at c.args.code c.requires keeps c.if-self.false c.if-code-self.true

pub returns-else-code-self : goal.returns-else-code-self
returns-else-code-self c = λ t K keeps. lessen_written t c.args.self.now K c.args.at c.args.code c.requires keeps c.if-self.false c.if-self-at.false c.if-code-self.false
