use Rattle.std.proofs.Common.{inl, inr}
use Rattle.bp_words.proofs.OptionLemmas.{not_within}
use Rattle.bp_words.proofs.options.number_in.Goals as goal
use Rattle.bp_words.proofs.options.number_in.Goals.{then-number-low-via-then-number-low, then-number-low-via-else-number-low+then-number-high}

pub returns-then-number-low : goal.returns-then-number-low
returns-then-number-low c = λ n. not_within c.args.low c.args.high c.in_ok-number.number n c.args.word.now c.requires c.in_ok-number.ensures (elim c.then-number-low.branch [ then-number-low-via-then-number-low w ↦ inl w.if-number-low.true | then-number-low-via-else-number-low+then-number-high w ↦ inr w.if-number-high.true ])
