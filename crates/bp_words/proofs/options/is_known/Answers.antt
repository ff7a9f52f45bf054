use Rattle.std.proofs.Common.{false, sym, ◌∙◌, refl, arith}
use Rattle.std.proofs.lemmas.List.{get_or-map, length-map}
use borrow.Author.Count.{below_more}
use Rattle.bp_words.proofs.OptionLemmas.{not_true}
use Rattle.bp_words.proofs.options.is_known.Goals as goal

pub loop-known-init : goal.loop-known-init
loop-known-init c = λ j less. absurd (omega arith)

pub loop-known-preserved : goal.loop-known-preserved
loop-known-preserved c = below_more _ _ c.loop-known.invariant (λ e. not_true c.are_same.result c.if-are_same.false (c.are_same.ensures.1 (sym (get_or-map (λ name. name.now) c.args.names.now c.loop-known.known-index _ _ c.loop-known-test.true) ∙ e)))

pub returns : goal.returns
returns c = (
  λ no_truth. absurd (not_true false refl no_truth),
  λ found. absurd (c.loop-known.invariant found.0 (omega (arith, found.1, length-map c.args.names.now (λ name. name.now))) found.2),
)
