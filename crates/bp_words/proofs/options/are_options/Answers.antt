use Rattle.std.proofs.Common.{false, arith, refl}
use Rattle.std.specs.Prelude.{string_bytes}
use Rattle.std.proofs.lemmas.List.{length-map}
use Rattle.bp_words.proofs.OptionLemmas.{not_true, absent, none_below, one_more, all_options, unique_options, not_options, given_before}
use Rattle.bp_words.proofs.options.are_options.Goals as goal
use Rattle.bp_words.proofs.options.are_options.Goals.{then-not-is_known-via-then-not-is_known, then-not-is_known-via-else-not-is_known+then-is_some}

pub loop-k-init : goal.loop-k-init
loop-k-init c = none_below _ _

pub returns-then-not-is_known-clause-options : goal.returns-then-not-is_known-clause-options
returns-then-not-is_known-clause-options c = (
  λ untrue. absurd (not_true false refl untrue),
  λ options. absurd (elim c.then-not-is_known.branch [
    | then-not-is_known-via-then-not-is_known w ↦ not_true c.is_known.result w.if-not-is_known.true (c.is_known.ensures.1 (not_options string_bytes _ c.args.words.now c.loop-k.k _ c.loop-k-test.true c.word_at-name.ensures options))
    | then-not-is_known-via-else-not-is_known+then-is_some w ↦ given_before string_bytes _ c.args.words.now c.loop-k.k _ w.place_of.result c.loop-k-test.true c.word_at-name.ensures w.if-is_some.ensures w.place_of.ensures options
  ]),
)

pub loop-k-preserved : goal.loop-k-preserved
loop-k-preserved c = one_more string_bytes _ c.args.words.now c.loop-k.k c.word_at-name.result.now (omega arith) c.word_at-name.ensures (c.is_known.ensures.0 c.if-not-is_known.false) (absent _ _ c.place_of.result c.if-is_some.ensures c.place_of.ensures) c.loop-k.invariant

pub returns-clause-options : goal.returns-clause-options
returns-clause-options c = (
  λ truth. all_options _ _ c.loop-k.k (omega (arith, length-map c.args.words.now string_bytes)) c.loop-k.invariant,
  λ options. refl,
)

pub returns-clause-unique : goal.returns-clause-unique
returns-clause-unique c = λ truth. unique_options _ _ (all_options _ _ c.loop-k.k (omega (arith, length-map c.args.words.now string_bytes)) c.loop-k.invariant)
