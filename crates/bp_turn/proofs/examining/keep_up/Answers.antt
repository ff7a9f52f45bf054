use Rattle.std.proofs.Common.{◌++◌, ◌∷◌, [], List, length, ap, sym, ◌∙◌, arith}
use Rattle.std.proofs.lemmas.List.{length_push}
use Rattle.bp_base.specs.declared.path.Step.{Step}
use Rattle.bp_turn.proofs.Beginnings.{take_more}
use Rattle.bp_turn.proofs.examining.keep_up.Goals as goal

pub loop-k-preserved : goal.loop-k-preserved
loop-k-preserved c = record {
  within = omega (arith, c.loop-k-test.true, c.len-k-end.ensures.length);
  long = omega (arith, ap length c.in_ok-push.ensures.ok, length_push c.loop-k.at c.at.result, c.loop-k.invariant.long);
  begins = c.in_ok-push.ensures.ok ∙ ap (λ (q : List Step). q ++ c.at.result ∷ []) c.loop-k.invariant.begins ∙ sym (take_more c.args.path.now c.loop-k.k c.at.result c.at.ensures.step);
}
