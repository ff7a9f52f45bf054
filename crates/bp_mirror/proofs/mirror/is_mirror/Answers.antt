use Rattle.std.proofs.Common.{◌≡◌, length, sym, ◌∙◌, arith}
use Rattle.std.proofs.lemmas.Bool.{eqb-true, eqb-false}
use Rattle.bp_mirror.proofs.Tied.{empty_mirror, swap_mirror, mirror_swap}
use Rattle.bp_mirror.proofs.mirror.is_mirror.Goals as goal

pub returns-then-is_empty : goal.returns-then-is_empty
returns-then-is_empty c = record {
  mirror = (
    λ is. empty_mirror c.args.metric.now.tree c.args.pairs.now (eqb-true _ _ (sym c.is_empty.ensures ∙ is)),
    λ m. c.if-is_empty.true,
  );
}

pub returns-else-is_empty : goal.returns-else-is_empty
returns-else-is_empty c = record {
  mirror = (
    λ is. swap_mirror c.args.metric.now.tree c.args.pairs.now (c.is_admissible.ensures.admissible.0 is),
    λ m. c.is_admissible.ensures.admissible.1 (mirror_swap c.args.metric.now.tree c.args.pairs.now (omega (arith, eqb-false _ _ (sym c.is_empty.ensures ∙ c.if-is_empty.false))) m),
  );
}
