use Rattle.std.proofs.Common.{refl, sym, ◌∙◌}
use Rattle.std.proofs.lemmas.Bool.{false≢true}
use Rattle.bp_arrangement.proofs.Deciding.{apart_leaves, leaves_apart}
use Rattle.bp_arrangement.proofs.admissible.is_admissible.Goals as goal

pub returns-then-are_apart : goal.returns-then-are_apart
returns-then-are_apart c = record {
  admissible = (
    λ is. record { swaps = c.is_swap.ensures.0 is; corner = apart_leaves c.args.a c.args.b c.args.swap.now (c.if-are_apart.ensures.0 refl) },
    λ a. c.is_swap.ensures.1 a.swaps,
  );
}

pub returns-else-are_apart : goal.returns-else-are_apart
returns-else-are_apart c = record {
  admissible = (
    λ never. absurd (false≢true (sym c.if-are_apart.false ∙ never)),
    λ a. absurd (false≢true (c.if-are_apart.ensures.1 (leaves_apart c.args.a c.args.b c.args.swap.now a.corner))),
  );
}
