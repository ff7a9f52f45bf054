use Rattle.std.proofs.Common.{List, map, subst, sym}
use Rattle.bp_base.specs.declared.path.Pair.{Pair}
use Rattle.bp_arrangement.specs.Swaps.{IsAdmissible}
use Rattle.std.specs.Prelude.{All}
use Rattle.bp_lemmas.specs.Proves.{Proves}
use Rattle.bp_verify.specs.Certifies.{lemma_of}
use Rattle.bp_solve.proofs.replaying.arranged.Goals as goal

pub standing-requires-clause-swaps : goal.standing-requires-clause-swaps
standing-requires-clause-swaps c = subst (All (IsAdmissible c.args.metric.now.tree c.args.corner.i c.args.corner.j)) (sym c.as_slice.ensures) c.requires.swaps

pub returns-in-Some : goal.returns-in-Some
returns-in-Some c =
    let h = rw c.in-Some.is at c.in_ok-stood.ensures in
    subst (λ (swaps : List (List Pair)). Proves c.args.metric.now.tree c.args.metric.now.sheet c.args.bound c.args.corner.i c.args.corner.j swaps (map lemma_of c.in-Some.lemmas)) c.as_slice.ensures h
