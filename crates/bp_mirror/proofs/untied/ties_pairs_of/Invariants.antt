use Rattle.std.proofs.Common.{◌≡◌, All, take}
use Rattle.bp_base.specs.declared.path.Pair.{Pair}
use Rattle.bp_mirror.specs.Mirrored.{TiesPair}
use Rattle.bp_mirror.proofs.untied.ties_pairs_of.Given as goal

abbrev pub invariant-loop-pair : goal.invariant-loop-pair
invariant-loop-pair l = All (λ (p : Pair). p.i ≡ l.left → TiesPair l.kind l.side l.points p) (take l.pair-index l.pairs)
