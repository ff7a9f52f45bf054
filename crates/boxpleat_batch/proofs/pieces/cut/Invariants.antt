use Rattle.std.proofs.Common.{◌+◌, ◌-◌, ◌≤◌, All, length, vec_len}
use Rattle.boxpleat_batch.specs.Pieces.{IsWithin, most_pieces}
use Rattle.boxpleat_batch.proofs.Cuts.{IsCutTo}
use Rattle.boxpleat_batch.proofs.pieces.cut.Given as goal

abbrev pub invariant-loop-here : goal.invariant-loop-here
invariant-loop-here l = record {
  cut : IsCutTo l.bytes l.pieces.items l.from l.at;
  within : All (IsWithin (length l.bytes)) l.pieces.items;
  few : vec_len l.pieces + 1 ≤ most_pieces;
}

abbrev pub decreases-loop-here : goal.decreases-loop-here
decreases-loop-here l = length l.bytes - l.at
