use Rattle.std.proofs.Common.{◌≡◌, map, take}
use Rattle.boxpleat_batch.specs.Slots.{empty_slot}
use Rattle.boxpleat_batch.proofs.slot.slots_for.Given as goal

abbrev pub invariant-loop-piece : goal.invariant-loop-piece
invariant-loop-piece l = l.slots.items ≡ map empty_slot (take l.piece-index l.pieces)
