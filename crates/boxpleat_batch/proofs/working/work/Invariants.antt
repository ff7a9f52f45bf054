use Rattle.std.proofs.Common.{ℕ, ◌≡◌, ◌<◌, ◌≤◌, get_or}
use Rattle.boxpleat_batch.specs.declared.slot.Slot.{Slot}
use Rattle.boxpleat_batch.specs.Slots.{Answers}
use Rattle.boxpleat_batch.proofs.working.work.Given as goal

abbrev pub invariant-loop-k : goal.invariant-loop-k
invariant-loop-k g l =
    ((j : ℕ) (d : Slot) → l.k ≤ j → get_or l.run j d ≡ get_or l.initial.run j d)
    × ((j : ℕ) (d : Slot) → j < l.k → Answers l.budget l.bytes (get_or l.initial.run j d) (get_or l.run j d))
