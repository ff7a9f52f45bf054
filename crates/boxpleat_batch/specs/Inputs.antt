-- What is read of a batch's input.
use Rattle.std.specs.Prelude.{◌≡◌, ℕ, ◌+◌, ◌<◌, ◌≤◌, List, [], length, drop}
use Rattle.std.specs.declared.option.Option.{Option}
use Rattle.std.specs.declared.option.Option.TheVariants.{Some}
use Rattle.bp_base.specs.Reading.{Told}
use Rattle.boxpleat_batch.specs.declared.status.BatchFault.TheVariants.{TooLong}
use Rattle.boxpleat_batch.specs.declared.status.BatchStatus.{BatchStatus}
use Rattle.boxpleat_batch.specs.declared.status.BatchStatus.TheVariants.{Refused, ReadFault, NoMemory}
use Rattle.boxpleat_batch.specs.Pieces.{most_batch_bytes}

-- these are all bytes of the input, which was read to its end, where it tells them: what was left of it before and after
pub record IsInput (left after : Option (List ℕ)) (bytes : List ℕ) : Type 0 where
  pub read : Told left (λ b. (b ≡ bytes) × (after ≡ Some []))
  pub short : length bytes ≤ most_batch_bytes

-- Why there are no such bytes. An input that is too long was read to one byte past the limit.
abbrev pub IsNoInput : Option (List ℕ) → Option (List ℕ) → BatchStatus → Type 0
IsNoInput left after (Refused TooLong) = Told left (λ b. (most_batch_bytes < length b) × (after ≡ Some (drop (most_batch_bytes + 1) b)))
IsNoInput left after ReadFault = Unit {0}
IsNoInput left after NoMemory = Unit {0}
IsNoInput left after status = ⊥
