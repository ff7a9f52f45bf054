-- What a batch reads and writes.
use Rattle.std.specs.Prelude.{ℕ, ◌<◌, ◌≤◌, List, length}
use Rattle.std.specs.declared.option.Option.{Option}
use Rattle.bp_base.specs.Causes.{Appends, AppendsFront, Rose}
use Rattle.boxpleat_batch.specs.declared.status.BatchFault.TheVariants.{TooManyPieces}
use Rattle.boxpleat_batch.specs.declared.status.BatchStatus.{BatchStatus}
use Rattle.boxpleat_batch.specs.declared.status.BatchStatus.TheVariants.{Done, Refused, WriteFault, NoMemory}
use Rattle.boxpleat_batch.specs.Inputs.{IsInput, IsNoInput}
use Rattle.boxpleat_batch.specs.Pieces.{most_pieces, pieces_of}
use Rattle.boxpleat_batch.specs.Replies.{AreReplies, Reply, batch_text}

-- the input was read to its end, and these are replies to its pieces in order
pub record Replies (B : ℕ) (left after : Option (List ℕ)) (replies : List Reply) : Type 0 where
  pub bytes : List ℕ
  pub input : IsInput left after bytes
  pub few : length (pieces_of bytes) ≤ most_pieces
  pub answers : AreReplies B (pieces_of bytes) replies

-- What a batch with this budget has read and written with this status: what was left of the input before and after, what the output held
-- before and after.
abbrev pub Does : ℕ → Option (List ℕ) → Option (List ℕ) → Option (List ℕ) → Option (List ℕ) → BatchStatus → Type 0
Does B left after held now Done = (replies : List Reply) × Replies B left after replies × Appends held now (batch_text replies)
Does B left after held now (Refused TooManyPieces) = (bytes : List ℕ) × IsInput left after bytes × (most_pieces < length (pieces_of bytes))
Does B left after held now WriteFault = (replies : List Reply) × Replies B left after replies × AppendsFront held now (batch_text replies)
Does B left after held now status = IsNoInput left after status

-- The text was written whole with Done, and a front of it with a fault of writing, whose count of faults then rose.
abbrev pub Writes : Option (List ℕ) → Option (List ℕ) → ℕ → ℕ → List ℕ → BatchStatus → Type 0
Writes held now before after text Done = Appends held now text
Writes held now before after text WriteFault = AppendsFront held now text × Rose before after
Writes held now before after text status = ⊥

-- done, or want of memory
abbrev pub IsDone : BatchStatus → Type 0
IsDone Done = Unit {0}
IsDone NoMemory = Unit {0}
IsDone status = ⊥

-- which statuses leave the output as it was
abbrev pub IsUnwritten : BatchStatus → Type 0
IsUnwritten Done = ⊥
IsUnwritten WriteFault = ⊥
IsUnwritten status = Unit {0}
