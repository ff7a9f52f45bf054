-- The places for pieces and their replies, which are kept as they are told: by a number and a text.
use Rattle.std.specs.Prelude.{◌≡◌, ℕ, ◌+◌, List, [], ◌∷◌, ◌++◌, slice_index_or, ◌<◌, length}
use Rattle.std.specs.declared.option.Option.{Option}
use Rattle.std.specs.declared.option.Option.TheVariants.{None, Some}
use Rattle.boxpleat_batch.specs.declared.pieces.Piece.{Piece}
use Rattle.boxpleat_batch.specs.declared.reply.Told.{Told}
use Rattle.boxpleat_batch.specs.declared.slot.Slot.{Slot}
use Rattle.boxpleat_batch.specs.Pieces.{bytes_at}
use Rattle.boxpleat_batch.specs.Replies.{Reply, IsReplyTo, reply_body, reply_head, reply_number}

-- a slot whose piece has no reply yet
abbrev pub empty_slot : Piece → Slot
empty_slot p = record { piece = p; reply = None }

-- the reply is told so
abbrev pub IsTold : Reply → Told → Type 0
IsTold r t = (t.how ≡ reply_number r) × (t.body.items ≡ reply_body r)

-- some reply to the piece is told so
abbrev pub TellsReplyTo : ℕ → List ℕ → Told → Type 0
TellsReplyTo B piece t = (r : Reply) × IsReplyTo B piece r × IsTold r t

-- a reply to the piece is told, or none, where memory ran out
abbrev pub TellsOrWants : ℕ → List ℕ → Option Told → Type 0
TellsOrWants B piece None = Unit {0}
TellsOrWants B piece (Some t) = TellsReplyTo B piece t

-- what stands in the slot is of the piece that it had
abbrev pub Answers : ℕ → List ℕ → Slot → Slot → Type 0
Answers B bytes before after = TellsOrWants B (bytes_at bytes before.piece) after.reply

-- each slot is answered, in its place
abbrev pub AnswersEach : ℕ → List ℕ → List Slot → List Slot → Type 0
AnswersEach B bytes before after = (k : ℕ) (d : Slot) → k < length before → Answers B bytes (slice_index_or before k d) (slice_index_or after k d)

abbrev pub HasTold : Slot → Told → Type 0
HasTold s t = s.reply ≡ Some t

-- what is told, of which the first is the reply to piece k
abbrev pub told_from : ℕ → List Told → List ℕ
told_from k [] = []
told_from k (t ∷ more) = (reply_head k t.how ++ t.body.items) ++ told_from (k + 1) more
