-- What a batch does, by its status.
use Rattle.std.proofs.Common.{◌≡◌, ◌≤◌, ◌∙◌, ℕ, [], List, length, refl, sym, ap, subst, arith}
use Rattle.std.specs.Prelude.{unwrap_or}
use Rattle.std.specs.Str.Parse.{digits_value, without_leading_plus}
use Rattle.std.specs.declared.option.Option.{Option}
use Rattle.std.specs.declared.option.Option.TheVariants.{Some}
use Rattle.clap.specs.Walk.{Text}
use Rattle.bp_base.specs.Causes.{Appends, AppendsFront}
use Rattle.bp_base.specs.Reading.{Told}
use Rattle.boxpleat_batch.specs.declared.status.BatchFault.TheVariants.{TooLong, TooManyPieces}
use Rattle.boxpleat_batch.specs.declared.status.BatchStatus.{BatchStatus}
use Rattle.boxpleat_batch.specs.declared.status.BatchStatus.TheVariants.{Done, Refused, Usage, ReadFault, WriteFault, NoMemory}
use Rattle.boxpleat_batch.specs.Batch.{Does, IsDone, Writes}
use Rattle.boxpleat_batch.specs.Inputs.{IsInput, IsNoInput}
use Rattle.boxpleat_batch.specs.Pieces.{most_batch_bytes, most_pieces, pieces_of}
use Rattle.boxpleat_batch.specs.Replies.{AreReplies, Reply, batch_text}
use Rattle.boxpleat_batch.specs.Words.{IsNumberOf}

-- an option has one number
pub one_number : (name : Text) (words : List Text) (m n : ℕ) → IsNumberOf name words m → IsNumberOf name words n → m ≡ n
one_number name words m n a b =
    let same : a.0 ≡ b.0 = ap (λ (o : Option Text). unwrap_or o []) (sym a.1 ∙ b.1) in
    a.2 ∙ ap (λ (t : Text). digits_value 10 (without_leading_plus t)) same ∙ sym b.2

-- the replies of the bytes, as they were written
pub does_write : (B : ℕ) (left after held now : Option (List ℕ)) (before later : ℕ) (bytes text : List ℕ) (status : BatchStatus) → IsInput left after bytes
    → length (pieces_of bytes) ≤ most_pieces → (replies : List Reply) × AreReplies B (pieces_of bytes) replies × (text ≡ batch_text replies)
    → Writes held now before later text status → Does B left after held now status
does_write B left after held now before later bytes text Done input few replies wrote = (
  replies.0,
  record { bytes = bytes; input = input; few = few; answers = replies.1 },
  subst (Appends held now) replies.2 wrote,
)
does_write B left after held now before later bytes text WriteFault input few replies wrote = (
  replies.0,
  record { bytes = bytes; input = input; few = few; answers = replies.1 },
  subst (AppendsFront held now) replies.2 wrote.0,
)
does_write B left after held now before later bytes text status input few replies wrote = absurd wrote

-- nothing came of the input
pub does_nothing : (B : ℕ) (left after held now : Option (List ℕ)) (status : BatchStatus) → IsNoInput left after status → Does B left after held now status
does_nothing B left after held now Done none = absurd none
does_nothing B left after held now (Refused TooManyPieces) none = absurd none
does_nothing B left after held now WriteFault none = absurd none
does_nothing B left after held now status none = none

pub completes : (B : ℕ) (left after held now : Option (List ℕ)) (status : BatchStatus) → Does B left after held now status → (status ≡ ReadFault → ⊥) → (status ≡ WriteFault → ⊥)
    → (b : List ℕ) → left ≡ Some b → length b ≤ most_batch_bytes → length (pieces_of b) ≤ most_pieces → IsDone status
completes B left after held now Done does read write b is short few = tt
completes B left after held now (Refused TooLong) does read write b is short few =
    let told = subst (λ (l : Option (List ℕ)). IsNoInput l after (Refused TooLong)) is does in
    absurd (omega (arith, told.0, short))
completes B left after held now (Refused TooManyPieces) does read write b is short few =
    let told = subst (λ (l : Option (List ℕ)). Told l (λ (t : List ℕ). (t ≡ does.0) × (after ≡ Some []))) is does.1.read in
    absurd (omega (arith, does.2, few, ap (λ (t : List ℕ). length (pieces_of t)) told.0))
completes B left after held now Usage does read write b is short few = absurd does
completes B left after held now ReadFault does read write b is short few = absurd (read refl)
completes B left after held now WriteFault does read write b is short few = absurd (write refl)
completes B left after held now NoMemory does read write b is short few = tt
