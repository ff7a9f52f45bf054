use Rattle.std.proofs.Common.{◌≡◌, ◌∙◌, ◌++◌, List, ℕ, All, length, map, take, drop, sym, ap, subst, arith, codes}
use Rattle.std.specs.List.{AllZip}
use Rattle.std.proofs.lemmas.List.{length-map}
use Rattle.std.proofs.Math.Seq.{take-append_seam}
use Rattle.boxpleat_batch.specs.declared.pieces.Piece.{Piece}
use Rattle.boxpleat_batch.specs.declared.slot.Slot.{Slot}
use Rattle.boxpleat_batch.specs.Pieces.{IsWithin, bytes_at}
use Rattle.boxpleat_batch.specs.Replies.{AreReplies}
use Rattle.boxpleat_batch.specs.Slots.{AnswersEach, HasTold, empty_slot}
use Rattle.boxpleat_batch.proofs.Answering.{are_replies, within_slots}
use Rattle.boxpleat_batch.proofs.Cuts.{some_pieces}
use Rattle.boxpleat_batch.proofs.batch.replies.Goals as goal

-- a slice of as many slots was written over a vector
written : (n : ℕ) (new old : List Slot) → n ≡ length old → length new ≡ length old → take n (new ++ drop (length new) old) ≡ new
written n new old long same =
    ap (λ (m : ℕ). take m (new ++ drop (length new) old)) (long ∙ sym same) ∙ take-append_seam new (drop (length new) old)

pub answer_all-requires-clause-some : goal.answer_all-requires-clause-some
answer_all-requires-clause-some g c =
    let ps = c.in_ok-pieces.pieces.items in
    let bytes = c.args.bytes.now in
    let is : c.deref_mut.result.now ≡ map empty_slot ps = c.deref_mut.ensures.value ∙ c.in_ok-slots.ensures ∙ ap (λ (l : List Piece). map empty_slot l) c.deref.ensures.value in
    λ κs lives. omega (arith, ap (λ (l : List Slot). length l) is, length-map ps empty_slot, length-map ps (bytes_at bytes), ap (λ (l : List (List ℕ)). length l) c.in_ok-pieces.ensures.pieces, some_pieces bytes)

pub answer_all-requires-clause-within : goal.answer_all-requires-clause-within
answer_all-requires-clause-within g c =
    let ps = c.in_ok-pieces.pieces.items in
    let long = length c.args.bytes.now in
    let is : c.deref_mut.result.now ≡ map empty_slot ps = c.deref_mut.ensures.value ∙ c.in_ok-slots.ensures ∙ ap (λ (l : List Piece). map empty_slot l) c.deref.ensures.value in
    λ κs lives. subst (λ (l : List Slot). All (λ (s : Slot). IsWithin long s.piece) l) (sym is) (within_slots long ps c.in_ok-pieces.ensures.within)

pub returns-clause-text : goal.returns-clause-text
returns-clause-text g c =
    let B = c.args.asked.budget in
    let ps = c.in_ok-pieces.pieces.items in
    let bytes = c.args.bytes.now in
    let slots = c.in_ok-slots.slots in
    let new = c.answer_all.new.slots in
    let is : c.deref_mut.result.now ≡ map empty_slot ps = c.deref_mut.ensures.value ∙ c.in_ok-slots.ensures ∙ ap (λ (l : List Piece). map empty_slot l) c.deref.ensures.value in
    let same : length new ≡ length slots.items = c.answer_all.auto.slots ∙ ap (λ (l : List Slot). length l) c.deref_mut.ensures.value in
    let after : c.deref-2.result.now ≡ new = c.deref-2.ensures.value ∙ written slots.len new slots.items slots.ok.0 same in
    let each : AnswersEach B bytes (map empty_slot ps) new = subst (λ (l : List Slot). AnswersEach B bytes l new) is c.answer_all.ensures in
    let long : length new ≡ length (map empty_slot ps) = c.answer_all.auto.slots ∙ ap (λ (l : List Slot). length l) is in
    let made = c.in_ok-text.ensures in
    let has : AllZip HasTold new made.0 = subst (λ (l : List Slot). AllZip HasTold l made.0) after made.1 in
    let are = are_replies B bytes 1 ps new made.0 long each has in (
      are.0,
      subst (λ (pieces : List (List ℕ)). AreReplies B pieces are.0) c.in_ok-pieces.ensures.pieces are.1,
      made.2 ∙ ap (λ (l : List ℕ). l ++ codes "batch end\n") are.2,
    )
