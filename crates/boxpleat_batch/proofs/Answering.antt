-- Slots and their replies.
use Rattle.std.proofs.Common.{◌≡◌, ◌≤◌, ◌<◌, ◌+◌, ◌++◌, ◌∷◌, [], ℕ, zero, suc, List, length, map, take, get_or, refl, ap, subst, sym, ◌∙◌, arith, append_assoc, codes}
use Rattle.std.specs.List.{All, AllZip}
use Rattle.std.specs.declared.option.Option.TheVariants.{Some}
use Rattle.std.proofs.lemmas.List.{append-nil, length-take, take_all}
use Rattle.std.specs.Prelude.{Result, Ok, Err, IfOk}
use Rattle.bp_base.specs.declared.memory.NoMemory.{NoMemory}
use Rattle.bp_base.specs.Tree.{TreeValue}
use Rattle.bp_catalogue.specs.Entries.{IsRight}
use Rattle.bp_document.specs.declared.document.Document.{Document}
use Rattle.bp_tree.specs.declared.fault.ReadTree.{ReadTree}
use Rattle.bp_tree.specs.declared.fault.ReadTree.TheVariants.{Fault}
use Rattle.bp_tree.specs.declared.fault.TreeFault.{TreeFault}
use Rattle.bp_tree.specs.Faults.{AnswersBytes}
use Rattle.bp_tree.specs.Text.{TreeOf}
use Rattle.boxpleat_batch.specs.declared.pieces.Piece.{Piece}
use Rattle.boxpleat_batch.specs.declared.reply.Told.{Told}
use Rattle.boxpleat_batch.specs.declared.slot.Slot.{Slot}
use Rattle.boxpleat_batch.specs.Pieces.{IsWithin, bytes_at}
use Rattle.boxpleat_batch.specs.Replies.{AreReplies, Reply, Refused, Designed, replies_from, reply_head, reply_number, reply_text}
use Rattle.boxpleat_batch.specs.Slots.{AnswersEach, HasTold, IsTold, TellsOrWants, TellsReplyTo, empty_slot, told_from}

-- the slots of pieces lie where the pieces do
pub within_slots : (long : ℕ) (ps : List Piece) → All (IsWithin long) ps → All (λ (s : Slot). IsWithin long s.piece) (map empty_slot ps)
within_slots long ps all = λ k d less. go ps (λ j e l. all j e l) k d less
  where
    go : (qs : List Piece) → ((j : ℕ) (e : Piece) → j < length qs → IsWithin long (get_or qs j e)) → (k : ℕ) (d : Slot) → k < length (map empty_slot qs) → IsWithin long (get_or (map empty_slot qs) k d).piece
    go [] each k d less = absurd (omega arith)
    go (q ∷ qs) each zero d less = each 0 q (omega arith)
    go (q ∷ qs) each (suc k) d less = go qs (λ j e l. each (suc j) e (omega arith)) k d (omega arith)

-- a reply's text, as it is told
told_text : (k : ℕ) (r : Reply) (t : Told) → IsTold r t → reply_head k t.how ++ t.body.items ≡ reply_text k r
unfolding reply_text
told_text k r t is = ap (λ (n : ℕ). reply_head k n ++ t.body.items) is.0 ∙ ap (λ (body : List ℕ). reply_head k (reply_number r) ++ body) is.1

-- Where each slot of pieces is answered and has what is told, these are replies to the pieces, and this is their text.
pub are_replies : (B : ℕ) (bytes : List ℕ) (n : ℕ) (ps : List Piece) (slots : List Slot) (told : List Told) → length slots ≡ length (map empty_slot ps)
    → AnswersEach B bytes (map empty_slot ps) slots → AllZip HasTold slots told
    → (rs : List Reply) × AreReplies B (map (bytes_at bytes) ps) rs × (told_from n told ≡ replies_from n rs)
are_replies B bytes n [] [] [] long each has = ([], tt, refl)
are_replies B bytes n [] [] (t ∷ told) long each has = absurd has
are_replies B bytes n [] (s ∷ slots) told long each has = absurd (omega (arith, long))
are_replies B bytes n (p ∷ ps) [] told long each has = absurd (omega (arith, long))
are_replies B bytes n (p ∷ ps) (s ∷ slots) [] long each has = absurd has
are_replies B bytes n (p ∷ ps) (s ∷ slots) (t ∷ told) long each has =
    let first = subst (TellsOrWants B (bytes_at bytes p)) has.0 (each 0 s (omega arith)) in
    let rest = are_replies B bytes (n + 1) ps slots told (omega (arith, long)) (λ k d less. each (suc k) d (omega arith)) has.1 in (
      first.0 ∷ rest.0,
      (first.1, rest.1),
      ap (λ (l : List ℕ). l ++ told_from (n + 1) told) (told_text n first.0 t first.2) ∙ ap (λ (l : List ℕ). reply_text n first.0 ++ l) rest.2,
    )

-- ---- the text, slot by slot

-- the text of what the first so many slots tell
pub record HasText (slots : List Slot) (k : ℕ) (text : List ℕ) : Type 0 where
  pub told : List Told
  pub first : AllZip HasTold (take k slots) told
  pub text_is : text ≡ told_from 1 told

first_more : (slots : List Slot) (k : ℕ) (s : Slot) (t : Told) (ts : List Told) → k < length slots → s ≡ get_or slots k s → s.reply ≡ Some t
    → AllZip HasTold (take k slots) ts → AllZip HasTold (take (suc k) slots) (ts ++ t ∷ [])
first_more [] k s t ts less is has first = absurd (omega arith)
first_more (q ∷ slots) zero s t [] less is has first = (subst (λ (x : Slot). x.reply ≡ Some t) is has, tt)
first_more (q ∷ slots) zero s t (u ∷ ts) less is has first = absurd first
first_more (q ∷ slots) (suc k) s t [] less is has first = absurd first
first_more (q ∷ slots) (suc k) s t (u ∷ ts) less is has first = (first.0, first_more slots k s t ts (omega arith) is has first.1)

text_more : (n : ℕ) (ts : List Told) (t : Told) (m : ℕ) → m ≡ n + length ts → told_from n (ts ++ t ∷ []) ≡ told_from n ts ++ (reply_head m t.how ++ t.body.items)
text_more n [] t m is =
    let same : n ≡ m = omega (arith, is) in
    append-nil (reply_head n t.how ++ t.body.items) ∙ ap (λ (k : ℕ). reply_head k t.how ++ t.body.items) same
text_more n (u ∷ ts) t m is =
    ap (λ (l : List ℕ). (reply_head n u.how ++ u.body.items) ++ l) (text_more (n + 1) ts t m (omega (arith, is)))
    ∙ sym (append_assoc (reply_head n u.how ++ u.body.items) (told_from (n + 1) ts) (reply_head m t.how ++ t.body.items))

as_long : (slots : List Slot) (ts : List Told) → AllZip HasTold slots ts → length ts ≡ length slots
as_long [] [] has = refl
as_long [] (t ∷ ts) has = absurd has
as_long (s ∷ slots) [] has = absurd has
as_long (s ∷ slots) (t ∷ ts) has = omega (arith, as_long slots ts has.1)

pub told_none : (slots : List Slot) (text : List ℕ) → text ≡ [] → HasText slots 0 text
told_none slots text is = record { told = []; first = tt; text_is = is }

pub told_more : (slots : List Slot) (k : ℕ) (s : Slot) (t : Told) (text more : List ℕ) → k < length slots → s ≡ get_or slots k s → s.reply ≡ Some t
    → HasText slots k text → more ≡ text ++ (reply_head (k + 1) t.how ++ t.body.items) → HasText slots (k + 1) more
told_more slots k s t text more less is has so_far more_is =
    let next : suc k ≡ k + 1 = omega arith in
    let long : k + 1 ≡ 1 + length so_far.told = omega (arith, as_long (take k slots) so_far.told so_far.first, length-take k slots, less) in
    record {
      told = so_far.told ++ t ∷ [];
      first = subst (λ (n : ℕ). AllZip HasTold (take n slots) (so_far.told ++ t ∷ [])) next (first_more slots k s t so_far.told less is has so_far.first);
      text_is = more_is ∙ ap (λ (l : List ℕ). l ++ (reply_head (k + 1) t.how ++ t.body.items)) so_far.text_is ∙ sym (text_more 1 so_far.told t (k + 1) long);
    }

pub told_all : (slots : List Slot) (k : ℕ) (text more : List ℕ) → length slots ≤ k → HasText slots k text → more ≡ text ++ codes "batch end\n"
    → (told : List Told) × AllZip HasTold slots told × (more ≡ told_from 1 told ++ codes "batch end\n")
told_all slots k text more end so_far more_is = (
  so_far.told,
  subst (λ (ss : List Slot). AllZip HasTold ss so_far.told) (take_all k slots end) so_far.first,
  more_is ∙ ap (λ (l : List ℕ). l ++ codes "batch end\n") so_far.text_is,
)

-- ---- what a worker tells

pub tells_design : (B : ℕ) (piece : List ℕ) (T : TreeValue) (r : Result Told NoMemory) → TreeOf piece T
    → IfOk r (λ t. (D : Document) × (D.tree ≡ T) × IsRight B D × IsTold (Designed D) t) → IfOk r (TellsReplyTo B piece)
tells_design B piece T (Ok t) tree told = (Designed told.0, (subst (TreeOf piece) (sym told.1) tree, told.2), told.3)
tells_design B piece T (Err e) tree told = tt

pub tells_fault : (B : ℕ) (piece : List ℕ) (fault : TreeFault) (e : ReadTree) (r : Result Told NoMemory) → e ≡ Fault fault → AnswersBytes piece (Err e)
    → IfOk r (IsTold (Refused fault)) → IfOk r (TellsReplyTo B piece)
tells_fault B piece fault e (Ok t) is answers told =
    let refused : AnswersBytes piece (Err (Fault fault)) = subst (λ (x : ReadTree). AnswersBytes piece (Err x)) is answers in
    (Refused fault, record { is_fault = refused.0; no_tree = refused.1 }, told)
tells_fault B piece fault e (Err n) is answers told = tt
