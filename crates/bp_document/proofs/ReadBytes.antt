-- Reading a document's lines from its bytes.
use Rattle.std.proofs.Common.{◌≡◌, ◌≢◌, ℕ, ◌+◌, ◌-◌, ◌<◌, ◌≤◌, cond, inl, inr, true, false, List, [], ◌∷◌, ◌++◌, length, get_or, take, drop, All, Bool, Option, None, Some, Result, Ok, Err, refl, sym, ◌∙◌, ap, subst, arith, append_assoc}
use Rattle.std.proofs.Math.Seq.{take-add}
use Rattle.std.proofs.lemmas.Bool.{cases_lt, false≢true}
use Rattle.std.proofs.lemmas.List.{append-nil, length-take-le, take-append-drop, take_more, take_all, drop_more, get_or-take, get_or-drop, length-drop}
use Rattle.std.proofs.lemmas.List.Elements.{All-from_get_or}
use Rattle.bp_base.specs.declared.point.Line.{Line}
use Rattle.bp_base.specs.declared.refutation.Refutation.{Refutation}
use Rattle.bp_base.specs.Limits.{most_document_bytes}
use Rattle.bp_text.specs.Lines.{IsLineAt}
use Rattle.bp_document.specs.declared.builder.Builder.{Builder}
use Rattle.bp_document.specs.declared.document.Document.{Document}
use Rattle.bp_document.specs.declared.fault.DocKind.TheVariants.{Trailing, Cut}
use Rattle.bp_document.specs.declared.fault.DocFault.{DocFault}
use Rattle.bp_document.specs.declared.fault.ReadDoc.{ReadDoc}
use Rattle.bp_document.specs.declared.fault.ReadDoc.TheVariants.{Fault, NoMemory}
use Rattle.bp_document.specs.declared.head.Head.{Head}
use Rattle.bp_document.specs.declared.node_line.NodeLine.{NodeLine}
use Rattle.bp_document.specs.declared.stage.Stage.{Stage}
use Rattle.bp_document.specs.declared.stage.Stage.TheVariants.{Behind as BehindStage}
use Rattle.bp_document.specs.Forms.{IsProofCount}
use Rattle.bp_document.specs.Places.{Place, Behind, deepest_behind, count_of}
use Rattle.bp_document.specs.Faults.{HasLine, IsFirstKind, IsDocFault, IsTextOf, ReadsDocument, IsOnlyAnswer}
use Rattle.bp_document.specs.Stages.{Stands}
use Rattle.bp_document.specs.Told.{node_list, document_of, IsProofTold}
use Rattle.bp_document.specs.Built.{IsBuilt, Adds, Finishes}
use Rattle.bp_document.specs.Scanning.{Progress, HasFed, IsFaultBehind, FeedsLine, GivesHead}
use Rattle.bp_document.specs.Reading.{HasRead, ReadsLine, ReadsLines, EndsDocument}
use Rattle.bp_document.proofs.NodeSteps.{deepest_more}
use Rattle.bp_document.proofs.Documents.{is_text}
use Rattle.bp_document.proofs.Reach.{follow_at}
use Rattle.bp_document.proofs.OneRefutation.{root_of}
use Rattle.bp_document.proofs.OneAnswer.{has_one_answer}

-- the head of a whole text
pub gives_head : (s : Stage) (lines : ℕ) (P : Progress) → record { lines = lines; stage = s } ≡ P → (H : Head) → s ≡ BehindStage H → GivesHead P (Ok H)
gives_head s lines P is H here text ns fed =
    let mine : HasFed (record { lines = lines; stage = s }) text ns = subst (λ (Q : Progress). HasFed Q text ns) (sym is) fed in
    subst (Stands text mine.edges ns) here mine.stands

-- A fault behind the text, as one of the bytes.
module _ (bytes text line : List ℕ) (ended : Bool) (f : DocFault) (short : length bytes ≤ most_document_bytes) (has : HasLine bytes text line ended) (free : All (λ b. b ≢ 10) line) (fault : IsFaultBehind text line ended f) where
  pub fault_at : (fault.place ≡ Behind → line ≡ [] → ended ≡ false → ⊥) → IsDocFault bytes f
  fault_at wanted = inr (record {
    short = short;
    text = text;
    line = line;
    ended = ended;
    place = fault.place;
    leads = fault.leads;
    stands = has;
    free = free;
    number = fault.number;
    kind = fault.kind;
    wanted = λ w. wanted w.0 w.1 w.2;
  })

no_cut_behind : (place : Place) (f : DocFault) → f.kind ≡ Cut → IsFirstKind place [] false f.kind → place ≡ Behind → ⊥
no_cut_behind place f cut first behind =
    let at : IsFirstKind Behind [] false Cut = subst (λ (p : Place). IsFirstKind p [] false Cut) behind (subst (IsFirstKind place [] false) cut first) in
    at.first Trailing (omega arith) tt

pub cut_fault : (bytes : List ℕ) (f : DocFault) → length bytes ≤ most_document_bytes → f.kind ≡ Cut → IsFaultBehind bytes [] false f → IsDocFault bytes f
cut_fault bytes f short cut fault =
    fault_at bytes bytes [] false f short (sym (append-nil bytes)) (λ k d less. absurd (omega (arith, less))) fault
    (λ behind empty ended. no_cut_behind fault.place f cut fault.kind behind)

-- The end of input.
pub ends_fault : (P : Progress) (b : Builder) (f : DocFault) → GivesHead P (Err f) → EndsDocument P b (Err (Fault f))
ends_fault P b f given bytes short read = cut_fault bytes f short given.0 (given.1 bytes read.0 read.1)

abbrev NodesOf : Option Refutation → List NodeLine → Type 0
NodesOf None ns = ns ≡ []
NodesOf (Some r) ns = node_list r 0 ≡ ns

nodes_built : (b : Builder) (r : Option Refutation) (ns : List NodeLine) (most : Option ℕ) → Finishes b (Ok r) → IsBuilt b ns most → NodesOf r ns
nodes_built b None ns most finishes built = finishes ns most built
nodes_built b (Some r) ns most finishes built = finishes ns most built

none_left : (ns : List NodeLine) → length ns ≡ 0 → ns ≡ []
none_left [] none = refl
none_left (l ∷ ls) none = absurd (omega (arith, none))

proof_told : (r : Option Refutation) (count : Option ℕ) (ns : List NodeLine) → IsProofCount count → length ns ≡ count_of count → NodesOf r ns → IsProofTold r count ns
proof_told None None ns range same nodes = nodes
proof_told None (Some n) ns range same nodes = absurd (omega (arith, range.0, same, ap length nodes))
proof_told (Some r) None ns range same nodes =
    let root = root_of r 0 in
    absurd (omega (arith, same, ap length nodes, ap length root.2))
proof_told (Some r) (Some n) ns range same nodes = (nodes, sym same)

pub ends_document : (P : Progress) (b : Builder) (H : Head) (r : Option Refutation) (D : Document) → GivesHead P (Ok H) → Finishes b (Ok r) → D ≡ document_of H r → EndsDocument P b (Ok D)
ends_document P b H r D given finishes is bytes short read =
    let ns = read.0 in
    let whole = given bytes ns read.1 in
    let told = proof_told r H.proof ns whole.1.proof whole.3 (nodes_built b r ns (deepest_behind None ns) finishes read.2) in
    subst (IsTextOf bytes) (sym is) (is_text H ns r told bytes whole.0 whole.1 whole.2 short)

-- A line.
module _ (P P' : Progress) (line : List ℕ) (ended : Bool) where
  pub line_none : (b : Builder) → FeedsLine P line ended P' (Ok None) → ReadsLine P b line ended P' b (Ok tt)
  line_none b fed = (fed.0, fed.1, λ text read. (read.0, fed.2 text read.0 read.1, read.2))

  pub line_node : (b b' : Builder) (l : NodeLine) → FeedsLine P line ended P' (Ok (Some l)) → Adds b l b' (Ok tt) → ReadsLine P b line ended P' b' (Ok tt)
  line_node b b' l fed adds = (
    fed.0,
    fed.1,
    λ text read.
        let ns = read.0 in
        let more = fed.2 text ns read.1 in
        let fits = follow_at None ns [] l more.follow in
        (ns ++ l ∷ [], more, subst (IsBuilt b' (ns ++ l ∷ [])) (sym (deepest_more None ns l)) (adds ns (deepest_behind None ns) read.2 fits.1)),
  )

  pub line_fault : (b b' : Builder) (f : DocFault) → FeedsLine P line ended P' (Err f) → ReadsLine P b line ended P' b' (Err (Fault f))
  line_fault b b' f fed text read = fed.1 text read.0 read.1

-- The line at a place of the bytes.
module _ (bytes : List ℕ) (at : ℕ) (l : Line) (is : IsLineAt bytes at l) where
  abbrev pub piece : List ℕ
  piece = take (l.to - l.from) (drop l.from bytes)

  piece_is : piece ≡ take (l.to - at) (drop at bytes)
  piece_is = ap (λ (f : ℕ). take (l.to - f) (drop f bytes)) is.from

  text_to : take at bytes ++ piece ≡ take l.to bytes
  text_to =
      let to : at + (l.to - at) ≡ l.to = omega (arith, is.after) in
      ap (λ (p : List ℕ). take at bytes ++ p) piece_is ∙ sym (take-add at (l.to - at) bytes) ∙ ap (λ (n : ℕ). take n bytes) to

  piece_length : length piece ≡ l.to - at
  piece_length = ap length piece_is ∙ length-take-le (l.to - at) (drop at bytes) (omega (arith, length-drop at bytes, is.within, is.begins))

  pub piece_free : All (λ b. b ≢ 10) piece
  piece_free = All-from_get_or (λ b. b ≢ 10) piece 0 (λ k less lf.
      let near : k < l.to - at = omega (arith, less, piece_length) in
      let here : get_or bytes (at + k) 0 ≡ 10 = sym (get_or-drop at bytes k 0) ∙ sym (get_or-take (l.to - at) (drop at bytes) k 0 near) ∙ ap (λ (p : List ℕ). get_or p k 0) (sym piece_is) ∙ lf in
      is.free (at + k) (omega arith) (omega (arith, near)) here)

  pub piece_some : piece ≡ [] → l.ended ≡ true
  piece_some none = is.ended.1 (omega (arith, ap length none, piece_length, is.after, is.begins))

  next_is : l.ended ≡ true → l.next ≡ l.to + 1
  next_is ended = is.next ∙ ap (λ (b : Bool). cond b (l.to + 1) (length bytes)) ended

  pub next_text : l.ended ≡ true → take at bytes ++ (piece ++ 10 ∷ []) ≡ take l.next bytes
  next_text ended =
      let less : l.to < length bytes = is.ended.0 ended in
      sym (append_assoc (take at bytes) piece (10 ∷ [])) ∙ ap (λ (t : List ℕ). t ++ 10 ∷ []) text_to
      ∙ ap (λ (b : ℕ). take l.to bytes ++ b ∷ []) (sym (is.ends less)) ∙ sym (take_more bytes l.to 0 less) ∙ ap (λ (n : ℕ). take n bytes) (sym (next_is ended))

  has_line : (e : Bool) → l.ended ≡ e → HasLine bytes (take at bytes) piece e
  has_line true ended =
      let less : l.to < length bytes = is.ended.0 ended in (
        drop (l.to + 1) bytes,
        sym (take-append-drop l.to bytes) ∙ ap (λ (t : List ℕ). t ++ drop l.to bytes) (sym text_to)
            ∙ ap (λ (t : List ℕ). (take at bytes ++ piece) ++ t) (drop_more bytes l.to 0 less ∙ ap (λ (b : ℕ). b ∷ drop (l.to + 1) bytes) (is.ends less)),
      )
  has_line false ended =
      let whole : length bytes ≤ l.to = elim (cases_lt l.to (length bytes)) [
        | inl less ↦ absurd (false≢true (sym ended ∙ is.ended.1 less))
        | inr end ↦ end
      ] in
      sym (text_to ∙ take_all l.to bytes whole)

  pub read_fault : (P : Progress) (b : Builder) (f : DocFault) → length bytes ≤ most_document_bytes → HasRead P b (take at bytes) → (P' : Progress) (b' : Builder) → ReadsLine P b piece l.ended P' b' (Err (Fault f)) → IsDocFault bytes f
  read_fault P b f short read P' b' fault =
      fault_at bytes (take at bytes) piece l.ended f short (has_line l.ended refl) piece_free (fault (take at bytes) read)
      (λ behind none unended. false≢true (sym unended ∙ piece_some none))

  pub read_stop : (P : Progress) (b : Builder) → length bytes ≤ most_document_bytes → HasRead P b (take at bytes) → (P' : Progress) (b' : Builder) (e : ReadDoc) → ReadsLine P b piece l.ended P' b' (Err e) → ReadsLines bytes P' b' (Err e)
  read_stop P b short read P' b' (Fault f) fault = read_fault P b f short read P' b' fault
  read_stop P b short read P' b' NoMemory none = tt

  pub read_next : (P P' : Progress) (b b' : Builder) → HasRead P b (take at bytes) → ReadsLine P b piece l.ended P' b' (Ok tt) → HasRead P' b' (take l.next bytes)
  read_next P P' b b' read on = subst (HasRead P' b') (next_text on.0) (on.2 (take at bytes) read)

pub read_all : (bytes : List ℕ) (at : ℕ) (P : Progress) (b : Builder) → at ≡ length bytes → HasRead P b (take at bytes) → HasRead P b bytes
read_all bytes at P b end read = subst (HasRead P b) (take_all at bytes (omega (arith, end))) read

-- what is read, as the whole answer
abbrev pub Answers : List ℕ → Result Document ReadDoc → Type 0
Answers bytes (Ok D) = IsTextOf bytes D
Answers bytes (Err (Fault f)) = IsDocFault bytes f
Answers bytes (Err NoMemory) = Unit {0}

pub whole_answer : (bytes : List ℕ) (r : Result Document ReadDoc) → Answers bytes r → ReadsDocument bytes r × IsOnlyAnswer bytes r
whole_answer bytes (Ok D) is = (is, (λ E other. (has_one_answer bytes).document E D other is, λ f fault. (has_one_answer bytes).either D f is fault))
whole_answer bytes (Err (Fault f)) fault = ((fault, λ D is. (has_one_answer bytes).either D f is fault), λ g other. (has_one_answer bytes).fault g f other fault)
whole_answer bytes (Err NoMemory) is = (tt, tt)

pub ended : (bytes : List ℕ) (P : Progress) (b : Builder) (r : Result Document ReadDoc) → length bytes ≤ most_document_bytes → HasRead P b bytes → EndsDocument P b r → Answers bytes r
ended bytes P b (Ok D) short read ends = ends bytes short read
ended bytes P b (Err (Fault f)) short read ends = ends bytes short read
ended bytes P b (Err NoMemory) short read ends = tt

pub stopped : (bytes : List ℕ) (P : Progress) (b : Builder) (e : ReadDoc) → ReadsLines bytes P b (Err e) → Answers bytes (Err e)
stopped bytes P b (Fault f) fault = fault
stopped bytes P b NoMemory fault = tt
