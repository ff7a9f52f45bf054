-- What an intake answers at the end of the input.
use Rattle.std.proofs.Common.{◌≡◌, ℕ, ◌<◌, ◌≤◌, inl, true, false, List, [], ◌++◌, ◌==◌, length, Option, None, Some, Result, Ok, Err, refl, sym, ◌∙◌, ap, subst}
use Rattle.std.proofs.lemmas.Bool.{true≢false}
use Rattle.std.proofs.lemmas.Bool.Decides.{Decides-eqb}
use Rattle.std.proofs.lemmas.List.{append-nil, nil_from_length}
use Rattle.bp_base.specs.declared.point.Floor.{Floor}
use Rattle.bp_base.specs.declared.point.Point.{Point}
use Rattle.bp_base.specs.declared.point.Sheet.{Sheet}
use Rattle.bp_base.specs.declared.refutation.Refutation.{Refutation}
use Rattle.bp_base.specs.Limits.{most_document_bytes}
use Rattle.bp_base.specs.Tree.{TreeValue}
use Rattle.bp_document.specs.declared.document.Document.{Document}
use Rattle.bp_document.specs.declared.fault.DocKind.TheVariants.{TooLong}
use Rattle.bp_document.specs.declared.fault.DocFault.{DocFault}
use Rattle.bp_document.specs.declared.head.Head.{Head}
use Rattle.bp_document.specs.declared.node_line.NodeLine.{NodeLine}
use Rattle.bp_document.specs.Faults.{HasOneAnswer, IsDocFault}
use Rattle.bp_document.specs.Places.{IsHead}
use Rattle.bp_document.specs.Stages.{told_head}
use Rattle.bp_document.specs.Scanning.{Progress, FeedsLine, FinishesText, HasSameFault, HasTold, IsDocumentFed, TellsHead}
use Rattle.bp_document.specs.Told.{IsProofTold, IsToldBy, node_list}
use Rattle.bp_document.proofs.ReadBytes.{cut_fault, fault_at}
use Rattle.bp_check.specs.declared.fault.Streamed.{Streamed}
use Rattle.bp_check.specs.declared.found.Found.{Found}
use Rattle.bp_check.specs.declared.intake.Intake.{Intake}
use Rattle.bp_check.specs.declared.stack.Stack.{Stack}
use Rattle.bp_check.specs.declared.verdict.Reason.{Reason}
use Rattle.bp_check.specs.Stack.{HasTaken}
use Rattle.bp_check.specs.Verdicts.{HasParts, IsFoundOf, IsReasonBeforeProof, IsVerdictOf, verdict_of}
use Rattle.bp_check.specs.Intake.{HasLineFault, TakenInTo, HasTakenIn, IsScanned, IsWhole, EndsIntake, AnswersText}
use Rattle.bp_check.specs.Streams.{ChecksText, IsRefused}
use Rattle.bp_check.proofs.Intakes.{held_fault, held_none, held_some, taken_in_whole}
use Rattle.bp_check.proofs.Reasoning.{yes_is, no_is}

-- a fault leaves no document
refuse : (bytes : List ℕ) (f : DocFault) → HasOneAnswer bytes → IsDocFault bytes f → IsRefused bytes f
refuse bytes f one fault = record { fault = fault; none = λ D is. one.either D f is fault }

pub too_long : (T : TreeValue) (bytes : List ℕ) → HasOneAnswer bytes → most_document_bytes < length bytes → AnswersText T bytes (Err (record { line = 0; kind = TooLong }))
too_long T bytes one long = refuse bytes (record { line = 0; kind = TooLong }) one (inl (long, refl))

pub fault_in : (T : TreeValue) (p : Intake) (bytes : List ℕ) (f : DocFault) → HasOneAnswer bytes → length bytes ≤ most_document_bytes → p.fault ≡ Some f → HasTakenIn T p bytes → AnswersText T bytes (Err f)
fault_in T p bytes f one short is passed =
    let there : HasLineFault bytes f = subst (TakenInTo T p bytes) is passed in
    refuse bytes f one (fault_at bytes there.text there.line true f short there.stands there.free there.fault (λ behind none ended. true≢false ended))

pub fault_at_end : (T : TreeValue) (p q : Intake) (bytes : List ℕ) (f : DocFault) → HasOneAnswer bytes → length bytes ≤ most_document_bytes → EndsIntake p q (Err f) → HasTakenIn T p bytes → AnswersText T bytes (Err f)
fault_at_end T p q bytes f one short ends passed = refuse bytes f one (ends T bytes passed short)

-- the end behind whole lines
module _ (p : Intake) (whole : p.fault ≡ None) (empty : p.held ≡ []) where
  lines_whole : (T : TreeValue) (bytes : List ℕ) → HasTakenIn T p bytes → (ns : List NodeLine) × IsScanned T p bytes ns ns
  lines_whole T bytes passed =
      let so_far = taken_in_whole T p bytes whole passed in
      let none : so_far.1 ≡ [] = held_none p.held so_far.1 so_far.4 empty in
      let text : so_far.0 ≡ bytes = sym (so_far.3 ∙ ap (λ (t : List ℕ). so_far.0 ++ t) none ∙ append-nil so_far.0) in
      (so_far.2, subst (λ (t : List ℕ). IsScanned T p t so_far.2 so_far.2) text so_far.6)

  pub finishes : (r : Result Unit DocFault) → FinishesText p.scanner r → EndsIntake p p r
  finishes (Ok done) ends = λ T bytes passed.
      let lines = lines_whole T bytes passed in
      record { nodes = lines.0; scanned = lines.1; document = ends bytes lines.0 lines.1.fed }
  finishes (Err f) ends = λ T bytes passed short.
      let lines = lines_whole T bytes passed in
      cut_fault bytes f short ends.0 (ends.1 bytes lines.0 lines.1.fed)

-- the line that has no LF
pub unended : (p q : Intake) (P : Progress) (f : DocFault) → p.fault ≡ None → (p.held ≡ [] → ⊥) → ((line : List ℕ) → HasSameFault p.held line) → FeedsLine p.scanner p.held false P (Err f) → EndsIntake p q (Err f)
unended p q P f whole some law fed T bytes passed short =
    let so_far = taken_in_whole T p bytes whole passed in
    let text = so_far.0 in
    let line = so_far.1 in
    fault_at bytes text line false f short so_far.3 so_far.5 (held_fault p.held line so_far.4 (law line) text false f (fed.1 text so_far.2 so_far.6.fed))
    (λ behind none ended. held_some p.held line so_far.4 some none)

-- what is found of the proof that was told
found_told : (T : TreeValue) (G : Sheet) (S : Stack) (f : Found) (proof : Option Refutation) (count : Option ℕ) (ns : List NodeLine) → ((r : Refutation) → HasTaken T G S (node_list r 0) → IsFoundOf T G (Some r) f) → (HasTaken T G S [] → IsFoundOf T G None f) → IsProofTold proof count ns → HasTaken T G S ns → IsFoundOf T G proof f
found_told T G S f None None ns some none told taken = none (subst (HasTaken T G S) told taken)
found_told T G S f (Some r) (Some c) ns some none told taken = some r (subst (HasTaken T G S) (sym told.0) taken)
found_told T G S f None (Some c) ns some none told taken = absurd told
found_told T G S f (Some r) None ns some none told taken = absurd told

-- the head that was told
pub head_is : (T : TreeValue) (p : Intake) (bytes : List ℕ) (H : Head) → IsWhole T p bytes → told_head p.scanner.stage ≡ Some H → HasTold p.scanner → IsHead H
head_is T p bytes H whole told tells = (subst (TellsHead bytes whole.nodes) told (tells bytes whole.nodes whole.scanned.fed)).1

same_some : (o : Option Head) (H K : Head) → o ≡ Some H → o ≡ Some K → H ≡ K
same_some o H K first second = let both : Some H ≡ Some K = sym first ∙ second in cc

-- the verdict, as the code has it
pub with_floor : (D : Document) (bound side : ℕ) (tree : TreeValue) (G : Sheet) (s : ℕ) (P : List Point) (floor : Floor) (f : Found) → HasParts D tree G s P floor → D.bound ≡ bound → floor.side ≡ side → verdict_of bound side f ≡ verdict_of D.bound D.floor.side f
with_floor D bound side tree G s P floor f parts is low = λ i. verdict_of (sym is i) (sym (ap (λ (g : Floor). g.side) parts.floor_is ∙ low) i) f

on_points : (D : Document) (tree : TreeValue) (G : Sheet) (s : ℕ) (P Q : List Point) (floor : Floor) → Q ≡ P → HasParts D tree G s P floor → HasParts D tree G s Q floor
on_points D tree G s P Q floor same parts = subst (λ (R : List Point). HasParts D tree G s R floor) (sym same) parts

pub reason_there : (T : TreeValue) (D : Document) (tree : TreeValue) (G : Sheet) (s : ℕ) (P Q : List Point) (floor : Floor) (r : Option Reason) → Q ≡ P → ((E : Document) → HasParts E tree G s Q floor → IsReasonBeforeProof T E r) → HasParts D tree G s P floor → IsReasonBeforeProof T D r
reason_there T D tree G s P Q floor r same before parts = before D (on_points D tree G s P Q floor same parts)

-- the answer, as the code has it: of the intake on its sheet, by this head
pub answered : (T : TreeValue) (p : Intake) (bytes : List ℕ) (H : Head) (f : Found) (s : Streamed) → IsWhole T p bytes → length bytes ≤ most_document_bytes
    → told_head p.scanner.stage ≡ Some H
    → p.metric.sheet ≡ H.sheet
    → ((r : Refutation) → HasTaken p.metric.tree p.metric.sheet p.stack (node_list r 0) → IsFoundOf p.metric.tree p.metric.sheet (Some r) f)
    → (HasTaken p.metric.tree p.metric.sheet p.stack [] → IsFoundOf p.metric.tree p.metric.sheet None f)
    → s.side ≡ H.side
    → s.bound ≡ H.bound
    → ((D : Document) → HasParts D H.tree p.metric.sheet H.side H.points H.floor → D.bound ≡ H.bound → IsFoundOf p.metric.tree p.metric.sheet D.proof f → IsVerdictOf p.metric.tree D s.verdict)
    → ChecksText T bytes s
answered T p bytes H f s whole short told sheet some none side bound verdict =
    let D = whole.document.document in
    let same : whole.document.told ≡ H = same_some (told_head p.scanner.stage) whole.document.told H whole.document.head told in
    let is : IsToldBy D H whole.nodes = subst (λ (K : Head). IsToldBy D K whole.nodes) same whole.document.is in
    let taken : HasTaken p.metric.tree p.metric.sheet p.stack whole.nodes = subst (λ (U : TreeValue). HasTaken U p.metric.sheet p.stack whole.nodes) (sym whole.scanned.tree) whole.scanned.taken in
    let found = found_told p.metric.tree p.metric.sheet p.stack f D.proof H.proof whole.nodes some none is.proof taken in
    let parts : HasParts D H.tree p.metric.sheet H.side H.points H.floor = record { tree_is = is.tree; sheet_is = is.sheet ∙ sym sheet; side_is = is.side; points_are = is.points; floor_is = is.floor } in
    let v : IsVerdictOf T D s.verdict = subst (λ (U : TreeValue). IsVerdictOf U D s.verdict) whole.scanned.tree (verdict D parts is.bound found) in
    record {
      document = D;
      text = whole.document.whole short;
      side = side ∙ sym is.side;
      bound = bound ∙ sym is.bound;
      yes = yes_is T D s.verdict v;
      no = no_is T D s.verdict v;
    }

-- the intake on its sheet is as whole
pub whole_on : (T : TreeValue) (p q : Intake) (bytes : List ℕ) → q.scanner ≡ p.scanner → ((ns : List NodeLine) → IsScanned T p bytes ns ns → IsScanned T q bytes ns ns) → IsWhole T p bytes → IsWhole T q bytes
whole_on T p q bytes same scanned whole = record {
  nodes = whole.nodes;
  scanned = scanned whole.nodes whole.scanned;
  document = subst (λ (P : Progress). IsDocumentFed bytes whole.nodes (told_head P.stage)) (sym same) whole.document;
}

-- whether nothing is held
pub empty_line : (line held : List ℕ) → line ≡ held → true ≡ (length line == 0) → held ≡ []
empty_line line held same is = sym same ∙ nil_from_length line ((Decides-eqb (length line) 0).0 (sym is))

pub some_line : (line held : List ℕ) → line ≡ held → false ≡ (length line == 0) → held ≡ [] → ⊥
some_line line held same is none = true≢false (sym ((Decides-eqb (length line) 0).1 (ap length (same ∙ none))) ∙ sym is)
