-- Bytes that are taken in, line by line.
use Rattle.std.proofs.Common.{◌≡◌, ◌≢◌, ℕ, ◌+◌, ◌-◌, ◌≤◌, inl, inr, true, false, cond, Bool, List, [], ◌∷◌, ◌++◌, length, take, drop, All, Option, None, Some, Result, Ok, Err, refl, sym, ◌∙◌, ap, subst, arith, append_assoc}
use Rattle.std.specs.Option.{is_some}
use Rattle.std.specs.Result.{OnOk}
use Rattle.std.proofs.lemmas.Bool.{cases_lt, true≢false}
use Rattle.std.proofs.lemmas.List.{append-nil, take_all, length-take, nil_from_length}
use Rattle.std.proofs.lemmas.List.Elements.{All-take, All-append}
use Rattle.std.proofs.Math.Seq.{take-add}
use Rattle.bp_base.specs.declared.point.Line.{Line}
use Rattle.bp_base.specs.Tree.{TreeValue}
use Rattle.bp_text.specs.Lines.{IsLineAt}
use Rattle.bp_document.specs.declared.fault.DocFault.{DocFault}
use Rattle.bp_document.specs.declared.fault.ReadDoc.{ReadDoc}
use Rattle.bp_document.specs.declared.fault.ReadDoc.TheVariants.{Fault}
use Rattle.bp_document.proofs.ReadBytes.{next_text}
use Rattle.bp_certificate.specs.declared.certificate.CertificateHead.{CertificateHead}
use Rattle.bp_certificate.specs.declared.certificate.Lemma.{Lemma}
use Rattle.bp_certificate.specs.Ranges.{most_line_bytes}
use Rattle.bp_certificate.specs.Stages.{told_head, with_lemma}
use Rattle.bp_certificate.specs.Scanning.{FeedsLine, HasFed, HasSameFault, IsFaultBehind, IsFineBehind, IsTooLongForAll, Progress}
use Rattle.bp_verify.specs.declared.intake.Intake.{Intake}
use Rattle.bp_verify.specs.declared.judge.Judge.{Judge}
use Rattle.bp_verify.specs.Held.{most_held}
use Rattle.bp_verify.specs.Intake.{AreJudged, HasLineFault, HasTakenIn, IsAhead, IsScanned, IsUnderway, TakenInTo, Takes, end_of}

-- what was judged stays so, as long as the head stays
judged_on : (T : TreeValue) (P Q : Progress) (j : Option Judge) (ls : List Lemma) → ((H : CertificateHead) → told_head P.stage ≡ Some H → told_head Q.stage ≡ Some H) → AreJudged T P j ls → AreJudged T Q j ls
judged_on T P Q None ls stays judged = judged
judged_on T P Q (Some j) ls stays judged = (judged.0, stays judged.0 judged.1, judged.2)

-- the line that is held, and its first bytes
module _ (held line : List ℕ) (is : held ≡ take most_held line) where
  long_is : length held ≤ most_line_bytes → held ≡ line
  long_is short = is ∙ take_all most_held line (omega (arith, short, ap length is, length-take most_held line))

  pub held_free : All (λ b. b ≢ 10) line → All (λ b. b ≢ 10) held
  held_free free = subst (All (λ b. b ≢ 10)) (sym is) (All-take (λ b. b ≢ 10) most_held line free)

  pub held_fine : IsTooLongForAll held → (text : List ℕ) (l : Option Lemma) → IsFineBehind text held l → held ≡ line
  held_fine law text l fine = elim (cases_lt most_line_bytes (length held)) [
    | inl long ↦ absurd (law long fine.place fine.form)
    | inr short ↦ long_is short
  ]

  pub held_fault : HasSameFault held line → (text : List ℕ) (ended : Bool) (f : DocFault) → IsFaultBehind text held ended f → IsFaultBehind text line ended f
  held_fault law text ended f fault = elim (cases_lt most_line_bytes (length held)) [
    | inl long ↦ record {
      place = fault.place;
      leads = fault.leads;
      number = fault.number;
      kind = law long (omega (arith, long, ap length is, length-take most_held line)) fault.place ended f.kind fault.kind;
    }
    | inr short ↦ subst (λ (b : List ℕ). IsFaultBehind text b ended f) (long_is short) fault
  ]

  pub held_some : (held ≡ [] → ⊥) → line ≡ [] → ⊥
  held_some some none = some (is ∙ ap (take most_held) none)

  pub held_none : held ≡ [] → line ≡ []
  held_none none = nil_from_length line (omega (arith, ap length (sym is ∙ none), length-take most_held line))

-- the scanner went on, and the line that is held is another
abbrev pub fed_on : Intake → Progress → List ℕ → Intake
fed_on p P held = record p { scanner = P; held = held }

-- the line that is held, as the code has it
pub fed_held : (P Q : Progress) (line held : List ℕ) (ended : Bool) (r s : Result (Option Lemma) ReadDoc) → line ≡ held → r ≡ s → FeedsLine P line ended Q r → FeedsLine P held ended Q s
fed_held P Q line held ended r s same is fed = subst (λ (h : List ℕ). FeedsLine P h ended Q s) same (subst (FeedsLine P line ended Q) is fed)

-- a line that has no fault
pub line_scanned : (T : TreeValue) (p : Intake) (P : Progress) (now text line : List ℕ) (ls : List Lemma) (lemma : Option Lemma) → IsScanned T p text ls ls → p.held ≡ take most_held line → IsTooLongForAll p.held → FeedsLine p.scanner p.held true P (Ok lemma) → IsScanned T (fed_on p P now) (text ++ (line ++ 10 ∷ [])) (with_lemma ls lemma) ls
line_scanned T p P now text line ls lemma scanned held law fed =
    let same : p.held ≡ line = held_fine p.held line held law text lemma (fed.4 text ls scanned.fed) in
    record {
      unbroken = fed.1;
      fed = subst (λ (b : List ℕ). HasFed P (text ++ (b ++ 10 ∷ [])) (with_lemma ls lemma)) same (fed.3 text ls scanned.fed);
      tree = scanned.tree;
      judged = judged_on T p.scanner P p.judge ls fed.2 scanned.judged;
    }

-- what was taken, where no line has a fault
pub taken_in_whole : (T : TreeValue) (p : Intake) (bytes : List ℕ) → p.fault ≡ None → HasTakenIn T p bytes → TakenInTo T p bytes None
taken_in_whole T p bytes whole passed = subst (TakenInTo T p bytes) whole passed

pub whole_taken_in : (T : TreeValue) (p : Intake) (bytes : List ℕ) → p.fault ≡ None → TakenInTo T p bytes None → HasTakenIn T p bytes
whole_taken_in T p bytes whole passed = subst (TakenInTo T p bytes) (sym whole) passed

-- the next line begins
pub line_taken_in : (T : TreeValue) (q : Intake) (bytes text line : List ℕ) (ls : List Lemma) → bytes ≡ text ++ line → q.held ≡ [] → q.fault ≡ None → IsScanned T q (text ++ (line ++ 10 ∷ [])) ls ls → HasTakenIn T q (bytes ++ 10 ∷ [])
line_taken_in T q bytes text line ls is held whole scanned =
    whole_taken_in T q (bytes ++ 10 ∷ []) whole (
      text ++ (line ++ 10 ∷ []),
      [],
      ls,
      ap (λ (t : List ℕ). t ++ 10 ∷ []) is ∙ append_assoc text line (10 ∷ []) ∙ sym (append-nil (text ++ (line ++ 10 ∷ []))),
      held,
      (λ k d less. absurd (omega (arith, less))),
      scanned,
    )

-- The line that is held has its LF: it gives no lemma, or one that is judged, or it has a fault.
module _ (p : Intake) (P : Progress) (now : List ℕ) (whole : p.fault ≡ None) (empty : now ≡ []) (law : IsTooLongForAll p.held) where
  pub no_lemma : FeedsLine p.scanner p.held true P (Ok None) → Takes p (fed_on p P now) (10 ∷ [])
  no_lemma fed T before passed =
      let so_far = taken_in_whole T p before whole passed in
      line_taken_in T (fed_on p P now) before so_far.0 so_far.1 so_far.2 so_far.3 empty whole (line_scanned T p P now so_far.0 so_far.1 so_far.2 None so_far.6 so_far.4 law fed)

  pub lemma_ahead : (l : Lemma) → FeedsLine p.scanner p.held true P (Ok (Some l)) → IsUnderway p → IsAhead (fed_on p P now) l
  lemma_ahead l fed passing =
      let so_far = taken_in_whole passing.0 p passing.1 whole passing.2 in
      (passing.0, so_far.0 ++ (so_far.1 ++ 10 ∷ []), so_far.2, line_scanned passing.0 p P now so_far.0 so_far.1 so_far.2 (Some l) so_far.6 so_far.4 law fed)

  pub lemma_judged : {X E : Type 0} (r : Result X E) (q : Intake) (l : Lemma) → FeedsLine p.scanner p.held true P (Ok (Some l))
      → OnOk r ((T : TreeValue) (text : List ℕ) (ls : List Lemma) → IsScanned T (fed_on p P now) text (ls ++ l ∷ []) ls → IsScanned T q text (ls ++ l ∷ []) (ls ++ l ∷ []))
      → OnOk r (q.held ≡ now) → OnOk r (q.fault ≡ p.fault) → OnOk r (Takes p q (10 ∷ []))
  lemma_judged (Ok x) q l fed judges held fault = λ T before passed.
      let so_far = taken_in_whole T p before whole passed in
      line_taken_in T q before so_far.0 so_far.1 (so_far.2 ++ l ∷ []) so_far.3 (held ∙ empty) (fault ∙ whole)
      (judges T (so_far.0 ++ (so_far.1 ++ 10 ∷ [])) so_far.2 (line_scanned T p P now so_far.0 so_far.1 so_far.2 (Some l) so_far.6 so_far.4 law fed))
  lemma_judged (Err e) q l fed judges held fault = tt

pub line_refused : (p q : Intake) (P : Progress) (f : DocFault) → p.fault ≡ None → ((line : List ℕ) → HasSameFault p.held line) → FeedsLine p.scanner p.held true P (Err (Fault f)) → q.fault ≡ Some f → Takes p q (10 ∷ [])
line_refused p q P f whole law fed is T before passed =
    let so_far = taken_in_whole T p before whole passed in
    let there : HasLineFault (before ++ 10 ∷ []) f = record {
      text = so_far.0;
      line = so_far.1;
      stands = ([], ap (λ (t : List ℕ). t ++ 10 ∷ []) so_far.3);
      free = so_far.5;
      fault = held_fault p.held so_far.1 so_far.4 (law so_far.1) so_far.0 true f (fed so_far.0 so_far.2 so_far.6.fed);
    } in
    subst (TakenInTo T q (before ++ 10 ∷ [])) (sym is) there

-- what is held has no LF
pub underway_free : (p : Intake) → p.fault ≡ None → IsUnderway p → All (λ b. b ≢ 10) p.held
underway_free p whole passing =
    let so_far = taken_in_whole passing.0 p passing.1 whole passing.2 in
    held_free p.held so_far.1 so_far.4 so_far.5

fault_more : (bytes more : List ℕ) (f : DocFault) → HasLineFault bytes f → HasLineFault (bytes ++ more) f
fault_more bytes more f is = record {
  text = is.text;
  line = is.line;
  stands = (is.stands.0 ++ more, ap (λ (t : List ℕ). t ++ more) is.stands.1 ∙ append_assoc (is.text ++ is.line) (10 ∷ is.stands.0) more);
  free = is.free;
  fault = is.fault;
}

-- after a fault bytes are passed over
over_taken_in : (p : Intake) (f : DocFault) (more : List ℕ) → p.fault ≡ Some f → Takes p p more
over_taken_in p f more is T before passed =
    subst (TakenInTo T p (before ++ more)) (sym is) (fault_more before more f (subst (TakenInTo T p before) is passed))

is_fault : (o : Option DocFault) → true ≡ is_some o → (f : DocFault) × (o ≡ Some f)
is_fault None is = absurd (true≢false is)
is_fault (Some f) is = (f, refl)

pub no_fault : (o : Option DocFault) → false ≡ is_some o → o ≡ None
no_fault None is = refl
no_fault (Some f) is = absurd (true≢false (sym is))

pub refused_over : (p : Intake) (more : List ℕ) → true ≡ is_some p.fault → Takes p p more
refused_over p more is = let f = is_fault p.fault is in over_taken_in p f.0 more f.1

-- a part of the line
pub part_taken_in : (p : Intake) (held : List ℕ) (part : List ℕ) → p.fault ≡ None → All (λ b. b ≢ 10) part → ((line : List ℕ) → p.held ≡ take most_held line → held ≡ take most_held (line ++ part)) → Takes p (record p { held = held }) part
part_taken_in p held part whole free more T before passed =
    let so_far = taken_in_whole T p before whole passed in
    whole_taken_in T (record p { held = held }) (before ++ part) whole (
      so_far.0,
      so_far.1 ++ part,
      so_far.2,
      ap (λ (t : List ℕ). t ++ part) so_far.3 ∙ append_assoc so_far.0 so_far.1 part,
      more so_far.1 so_far.4,
      All-append (λ b. b ≢ 10) so_far.1 part so_far.5 free,
      record { unbroken = so_far.6.unbroken; fed = so_far.6.fed; tree = so_far.6.tree; judged = so_far.6.judged },
    )

pub takes_then : (p q r : Intake) (a b : List ℕ) → Takes p q a → Takes q r b → Takes p r (a ++ b)
takes_then p q r a b first second T before passed =
    subst (HasTakenIn T r) (append_assoc before a b) (second T (before ++ a) (first T before passed))

pub takes_as : (p q : Intake) (a b : List ℕ) → a ≡ b → Takes p q a → Takes p q b
takes_as p q a b same takes = subst (Takes p q) same takes

pub takes_none_more : (p : Intake) → Takes p p []
takes_none_more p T before passed = subst (HasTakenIn T p) (sym (append-nil before)) passed

pub underway_on : (p q : Intake) (a : List ℕ) → IsUnderway p → Takes p q a → IsUnderway q
underway_on p q a passing takes = (passing.0, passing.1 ++ a, takes passing.0 passing.1 passing.2)

-- a line of the bytes that are taken
module _ (bytes : List ℕ) (at : ℕ) (l : Line) (is : IsLineAt bytes at l) where
  abbrev pub part : List ℕ
  part = take (l.to - l.from) (drop l.from bytes)

  pub text_to : take at bytes ++ part ≡ take l.to bytes
  text_to =
      let to : at + (l.to - at) ≡ l.to = omega (arith, is.after) in
      ap (λ (f : ℕ). take at bytes ++ take (l.to - f) (drop f bytes)) is.from ∙ sym (take-add at (l.to - at) bytes) ∙ ap (λ (n : ℕ). take n bytes) to

  part_is : (ended : Bool) → l.ended ≡ ended → take at bytes ++ (part ++ end_of ended) ≡ take l.next bytes
  part_is true ended = next_text bytes at l is ended
  part_is false ended =
      let whole : length bytes ≤ l.to = elim (cases_lt l.to (length bytes)) [
        | inl less ↦ absurd (true≢false (sym (is.ended.1 less) ∙ ended))
        | inr end ↦ end
      ] in
      let next : l.next ≡ length bytes = is.next ∙ ap (λ (b : Bool). cond b (l.to + 1) (length bytes)) ended in
      ap (λ (t : List ℕ). take at bytes ++ t) (append-nil part) ∙ text_to ∙ take_all l.to bytes whole ∙ sym (take_all l.next bytes (omega (arith, next)))

  pub next_within : l.next ≤ length bytes
  next_within = go l.ended refl
    where
      go : (ended : Bool) → l.ended ≡ ended → l.next ≤ length bytes
      go true ended = omega (arith, is.next ∙ ap (λ (b : Bool). cond b (l.to + 1) (length bytes)) ended, is.ended.0 ended)
      go false ended = omega (arith, is.next ∙ ap (λ (b : Bool). cond b (l.to + 1) (length bytes)) ended)

  pub next_taken : (p q r : Intake) → Takes p q (take at bytes) → Takes q r (part ++ end_of l.ended) → Takes p r (take l.next bytes)
  next_taken p q r so_far here = takes_as p r (take at bytes ++ (part ++ end_of l.ended)) (take l.next bytes) (part_is l.ended refl) (takes_then p q r (take at bytes) (part ++ end_of l.ended) so_far here)
