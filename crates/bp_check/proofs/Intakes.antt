-- Bytes that are taken in, line by line.
use Rattle.std.proofs.Common.{◌≡◌, ◌≢◌, ◌⊎◌, ℕ, ◌+◌, ◌-◌, ◌≤◌, inl, inr, true, false, cond, Bool, List, [], ◌∷◌, ◌++◌, length, take, drop, All, Option, None, Some, Result, Ok, Err, refl, sym, ◌∙◌, ap, subst, arith, append_assoc, length-append}
use Rattle.std.specs.Option.{is_some}
use Rattle.std.proofs.lemmas.Bool.{cases_lt, true≢false}
use Rattle.std.proofs.lemmas.List.{append-nil, take_all, length-take, nil_from_length}
use Rattle.std.proofs.lemmas.List.Elements.{All-take, All-append}
use Rattle.std.proofs.Math.Seq.{take-add}
use Rattle.bp_base.specs.declared.point.Sheet.{Sheet}
use Rattle.bp_base.specs.declared.point.Line.{Line}
use Rattle.bp_base.specs.Limits.{most_proof_lines}
use Rattle.bp_base.specs.Tree.{TreeValue}
use Rattle.bp_text.specs.Lines.{IsLineAt}
use Rattle.bp_metric.specs.Metric.{MetricValue, IsSheet}
use Rattle.bp_document.specs.declared.fault.DocFault.{DocFault}
use Rattle.bp_document.specs.declared.head.Head.{Head}
use Rattle.bp_document.specs.declared.node_line.NodeLine.{NodeLine}
use Rattle.bp_document.specs.declared.stage.Stage.{Stage}
use Rattle.bp_document.specs.declared.stage.Stage.TheVariants.{Version, Sheet as SheetStage, Edges, Edge as EdgeStage, Side, Bound, Points, Proof, Nodes, Behind as BehindStage, Broken}
use Rattle.bp_document.specs.Forms.{IsProofCount}
use Rattle.bp_document.specs.Places.{count_of, IsStart}
use Rattle.bp_document.specs.Stages.{told_head, with_node}
use Rattle.bp_document.specs.Scanning.{Progress, HasFed, FeedsLine, IsFaultBehind, IsFineBehind, TellsHead, HasTold, IsTooLongForAll, HasSameFault}
use Rattle.bp_document.proofs.ReadBytes.{next_text}
use Rattle.bp_check.specs.declared.intake.Intake.{Intake}
use Rattle.bp_check.specs.declared.stack.Stack.{Stack}
use Rattle.bp_check.specs.Stack.{HasTaken, IsStack}
use Rattle.bp_check.specs.Intake.{Starts, IsScanned, HasScanned, IsAhead, HasLineFault, TakenInTo, HasTakenIn, IsUnderway, Takes, end_of}
use Rattle.bp_check.proofs.Sheets.{one_sheet, starts_more}
use Rattle.bp_check.proofs.Taking.{takes_none}
use Rattle.bp_document.specs.Scanning.{most_line}
use Rattle.bp_check.specs.Held.{most_held}

-- there are no more nodes than a proof may have
counted_nodes : (count : Option ℕ) (n : ℕ) → IsProofCount count → n ≤ count_of count → n ≤ most_proof_lines
counted_nodes None n range few = omega (arith, few)
counted_nodes (Some c) n range few = omega (arith, few, range.1)

no_nodes : (ns : List NodeLine) → ns ≡ [] → length ns ≤ most_proof_lines
no_nodes ns none = omega (arith, ap length none)

few_at : (s : Stage) (lines : ℕ) (text : List ℕ) (ns : List NodeLine) → HasFed (record { lines = lines; stage = s }) text ns → length ns ≤ most_proof_lines
few_at (Version m) lines text ns fed = no_nodes ns (fed.none tt)
few_at (SheetStage m) lines text ns fed = no_nodes ns (fed.none tt)
few_at (Edges G m) lines text ns fed = no_nodes ns (fed.none tt)
few_at (EdgeStage G count left m) lines text ns fed = no_nodes ns (fed.none tt)
few_at (Side p) lines text ns fed = no_nodes ns (fed.none tt)
few_at (Bound p) lines text ns fed = no_nodes ns (fed.none tt)
few_at (Points p) lines text ns fed = no_nodes ns (fed.none tt)
few_at (Proof p m side) lines text ns fed = no_nodes ns (fed.none tt)
few_at (Nodes H left most) lines text ns fed = counted_nodes H.proof (length ns) fed.stands.1.proof (omega (arith, fed.stands.3))
few_at (BehindStage H) lines text ns fed = counted_nodes H.proof (length ns) fed.stands.1.proof (omega (arith, fed.stands.3))
few_at (Broken told) lines text ns fed = absurd fed.stands

pub few_nodes : (P : Progress) (text : List ℕ) (ns : List NodeLine) → HasFed P text ns → length ns ≤ most_proof_lines
few_nodes P text ns fed = few_at P.stage P.lines text ns fed

-- what is kept and how many nodes there are, as the stack asks for it
pub scanned_kept : (T : TreeValue) (p : Intake) (text : List ℕ) (all ns : List NodeLine) → IsScanned T p text all ns → IsStack p.metric.tree p.metric.sheet p.stack
scanned_kept T p text all ns is = subst (λ (S : TreeValue). IsStack S p.metric.sheet p.stack) (sym is.tree) is.taken.kept

pub scanned_room : (T : TreeValue) (p : Intake) (text : List ℕ) (l : NodeLine) (ns : List NodeLine) → IsScanned T p text (ns ++ l ∷ []) ns → p.stack.count + 1 ≤ most_proof_lines
scanned_room T p text l ns is = omega (arith, is.taken.count, few_nodes p.scanner text (ns ++ l ∷ []) is.fed, length-append ns (l ∷ []))

sheet_of_start : (start : List ℕ) (G : Sheet) → IsStart start G → IsSheet G
sheet_of_start start G (inl first) = subst IsSheet (sym first.1) tt
sheet_of_start start G (inr second) = second.1

-- what a head tells of the sheet
told_starts : (text : List ℕ) (ns : List NodeLine) (H : Head) → TellsHead text ns (Some H) → Starts text H.sheet
told_starts text ns H (inl nodes, head, follow) = (_, nodes)
told_starts text ns H (inr whole, head, follow) = (_, whole)

pub told_sheet : (p : Intake) (H : Head) → told_head p.scanner.stage ≡ Some H → HasTold p.scanner → HasScanned p → IsSheet H.sheet
told_sheet p H told tells scanned =
    let starts : Starts scanned.1 H.sheet = told_starts scanned.1 scanned.2 H (subst (TellsHead scanned.1 scanned.2) told (tells scanned.1 scanned.2 scanned.4.fed)) in
    sheet_of_start starts.1.0 H.sheet starts.1.1

-- what the stack has taken, on another sheet of which the text begins as one too
other_sheet : (T : TreeValue) (p : Intake) (text : List ℕ) (ns : List NodeLine) (G : Sheet) → Starts text G → HasTaken T p.metric.sheet p.stack ns → (ns ≡ []) ⊎ Starts text p.metric.sheet → HasTaken T G p.stack ns
other_sheet T p text ns G here taken (inl none) =
    let empty : HasTaken T p.metric.sheet p.stack [] = subst (HasTaken T p.metric.sheet p.stack) none taken in
    subst (HasTaken T G p.stack) (sym none) (takes_none T G p.stack empty.is)
other_sheet T p text ns G here taken (inr there) = subst (λ (F : Sheet). HasTaken T F p.stack ns) (one_sheet text p.metric.sheet G there here) taken

pub set_some : (T : TreeValue) (p : Intake) (M : MetricValue) (text : List ℕ) (all ns : List NodeLine) (H : Head) → told_head p.scanner.stage ≡ Some H → HasTold p.scanner → M ≡ record { tree = p.metric.tree; sheet = H.sheet } → IsScanned T p text all ns → IsScanned T (record p { metric = M }) text all ns × ((all ≡ []) ⊎ Starts text M.sheet)
set_some T p M text all ns H told tells is scanned =
    let starts : Starts text H.sheet = told_starts text all H (subst (TellsHead text all) told (tells text all scanned.fed)) in
    subst (λ (N : MetricValue). IsScanned T (record p { metric = N }) text all ns × ((all ≡ []) ⊎ Starts text N.sheet)) (sym is) (
      record {
        unbroken = scanned.unbroken;
        fed = scanned.fed;
        tree = scanned.tree;
        taken = other_sheet T p text ns H.sheet starts scanned.taken scanned.sheet;
        sheet = inr starts;
      },
      inr starts,
    )

-- the node is judged too
pub judged : (T : TreeValue) (p : Intake) (S : Stack) (text : List ℕ) (ns : List NodeLine) (l : NodeLine) → IsScanned T p text (ns ++ l ∷ []) ns → (ns ++ l ∷ [] ≡ []) ⊎ Starts text p.metric.sheet → ((lines : List NodeLine) → HasTaken p.metric.tree p.metric.sheet p.stack lines → HasTaken p.metric.tree p.metric.sheet S (lines ++ l ∷ [])) → IsScanned T (record p { stack = S }) text (ns ++ l ∷ []) (ns ++ l ∷ [])
judged T p S text ns l scanned (inl none) takes = absurd (omega (arith, ap length none, length-append ns (l ∷ [])))
judged T p S text ns l scanned (inr starts) takes = record {
  unbroken = scanned.unbroken;
  fed = scanned.fed;
  tree = scanned.tree;
  taken = subst (λ (U : TreeValue). HasTaken U p.metric.sheet S (ns ++ l ∷ [])) scanned.tree (takes ns (subst (λ (U : TreeValue). HasTaken U p.metric.sheet p.stack ns) (sym scanned.tree) scanned.taken));
  sheet = inr starts;
}

-- the line that is held, and its first bytes
module _ (held line : List ℕ) (is : held ≡ take most_held line) where
  long_is : length held ≤ most_line → held ≡ line
  long_is short = is ∙ take_all most_held line (omega (arith, short, ap length is, length-take most_held line))

  pub held_free : All (λ b. b ≢ 10) line → All (λ b. b ≢ 10) held
  held_free free = subst (All (λ b. b ≢ 10)) (sym is) (All-take (λ b. b ≢ 10) most_held line free)

  pub held_fine : IsTooLongForAll held → (text : List ℕ) (n : Option NodeLine) → IsFineBehind text held n → held ≡ line
  held_fine law text n fine = elim (cases_lt most_line (length held)) [
    | inl long ↦ absurd (law long fine.place fine.form)
    | inr short ↦ long_is short
  ]

  pub held_fault : HasSameFault held line → (text : List ℕ) (ended : Bool) (f : DocFault) → IsFaultBehind text held ended f → IsFaultBehind text line ended f
  held_fault law text ended f fault = elim (cases_lt most_line (length held)) [
    | inl long ↦ record {
      place = fault.place;
      leads = fault.leads;
      number = fault.number;
      kind = law long (omega (arith, long, ap length is, length-take most_held line)) fault.place ended f.kind fault.kind;
    }
    | inr short ↦ subst (λ (b : List ℕ). IsFaultBehind text b ended f) (long_is short) fault
  ]

  pub held_some : (held ≡ [] → ⊥) → line ≡ [] → ⊥
  held_some some none = some (is ∙ ap (take most_held) none)

  pub held_none : held ≡ [] → line ≡ []
  held_none none = nil_from_length line (omega (arith, ap length (sym is ∙ none), length-take most_held line))

-- the scanner went on, and the line that is held is another
abbrev pub fed_on : Intake → Progress → List ℕ → Intake
fed_on p P held = record p { scanner = P; held = held }

-- the line that is held, as the code has it
pub fed_held : (P Q : Progress) (line held : List ℕ) (ended : Bool) (r s : Result (Option NodeLine) DocFault) → line ≡ held → r ≡ s → FeedsLine P line ended Q r → FeedsLine P held ended Q s
fed_held P Q line held ended r s same is fed = subst (λ (h : List ℕ). FeedsLine P h ended Q s) same (subst (FeedsLine P line ended Q) is fed)

-- a line that has no fault
pub line_scanned : (T : TreeValue) (p : Intake) (P : Progress) (now text line : List ℕ) (ns : List NodeLine) (node : Option NodeLine) → IsScanned T p text ns ns → p.held ≡ take most_held line → IsTooLongForAll p.held → FeedsLine p.scanner p.held true P (Ok node) → IsScanned T (fed_on p P now) (text ++ (line ++ 10 ∷ [])) (with_node ns node) ns
line_scanned T p P now text line ns node scanned held law fed =
    let same : p.held ≡ line = held_fine p.held line held law text node (fed.3 text ns scanned.fed) in
    record {
      unbroken = fed.1;
      fed = subst (λ (b : List ℕ). HasFed P (text ++ (b ++ 10 ∷ [])) (with_node ns node)) same (fed.2 text ns scanned.fed);
      tree = scanned.tree;
      taken = scanned.taken;
      sheet = elim scanned.sheet [ inl none ↦ inl none | inr starts ↦ inr (starts_more text (line ++ 10 ∷ []) p.metric.sheet starts) ];
    }

-- what was taken, where no line has a fault
pub taken_in_whole : (T : TreeValue) (p : Intake) (bytes : List ℕ) → p.fault ≡ None → HasTakenIn T p bytes → TakenInTo T p bytes None
taken_in_whole T p bytes whole passed = subst (TakenInTo T p bytes) whole passed

pub whole_taken_in : (T : TreeValue) (p : Intake) (bytes : List ℕ) → p.fault ≡ None → TakenInTo T p bytes None → HasTakenIn T p bytes
whole_taken_in T p bytes whole passed = subst (TakenInTo T p bytes) (sym whole) passed

-- the next line begins
pub line_taken_in : (T : TreeValue) (q : Intake) (bytes text line : List ℕ) (ns : List NodeLine) → bytes ≡ text ++ line → q.held ≡ [] → q.fault ≡ None → IsScanned T q (text ++ (line ++ 10 ∷ [])) ns ns → HasTakenIn T q (bytes ++ 10 ∷ [])
line_taken_in T q bytes text line ns is held whole scanned =
    whole_taken_in T q (bytes ++ 10 ∷ []) whole (
      text ++ (line ++ 10 ∷ []),
      [],
      ns,
      ap (λ (t : List ℕ). t ++ 10 ∷ []) is ∙ append_assoc text line (10 ∷ []) ∙ sym (append-nil (text ++ (line ++ 10 ∷ []))),
      held,
      (λ k d less. absurd (omega (arith, less))),
      scanned,
    )

-- The line that is held has its LF: it gives no node, or one that is judged, or it has a fault.
module _ (p : Intake) (P : Progress) (now : List ℕ) (whole : p.fault ≡ None) (empty : now ≡ []) (law : IsTooLongForAll p.held) where
  pub no_node : FeedsLine p.scanner p.held true P (Ok None) → Takes p (fed_on p P now) (10 ∷ [])
  no_node fed T before passed =
      let so_far = taken_in_whole T p before whole passed in
      line_taken_in T (fed_on p P now) before so_far.0 so_far.1 so_far.2 so_far.3 empty whole (line_scanned T p P now so_far.0 so_far.1 so_far.2 None so_far.6 so_far.4 law fed)

  pub node_ahead : (l : NodeLine) → FeedsLine p.scanner p.held true P (Ok (Some l)) → IsUnderway p → IsAhead (fed_on p P now) l
  node_ahead l fed passing =
      let so_far = taken_in_whole passing.0 p passing.1 whole passing.2 in
      (passing.0, so_far.0 ++ (so_far.1 ++ 10 ∷ []), so_far.2, line_scanned passing.0 p P now so_far.0 so_far.1 so_far.2 (Some l) so_far.6 so_far.4 law fed)

  pub node_judged : (q : Intake) (l : NodeLine) → FeedsLine p.scanner p.held true P (Ok (Some l))
      → ((T : TreeValue) (text : List ℕ) (ns : List NodeLine) → IsScanned T (fed_on p P now) text (ns ++ l ∷ []) ns → IsScanned T q text (ns ++ l ∷ []) (ns ++ l ∷ []))
      → q.held ≡ now → q.fault ≡ p.fault → Takes p q (10 ∷ [])
  node_judged q l fed judges held fault = λ T before passed.
      let so_far = taken_in_whole T p before whole passed in
      line_taken_in T q before so_far.0 so_far.1 (so_far.2 ++ l ∷ []) so_far.3 (held ∙ empty) (fault ∙ whole)
      (judges T (so_far.0 ++ (so_far.1 ++ 10 ∷ [])) so_far.2 (line_scanned T p P now so_far.0 so_far.1 so_far.2 (Some l) so_far.6 so_far.4 law fed))

pub line_refused : (p q : Intake) (P : Progress) (f : DocFault) → p.fault ≡ None → ((line : List ℕ) → HasSameFault p.held line) → FeedsLine p.scanner p.held true P (Err f) → q.fault ≡ Some f → Takes p q (10 ∷ [])
line_refused p q P f whole law fed is T before passed =
    let so_far = taken_in_whole T p before whole passed in
    let there : HasLineFault (before ++ 10 ∷ []) f = record {
      text = so_far.0;
      line = so_far.1;
      stands = ([], ap (λ (t : List ℕ). t ++ 10 ∷ []) so_far.3);
      free = so_far.5;
      fault = held_fault p.held so_far.1 so_far.4 (law so_far.1) so_far.0 true f (fed.1 so_far.0 so_far.2 so_far.6.fed);
    } in
    subst (TakenInTo T q (before ++ 10 ∷ [])) (sym is) there

-- what is held has no LF
pub underway_free : (p : Intake) → p.fault ≡ None → IsUnderway p → All (λ b. b ≢ 10) p.held
underway_free p whole passing =
    let so_far = taken_in_whole passing.0 p passing.1 whole passing.2 in
    held_free p.held so_far.1 so_far.4 so_far.5

fault_more : (bytes more : List ℕ) (f : DocFault) → HasLineFault bytes f → HasLineFault (bytes ++ more) f
fault_more bytes more f is = record {
  text = is.text;
  line = is.line;
  stands = (is.stands.0 ++ more, ap (λ (t : List ℕ). t ++ more) is.stands.1 ∙ append_assoc (is.text ++ is.line) (10 ∷ is.stands.0) more);
  free = is.free;
  fault = is.fault;
}

-- after a fault bytes are passed over
over_taken_in : (p : Intake) (f : DocFault) (more : List ℕ) → p.fault ≡ Some f → Takes p p more
over_taken_in p f more is T before passed =
    subst (TakenInTo T p (before ++ more)) (sym is) (fault_more before more f (subst (TakenInTo T p before) is passed))

is_fault : (o : Option DocFault) → true ≡ is_some o → (f : DocFault) × (o ≡ Some f)
is_fault None is = absurd (true≢false is)
is_fault (Some f) is = (f, refl)

pub no_fault : (o : Option DocFault) → false ≡ is_some o → o ≡ None
no_fault None is = refl
no_fault (Some f) is = absurd (true≢false (sym is))

pub refused_over : (p : Intake) (more : List ℕ) → true ≡ is_some p.fault → Takes p p more
refused_over p more is = let f = is_fault p.fault is in over_taken_in p f.0 more f.1

-- a part of the line
pub part_taken_in : (p : Intake) (held : List ℕ) (part : List ℕ) → p.fault ≡ None → All (λ b. b ≢ 10) part → ((line : List ℕ) → p.held ≡ take most_held line → held ≡ take most_held (line ++ part)) → Takes p (record p { held = held }) part
part_taken_in p held part whole free more T before passed =
    let so_far = taken_in_whole T p before whole passed in
    whole_taken_in T (record p { held = held }) (before ++ part) whole (
      so_far.0,
      so_far.1 ++ part,
      so_far.2,
      ap (λ (t : List ℕ). t ++ part) so_far.3 ∙ append_assoc so_far.0 so_far.1 part,
      more so_far.1 so_far.4,
      All-append (λ b. b ≢ 10) so_far.1 part so_far.5 free,
      record { unbroken = so_far.6.unbroken; fed = so_far.6.fed; tree = so_far.6.tree; taken = so_far.6.taken; sheet = so_far.6.sheet },
    )

pub takes_then : (p q r : Intake) (a b : List ℕ) → Takes p q a → Takes q r b → Takes p r (a ++ b)
takes_then p q r a b first second T before passed =
    subst (HasTakenIn T r) (append_assoc before a b) (second T (before ++ a) (first T before passed))

pub takes_as : (p q : Intake) (a b : List ℕ) → a ≡ b → Takes p q a → Takes p q b
takes_as p q a b same takes = subst (Takes p q) same takes

pub takes_none_more : (p : Intake) → Takes p p []
takes_none_more p T before passed = subst (HasTakenIn T p) (sym (append-nil before)) passed

pub underway_on : (p q : Intake) (a : List ℕ) → IsUnderway p → Takes p q a → IsUnderway q
underway_on p q a passing takes = (passing.0, passing.1 ++ a, takes passing.0 passing.1 passing.2)

-- a line of the bytes that are taken
module _ (bytes : List ℕ) (at : ℕ) (l : Line) (is : IsLineAt bytes at l) where
  abbrev part : List ℕ
  part = take (l.to - l.from) (drop l.from bytes)

  text_to : take at bytes ++ part ≡ take l.to bytes
  text_to =
      let to : at + (l.to - at) ≡ l.to = omega (arith, is.after) in
      ap (λ (f : ℕ). take at bytes ++ take (l.to - f) (drop f bytes)) is.from ∙ sym (take-add at (l.to - at) bytes) ∙ ap (λ (n : ℕ). take n bytes) to

  part_is : (ended : Bool) → l.ended ≡ ended → take at bytes ++ (part ++ end_of ended) ≡ take l.next bytes
  part_is true ended = next_text bytes at l is ended
  part_is false ended =
      let whole : length bytes ≤ l.to = elim (cases_lt l.to (length bytes)) [
        | inl less ↦ absurd (true≢false (sym (is.ended.1 less) ∙ ended))
        | inr end ↦ end
      ] in
      let next : l.next ≡ length bytes = is.next ∙ ap (λ (b : Bool). cond b (l.to + 1) (length bytes)) ended in
      ap (λ (t : List ℕ). take at bytes ++ t) (append-nil part) ∙ text_to ∙ take_all l.to bytes whole ∙ sym (take_all l.next bytes (omega (arith, next)))

  pub next_within : l.next ≤ length bytes
  next_within = go l.ended refl
    where
      go : (ended : Bool) → l.ended ≡ ended → l.next ≤ length bytes
      go true ended = omega (arith, is.next ∙ ap (λ (b : Bool). cond b (l.to + 1) (length bytes)) ended, is.ended.0 ended)
      go false ended = omega (arith, is.next ∙ ap (λ (b : Bool). cond b (l.to + 1) (length bytes)) ended)

  pub next_taken : (p q r : Intake) → Takes p q (take at bytes) → Takes q r (part ++ end_of l.ended) → Takes p r (take l.next bytes)
  next_taken p q r so_far here = takes_as p r (take at bytes ++ (part ++ end_of l.ended)) (take l.next bytes) (part_is l.ended refl) (takes_then p q r (take at bytes) (part ++ end_of l.ended) so_far here)
