-- The lines from the version's to the floor's lead on, or have their first fault.
use Rattle.std.proofs.Common.{◌≡◌, ℕ, suc, ◌+◌, ◌≤◌, inl, inr, true, false, List, [], ◌∷◌, ◌++◌, length, get_or, drop, Option, None, Some, Ok, Err, refl, sym, ◌∙◌, ap, subst, arith, append_assoc}
use Rattle.std.specs.Prelude.{codes, decimal, nat_lt}
use Rattle.std.proofs.lemmas.List.{append-nil, append_cancel_right}
use Rattle.bp_base.specs.declared.point.Sheet.{Sheet}
use Rattle.bp_base.specs.declared.point.Sheet.TheVariants.{Square, Strip}
use Rattle.bp_base.specs.Tree.{leaf_count}
use Rattle.bp_metric.specs.Metric.{IsSheet}
use Rattle.bp_tree.specs.declared.edge.Edge.{Edge}
use Rattle.bp_document.specs.declared.fault.DocKind.TheVariants.{Trailing, Cut, BadForm}
use Rattle.bp_document.specs.declared.head.Head.{Head}
use Rattle.bp_document.specs.declared.stage.Memory.{Memory}
use Rattle.bp_document.specs.declared.stage.Parts.{Parts}
use Rattle.bp_document.specs.declared.stage.Stage.{Stage as DocStage}
use Rattle.bp_document.specs.declared.stage.Stage.TheVariants as doc
use Rattle.bp_document.specs.Lines.{line, sheet_line}
use Rattle.bp_document.specs.Words.{words}
use Rattle.bp_document.specs.Forms.{IsLine, IsSheetLine, version_line, end_line}
use Rattle.bp_document.specs.FormWords.{ReadsField, ReadsSheet, sheet_words}
use Rattle.bp_document.specs.Places.{StartsThen, floor_part, next_leaf}
use Rattle.bp_document.specs.Faults.{HasForm as HasDocForm, HasKind as HasDocKind}
use Rattle.bp_document.specs.declared.node_line.NodeLine.{NodeLine}
use Rattle.bp_document.specs.declared.stage.Step.{Step as DocStep}
use Rattle.bp_document.specs.declared.stage.Fall.{Fall}
use Rattle.bp_document.specs.Stages.{Stands as StandsInDocument, Steps as DocSteps, StepsOn as DocStepsOn, IsWhole as IsWholeDocument, IsWithin as IsWithinDocument, place_of as doc_place_of, head_of as doc_head_of, with_node}
use Rattle.bp_document.proofs.Forms.{sheet_exact}
use Rattle.bp_document.proofs.NodeLines.{spelled_word}
use Rattle.bp_document.proofs.StartSteps.{field_line, no_field}
use Rattle.bp_document.proofs.Leads.{cut_at as doc_cut_at, inside_points}
use Rattle.bp_document.proofs.OneForm.{sheet_one, version_differs}
use Rattle.bp_document.proofs.Runs.{bare, bare_line}
use Rattle.bp_document.proofs.Spelling.{NoEnd, sheet_spelled, version_spelled}
use Rattle.bp_certificate.specs.declared.certificate.CertificateHead.{CertificateHead}
use Rattle.bp_certificate.specs.declared.stage.Halt.TheVariants.{Fault}
use Rattle.bp_certificate.specs.declared.stage.Stage.{Stage}
use Rattle.bp_certificate.specs.declared.stage.Step.{Step}
use Rattle.bp_certificate.specs.Lines.{mirror_line}
use Rattle.bp_certificate.specs.Text.{opening_text}
use Rattle.bp_certificate.specs.Places.{AtVersion, AtSheet, AtMirror, design_part, document_opening}
use Rattle.bp_certificate.specs.Stages.{Falls, IsBodyStage, IsNext, Steps, told_head}
use Rattle.bp_certificate.proofs.BodyLines.{IsBehindBody, next_in_body, no_node}
use Rattle.bp_certificate.proofs.FirstKinds.{bad_form, in_body}

-- a step without a lemma
abbrev pub on : Stage → Step
on s = record { stage = s; lemma = None }

abbrev told_count : Option CertificateHead → ℕ
told_count None = 0
told_count (Some H) = 1

-- before the head is told no head has to stay
pub untold : (s t : Stage) → told_head s ≡ None → (H : CertificateHead) → told_head s ≡ Some H → told_head t ≡ Some H
untold s t none H is = absurd (omega (arith, ap told_count (sym none ∙ is)))

-- lines without a number
pub mirror_text : codes "mirror none" ++ 10 ∷ [] ≡ mirror_line
unfolding line
mirror_text = refl

end_text : codes "end" ++ 10 ∷ [] ≡ end_line
unfolding line
end_text = refl

module _ (bytes w text : List ℕ) (here : w ++ 10 ∷ [] ≡ text) where
  is_line : bytes ≡ w → IsLine bytes text
  is_line is = ap (λ (t : List ℕ). t ++ 10 ∷ []) is ∙ here

  no_line : (bytes ≡ w → ⊥) → IsLine bytes text → ⊥
  no_line other is = other (append_cancel_right bytes w (10 ∷ []) (is ∙ sym here))

pub is_end : (bytes : List ℕ) → bytes ≡ codes "end" → IsLine bytes end_line
is_end bytes is = is_line bytes (codes "end") end_line end_text is

pub no_end : (bytes : List ℕ) → (bytes ≡ codes "end" → ⊥) → IsLine bytes end_line → ⊥
no_end bytes other = no_line bytes (codes "end") end_line end_text other

module _ (bytes : List ℕ) (m : Memory) where
  pub version_fed : (n : ℕ) → ReadsField (codes "boxpleat") 3 3 (words bytes) (Some n) → Steps (Stage.Version m) bytes (Ok (on (Stage.Sheet m)))
  version_fed n reads =
      let is : IsLine bytes (version_line n) = field_line (codes "boxpleat") bytes (spelled_word (codes "boxpleat") refl) 3 3 (omega arith) n reads in
      let three : n ≡ 3 = omega (arith, reads.0, reads.1) in
      let here : IsLine bytes (version_line 3) = subst (λ (k : ℕ). IsLine bytes (version_line k)) three is in
      record {
        whole = tt;
        head = untold (Stage.Version m) (Stage.Sheet m) refl;
        within = λ lines within. omega (arith, within);
        on = λ text es ls stands. (es, here, tt, (ap (λ (t : List ℕ). t ++ (bytes ++ 10 ∷ [])) stands.0 ∙ here, stands.1, stands.2));
      }

  pub version_refused : ReadsField (codes "boxpleat") 3 3 (words bytes) None → Steps (Stage.Version m) bytes (Err (Fault BadForm))
  version_refused reads text es ls stands = bad_form AtVersion tt bytes (λ is.
      no_field (codes "boxpleat") bytes (spelled_word (codes "boxpleat") refl) 3 3 (omega arith) reads 3 (omega arith) (omega arith) is)

  pub sheet_fed : (G : Sheet) → ReadsSheet (words bytes) (Some G) → Steps (Stage.Sheet m) bytes (Ok (on (Stage.Mirror G m)))
  sheet_fed G reads =
      let is = sheet_exact bytes (Some G) reads in
      record {
        whole = tt;
        head = untold (Stage.Sheet m) (Stage.Mirror G m) refl;
        within = λ lines within. omega (arith, within);
        on = λ text es ls stands. (
          es,
          (G, is),
          tt,
          (ap (λ (t : List ℕ). t ++ (bytes ++ 10 ∷ [])) stands.0 ∙ ap (λ (t : List ℕ). version_line 3 ++ t) is.text, stands.1, is.sheet, stands.2),
        );
      }

  pub sheet_refused : ReadsSheet (words bytes) None → Steps (Stage.Sheet m) bytes (Err (Fault BadForm))
  sheet_refused reads text es ls stands = bad_form AtSheet tt bytes (λ form. sheet_exact bytes None reads form.0 form.1)

  opening_is : (G : Sheet) → (version_line 3 ++ sheet_line G) ++ mirror_line ≡ opening_text G
  unfolding opening_text
  opening_is G = append_assoc (version_line 3) (sheet_line G) mirror_line

  pub mirror_fed : (G : Sheet) → bytes ≡ codes "mirror none" → Steps (Stage.Mirror G m) bytes (Ok (on (Stage.Body (doc.Edges G m))))
  mirror_fed G is =
      let here : IsLine bytes mirror_line = is_line bytes (codes "mirror none") mirror_line mirror_text is in
      record {
        whole = tt;
        head = untold (Stage.Mirror G m) (Stage.Body (doc.Edges G m)) refl;
        within = λ lines within. (lines, refl, within, tt);
        on = λ text es ls stands.
            let all : text ++ (bytes ++ 10 ∷ []) ≡ opening_text G ++ [] =
            ap (λ (t : List ℕ). t ++ (bytes ++ 10 ∷ [])) stands.0 ∙ ap (λ (t : List ℕ). (version_line 3 ++ sheet_line G) ++ t) here
            ∙ opening_is G ∙ sym (append-nil (opening_text G)) in
            (es, here, tt, (tt, stands.1, (G, [], stands.2, all, (inr (append-nil (document_opening G), stands.2), stands.3))));
      }

  pub mirror_refused : (G : Sheet) → (bytes ≡ codes "mirror none" → ⊥) → Steps (Stage.Mirror G m) bytes (Err (Fault BadForm))
  mirror_refused G other text es ls stands = bad_form AtMirror tt bytes (no_line bytes (codes "mirror none") mirror_line mirror_text other)

-- two ways to cut off a line
cut_one : (b c x y : List ℕ) → NoEnd b → NoEnd c → b ++ 10 ∷ x ≡ c ++ 10 ∷ y → (b ≡ c) × (x ≡ y)
cut_one [] [] x y free free' same = (refl, ap (drop 1) same)
cut_one [] (d ∷ c) x y free free' same = absurd (free' 0 0 (omega arith) (sym (ap (λ (l : List ℕ). get_or l 0 0) same)))
cut_one (a ∷ b) [] x y free free' same = absurd (free 0 0 (omega arith) (ap (λ (l : List ℕ). get_or l 0 0) same))
cut_one (a ∷ b) (d ∷ c) x y free free' same =
    let first : a ≡ d = ap (λ (l : List ℕ). get_or l 0 0) same in
    let rest = cut_one b c x y (λ k e less. free (suc k) e (omega (arith, less))) (λ k e less. free' (suc k) e (omega (arith, less))) (ap (drop 1) same) in
    (λ i. first i ∷ rest.0 i, rest.1)

-- a text's first line cut off
first_line : (b l rest : List ℕ) → IsLine b l → l ++ rest ≡ b ++ 10 ∷ rest
first_line b l rest here = ap (λ (t : List ℕ). t ++ rest) (sym here) ∙ append_assoc b (10 ∷ []) rest

abbrev version_bare : ℕ → List ℕ
version_bare n = bare (codes "boxpleat") (decimal n ∷ [])

abbrev sheet_bare : Sheet → List ℕ
sheet_bare G = bare (codes "sheet") (sheet_words G)

version_here : (n : ℕ) → IsLine (version_bare n) (version_line n)
version_here n = bare_line (codes "boxpleat") (decimal n ∷ [])

version_free : (n : ℕ) → n ≤ 2 → NoEnd (version_bare n)
version_free n small = (version_spelled (version_bare n) n small (version_here n)).free

sheet_here : (G : Sheet) → IsSheet G → IsSheetLine (sheet_bare G) G
sheet_here Square sheet = record { text = bare_line (codes "sheet") (sheet_words Square); sheet = sheet }
sheet_here (Strip width) sheet = record { text = bare_line (codes "sheet") (sheet_words (Strip width)); sheet = sheet }

sheet_free : (G : Sheet) (sheet : IsSheet G) → NoEnd (sheet_bare G)
sheet_free G sheet = (sheet_spelled (sheet_bare G) G (sheet_here G sheet)).free

-- A text that begins as a document of version 2 on a sheet does so in one way.
pub same_start : (G F : Sheet) (part rest : List ℕ) → IsSheet G → StartsThen (document_opening G ++ part) F rest → (G ≡ F) × (part ≡ rest)
same_start G F part rest sheet starts = elim starts.1 [
  | inl first ↦
      let lines : version_bare 2 ++ 10 ∷ (sheet_line G ++ part) ≡ version_bare 1 ++ 10 ∷ rest =
      sym mine ∙ starts.2 ∙ ap (λ (t : List ℕ). t ++ rest) first.0 ∙ first_line (version_bare 1) (version_line 1) rest (version_here 1) in
      let cut = cut_one (version_bare 2) (version_bare 1) (sheet_line G ++ part) rest (version_free 2 (omega arith)) (version_free 1 (omega arith)) lines in
      absurd (version_differs (version_bare 1) (version_here 1) (subst (λ (b : List ℕ). IsLine b (version_line 2)) cut.0 (version_here 2)))
  | inr second ↦
      let lines : version_bare 2 ++ 10 ∷ (sheet_line G ++ part) ≡ version_bare 2 ++ 10 ∷ (sheet_line F ++ rest) =
      sym mine ∙ starts.2 ∙ ap (λ (t : List ℕ). t ++ rest) second.0 ∙ append_assoc (version_line 2) (sheet_line F) rest
      ∙ first_line (version_bare 2) (version_line 2) (sheet_line F ++ rest) (version_here 2) in
      let cut = cut_one (version_bare 2) (version_bare 2) (sheet_line G ++ part) (sheet_line F ++ rest) (version_free 2 (omega arith)) (version_free 2 (omega arith)) lines in
      let is = sheet_here G sheet in
      let is' = sheet_here F second.1 in
      let rests : sheet_bare G ++ 10 ∷ part ≡ sheet_bare F ++ 10 ∷ rest =
      sym (first_line (sheet_bare G) (sheet_line G) part is.text) ∙ cut.1 ∙ first_line (sheet_bare F) (sheet_line F) rest is'.text in
      let next = cut_one (sheet_bare G) (sheet_bare F) part rest (sheet_free G sheet) (sheet_free F second.1) rests in
      (sheet_one (sheet_bare F) G F (subst (λ (b : List ℕ). IsSheetLine b G) next.0 is) is', next.1)
]
  where
    mine : document_opening G ++ part ≡ version_bare 2 ++ 10 ∷ (sheet_line G ++ part)
    mine = append_assoc (version_line 2) (sheet_line G) part ∙ first_line (version_bare 2) (version_line 2) (sheet_line G ++ part) (version_here 2)

-- What a line of the body does in a document, before its nodes.
abbrev FeedsBody : DocStage → List ℕ → DocStage → Type 0
FeedsBody s bytes d =
    (text : List ℕ) (es : List Edge) → IsBodyStage s → StandsInDocument text es [] s → (next : List Edge) × HasDocForm (doc_place_of s es) bytes × StandsInDocument (text ++ (bytes ++ 10 ∷ [])) next [] d × IsBehindBody d

feeds_body : (s : DocStage) (bytes : List ℕ) (step : DocStep) → DocStepsOn s bytes step → FeedsBody s bytes step.stage
feeds_body s bytes step steps text es body stands =
    let on = steps.on text es [] stands (λ early. refl) in
    let none = no_node s es bytes step.node body on.2 in
    let there : StandsInDocument (text ++ (bytes ++ 10 ∷ [])) on.0 [] step.stage = subst (λ (n : Option NodeLine). StandsInDocument (text ++ (bytes ++ 10 ∷ [])) on.0 (with_node [] n) step.stage) none on.3 in
    (on.0, on.1, there, next_in_body text bytes s step.stage es on.0 body stands on.1 there)

abbrev IsOneMore : DocStage → DocStage → Type 0
IsOneMore s d = IsWholeDocument d × ((lines : ℕ) → IsWithinDocument s lines → IsWithinDocument d (lines + 1))

module _ (bytes : List ℕ) (s : DocStage) where
  abbrev ended_line : List ℕ
  ended_line = bytes ++ 10 ∷ []

  pub body_refused : (fall : Fall) → DocSteps s bytes true (Err fall) → Steps (Stage.Body s) bytes (Err (Fault fall.kind))
  body_refused fall falls text es ls stands =
      let body = stands.2 in
      in_body (doc_place_of s es) bytes true fall.kind (falls.1 (document_opening body.0 ++ body.1) es [] body.4 (λ early. refl))

  stays : (d : DocStage) → (IsBehindBody d → IsBodyStage d) → IsOneMore s d → FeedsBody s bytes d → Steps (Stage.Body s) bytes (Ok (on (Stage.Body d)))
  stays d is more fed = record {
    whole = tt;
    head = untold (Stage.Body s) (Stage.Body d) refl;
    within = λ lines within. (within.0 + 1, omega (arith, within.1), more.1 within.0 within.2, more.0);
    on = λ text es ls stands.
        let body = stands.2 in
        let G = body.0 in
        let part = body.1 in
        let next = fed (document_opening G ++ part) es stands.0 body.4 in
        let all : text ++ ended_line ≡ opening_text G ++ (part ++ ended_line) = ap (λ (t : List ℕ). t ++ ended_line) body.3 ∙ append_assoc (opening_text G) part ended_line in (
          next.0,
          next.1,
          tt,
          (is next.3, stands.1, (G, part ++ ended_line, body.2, all, subst (λ (t : List ℕ). StandsInDocument t next.0 [] d) (append_assoc (document_opening G) part ended_line) next.2)),
        );
  }

  to_count : (p : Parts) (m side : ℕ) → IsOneMore s (doc.Proof p m side) → FeedsBody s bytes (doc.Proof p m side) → Steps (Stage.Body s) bytes (Ok (on (Stage.Count (doc_head_of p m side))))
  to_count p m side more fed = record {
    whole = tt;
    head = untold (Stage.Body s) (Stage.Count (doc_head_of p m side)) refl;
    within = λ lines within. omega (arith, within.1, more.1 within.0 within.2);
    on = λ text es ls stands.
        let body = stands.2 in
        let G = body.0 in
        let part = body.1 in
        let next = fed (document_opening G ++ part) es stands.0 body.4 in
        let there = next.2 in
        let start : StartsThen (document_opening G ++ (part ++ ended_line)) p.sheet (floor_part (doc_head_of p m side)) =
        subst (λ (t : List ℕ). StartsThen t p.sheet (floor_part (doc_head_of p m side))) (append_assoc (document_opening G) part ended_line) there.0 in
        let same = same_start G p.sheet (part ++ ended_line) (floor_part (doc_head_of p m side)) body.2 start in
        let all : text ++ ended_line ≡ design_part (doc_head_of p m side) =
        ap (λ (t : List ℕ). t ++ ended_line) body.3 ∙ append_assoc (opening_text G) part ended_line
        ∙ ap (λ (t : List ℕ). opening_text G ++ t) same.1 ∙ ap (λ (F : Sheet). opening_text F ++ floor_part (doc_head_of p m side)) same.0 in
        (next.0, next.1, tt, (all, stands.1, record { sheet = subst IsSheet same.0 body.2; points = there.1; each = there.2; floor = there.3 }));
  }

  -- a line of the body leads on as in a document, and behind the floor to the number of lemmas
  goes_on : (d : DocStage) (t : Stage) → IsNext d t → IsOneMore s d → FeedsBody s bytes d → Steps (Stage.Body s) bytes (Ok (on t))
  goes_on (doc.Proof p m side) t next more fed = subst (λ (u : Stage). Steps (Stage.Body s) bytes (Ok (on u))) (sym next) (to_count p m side more fed)
  goes_on (doc.Edges G m) t next more fed = subst (λ (u : Stage). Steps (Stage.Body s) bytes (Ok (on u))) (sym next) (stays (doc.Edges G m) (λ b. b) more fed)
  goes_on (doc.Edge G count left m) t next more fed = subst (λ (u : Stage). Steps (Stage.Body s) bytes (Ok (on u))) (sym next) (stays (doc.Edge G count left m) (λ b. b) more fed)
  goes_on (doc.Side p) t next more fed = subst (λ (u : Stage). Steps (Stage.Body s) bytes (Ok (on u))) (sym next) (stays (doc.Side p) (λ b. b) more fed)
  goes_on (doc.Bound p) t next more fed = subst (λ (u : Stage). Steps (Stage.Body s) bytes (Ok (on u))) (sym next) (stays (doc.Bound p) (λ b. b) more fed)
  goes_on (doc.Points p) t next more fed = subst (λ (u : Stage). Steps (Stage.Body s) bytes (Ok (on u))) (sym next) (stays (doc.Points p) (λ b. b) more fed)
  goes_on (doc.Version m) t next more fed = subst (λ (u : Stage). Steps (Stage.Body s) bytes (Ok (on u))) (sym next) (stays (doc.Version m) (λ b. b) more fed)
  goes_on (doc.Sheet m) t next more fed = subst (λ (u : Stage). Steps (Stage.Body s) bytes (Ok (on u))) (sym next) (stays (doc.Sheet m) (λ b. b) more fed)
  goes_on (doc.Nodes H left most) t next more fed = subst (λ (u : Stage). Steps (Stage.Body s) bytes (Ok (on u))) (sym next) (stays (doc.Nodes H left most) (λ b. b) more fed)
  goes_on (doc.Behind H) t next more fed = subst (λ (u : Stage). Steps (Stage.Body s) bytes (Ok (on u))) (sym next) (stays (doc.Behind H) (λ b. b) more fed)
  goes_on (doc.Broken told) t next more fed = subst (λ (u : Stage). Steps (Stage.Body s) bytes (Ok (on u))) (sym next) (stays (doc.Broken told) (λ b. b) more fed)

  pub body_fed : (step : DocStep) (t : Stage) → DocSteps s bytes true (Ok step) → IsNext step.stage t → Steps (Stage.Body s) bytes (Ok (on t))
  body_fed step t steps next = goes_on step.stage t next (steps.1.whole, steps.1.within) (feeds_body s bytes step steps.1)

-- no line of the body stands behind the end
inside : (s : DocStage) (es : List Edge) (bytes : List ℕ) → IsBodyStage s → HasDocKind (doc_place_of s es) bytes false Trailing → ⊥
inside (doc.Edges G m) es bytes body h = h
inside (doc.Edge G count left m) es bytes body h = h
inside (doc.Side p) es bytes body h = h
inside (doc.Bound p) es bytes body h = h
inside (doc.Points p) es bytes body h = inside_points (next_leaf (doc_head_of p 0 0)) bytes (nat_lt (length p.points) (leaf_count p.tree)) h
inside (doc.Proof p m side) es bytes body h = body
inside (doc.Version m) es bytes body h = body
inside (doc.Sheet m) es bytes body h = body
inside (doc.Nodes H left most) es bytes body h = body
inside (doc.Behind H) es bytes body h = body
inside (doc.Broken told) es bytes body h = body

pub body_cut : (s : DocStage) (bytes : List ℕ) → Falls (Stage.Body s) bytes false Cut
body_cut s bytes text es ls stands = in_body (doc_place_of s es) bytes false Cut (doc_cut_at (doc_place_of s es) bytes (inside s es bytes stands.0))

-- what follows a line of the body
pub next_count : (d : DocStage) (p : Parts) (m side : ℕ) (D : Head) → d ≡ doc.Proof p m side → D ≡ doc_head_of p m side → IsNext d (Stage.Count D)
next_count d p m side D is same = subst (λ (e : DocStage). IsNext e (Stage.Count D)) (sym is) (ap Stage.Count same)

pub next_body : (d : DocStage) → ((p : Parts) (m side : ℕ) → d ≡ doc.Proof p m side → ⊥) → IsNext d (Stage.Body d)
next_body (doc.Proof p m side) other = absurd (other p m side refl)
next_body (doc.Edges G m) other = refl
next_body (doc.Edge G count left m) other = refl
next_body (doc.Side p) other = refl
next_body (doc.Bound p) other = refl
next_body (doc.Points p) other = refl
next_body (doc.Version m) other = refl
next_body (doc.Sheet m) other = refl
next_body (doc.Nodes H left most) other = refl
next_body (doc.Behind H) other = refl
next_body (doc.Broken told) other = refl
