-- What a scanner answers, from what its stage stands for.
use Rattle.std.proofs.Common.{◌≡◌, ◌≢◌, ℕ, ◌+◌, ◌≤◌, inl, inr, true, false, List, [], ◌∷◌, ◌++◌, length, All, Bool, Option, None, Some, Result, Ok, Err, refl, sym, ◌∙◌, ap, subst, arith}
use Rattle.std.specs.Prelude.{nat_lt, if◌then◌else◌}
use Rattle.bp_base.specs.Tree.{leaf_count}
use Rattle.bp_tree.specs.declared.edge.Edge.{Edge}
use Rattle.bp_tree.specs.Growing.{no_nodes}
use Rattle.bp_tree.specs.Edges.{IsGrowing}
use Rattle.bp_document.specs.declared.fault.DocKind.{DocKind}
use Rattle.bp_document.specs.declared.fault.DocKind.TheVariants.{Cut, Trailing}
use Rattle.bp_document.specs.declared.fault.ReadDoc.TheVariants.{Fault as ReadFault}
use Rattle.bp_document.specs.declared.stage.Memory.{Memory}
use Rattle.bp_document.specs.declared.stage.Stage.{Stage as DocStage}
use Rattle.bp_document.specs.declared.stage.Stage.TheVariants as doc
use Rattle.bp_document.specs.Places.{AtPoint, AtFloor, next_leaf}
use Rattle.bp_document.specs.Forms.{end_line}
use Rattle.bp_document.specs.Stages.{IsWhole as IsWholeDocument, IsWithin as IsWithinDocument, head_of as doc_head_of, place_of as doc_place_of}
use Rattle.bp_document.proofs.Leads.{leads as leads_in_document}
use Rattle.bp_document.proofs.Scans.{few_lines as few_document_lines, line_more}
use Rattle.bp_certificate.specs.declared.certificate.CertificateHead.{CertificateHead}
use Rattle.bp_certificate.specs.declared.certificate.Lemma.{Lemma}
use Rattle.bp_certificate.specs.declared.certificate.Plan.{Plan}
use Rattle.bp_certificate.specs.declared.stage.Halt.{Halt}
use Rattle.bp_certificate.specs.declared.stage.Halt.TheVariants.{Fault, NoMemory}
use Rattle.bp_certificate.specs.declared.stage.Stage.{Stage}
use Rattle.bp_certificate.specs.declared.stage.Stage.TheVariants.{Version, Sheet, Mirror, Body, Count, Corner, SwapCount, Swaps, Lemmas, End, Behind as BehindStage, Broken}
use Rattle.bp_certificate.specs.declared.stage.Step.{Step}
use Rattle.bp_certificate.specs.Ranges.{most_lemmas}
use Rattle.bp_certificate.specs.Places.{AtVersion, AtSheet, AtMirror, AtCount, AtCorner, AtSwapCount, AtSwap, AtLemma, AtEnd, IsBodyPlace, IsPlan, LeadsTo, count_of, document_opening}
use Rattle.bp_certificate.specs.Stages.{Cuts, Falls, IsBodyStage, IsWhole, IsWithin, Stands, Steps, StepsOrCuts, place_of, told_head, with_lemma}
use Rattle.bp_certificate.specs.Scanning.{FeedsLine, FinishesText, HasFed, HasTold, IsUnbroken, Progress, TellsHead}
use Rattle.bp_certificate.proofs.FirstKinds.{cut_at, trailing_at}
use Rattle.bp_certificate.proofs.OpeningSteps.{body_cut}
use Rattle.bp_certificate.proofs.WholeText.{is_certificate, whole_text}

-- a step at the stage that it is
pub at_stage : (s t : Stage) (bytes : List ℕ) (r : Result Step Halt) → s ≡ t → Steps t bytes r → Steps s bytes r
at_stage s t bytes r same steps = subst (λ (u : Stage). Steps u bytes r) (sym same) steps

pub broken : (bytes : List ℕ) → Steps Broken bytes (Err (Fault Trailing))
broken bytes text es ls stands = absurd stands

pub ended_steps : (s : Stage) (bytes : List ℕ) (ended : Bool) (r : Result Step Halt) → ended ≡ true → Steps s bytes r → StepsOrCuts s bytes ended r
ended_steps s bytes ended (Ok step) is steps = (is, steps)
ended_steps s bytes ended (Err (Fault kind)) is steps = subst (λ (b : Bool). Falls s bytes b kind) (sym is) steps
ended_steps s bytes ended (Err NoMemory) is steps = tt

pub cut_steps : (s : Stage) (bytes : List ℕ) (ended : Bool) (kind : DocKind) → ended ≡ false → Cuts s kind → StepsOrCuts s bytes ended (Err (Fault kind))
cut_steps s bytes ended kind is cuts = subst (λ (b : Bool). Falls s bytes b kind) (sym is) (cuts bytes)

pub cut_behind : (s : Stage) (H : CertificateHead) → s ≡ BehindStage H → Cuts s Trailing
cut_behind s H is bytes = subst (λ (t : Stage). Falls t bytes false Trailing) (sym is) (λ text es ls stands. trailing_at bytes false)

pub cut_before : (s : Stage) → ((H : CertificateHead) → s ≡ BehindStage H → ⊥) → Cuts s Cut
cut_before (Version m) other bytes text es ls stands = cut_at AtVersion tt bytes
cut_before (Sheet m) other bytes text es ls stands = cut_at AtSheet tt bytes
cut_before (Mirror G m) other bytes text es ls stands = cut_at AtMirror tt bytes
cut_before (Body d) other bytes text es ls stands = body_cut d bytes text es ls stands
cut_before (Count D) other bytes text es ls stands = cut_at AtCount tt bytes
cut_before (Corner D count) other bytes text es ls stands = cut_at AtCorner tt bytes
cut_before (SwapCount D count corner) other bytes text es ls stands = cut_at AtSwapCount tt bytes
cut_before (Swaps D count corner total swaps) other bytes text es ls stands = cut_at AtSwap tt bytes
cut_before (Lemmas H left) other bytes text es ls stands = cut_at AtLemma tt bytes
cut_before (End H) other bytes text es ls stands = cut_at AtEnd tt bytes
cut_before (BehindStage H) other bytes text es ls stands = absurd (other H refl)
cut_before Broken other bytes text es ls stands = absurd stands

-- what a stage stands for leads to its place
is_body_place : (d : DocStage) (es : List Edge) → IsBodyStage d → IsBodyPlace (doc_place_of d es)
is_body_place (doc.Edges G m) es body = tt
is_body_place (doc.Edge G count left m) es body = tt
is_body_place (doc.Side p) es body = tt
is_body_place (doc.Bound p) es body = tt
is_body_place (doc.Points p) es body = go (nat_lt (length p.points) (leaf_count p.tree))
  where
    go : (b : Bool) → IsBodyPlace (if b then AtPoint (next_leaf (doc_head_of p 0 0)) else AtFloor)
    go true = tt
    go false = tt
is_body_place (doc.Proof p m side) es body = absurd body
is_body_place (doc.Version m) es body = absurd body
is_body_place (doc.Sheet m) es body = absurd body
is_body_place (doc.Nodes H left most) es body = absurd body
is_body_place (doc.Behind H) es body = absurd body
is_body_place (doc.Broken told) es body = absurd body

pub leads : (text : List ℕ) (es : List Edge) (ls : List Lemma) (s : Stage) → Stands text es ls s → LeadsTo text (place_of s es)
leads text es ls (Version m) st = st.0
leads text es ls (Sheet m) st = st.0
leads text es ls (Mirror G m) st = (G, st.2, st.0)
leads text es ls (Body d) st =
    let body = st.2 in
    (body.0, body.1, body.2, is_body_place d es st.0, body.3, leads_in_document (document_opening body.0 ++ body.1) es [] d body.4)
leads text es ls (Count D) st = (D, st.2, st.0)
leads text es ls (Corner D count) st = (D, count, st.2, st.3, st.0)
leads text es ls (SwapCount D count corner) st = (D, count, corner, st.2, st.3, st.4, st.0)
leads text es ls (Swaps D count corner total swaps) st = (D, count, corner, total, swaps, st.0, st.2)
leads text es ls (Lemmas H left) st = (H, ls, st.0.leads, omega (arith, st.0.rest, st.1))
leads text es ls (End H) st = (H, ls, st.leads, omega (arith, st.rest))
leads text es ls (BehindStage H) st = (H, ls, st.0, st.1, st.2.leads, omega (arith, st.2.rest))
leads text es ls Broken st = absurd st

few_in_body : (d : DocStage) (before n : ℕ) → n ≡ before + 1 → IsWithinDocument d before → IsWholeDocument d → n ≤ 3001002
few_in_body d before n is within whole = let few = few_document_lines d before (record { lines = before; stage = d }) refl whole within in omega (arith, is, few)

within_few : (s : Stage) (n : ℕ) → IsWhole s → IsWithin s n → n ≤ 3001002
within_few (Version m) n whole within = omega (arith, within)
within_few (Sheet m) n whole within = omega (arith, within)
within_few (Mirror G m) n whole within = omega (arith, within)
within_few (Body d) n whole within = few_in_body d within.0 n within.1 within.2 within.3
within_few (Count D) n whole within = omega (arith, within)
within_few (Corner D count) n whole within = omega (arith, within)
within_few (SwapCount D count corner) n whole within = omega (arith, within)
within_few (Swaps D count corner total swaps) n whole within = omega (arith, within.0, within.1, within.2)
within_few (Lemmas H left) n whole within = omega (arith, within)
within_few (End H) n whole within = omega (arith, within)
within_few (BehindStage H) n whole within = omega (arith, within)
within_few Broken n whole within = absurd whole

module _ (s : Stage) (lines : ℕ) (P : Progress) (is : record { lines = lines; stage = s } ≡ P) where
  pub few_lines : IsUnbroken P → IsWithin s lines → lines ≤ 3001002
  few_lines whole within = within_few s lines (subst IsUnbroken (sym is) whole) within

  pub untold_here : ((H : CertificateHead) (left : ℕ) → s ≡ Lemmas H left → ⊥) → ((H : CertificateHead) → s ≡ End H → ⊥) → ((H : CertificateHead) → s ≡ BehindStage H → ⊥) → told_head P.stage ≡ None
  untold_here lemmas end behind = ap (λ (Q : Progress). told_head Q.stage) (sym is) ∙ go s refl
    where
      go : (t : Stage) → s ≡ t → told_head t ≡ None
      go (Version m) e = refl
      go (Sheet m) e = refl
      go (Mirror G m) e = refl
      go (Body d) e = refl
      go (Count D) e = refl
      go (Corner D count) e = refl
      go (SwapCount D count corner) e = refl
      go (Swaps D count corner total swaps) e = refl
      go (Lemmas H left) e = absurd (lemmas H left e)
      go (End H) e = absurd (end H e)
      go (BehindStage H) e = absurd (behind H e)
      go Broken e = refl

  pub told_here : (H : CertificateHead) → told_head s ≡ Some H → told_head P.stage ≡ Some H
  told_here H told = ap (λ (Q : Progress). told_head Q.stage) (sym is) ∙ told

  pub unfinished : IsUnbroken P → ((H : CertificateHead) → s ≡ BehindStage H → ⊥) → FinishesText P (Err (record { line = lines + 1; kind = Cut }))
  unfinished whole other = (
    refl,
    λ text ls fed.
        let mine : HasFed (record { lines = lines; stage = s }) text ls = subst (λ (Q : Progress). HasFed Q text ls) (sym is) fed in
        record {
          place = place_of s mine.edges;
          leads = leads text mine.edges ls s mine.stands;
          number = omega (arith, mine.count);
          kind = cut_before s other [] text mine.edges ls mine.stands;
        },
  )

module _ (s : Stage) (lines : ℕ) (P : Progress) (is : record { lines = lines; stage = s } ≡ P) where
  pub finished : (H : CertificateHead) → s ≡ BehindStage H → FinishesText P (Ok tt)
  finished H here text ls fed =
      let told : told_head P.stage ≡ Some H = told_here s lines P is H (ap told_head here) in
      let mine : HasFed (record { lines = lines; stage = s }) text ls = subst (λ (Q : Progress). HasFed Q text ls) (sym is) fed in
      let stands : Stands text mine.edges ls (BehindStage H) = subst (Stands text mine.edges ls) here mine.stands in
      let count : length ls ≡ count_of H.plan = omega (arith, stands.2.rest) in
      record {
        told = H;
        head = told;
        certificate = is_certificate H ls stands.2.leads.head stands.2.leads.each count;
        is = stands.1 ∙ ap (λ (t : List ℕ). t ++ end_line) stands.2.leads.is ∙ whole_text H ls count;
      }

module _ (P P' : Progress) (line : List ℕ) (ended : Bool) where
  pub fed_on : (step : Step) → StepsOrCuts P.stage line ended (Ok step) → All (λ b. b ≢ 10) line → P'.stage ≡ step.stage → P'.lines ≡ P.lines + 1 → FeedsLine P line ended P' (Ok step.lemma)
  fed_on step steps free same more = (
    steps.0,
    subst IsWhole (sym same) steps.1.whole,
    λ H told. ap told_head same ∙ steps.1.head H told,
    λ text ls fed.
        let on = steps.1.on text fed.edges ls fed.stands in
        record {
          edges = on.0;
          stands = subst (Stands (text ++ (line ++ 10 ∷ [])) on.0 (with_lemma ls step.lemma)) (sym same) on.3;
          count = omega (arith, more, fed.count, line_more text line free);
        },
    λ text ls fed.
        let on = steps.1.on text fed.edges ls fed.stands in
        record { place = place_of P.stage fed.edges; leads = leads text fed.edges ls P.stage fed.stands; form = on.1; gives = on.2 },
  )

  pub fed_fault : (kind : DocKind) → StepsOrCuts P.stage line ended (Err (Fault kind)) → FeedsLine P line ended P' (Err (ReadFault (record { line = P.lines + 1; kind = kind })))
  fed_fault kind falls text ls fed = record {
    place = place_of P.stage fed.edges;
    leads = leads text fed.edges ls P.stage fed.stands;
    number = omega (arith, fed.count);
    kind = falls text fed.edges ls fed.stands;
  }

-- the same, with the parts as the code has them
module _ (P : Progress) (lines : ℕ) (s r : Stage) (is : record { lines = lines; stage = s } ≡ P) (same : r ≡ s) (line : List ℕ) (ended : Bool) where
  pub feed_on : (step : Step) → StepsOrCuts r line ended (Ok step) → All (λ b. b ≢ 10) line → FeedsLine P line ended (record { lines = lines + 1; stage = step.stage }) (Ok step.lemma)
  feed_on step steps free =
      let mine : StepsOrCuts s line ended (Ok step) = subst (λ (t : Stage). StepsOrCuts t line ended (Ok step)) same steps in
      subst (λ (Q : Progress). FeedsLine Q line ended (record { lines = lines + 1; stage = step.stage }) (Ok step.lemma)) is
      (fed_on (record { lines = lines; stage = s }) (record { lines = lines + 1; stage = step.stage }) line ended step mine free refl refl)

  pub feed_fault : (kind : DocKind) (Q : Progress) → StepsOrCuts r line ended (Err (Fault kind)) → FeedsLine P line ended Q (Err (ReadFault (record { line = lines + 1; kind = kind })))
  feed_fault kind Q falls =
      let mine : StepsOrCuts s line ended (Err (Fault kind)) = subst (λ (t : Stage). StepsOrCuts t line ended (Err (Fault kind))) same falls in
      subst (λ (O : Progress). FeedsLine O line ended Q (Err (ReadFault (record { line = lines + 1; kind = kind })))) is
      (fed_fault (record { lines = lines; stage = s }) Q line ended kind mine)

-- what was fed before any line
pub fed_nothing : (m : Memory) → m.grower ≡ no_nodes → IsGrowing m.grower → m.points ≡ [] → m.leaves ≡ [] → HasFed (record { lines = 0; stage = Version m }) [] []
fed_nothing m none growing points leaves = record { edges = []; stands = (refl, refl, (none, growing, points, leaves)); count = refl }

-- a head tells of a text, or stands before it
tells_at : (s : Stage) (text : List ℕ) (es : List Edge) (ls : List Lemma) → Stands text es ls s → TellsHead text ls (told_head s)
tells_at (Version m) text es ls stands = (place_of (Version m) es, leads text es ls (Version m) stands, tt, stands.1)
tells_at (Sheet m) text es ls stands = (place_of (Sheet m) es, leads text es ls (Sheet m) stands, tt, stands.1)
tells_at (Mirror G m) text es ls stands = (place_of (Mirror G m) es, leads text es ls (Mirror G m) stands, tt, stands.1)
tells_at (Body d) text es ls stands = (place_of (Body d) es, leads text es ls (Body d) stands, tt, stands.1)
tells_at (Count D) text es ls stands = (place_of (Count D) es, leads text es ls (Count D) stands, tt, stands.1)
tells_at (Corner D count) text es ls stands = (place_of (Corner D count) es, leads text es ls (Corner D count) stands, tt, stands.1)
tells_at (SwapCount D count corner) text es ls stands = (place_of (SwapCount D count corner) es, leads text es ls (SwapCount D count corner) stands, tt, stands.1)
tells_at (Swaps D count corner total swaps) text es ls stands = (place_of (Swaps D count corner total swaps) es, leads text es ls (Swaps D count corner total swaps) stands, tt, stands.1)
tells_at (Lemmas H left) text es ls stands = (text, inl refl, stands.0.leads)
tells_at (End H) text es ls stands = (text, inl refl, stands.leads)
tells_at (BehindStage H) text es ls stands = (stands.0, inr stands.1, stands.2.leads)
tells_at Broken text es ls stands = absurd stands

pub tells : (P : Progress) → HasTold P
tells P text ls fed = tells_at P.stage text fed.edges ls fed.stands

-- there are no more lemmas than a certificate may have
few_planned : (plan : Option Plan) (n : ℕ) → IsPlan plan → n ≤ count_of plan → n ≤ most_lemmas
few_planned None n planned few = omega (arith, few)
few_planned (Some p) n planned few = omega (arith, few, planned.0.1)

no_lemmas_yet : (ls : List Lemma) → ls ≡ [] → length ls ≤ most_lemmas
no_lemmas_yet ls none = omega (arith, ap length none)

few_at : (s : Stage) (text : List ℕ) (es : List Edge) (ls : List Lemma) → Stands text es ls s → length ls ≤ most_lemmas
few_at (Version m) text es ls stands = no_lemmas_yet ls stands.1
few_at (Sheet m) text es ls stands = no_lemmas_yet ls stands.1
few_at (Mirror G m) text es ls stands = no_lemmas_yet ls stands.1
few_at (Body d) text es ls stands = no_lemmas_yet ls stands.1
few_at (Count D) text es ls stands = no_lemmas_yet ls stands.1
few_at (Corner D count) text es ls stands = no_lemmas_yet ls stands.1
few_at (SwapCount D count corner) text es ls stands = no_lemmas_yet ls stands.1
few_at (Swaps D count corner total swaps) text es ls stands = no_lemmas_yet ls stands.1
few_at (Lemmas H left) text es ls stands = few_planned H.plan (length ls) stands.0.leads.head.plan (omega (arith, stands.0.rest))
few_at (End H) text es ls stands = few_planned H.plan (length ls) stands.leads.head.plan (omega (arith, stands.rest))
few_at (BehindStage H) text es ls stands = few_planned H.plan (length ls) stands.2.leads.head.plan (omega (arith, stands.2.rest))
few_at Broken text es ls stands = absurd stands

pub few_lemmas : (P : Progress) (text : List ℕ) (ls : List Lemma) → HasFed P text ls → length ls ≤ most_lemmas
few_lemmas P text ls fed = few_at P.stage text fed.edges ls fed.stands
