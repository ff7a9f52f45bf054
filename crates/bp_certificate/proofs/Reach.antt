-- A text that leads to a place has lines that lead there.
use Rattle.std.proofs.Common.{◌≡◌, ℕ, suc, ◌+◌, ◌<◌, ◌≤◌, ◌⊎◌, inl, inr, true, false, List, [], ◌∷◌, ◌++◌, length, get_or, drop, map, All, Bool, Option, None, Some, refl, sym, ◌∙◌, ap, subst, arith, append_assoc, length-append}
use Rattle.std.specs.Prelude.{codes, decimal, nat_lt, if◌then◌else◌}
use Rattle.std.specs.List.{flat_map}
use Rattle.std.proofs.lemmas.Bool.{lt-ltb, le-ltb}
use Rattle.std.proofs.lemmas.List.{append-nil}
use Rattle.bp_base.specs.declared.path.Pair.{Pair}
use Rattle.bp_base.specs.declared.point.Sheet.{Sheet}
use Rattle.bp_base.specs.declared.point.Sheet.TheVariants.{Square, Strip}
use Rattle.bp_base.specs.Tree.{leaf_count}
use Rattle.bp_metric.specs.Metric.{IsSheet}
use Rattle.bp_document.specs.declared.head.Head.{Head}
use Rattle.bp_document.specs.Lines.{line, sheet_line, floor_line}
use Rattle.bp_document.specs.Text.{edge_lines, point_lines}
use Rattle.bp_document.specs.Forms.{IsLine, version_line, end_line}
use Rattle.bp_document.specs.FormWords.{sheet_words}
use Rattle.bp_document.specs.Places.{Place as DocPlace, AtNode, AtEnd as DocEnd, count_of as doc_count_of, deepest_behind, points_part, side_part, floor_part}
use Rattle.bp_document.proofs.BodySteps.{no_point_lines}
use Rattle.bp_document.proofs.OneAnswer.{reaches_place}
use Rattle.bp_document.proofs.Reach.{reach_start, reach_tree, reach_side, reach_bound, reach_points}
use Rattle.bp_document.proofs.Runs as doc
use Rattle.bp_document.proofs.Spelling.{NoEnd}
use Rattle.bp_certificate.specs.declared.certificate.CertificateHead.{CertificateHead}
use Rattle.bp_certificate.specs.declared.certificate.Lemma.{Lemma}
use Rattle.bp_certificate.specs.declared.certificate.Plan.{Plan}
use Rattle.bp_certificate.specs.Lines.{corner_line, corner_words, count_line, count_words, lemma_line, mirror_line, swap_line, swaps_line, pair_words, fact_word, hint_word}
use Rattle.bp_certificate.specs.Text.{opening_text}
use Rattle.bp_certificate.specs.Ranges.{IsCornerLine, IsLemma, IsLemmaCount, IsSwapLine, most_swaps}
use Rattle.bp_certificate.specs.Words.{IsCountLine}
use Rattle.bp_certificate.specs.Places.{Place, AtVersion, AtSheet, AtMirror, InBody, AtCount, AtCorner, AtSwapCount, AtSwap, AtLemma, AtEnd, Behind, IsBodyPlace, IsDesign, IsHead, IsPlan, LeadsTo, LeadsToLemmas, LeadsToSwaps, count_of, counted_part, cornered_part, design_of, design_part, document_opening, head_of, lemmas_part, plan_part, swaps_part}
use Rattle.bp_certificate.proofs.Cutting.{cut_line, cut_first}
use Rattle.bp_certificate.proofs.Runs.{State, SVersion, SSheet, SMirror, SBody, SCount, SCorner, SSwapCount, SSwaps, SLemmas, SBehind, Goes, Reaches, Run, at_swaps, behind, counted, lemma_place, moved, place_at, reach_more, reach_then, swaps_or}

-- the states of a document from the number of edges to the floor
abbrev IsInBody : doc.State → Type 0
IsInBody (doc.SEdges G) = Unit {0}
IsInBody (doc.SEdge G E es) = Unit {0}
IsInBody (doc.SSide H) = Unit {0}
IsInBody (doc.SBound H) = Unit {0}
IsInBody (doc.SPoints H) = Unit {0}
IsInBody s = ⊥

-- and behind the floor
abbrev IsUpToProof : doc.State → Type 0
IsUpToProof (doc.SProof H) = Unit {0}
IsUpToProof s = IsInBody s

abbrev IsPast : doc.State → Type 0
IsPast (doc.SNodes H ns) = Unit {0}
IsPast (doc.SBehind H ns) = Unit {0}
IsPast s = ⊥

never_both : (s : doc.State) → IsPast s → IsUpToProof s → ⊥
never_both doc.SVersion past up = past
never_both doc.SSheet past up = past
never_both (doc.SEdges G) past up = past
never_both (doc.SEdge G E es) past up = past
never_both (doc.SSide H) past up = past
never_both (doc.SBound H) past up = past
never_both (doc.SPoints H) past up = past
never_both (doc.SProof H) past up = past
never_both (doc.SNodes H ns) past up = up
never_both (doc.SBehind H ns) past up = up

body_or_proof : (s : doc.State) → IsUpToProof s → IsInBody s ⊎ ((H : Head) × (s ≡ doc.SProof H))
body_or_proof doc.SVersion up = absurd up
body_or_proof doc.SSheet up = absurd up
body_or_proof (doc.SEdges G) up = inl tt
body_or_proof (doc.SEdge G E es) up = inl tt
body_or_proof (doc.SSide H) up = inl tt
body_or_proof (doc.SBound H) up = inl tt
body_or_proof (doc.SPoints H) up = inl tt
body_or_proof (doc.SProof H) up = inr (H, refl)
body_or_proof (doc.SNodes H ns) up = absurd up
body_or_proof (doc.SBehind H ns) up = absurd up

behind_body : (s : doc.State) → IsInBody s → behind s ≡ SBody s
behind_body doc.SVersion body = absurd body
behind_body doc.SSheet body = absurd body
behind_body (doc.SEdges G) body = refl
behind_body (doc.SEdge G E es) body = refl
behind_body (doc.SSide H) body = refl
behind_body (doc.SBound H) body = refl
behind_body (doc.SPoints H) body = refl
behind_body (doc.SProof H) body = absurd body
behind_body (doc.SNodes H ns) body = absurd body
behind_body (doc.SBehind H ns) body = absurd body

-- a line of the body leads at most behind the floor
body_next : (b : List ℕ) (s m : doc.State) → IsInBody s → doc.Goes s b m → IsUpToProof m
body_next b doc.SVersion m body goes = absurd body
body_next b doc.SSheet m body goes = absurd body
body_next b (doc.SEdges G) m body goes = subst IsUpToProof (sym goes.3) tt
body_next b (doc.SEdge G E es) m body goes = elim goes.3 [
  | inl more ↦ subst IsUpToProof (sym more.1) tt
  | inr last ↦ subst IsUpToProof (sym last.4) tt
]
body_next b (doc.SSide H) m body goes = subst IsUpToProof (sym goes.2) tt
body_next b (doc.SBound H) m body goes = subst IsUpToProof (sym goes.2) tt
body_next b (doc.SPoints H) m body (inl x) = subst IsUpToProof (sym x.3) tt
body_next b (doc.SPoints H) m body (inr x) = subst IsUpToProof (sym x.3) tt
body_next b (doc.SProof H) m body goes = absurd body
body_next b (doc.SNodes H ns) m body goes = absurd body
body_next b (doc.SBehind H ns) m body goes = absurd body

nodes_next : (b : List ℕ) (H : Head) (ns : List _) (m : doc.State) → doc.Goes (doc.SNodes H ns) b m → IsPast m
nodes_next b H ns m (inl x) = subst IsPast (sym x.4) tt
nodes_next b H ns m (inr x) = subst IsPast (sym x.2) tt

past_run : (cs : List (List ℕ)) (s t : doc.State) → IsPast s → doc.Run s cs t → IsPast t
past_run [] s t past same = subst IsPast same past
past_run (c ∷ cs) (doc.SNodes H ns) t past run = past_run cs run.0 t (nodes_next c H ns run.0 run.1) run.2
past_run (c ∷ cs) (doc.SBehind H ns) t past run = absurd run.1
past_run (c ∷ cs) doc.SVersion t past run = absurd past
past_run (c ∷ cs) doc.SSheet t past run = absurd past
past_run (c ∷ cs) (doc.SEdges G) t past run = absurd past
past_run (c ∷ cs) (doc.SEdge G E es) t past run = absurd past
past_run (c ∷ cs) (doc.SSide H) t past run = absurd past
past_run (c ∷ cs) (doc.SBound H) t past run = absurd past
past_run (c ∷ cs) (doc.SPoints H) t past run = absurd past
past_run (c ∷ cs) (doc.SProof H) t past run = absurd past

-- behind the floor a document's lines lead elsewhere
proof_run : (cs : List (List ℕ)) (H : Head) (t : doc.State) → doc.Run (doc.SProof H) cs t → IsUpToProof t → Run (SCount H) cs (behind t)
proof_run [] H t same up = ap behind same
proof_run (c ∷ cs) H t run up = absurd (never_both t (past_run cs run.0 t (subst IsPast (sym run.1.2) tt) run.2) up)

-- the lines of a document's body are those of a certificate's
body_run : (cs : List (List ℕ)) (s t : doc.State) → IsInBody s → doc.Run s cs t → IsUpToProof t → Run (SBody s) cs (behind t)
body_run [] s t body same up = sym (behind_body s body) ∙ ap behind same
body_run (c ∷ cs) s t body run up = (
  behind run.0,
  (run.0, run.1, refl),
  elim (body_or_proof run.0 (body_next c s run.0 body run.1)) [
    | inl here ↦ subst (λ (X : State). Run X cs (behind t)) (sym (behind_body run.0 here)) (body_run cs run.0 t here run.2 up)
    | inr proof ↦ subst (λ (X : State). Run X cs (behind t)) (sym (ap behind proof.1)) (proof_run cs proof.0 t (subst (λ (m : doc.State). doc.Run m cs t) proof.1 run.2) up)
  ],
)

-- what stands behind the lines of a document's front
rest_run : (fs bs : List (List ℕ)) (R U S : doc.State) (part : List ℕ) → doc.Run R fs U → doc.Run R bs S → doc.unlines fs ++ part ≡ doc.unlines bs → (cs : List (List ℕ)) × doc.Run U cs S × (part ≡ doc.unlines cs)
rest_run [] bs R U S part run run' same = (bs, subst (λ (X : doc.State). doc.Run X bs S) run run', same)
rest_run (f ∷ fs) [] R U S part run run' same =
    absurd (omega (arith, ap length same, length-append ((f ++ 10 ∷ []) ++ doc.unlines fs) part, length-append (f ++ 10 ∷ []) (doc.unlines fs), length-append f (10 ∷ [])))
rest_run (f ∷ fs) (b ∷ bs) R U S part run run' same =
    let cut = cut_line f b (doc.unlines fs ++ part) (doc.unlines bs) (doc.goes_short f run.0 R run.1).0 (doc.goes_short b run'.0 R run'.1).0 (sym (cut_first f (doc.unlines fs) part) ∙ same ∙ append_assoc b (10 ∷ []) (doc.unlines bs)) in
    let next : run'.0 ≡ run.0 = doc.one_next b run'.0 run.0 R run'.1 (subst (λ (d : List ℕ). doc.Goes R d run.0) cut.0 run.1) in
    rest_run fs bs run.0 U S part run.2 (subst (λ (X : doc.State). doc.Run X bs S) next run'.2) cut.1

sheet_line_is : (G : Sheet) → line (codes "sheet") (sheet_words G) ≡ sheet_line G
sheet_line_is Square = refl
sheet_line_is (Strip width) = refl

reach_version : Reaches (version_line 3) SSheet
reach_version =
    let here = doc.bare_line (codes "boxpleat") (decimal 3 ∷ []) in
    reach_more [] SVersion (doc.bare (codes "boxpleat") (decimal 3 ∷ [])) SSheet (version_line 3) (record { lines = []; run = refl; is = refl }) (here, refl) here

reach_sheet : (G : Sheet) → IsSheet G → Reaches (version_line 3 ++ sheet_line G) (SMirror G)
reach_sheet G sheet =
    let here : IsLine (doc.bare (codes "sheet") (sheet_words G)) (sheet_line G) = doc.bare_line (codes "sheet") (sheet_words G) ∙ sheet_line_is G in
    reach_more (version_line 3) SSheet (doc.bare (codes "sheet") (sheet_words G)) (SMirror G) (sheet_line G) reach_version (G, record { text = here; sheet = sheet }, refl) here

reach_opening : (G : Sheet) → IsSheet G → Reaches (opening_text G) (SBody (doc.SEdges G))
unfolding opening_text
reach_opening G sheet =
    let here = doc.bare_line (codes "mirror") (codes "none" ∷ []) in
    let to = SBody (doc.SEdges G) in
    moved ((version_line 3 ++ sheet_line G) ++ mirror_line) (version_line 3 ++ (sheet_line G ++ mirror_line)) to to (append_assoc (version_line 3) (sheet_line G) mirror_line) refl
    (reach_more (version_line 3 ++ sheet_line G) (SMirror G) (doc.bare (codes "mirror") (codes "none" ∷ [])) to mirror_line (reach_sheet G sheet) (here, refl) here)

-- behind the opening, what leads on in a document's place
body_reaches : (G : Sheet) (part : List ℕ) (S : doc.State) → IsSheet G → doc.Reaches (document_opening G ++ part) S → IsUpToProof S → Reaches (opening_text G ++ part) (behind S)
body_reaches G part S sheet reaches up =
    let start = reach_start (document_opening G) G (inr (refl, sheet)) in
    let rest = rest_run start.lines reaches.lines doc.SVersion (doc.SEdges G) S part start.run reaches.run (ap (λ (t : List ℕ). t ++ part) (sym start.is) ∙ reaches.is) in
    moved (opening_text G ++ doc.unlines rest.0) (opening_text G ++ part) (behind S) (behind S) (ap (λ (t : List ℕ). opening_text G ++ t) (sym rest.2)) refl
    (reach_then (opening_text G) (SBody (doc.SEdges G)) (behind S) rest.0 (reach_opening G sheet) (body_run rest.0 (doc.SEdges G) S tt rest.1 up))

no_body : (b : Bool) (P Q : DocPlace) → (IsBodyPlace P → ⊥) → (IsBodyPlace Q → ⊥) → IsBodyPlace (if b then P else Q) → ⊥
no_body true P Q first second body = first body
no_body false P Q first second body = second body

state_in_body : (s : doc.State) → IsBodyPlace (doc.place_at s) → IsInBody s
state_in_body doc.SVersion body = body
state_in_body doc.SSheet body = body
state_in_body (doc.SEdges G) body = tt
state_in_body (doc.SEdge G E es) body = tt
state_in_body (doc.SSide H) body = tt
state_in_body (doc.SBound H) body = tt
state_in_body (doc.SPoints H) body = tt
state_in_body (doc.SProof H) body = body
state_in_body (doc.SNodes H ns) body = no_body (nat_lt (length ns) (doc_count_of H.proof)) (AtNode (deepest_behind None ns)) DocEnd (λ h. h) (λ h. h) body
state_in_body (doc.SBehind H ns) body = body

up_to : (s : doc.State) → IsInBody s → IsUpToProof s
up_to doc.SVersion body = body
up_to doc.SSheet body = body
up_to (doc.SEdges G) body = tt
up_to (doc.SEdge G E es) body = tt
up_to (doc.SSide H) body = tt
up_to (doc.SBound H) body = tt
up_to (doc.SPoints H) body = tt
up_to (doc.SProof H) body = tt
up_to (doc.SNodes H ns) body = body
up_to (doc.SBehind H ns) body = body

-- what a design told, up to its floor
abbrev pub told_design : Head → Head
told_design D = record (doc.tree_head D.sheet D.tree) { side = D.side; bound = D.bound; points = D.points; floor = D.floor }

module _ (D : Head) (design : IsDesign D) where
  abbrev start : List ℕ
  start = document_opening D.sheet

  abbrev side : List ℕ
  side = line (codes "side") (decimal D.side ∷ [])

  abbrev bound : List ℕ
  bound = line (codes "bound") (decimal D.bound ∷ [])

  abbrev sided : Head
  sided = record (doc.tree_head D.sheet D.tree) { side = D.side }

  abbrev bounded : Head
  bounded = record (doc.tree_head D.sheet D.tree) { side = D.side; bound = D.bound }

  abbrev pointed : Head
  pointed = record (doc.tree_head D.sheet D.tree) { side = D.side; bound = D.bound; points = D.points }

  to_points : doc.Reaches (start ++ points_part D) (doc.SPoints pointed)
  to_points =
      let before : List ℕ = ((start ++ edge_lines D.tree) ++ side) ++ bound in
      let one = reach_tree start D.sheet D.tree design.points.tree (reach_start start D.sheet (inr (refl, design.sheet))) in
      let two = reach_side (start ++ edge_lines D.tree) (doc.tree_head D.sheet D.tree) D.side design.points.side one in
      let three = reach_bound ((start ++ edge_lines D.tree) ++ side) sided D.bound design.points.bound two in
      let none : before ≡ before ++ point_lines D.tree [] = sym (append-nil before) ∙ ap (λ (u : List ℕ). before ++ u) (sym (no_point_lines D.tree [] refl)) in
      let four = reach_points before bounded design.points.tree [] D.points (omega (arith, design.each)) design.points.points (doc.moved before (before ++ point_lines D.tree []) (doc.SPoints bounded) (doc.SPoints bounded) none refl three) in
      let text : before ++ point_lines D.tree D.points ≡ start ++ points_part D =
      ap (λ (u : List ℕ). (u ++ bound) ++ point_lines D.tree D.points) (append_assoc start (edge_lines D.tree) side)
      ∙ ap (λ (u : List ℕ). u ++ point_lines D.tree D.points) (append_assoc start (side_part D) bound)
      ∙ append_assoc start (side_part D ++ bound) (point_lines D.tree D.points) in
      doc.moved (before ++ point_lines D.tree D.points) (start ++ points_part D) (doc.SPoints pointed) (doc.SPoints pointed) text refl four

  to_floor : doc.Reaches (start ++ floor_part D) (doc.SProof (told_design D))
  to_floor =
      let ws : List (List ℕ) = decimal D.floor.m ∷ decimal D.floor.side ∷ map decimal D.floor.leaves in
      let here = doc.bare_line (codes "floor") ws in
      let to = doc.SProof (told_design D) in
      doc.moved ((start ++ points_part D) ++ floor_line D.floor) (start ++ floor_part D) to to (append_assoc start (points_part D) (floor_line D.floor)) refl
      (doc.reach_more (start ++ points_part D) (doc.SPoints pointed) (doc.bare (codes "floor") ws) to (floor_line D.floor) to_points (inr (omega (arith, design.each), D.floor, record { text = here; small = design.floor }, refl)) here)

  reach_design : Reaches (design_part D) (SCount (told_design D))
  reach_design = body_reaches D.sheet (floor_part D) (doc.SProof (told_design D)) design.sheet to_floor tt

  reach_count : (count : Option ℕ) → IsCountLine count → Reaches (counted_part D count) (counted (told_design D) count)
  reach_count count range =
      let here = doc.bare_line (codes "lemmas") (count_words count) in
      reach_more (design_part D) (SCount (told_design D)) (doc.bare (codes "lemmas") (count_words count)) (counted (told_design D) count) (count_line count) reach_design (count, record { text = here; range = range }, refl) here

  module _ (count : ℕ) (range : IsLemmaCount count) (corner : Option Pair) (small : IsCornerLine corner) where
    reach_corner : Reaches (cornered_part D count corner) (SSwapCount (told_design D) count corner)
    reach_corner =
        let here = doc.bare_line (codes "corner") (corner_words corner) in
        reach_more (counted_part D (Some count)) (SCorner (told_design D) count) (doc.bare (codes "corner") (corner_words corner)) (SSwapCount (told_design D) count corner) (corner_line corner)
        (reach_count (Some count) range) (corner, record { text = here; small = small }, refl) here

    module _ (total : ℕ) (few : total ≤ most_swaps) where
      abbrev to_swaps : List (List Pair) → State
      to_swaps swaps = at_swaps (told_design D) count corner total swaps

      reach_swap_count : Reaches (cornered_part D count corner ++ swaps_line total) (to_swaps [])
      reach_swap_count =
          let here = doc.bare_line (codes "swaps") (decimal total ∷ []) in
          reach_more (cornered_part D count corner) (SSwapCount (told_design D) count corner) (doc.bare (codes "swaps") (decimal total ∷ [])) (to_swaps []) (swaps_line total)
          reach_corner (total, few, here, refl) here

      swap_here : (swap : List Pair) → IsLine (doc.bare (codes "swap") (flat_map pair_words swap)) (swap_line swap)
      unfolding swap_line
      swap_here swap = doc.bare_line (codes "swap") (flat_map pair_words swap)

      more_swaps : (text : List ℕ) (front back : List (List Pair)) → length front + length back ≤ total → All IsSwapLine back → Reaches text (to_swaps front) → Reaches (text ++ flat_map swap_line back) (to_swaps (front ++ back))
      more_swaps text front [] within each reaches = moved text (text ++ []) (to_swaps front) (to_swaps (front ++ [])) (sym (append-nil text)) (ap to_swaps (sym (append-nil front))) reaches
      more_swaps text front (swap ∷ back) within each reaches =
          let here = swap_here swap in
          let at : to_swaps front ≡ SSwaps (told_design D) count corner total front = ap (swaps_or (told_design D) count corner total front) (lt-ltb (length front) total (omega (arith, within))) in
          let one = reach_more text (SSwaps (told_design D) count corner total front) (doc.bare (codes "swap") (flat_map pair_words swap)) (to_swaps (front ++ swap ∷ [])) (swap_line swap)
          (moved text text (to_swaps front) (SSwaps (told_design D) count corner total front) refl at reaches) (swap, record { text = here; small = each 0 swap (omega arith) }, refl) here in
          moved ((text ++ swap_line swap) ++ flat_map swap_line back) (text ++ (swap_line swap ++ flat_map swap_line back)) (to_swaps ((front ++ swap ∷ []) ++ back)) (to_swaps (front ++ swap ∷ back))
          (append_assoc text (swap_line swap) (flat_map swap_line back)) (ap to_swaps (append_assoc front (swap ∷ []) back))
          (more_swaps (text ++ swap_line swap) (front ++ swap ∷ []) back (omega (arith, within, length-append front (swap ∷ []))) (λ k d less. each (suc k) d (omega (arith, less))) one)

      reach_swaps : (swaps : List (List Pair)) → length swaps ≤ total → All IsSwapLine swaps → Reaches (swaps_part D count corner total swaps) (to_swaps swaps)
      reach_swaps swaps within each = more_swaps (cornered_part D count corner ++ swaps_line total) [] swaps (omega (arith, within)) each reach_swap_count

  reach_plan : (plan : Option Plan) → IsPlan plan → Reaches (plan_part D plan) (SLemmas (head_of D plan) [])
  reach_plan None planned = reach_count None tt
  reach_plan (Some p) planned =
      let all = reach_swaps p.count planned.0 p.corner planned.1 (length p.swaps) planned.2.few p.swaps (omega arith) planned.2.each in
      let none : at_swaps (told_design D) p.count p.corner (length p.swaps) p.swaps ≡ SLemmas (head_of D (Some p)) [] =
      ap (swaps_or (told_design D) p.count p.corner (length p.swaps) p.swaps) (le-ltb (length p.swaps) (length p.swaps) (omega arith)) in
      moved (plan_part D (Some p)) (plan_part D (Some p)) (at_swaps (told_design D) p.count p.corner (length p.swaps) p.swaps) (SLemmas (head_of D (Some p)) []) refl none all

lemma_here : (l : Lemma) → IsLine (doc.bare (codes "no") (map fact_word l.facts ++ codes "by" ∷ map hint_word l.hints)) (lemma_line l)
unfolding lemma_line
lemma_here l = doc.bare_line (codes "no") (map fact_word l.facts ++ codes "by" ∷ map hint_word l.hints)

module _ (H : CertificateHead) where
  more_lemmas : (text : List ℕ) (front back : List Lemma) → length front + length back ≤ count_of H.plan → All IsLemma back → Reaches text (SLemmas H front) → Reaches (text ++ flat_map lemma_line back) (SLemmas H (front ++ back))
  more_lemmas text front [] within each reaches = moved text (text ++ []) (SLemmas H front) (SLemmas H (front ++ [])) (sym (append-nil text)) (ap (SLemmas H) (sym (append-nil front))) reaches
  more_lemmas text front (l ∷ back) within each reaches =
      let here = lemma_here l in
      let one = reach_more text (SLemmas H front) (doc.bare (codes "no") (map fact_word l.facts ++ codes "by" ∷ map hint_word l.hints)) (SLemmas H (front ++ l ∷ [])) (lemma_line l) reaches
      (inl (omega (arith, within), l, record { text = here; small = each 0 l (omega arith) }, refl)) here in
      moved ((text ++ lemma_line l) ++ flat_map lemma_line back) (text ++ (lemma_line l ++ flat_map lemma_line back)) (SLemmas H ((front ++ l ∷ []) ++ back)) (SLemmas H (front ++ l ∷ back))
      (append_assoc text (lemma_line l) (flat_map lemma_line back)) (ap (SLemmas H) (append_assoc front (l ∷ []) back))
      (more_lemmas (text ++ lemma_line l) (front ++ l ∷ []) back (omega (arith, within, length-append front (l ∷ []))) (λ k d less. each (suc k) d (omega (arith, less))) one)

  pub reach_lemmas : (text : List ℕ) (ls : List Lemma) → LeadsToLemmas text H ls → length ls ≤ count_of H.plan → Reaches text (SLemmas H ls)
  reach_lemmas text ls leads few =
      moved (lemmas_part H ls) text (SLemmas H ls) (SLemmas H ls) (sym leads.is) refl
      (more_lemmas (plan_part (design_of H) H.plan) [] ls (omega (arith, few)) leads.each (reach_plan (design_of H) leads.head.design H.plan leads.head.plan))

  pub reach_behind : (text before : List ℕ) (ls : List Lemma) → text ≡ before ++ end_line → LeadsToLemmas before H ls → length ls ≡ count_of H.plan → Reaches text (SBehind H ls)
  reach_behind text before ls is leads all =
      let here = doc.bare_line (codes "end") [] in
      moved (before ++ end_line) text (SBehind H ls) (SBehind H ls) (sym is) refl
      (reach_more before (SLemmas H ls) (doc.bare (codes "end") []) (SBehind H ls) end_line (reach_lemmas before ls leads (omega (arith, all))) (inr (omega (arith, all), here, refl)) here)

-- the text reaches a state of this place
abbrev pub ReachesPlace : List ℕ → Place → Type 0
ReachesPlace text place = (S : State) × Reaches text S × (place_at S ≡ place)

to_text : (text part : List ℕ) (S : State) → text ≡ part → Reaches part S → Reaches text S
to_text text part S is reaches = moved part text S S (sym is) refl reaches

body_place : (text : List ℕ) (place : DocPlace) → LeadsTo text (InBody place) → ReachesPlace text (InBody place)
body_place text place is =
    let G = is.0 in
    let part = is.1 in
    let r = reaches_place (document_opening G ++ part) place is.5 in
    let body : IsInBody r.0 = state_in_body r.0 (subst IsBodyPlace (sym r.2) is.3) in (
      SBody r.0,
      moved (opening_text G ++ part) text (behind r.0) (SBody r.0) (sym is.4) (behind_body r.0 body) (body_reaches G part r.0 is.2 r.1 (up_to r.0 body)),
      ap InBody r.2,
    )

-- whatever leads to a place reaches it
pub reaches : (text : List ℕ) (place : Place) → LeadsTo text place → ReachesPlace text place
reaches text AtVersion is = (SVersion, to_text text [] SVersion is (record { lines = []; run = refl; is = refl }), refl)
reaches text AtSheet is = (SSheet, to_text text (version_line 3) SSheet is reach_version, refl)
reaches text AtMirror is = (SMirror is.0, to_text text (version_line 3 ++ sheet_line is.0) (SMirror is.0) is.2 (reach_sheet is.0 is.1), refl)
reaches text (InBody place) is = body_place text place is
reaches text AtCount is = (SCount (told_design is.0), to_text text (design_part is.0) (SCount (told_design is.0)) is.2 (reach_design is.0 is.1), refl)
reaches text AtCorner is =
    let to = SCorner (told_design is.0) is.1 in
    (to, to_text text (counted_part is.0 (Some is.1)) to is.4 (reach_count is.0 is.2 (Some is.1) is.3), refl)
reaches text AtSwapCount is =
    let to = SSwapCount (told_design is.0) is.1 is.2 in
    (to, to_text text (cornered_part is.0 is.1 is.2) to is.6 (reach_corner is.0 is.3 is.1 is.4 is.2 is.5), refl)
reaches text AtSwap is =
    let D = is.0 in
    let count = is.1 in
    let corner = is.2 in
    let total = is.3 in
    let swaps = is.4 in
    let leads = is.5 in
    let to = SSwaps (told_design D) count corner total swaps in
    let at : at_swaps (told_design D) count corner total swaps ≡ to = ap (swaps_or (told_design D) count corner total swaps) (lt-ltb (length swaps) total is.6) in (
      to,
      moved (swaps_part D count corner total swaps) text (at_swaps (told_design D) count corner total swaps) to (sym leads.is) at
          (reach_swaps D leads.design count leads.counted corner leads.cornered total leads.within swaps leads.few leads.each),
      refl,
    )
reaches text AtLemma is =
    (SLemmas is.0 is.1, reach_lemmas is.0 text is.1 is.2 (omega (arith, is.3)), ap lemma_place (lt-ltb (length is.1) (count_of is.0.plan) is.3))
reaches text AtEnd is =
    (SLemmas is.0 is.1, reach_lemmas is.0 text is.1 is.2 (omega (arith, is.3)), ap lemma_place (le-ltb (length is.1) (count_of is.0.plan) (omega (arith, is.3))))
reaches text Behind is = (SBehind is.0 is.1, reach_behind is.0 text is.2 is.1 is.3 is.4 is.5, refl)
