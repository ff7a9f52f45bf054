-- What a scanner answers, from what its stage stands for.
use Rattle.std.proofs.Common.{◌≡◌, ◌≢◌, ℕ, suc, cond, ◌+◌, ◌≤◌, inl, inr, ◌==◌, true, false, List, [], ◌∷◌, ◌++◌, length, All, Bool, Option, None, Some, Ok, Err, refl, sym, ◌∙◌, ap, subst, arith}
use Rattle.std.specs.Prelude.{nat_lt, if◌then◌else◌}
use Rattle.std.proofs.lemmas.Bool.{ne_eqb}
use Rattle.std.proofs.lemmas.List.Sums.{sum_by-append, sum_by-cons}
use Rattle.bp_base.specs.Tree.{leaf_count}
use Rattle.bp_tree.specs.declared.edge.Edge.{Edge}
use Rattle.bp_tree.specs.Growing.{no_nodes}
use Rattle.bp_tree.specs.Edges.{IsGrowing}
use Rattle.bp_document.specs.declared.fault.DocKind.TheVariants.{Cut, Trailing}
use Rattle.bp_document.specs.declared.head.Head.{Head}
use Rattle.bp_document.specs.declared.node_line.NodeLine.{NodeLine}
use Rattle.bp_document.specs.declared.stage.Memory.{Memory}
use Rattle.bp_document.specs.declared.stage.Step.{Step}
use Rattle.bp_document.specs.declared.stage.Fall.{Fall}
use Rattle.bp_document.specs.declared.stage.Stage.{Stage}
use Rattle.bp_document.specs.declared.stage.Stage.TheVariants.{Version, Sheet as SheetStage, Edges, Edge as EdgeStage, Side, Bound, Points, Proof, Nodes, Behind as BehindStage, Broken}
use Rattle.bp_document.specs.Places.{AtPoint, AtFloor, Follow, next_leaf}
use Rattle.bp_document.specs.Faults.{HasKind}
use Rattle.bp_document.specs.Stages.{Stands, Steps, IsBeforeNodes, IsWhole, IsWithin, place_of, told_head, head_of, with_node}
use Rattle.bp_document.specs.Scanning.{Progress, IsUnbroken, line_count, HasFed, FeedsLine, TellsHead, HasTold, IsBeforeProof, FinishesText}
use Rattle.bp_document.specs.Told.{document_of}
use Rattle.bp_document.proofs.Documents.{told_by, is_text, proof_of}
use Rattle.bp_document.proofs.Leads.{leads, cut_at, inside_points, inside_nodes}

abbrev is_end : ℕ → ℕ
is_end b = cond (b == 10) 1 0

pub lines_append : (a b : List ℕ) → line_count (a ++ b) ≡ line_count a + line_count b
lines_append a b = sum_by-append is_end a b

pub no_lines : (a : List ℕ) → All (λ b. b ≢ 10) a → line_count a ≡ 0
no_lines [] free = refl
no_lines (x ∷ a) free =
    let other : is_end x ≡ 0 = ap (λ (t : Bool). cond t 1 0) (ne_eqb x 10 (free 0 0 (omega arith))) in
    omega (arith, sum_by-cons is_end x a, other, no_lines a (λ k d less. free (suc k) d (omega (arith, less))))

-- a line more
pub line_more : (text line : List ℕ) → All (λ b. b ≢ 10) line → line_count (text ++ (line ++ 10 ∷ [])) ≡ line_count text + 1
line_more text line free =
    omega (arith, lines_append text (line ++ 10 ∷ []), lines_append line (10 ∷ []), no_lines line free)

within_few : (s : Stage) (n : ℕ) → IsWhole s → IsWithin s n → n ≤ 900001
within_few (Version m) n whole within = omega (arith, within)
within_few (SheetStage m) n whole within = omega (arith, within)
within_few (Edges G m) n whole within = omega (arith, within)
within_few (EdgeStage G count left m) n whole within = omega (arith, within)
within_few (Side p) n whole within = omega (arith, within)
within_few (Bound p) n whole within = omega (arith, within)
within_few (Points p) n whole within = omega (arith, within.1)
within_few (Proof p m side) n whole within = omega (arith, within)
within_few (Nodes H left most) n whole within = omega (arith, within)
within_few (BehindStage H) n whole within = omega (arith, within)
within_few (Broken told) n whole within = absurd whole

module _ (s : Stage) (lines : ℕ) (P : Progress) (is : record { lines = lines; stage = s } ≡ P) where
  pub few_lines : IsUnbroken P → IsWithin s lines → lines ≤ 900001
  few_lines whole within = within_few s lines (subst IsUnbroken (sym is) whole) within

  pub untold : ((H : Head) (left : ℕ) (most : Option ℕ) → s ≡ Nodes H left most → ⊥) → ((H : Head) → s ≡ BehindStage H → ⊥) → ((told : Option Head) → s ≡ Broken told → ⊥) → told_head P.stage ≡ None
  untold nodes behind broken = ap (λ (Q : Progress). told_head Q.stage) (sym is) ∙ go s refl
    where
      go : (t : Stage) → s ≡ t → told_head t ≡ None
      go (Version m) e = refl
      go (SheetStage m) e = refl
      go (Edges G m) e = refl
      go (EdgeStage G count left m) e = refl
      go (Side p) e = refl
      go (Bound p) e = refl
      go (Points p) e = refl
      go (Proof p m side) e = refl
      go (Nodes H left most) e = absurd (nodes H left most e)
      go (BehindStage H) e = absurd (behind H e)
      go (Broken told) e = absurd (broken told e)

-- at no other stage than the last is the input whole
not_behind : (s : Stage) (es : List Edge) → IsWhole s → ((H : Head) → s ≡ BehindStage H → ⊥) → HasKind (place_of s es) [] false Trailing → ⊥
not_behind (Version m) es whole other h = h
not_behind (SheetStage m) es whole other h = h
not_behind (Edges G m) es whole other h = h
not_behind (EdgeStage G count left m) es whole other h = h
not_behind (Side p) es whole other h = h
not_behind (Bound p) es whole other h = h
not_behind (Points p) es whole other h = inside_points (next_leaf (head_of p 0 0)) [] (nat_lt (length p.points) (leaf_count p.tree)) h
not_behind (Proof p m side) es whole other h = h
not_behind (Nodes H left most) es whole other h = inside_nodes most [] (nat_lt 0 left) h
not_behind (BehindStage H) es whole other h = other H refl
not_behind (Broken told) es whole other h = whole

module _ (s : Stage) (lines : ℕ) (P : Progress) (is : record { lines = lines; stage = s } ≡ P) where
  pub unfinished : IsUnbroken P → ((H : Head) → s ≡ BehindStage H → ⊥) → FinishesText P (Err (record { line = lines + 1; kind = Cut }))
  unfinished whole other = (
    refl,
    λ text ns fed.
        let mine : HasFed (record { lines = lines; stage = s }) text ns = subst (λ (Q : Progress). HasFed Q text ns) (sym is) fed in
        record {
          place = place_of s mine.edges;
          leads = leads text mine.edges ns s mine.stands;
          number = omega (arith, mine.count);
          kind = cut_at (place_of s mine.edges) [] (not_behind s mine.edges (subst IsUnbroken (sym is) whole) other);
        },
  )

  pub finished : (H : Head) → s ≡ BehindStage H → FinishesText P (Ok tt)
  finished H here text ns fed =
      let told : told_head P.stage ≡ Some H = ap (λ (Q : Progress). told_head Q.stage) (sym is) ∙ ap told_head here in
      let mine : HasFed (record { lines = lines; stage = s }) text ns = subst (λ (Q : Progress). HasFed Q text ns) (sym is) fed in
      let stands : Stands text mine.edges ns (BehindStage H) = subst (Stands text mine.edges ns) here mine.stands in
      let proof = proof_of H ns stands.1 stands.2 stands.3 in
      record {
        document = document_of H proof.0;
        told = H;
        head = told;
        is = told_by H ns proof.0 proof.1;
        whole = λ short. is_text H ns proof.0 proof.1 text stands.0 stands.1 stands.2 short;
      }

-- the nodes follow one another
follow_none : (ns : List NodeLine) → ns ≡ [] → Follow None ns
follow_none ns none = subst (Follow None) (sym none) tt

follows : (text : List ℕ) (es : List Edge) (ns : List NodeLine) (s : Stage) → Stands text es ns s → (IsBeforeNodes s → ns ≡ []) → Follow None ns
follows text es ns (Version m) stands none = follow_none ns (none tt)
follows text es ns (SheetStage m) stands none = follow_none ns (none tt)
follows text es ns (Edges G m) stands none = follow_none ns (none tt)
follows text es ns (EdgeStage G count left m) stands none = follow_none ns (none tt)
follows text es ns (Side p) stands none = follow_none ns (none tt)
follows text es ns (Bound p) stands none = follow_none ns (none tt)
follows text es ns (Points p) stands none = follow_none ns (none tt)
follows text es ns (Proof p m side) stands none = follow_none ns (none tt)
follows text es ns (Nodes H left most) stands none = stands.2
follows text es ns (BehindStage H) stands none = stands.2
follows text es ns (Broken told) stands none = absurd stands

module _ (P P' : Progress) (line : List ℕ) (ended : Bool) where
  pub fed_on : (step : Step) → Steps P.stage line ended (Ok step) → All (λ b. b ≢ 10) line → P'.stage ≡ step.stage → P'.lines ≡ P.lines + 1 → FeedsLine P line ended P' (Ok step.node)
  fed_on step steps free same more = (
    steps.0,
    subst IsWhole (sym same) steps.1.whole,
    λ text ns fed.
        let on = steps.1.on text fed.edges ns fed.stands fed.none in
        record {
          edges = on.0;
          stands = subst (Stands (text ++ (line ++ 10 ∷ [])) on.0 (with_node ns step.node)) (sym same) on.3;
          none = λ early.
              let before = steps.1.before (subst IsBeforeNodes same early) in
              ap (with_node ns) before.1 ∙ fed.none before.0;
          count = omega (arith, more, fed.count, line_more text line free);
          follow = follows (text ++ (line ++ 10 ∷ [])) on.0 (with_node ns step.node) step.stage on.3 (λ early.
              let before = steps.1.before early in
              ap (with_node ns) before.1 ∙ fed.none before.0);
        },
    λ text ns fed.
        let on = steps.1.on text fed.edges ns fed.stands fed.none in
        record { place = place_of P.stage fed.edges; leads = leads text fed.edges ns P.stage fed.stands; form = on.1; gives = on.2 },
  )

  pub fed_fault : (fall : Fall) → Steps P.stage line ended (Err fall) → told_head P'.stage ≡ fall.head → FeedsLine P line ended P' (Err (record { line = P.lines + 1; kind = fall.kind }))
  fed_fault fall steps same = (
    same ∙ steps.0,
    λ text ns fed. record {
      place = place_of P.stage fed.edges;
      leads = leads text fed.edges ns P.stage fed.stands;
      number = omega (arith, fed.count);
      kind = steps.1 text fed.edges ns fed.stands fed.none;
    },
  )

-- the same, with the parts as the code has them
module _ (P : Progress) (lines : ℕ) (s r : Stage) (is : record { lines = lines; stage = s } ≡ P) (same : r ≡ s) (line : List ℕ) (ended : Bool) where
  pub feed_on : (step : Step) → Steps r line ended (Ok step) → All (λ b. b ≢ 10) line → FeedsLine P line ended (record { lines = lines + 1; stage = step.stage }) (Ok step.node)
  feed_on step steps free =
      let mine : Steps s line ended (Ok step) = subst (λ (t : Stage). Steps t line ended (Ok step)) same steps in
      subst (λ (Q : Progress). FeedsLine Q line ended (record { lines = lines + 1; stage = step.stage }) (Ok step.node)) is
      (fed_on (record { lines = lines; stage = s }) (record { lines = lines + 1; stage = step.stage }) line ended step mine free refl refl)

  pub feed_fault : (fall : Fall) → Steps r line ended (Err fall) → FeedsLine P line ended (record { lines = lines; stage = Broken fall.head }) (Err (record { line = lines + 1; kind = fall.kind }))
  feed_fault fall steps =
      let mine : Steps s line ended (Err fall) = subst (λ (t : Stage). Steps t line ended (Err fall)) same steps in
      subst (λ (Q : Progress). FeedsLine Q line ended (record { lines = lines; stage = Broken fall.head }) (Err (record { line = lines + 1; kind = fall.kind }))) is
      (fed_fault (record { lines = lines; stage = s }) (record { lines = lines; stage = Broken fall.head }) line ended fall mine refl)

-- what was fed before any line
pub fed_nothing : (m : Memory) → m.grower ≡ no_nodes → IsGrowing m.grower → m.points ≡ [] → m.leaves ≡ [] → HasFed (record { lines = 0; stage = Version m }) [] []
fed_nothing m none growing points leaves = record { edges = []; stands = (refl, (none, growing, points, leaves)); none = λ early. refl; count = refl; follow = tt }

-- a head tells of a text, or stands before it
tells_at : (s : Stage) (text : List ℕ) (es : List Edge) (ns : List NodeLine) → Stands text es ns s → (IsBeforeNodes s → ns ≡ []) → TellsHead text ns (told_head s)
tells_at (Version m) text es ns stands none = (place_of (Version m) es, leads text es ns (Version m) stands, tt, none tt)
tells_at (SheetStage m) text es ns stands none = (place_of (SheetStage m) es, leads text es ns (SheetStage m) stands, tt, none tt)
tells_at (Edges G m) text es ns stands none = (place_of (Edges G m) es, leads text es ns (Edges G m) stands, tt, none tt)
tells_at (EdgeStage G count left m) text es ns stands none = (place_of (EdgeStage G count left m) es, leads text es ns (EdgeStage G count left m) stands, tt, none tt)
tells_at (Side p) text es ns stands none = (place_of (Side p) es, leads text es ns (Side p) stands, tt, none tt)
tells_at (Bound p) text es ns stands none = (place_of (Bound p) es, leads text es ns (Bound p) stands, tt, none tt)
tells_at (Points p) text es ns stands none = (place_of (Points p) es, leads text es ns (Points p) stands, early (nat_lt (length p.points) (leaf_count p.tree)), none tt)
  where
    early : (b : Bool) → IsBeforeProof (if b then AtPoint (next_leaf (head_of p 0 0)) else AtFloor)
    early true = tt
    early false = tt
tells_at (Proof p m side) text es ns stands none = (place_of (Proof p m side) es, leads text es ns (Proof p m side) stands, tt, none tt)
tells_at (Nodes H left most) text es ns stands none = (inl stands.0, stands.1, stands.2)
tells_at (BehindStage H) text es ns stands none = (inr stands.0, stands.1, stands.2)
tells_at (Broken told) text es ns stands none = absurd stands

pub tells : (P : Progress) → HasTold P
tells P text ns fed = tells_at P.stage text fed.edges ns fed.stands fed.none
