-- From a document that is found to what is written of it.
use Rattle.std.proofs.Common.{◌≡◌, ◌⊎◌, inl, inr, ℕ, ◌+◌, ◌<◌, ◌≤◌, Bool, true, false, List, Option, None, Some, MatchOption, IsFalse, refl, sym, subst, arith, ◌∙◌}
use Rattle.std.proofs.lemmas.Bool.{cases_lt}
use Rattle.bp_base.specs.declared.point.Sheet.{Sheet}
use Rattle.bp_base.specs.declared.point.Sheet.TheVariants.{Square}
use Rattle.bp_base.specs.Causes.{Appends, AppendsFront}
use Rattle.bp_base.specs.declared.point.Point.{Point}
use Rattle.bp_base.specs.Tree.{TreeValue, IsEdge}
use Rattle.bp_metric.specs.Distance.{is_below}
use Rattle.bp_metric.specs.Stated.{CoversStated}
use Rattle.bp_regions.specs.Cells.{Reach}
use Rattle.bp_metric.specs.Valid.{Valid}
use Rattle.bp_document.specs.declared.document.Document.{Document}
use Rattle.bp_document.specs.Text.{doc_text}
use Rattle.bp_document.specs.Ranges.{IsDocument}
use Rattle.bp_check.specs.Written.{IsWanted}
use Rattle.bp_design.specs.Steadied.{IsSteadyOf}
use Rattle.bp_steady.specs.Sums.{IsMWithin}
use Rattle.bp_certificate.specs.declared.certificate.Certificate.{Certificate}
use Rattle.bp_certificate.specs.Ranges.{IsCertificate}
use Rattle.bp_certificate.specs.Text.{certificate_text}
use Rattle.bp_solve.specs.declared.solved.Solved.{Solved}
use Rattle.bp_solve.specs.Solved.{IsSolved}
use Rattle.bp_engine.specs.declared.design.Asked.{Asked}
use Rattle.bp_engine.specs.declared.status.Status.{Status}
use Rattle.bp_engine.specs.declared.status.Status.TheVariants.{Done, GaveUp, ReadFault, WriteFault, NoMemory, Unsteady}
use Rattle.bp_engine.specs.Designs.{AreDisjoint, HasNone, IsDesignBy, IsDesigned, IsFoldTextOf, IsFound, IsUnsteady, Replays, Sinks, WritesDesign, WritesFold, WritesFoldFront, is_steady}
use Rattle.bp_engine.specs.Outcomes.{Ends, WritesOutcome}
use Rattle.bp_engine.specs.Run.{IsEnough, IsSilent}
use Rattle.bp_engine.specs.Solves.{IsAnswered, WritesSolved, placed}
use Rattle.bp_engine.specs.Texts.{MayWrite}
use Rattle.bp_engine.proofs.Answered.{no_read_fault, not_silent}

-- which status a design is written with
found : (T : TreeValue) (A : Asked) (D : Document) (status : Status) → IsDesigned T A D → Ends D status → IsFound T A D status
found T A D Done d ends =
    let same : D.bound ≡ D.side = omega (arith, d.0.proved.no_more, ends) in
    (d, same, d.0.proved.smallest same)
found T A D (GaveUp side bound) d ends = (d, ends.0, d.0.given_up ends.0, ends.1, ends.2)
found T A D status d ends = absurd ends

-- what was written of a design is what was written for its tree
by_tree : (T : TreeValue) (A : Asked) (D : Document) (held now : Sinks) (status : Status) → IsDesigned T A D → WritesOutcome A.draws (doc_text D) D held now status → WritesDesign T A held now status
by_tree T A D held now status d (inl w) = inl (D, found T A D status d w.0, w.1)
by_tree T A D held now status d (inr (inl (fault, (meant, ends, front)))) = inr (inl (fault, (D, meant, found T A D meant d ends, front)))
by_tree T A D held now status d (inr (inr (memory, same))) = inr (inr (subst (HasNone T A) (sym memory) tt, same))

pub of_tree : (T : TreeValue) (A : Asked) (D : Document) (text : List ℕ) (held now : Sinks) (status : Status) → text ≡ doc_text D → IsDesigned T A D → WritesOutcome A.draws text D held now status → WritesDesign T A held now status
of_tree T A D text held now status is d w =
    by_tree T A D held now status d (subst (λ (t : List ℕ). WritesOutcome A.draws t D held now status) is w)

-- a search that is given up doesn't cover the stated tree
given_up_ends : (D : Document) (text : List ℕ) (held now : Sinks) (draws : Bool) (side bound : ℕ) → WritesOutcome draws text D held now (GaveUp side bound) → D.bound < D.side
given_up_ends D text held now draws side bound (inl w) = w.0.0
given_up_ends D text held now draws side bound (inr (inl w)) = absurd (cc)
given_up_ends D text held now draws side bound (inr (inr w)) = absurd (cc)

pub not_covered : (T : TreeValue) (A : Asked) (D : Document) (text : List ℕ) (held now : Sinks) (status : Status) → IsDesigned T A D → WritesOutcome A.draws text D held now status → CoversStated T A.sheet A.budget → (side bound : ℕ) → status ≡ GaveUp side bound → ⊥
not_covered T A D text held now status d w covers side bound is =
    omega (arith, given_up_ends D text held now A.draws side bound (subst (λ (s : Status). WritesOutcome A.draws text D held now s) is w), d.0.complete covers)

pub outcome_loud : (status : Status) → MayWrite status ⊎ (status ≡ NoMemory) → IsSilent status → ⊥
outcome_loud status (inl writes) silent = not_silent status writes silent
outcome_loud status (inr memory) silent = let h = subst IsSilent memory silent in h

pub outcome_read : (status : Status) → MayWrite status ⊎ (status ≡ NoMemory) → status ≡ ReadFault → ⊥
outcome_read status (inl writes) is = no_read_fault status writes is
outcome_read status (inr memory) is = cc

pub outcome_steady : (status : Status) → MayWrite status ⊎ (status ≡ NoMemory) → (quota : ℕ) → status ≡ Unsteady quota → ⊥
outcome_steady status (inl writes) quota is = let h = subst MayWrite is writes in h
outcome_steady status (inr memory) quota is = cc

-- the steady answer of a design is what is asked for
pub by_steady : (T : TreeValue) (A : Asked) (D E : Document) (quota : ℕ) → A.steady ≡ Some quota → IsDesignBy T A false D → IsSteadyOf T A.sheet D E → IsDesigned T A E
by_steady T A D E quota is d s = subst (λ (o : Option ℕ). IsDesignBy T A (is_steady o) E) (sym is) (s.design A.budget d.0, replays A.replay d.1)
  where
    replays : (r : Option ℕ) → Replays T A false r D → Replays T A true r E
    replays None h = tt
    replays (Some seed) h = λ u l is_u is_l less. let k = h u l is_u is_l less in (k.0, k.1, s.told k.0 k.2)

-- Where there is no design.

module _ (T : TreeValue) (A : Asked) where
  pub none_enough : (status : Status) → HasNone T A status → IsEnough T A.sheet A.steady → (quota : ℕ) → status ≡ Unsteady quota → ⊥
  none_enough status none enough quota is =
      let u : IsUnsteady T A quota = subst (HasNone T A) is none in
      let within : (S : ℕ) → IsWanted T A.sheet S → IsMWithin T A.sheet S quota = subst (IsEnough T A.sheet) u.asked enough in
      omega (arith, within u.design.side (u.is_design.proved.smallest u.whole) (quota + 1) u.more)

  pub none_covered : (status : Status) → HasNone T A status → (side bound : ℕ) → status ≡ GaveUp side bound → ⊥
  none_covered status none side bound is = let h = subst (HasNone T A) is none in h

  pub none_loud : (status : Status) → HasNone T A status → IsSilent status → ⊥
  none_loud NoMemory none silent = silent
  none_loud (Unsteady quota) none silent = silent
  none_loud status none silent = none

  pub none_read : (status : Status) → HasNone T A status → status ≡ ReadFault → ⊥
  none_read status none is = let h = subst (HasNone T A) is none in h

  pub none_write : (status : Status) → HasNone T A status → status ≡ WriteFault → ⊥
  none_write status none is = let h = subst (HasNone T A) is none in h

-- The texts.

module _ {V : Type 0} (items : V → List ℕ) (draws : Bool) (D : Document) (held now : Option (List ℕ)) where
  abbrev pub IsFoldOf : Option V → Type 0
  IsFoldOf o = MatchOption o (draws ≡ false) (λ v. (draws ≡ true) × AreDisjoint D × IsFoldTextOf D (items v))

  pub all_folded : (o : Option V) → IsFoldOf o → MatchOption o (now ≡ held) (λ v. Appends held now (items v)) → WritesFold draws D held now
  all_folded None plain same = subst (λ (b : Bool). WritesFold b D held now) (sym plain) same
  all_folded (Some v) h w = subst (λ (b : Bool). WritesFold b D held now) (sym h.0) (h.1, (items v, h.2, w))

  pub front_folded : (o : Option V) → IsFoldOf o → MatchOption o ⊥ (λ v. AppendsFront held now (items v)) → WritesFoldFront draws D held now
  front_folded None plain w = absurd w
  front_folded (Some v) h w = subst (λ (b : Bool). WritesFoldFront b D held now) (sym h.0) (items v, h.2, w)

-- how a text and that of D's drawing were written with this status, and which status was to come
module _ {V : Type 0} (items : V → List ℕ) (draws : Bool) (D : Document) (held now : Sinks) (o : Option V) (fold : IsFoldOf items draws D held.fold now.fold o) (text : List ℕ) where
  abbrev WritesSome : Status → Status → Type 0
  WritesSome status result =
      ((result ≡ status) × Appends held.out now.out text × MatchOption o (now.fold ≡ held.fold) (λ v. Appends held.fold now.fold (items v)))
      ⊎ ((result ≡ WriteFault) × ((AppendsFront held.out now.out text × (now.fold ≡ held.fold)) ⊎ (Appends held.out now.out text × MatchOption o ⊥ (λ v. AppendsFront held.fold now.fold (items v)))))

  ends : (status : Status) → (D.side ≤ D.bound → status ≡ Done) → (D.bound < D.side → status ≡ GaveUp D.side D.bound) → Ends D status
  ends status done gave_up = elim (cases_lt D.bound D.side) [
    | inl less ↦ subst (Ends D) (sym (gave_up less)) (less, refl, refl)
    | inr most ↦ subst (Ends D) (sym (done most)) most
  ]

  by_cases : (status result : Status) → (D.side ≤ D.bound → status ≡ Done) → (D.bound < D.side → status ≡ GaveUp D.side D.bound) → WritesSome status result → WritesOutcome draws text D held now result
  by_cases status result done gave_up (inl w) =
      let drawn = all_folded items draws D held.fold now.fold o fold w.2 in
      elim (cases_lt D.bound D.side) [
        | inl less ↦ inl (subst (Ends D) (sym (w.0 ∙ gave_up less)) (less, refl, refl), (w.1, drawn))
        | inr most ↦ inl (subst (Ends D) (sym (w.0 ∙ done most)) most, (w.1, drawn))
      ]
  by_cases status result done gave_up (inr w) = inr (inl (
    w.0,
    (
      status,
      ends status done gave_up,
      elim w.1 [
        | inl out ↦ inl out
        | inr drawn ↦ inr (drawn.0, front_folded items draws D held.fold now.fold o fold drawn.1)
      ],
    ),
  ))

  pub written : (whole : List ℕ) → text ≡ whole → (status result : Status) → (D.side ≤ D.bound → status ≡ Done) → (D.bound < D.side → status ≡ GaveUp D.side D.bound) → WritesSome status result → WritesOutcome draws whole D held now result
  written whole is status result done gave_up w =
      subst (λ (t : List ℕ). WritesOutcome draws t D held now result) is (by_cases status result done gave_up w)

-- Answers of `solve`.

answered : (T : TreeValue) (A : Asked) (s : Solved) (status : Status) → IsSolved T A.sheet A.budget s → Ends (placed s.certificate) status → IsAnswered T A s status
answered T A s Done is ends =
    let same : s.certificate.bound ≡ s.certificate.side = omega (arith, is.proved.no_more, ends) in
    (is, same, is.proved.smallest same)
answered T A s (GaveUp side bound) is ends = (is, ends.0, ends.1, ends.2)
answered T A s status is ends = absurd ends

by_answer : (T : TreeValue) (A : Asked) (s : Solved) (held now : Sinks) (status : Status) → IsSolved T A.sheet A.budget s → WritesOutcome A.draws (certificate_text s.certificate) (placed s.certificate) held now status → WritesSolved T A held now status
by_answer T A s held now status is (inl w) = inl (s, answered T A s status is w.0, w.1)
by_answer T A s held now status is (inr (inl (fault, (meant, ends, front)))) = inr (inl (fault, (s, meant, answered T A s meant is ends, front)))
by_answer T A s held now status is (inr (inr memory)) = inr (inr memory)

pub of_solved : (T : TreeValue) (A : Asked) (s : Solved) (text : List ℕ) (D : Document) (held now : Sinks) (status : Status) → text ≡ certificate_text s.certificate → D ≡ placed s.certificate → IsSolved T A.sheet A.budget s → WritesOutcome A.draws text D held now status → WritesSolved T A held now status
of_solved T A s text D held now status is same solves w =
    by_answer T A s held now status solves
    (subst (λ (E : Document). WritesOutcome A.draws (certificate_text s.certificate) E held now status) same (subst (λ (t : List ℕ). WritesOutcome A.draws t D held now status) is w))

pub solved_drawable : (T : TreeValue) (A : Asked) (s : Solved) (D : Document) → D ≡ placed s.certificate → IsSolved T A.sheet A.budget s → (A.draws ≡ true → A.sheet ≡ Square) → A.draws ≡ true → Valid D.tree Square 1 D.side D.points
solved_drawable T A s D same is square draws =
    let C = s.certificate in
    let on : Valid T Square 1 C.side C.points = subst (λ (g : Sheet). Valid T g 1 C.side C.points) (is.proved.sheet ∙ square draws) is.proved.certifies.valid in
    let there : Valid C.tree Square 1 C.side C.points = subst (λ (t : TreeValue). Valid t Square 1 C.side C.points) (sym is.proved.tree) on in
    subst (λ (E : Document). Valid E.tree Square 1 E.side E.points) (sym same) there

pub placed_document : (C : Certificate) (D : Document) → D ≡ placed C → IsCertificate C → IsDocument D
placed_document C D same is =
    subst IsDocument (sym same) (record { tree = is.tree; side = is.side; bound = is.bound; each = is.each; points = is.points; floor = is.floor; proof = tt; sheet = is.sheet })

-- a design of a square can be drawn
pub drawable : (T : TreeValue) (A : Asked) (D : Document) → IsDesigned T A D → (A.draws ≡ true → A.sheet ≡ Square) → A.draws ≡ true → Valid D.tree Square 1 D.side D.points
drawable T A D d square draws =
    let on : Valid T Square 1 D.side D.points = subst (λ (g : Sheet). Valid T g 1 D.side D.points) (d.0.proved.sheet ∙ square draws) d.0.proved.checks.valid in
    subst (λ (t : TreeValue). Valid t Square 1 D.side D.points) (sym d.0.proved.checks.tree) on

-- the law of regions, for one document
abbrev pub LawOfRegions : TreeValue → Type 0
LawOfRegions T =
    (S : ℕ) (P : List Point) → Valid T Square 1 S P → (e f : ℕ) → IsEdge T e → IsEdge T f → IsFalse (is_below T e f) → IsFalse (is_below T f e)
    → (x y : ℕ) → Reach T S P e x y → Reach T S P f x y → ⊥

pub disjoint : (T : TreeValue) (D : Document) → T ≡ D.tree → LawOfRegions T → Valid D.tree Square 1 D.side D.points → AreDisjoint D
disjoint T D same law valid = subst LawOfRegions same law D.side D.points valid
