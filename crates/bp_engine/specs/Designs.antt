-- What `design` reads and writes.
use Rattle.std.specs.Prelude.{◌≡◌, ◌⊎◌, ℕ, ◌+◌, ◌<◌, List, Bool, true, false, IsFalse}
use Rattle.std.specs.declared.option.Option.{Option}
use Rattle.std.specs.declared.option.Option.TheVariants.{None, Some}
use Rattle.bp_base.specs.Causes.{Appends, AppendsFront}
use Rattle.bp_base.specs.Tree.{TreeValue, IsEdge}
use Rattle.bp_metric.specs.Distance.{is_below}
use Rattle.bp_document.specs.declared.document.Document.{Document}
use Rattle.bp_document.specs.Text.{doc_text}
use Rattle.bp_check.specs.Written.{IsWanted}
use Rattle.bp_design.specs.Design.{IsDesign, IsGivenUp}
use Rattle.bp_design.specs.Replayed.{IsReplay}
use Rattle.bp_regions.specs.Cells.{Reach}
use Rattle.bp_steady.specs.Sums.{IsMAtLeast}
use Rattle.bp_fold.specs.declared.drawing.Drawing.{Drawing}
use Rattle.bp_fold.specs.Drawings.{IsDrawing}
use Rattle.bp_fold.specs.FoldText.{fold_text}
use Rattle.bp_engine.specs.declared.design.Asked.{Asked}
use Rattle.bp_engine.specs.declared.status.Status.{Status}
use Rattle.bp_engine.specs.declared.status.Status.TheVariants.{Done, GaveUp, WriteFault, NoMemory, Unsteady}
use Rattle.bp_engine.specs.Reading.{ReadsNoTree, ReadsTree}

-- the text is that of the drawing of D's regions
pub record IsFoldTextOf (D : Document) (text : List ℕ) : Type 0 where
  pub drawing : Drawing
  pub is : IsDrawing (record { tree = D.tree; side = D.side; points = D.points }) drawing
  pub text_is : text ≡ fold_text drawing

-- Reach of two edges neither of which is above the other shares no cell.
abbrev pub AreDisjoint : Document → Type 0
AreDisjoint D = (e f : ℕ) → IsEdge D.tree e → IsEdge D.tree f → IsFalse (is_below D.tree e f) → IsFalse (is_below D.tree f e)
    → (x y : ℕ) → Reach D.tree D.side D.points e x y → Reach D.tree D.side D.points f x y → ⊥

-- what the sinks `out` and `fold` hold, where they tell it
pub record Sinks : Type 0 where
  pub out : Option (List ℕ)
  pub fold : Option (List ℕ)

-- the drawing was written, where one is asked for
abbrev pub WritesFold : Bool → Document → Option (List ℕ) → Option (List ℕ) → Type 0
WritesFold false D held now = now ≡ held
WritesFold true D held now = AreDisjoint D × ((text : List ℕ) × IsFoldTextOf D text × Appends held now text)

-- the text was written, and behind it the drawing of D, where one is asked for
abbrev pub WritesAll : Bool → List ℕ → Document → Sinks → Sinks → Type 0
WritesAll draws text D held now = Appends held.out now.out text × WritesFold draws D held.fold now.fold

-- a front of the drawing was written
abbrev pub WritesFoldFront : Bool → Document → Option (List ℕ) → Option (List ℕ) → Type 0
WritesFoldFront false D held now = ⊥
WritesFoldFront true D held now = (text : List ℕ) × IsFoldTextOf D text × AppendsFront held now text

-- a front of the text was written, and nothing on `fold`; or all of it, and a front of the drawing
abbrev pub WritesFront : Bool → List ℕ → Document → Sinks → Sinks → Type 0
WritesFront draws text D held now =
    (AppendsFront held.out now.out text × (now.fold ≡ held.fold))
    ⊎ (Appends held.out now.out text × WritesFoldFront draws D held.fold now.fold)

-- where a replay is asked for, D tells the search of so many hands by the generator's draws from this seed
abbrev pub Replays : TreeValue → Asked → Bool → Option ℕ → Document → Type 0
Replays T A steady None D = Unit {0}
Replays T A steady (Some seed) D = IsReplay T A.sheet A.hands A.budget seed steady D

-- D is a design as it is asked for, by the steady answer or without it
abbrev pub IsDesignBy : TreeValue → Asked → Bool → Document → Type 0
IsDesignBy T A steady D = IsDesign T A.sheet A.budget steady D × Replays T A steady A.replay D

-- the steady answer is asked for
abbrev pub is_steady : Option ℕ → Bool
is_steady None = false
is_steady (Some quota) = true

-- D is the design that is asked for
abbrev pub IsDesigned : TreeValue → Asked → Document → Type 0
IsDesigned T A D = IsDesignBy T A (is_steady A.steady) D

-- Why no steady answer came: some design without it has a bound that is its side, and M of that side is greater than the budget of the steady
-- answer.
pub record IsUnsteady (T : TreeValue) (A : Asked) (quota : ℕ) : Type 0 where
  pub asked : A.steady ≡ Some quota
  pub design : Document
  pub is_design : IsDesign T A.sheet A.budget false design
  pub whole : design.bound ≡ design.side
  pub more : IsMAtLeast T A.sheet design.side (quota + 1)

-- why nothing is written for a tree
abbrev pub HasNone : TreeValue → Asked → Status → Type 0
HasNone T A NoMemory = Unit {0}
HasNone T A (Unsteady quota) = IsUnsteady T A quota
HasNone T A status = ⊥

-- Which document is written with which status: a design whose bound is its side, so that no smaller sheet will do, or one whose bound is
-- less.
abbrev pub IsFound : TreeValue → Asked → Document → Status → Type 0
IsFound T A D Done = IsDesigned T A D × (D.bound ≡ D.side) × IsWanted T A.sheet D.side
IsFound T A D (GaveUp side bound) = IsDesigned T A D × (D.bound < D.side) × IsGivenUp A.budget D × (side ≡ D.side) × (bound ≡ D.bound)
IsFound T A D status = ⊥

-- What was written for a tree: the design whole, or a front of it and a fault of writing, or nothing: what the sinks held before and after.
abbrev pub WritesDesign : TreeValue → Asked → Sinks → Sinks → Status → Type 0
WritesDesign T A held now status =
    ((D : Document) × IsFound T A D status × WritesAll A.draws (doc_text D) D held now)
    ⊎ (((status ≡ WriteFault) × ((D : Document) × (meant : Status) × IsFound T A D meant × WritesFront A.draws (doc_text D) D held now))
    ⊎ (HasNone T A status × (now ≡ held)))

-- What `design` has read and written: what was left of the source before and after, what the sinks held before and after. Either no tree came,
-- or it was designed.
abbrev pub Designs : Asked → Option (List ℕ) → Option (List ℕ) → Sinks → Sinks → Status → Type 0
Designs A left after held now status =
    (ReadsNoTree left after status × (now ≡ held))
    ⊎ ((T : TreeValue) × ReadsTree left after T × WritesDesign T A held now status)
