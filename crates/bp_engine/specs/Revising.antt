-- What `revise` reads and writes.
use Rattle.std.specs.Prelude.{◌≡◌, ◌⊎◌, ℕ, ◌<◌, ◌≤◌, List, length}
use Rattle.std.specs.declared.option.Option.{Option}
use Rattle.bp_base.specs.declared.point.Placement.{Placement}
use Rattle.bp_base.specs.Limits.{most_document_bytes}
use Rattle.bp_base.specs.Tree.{TreeValue}
use Rattle.bp_metric.specs.Nodes.{nodes_of}
use Rattle.bp_metric.specs.Valid.{NoneBelow}
use Rattle.bp_document.specs.declared.document.Document.{Document}
use Rattle.bp_document.specs.Ranges.{IsDocument}
use Rattle.bp_document.specs.Text.{doc_text}
use Rattle.bp_check.specs.Checks.{Checks}
use Rattle.bp_check.specs.Reasons.{IsFirstReason}
use Rattle.bp_check.specs.Written.{IsWanted}
use Rattle.bp_revise.specs.Apart.{open_paths}
use Rattle.bp_revise.specs.Keep.{AreOfOneShape, kept_of}
use Rattle.bp_revise.specs.Revised.{CoversGrown, IsRevised, budget_beside}
use Rattle.bp_revise.specs.Start.{IsStart}
use Rattle.bp_engine.specs.declared.status.Status.{Status}
use Rattle.bp_engine.specs.declared.status.Status.TheVariants.{Done, GaveUp, No, ShapeDiffers}
use Rattle.bp_engine.specs.Documents.{Handles, no_text}
use Rattle.bp_engine.specs.Reading.{ReadsDoc, ReadsNoTree, ReadsTree}

-- the old document checks against its own tree, and T has the same nodes, parents and names
pub record IsRevisable (T : TreeValue) (old : Document) : Type 0 where
  pub checks : Checks old.tree old
  pub shape : AreOfOneShape old.tree T

-- it checks against its own tree, but T has other nodes, parents or names
pub record DiffersInShape (T : TreeValue) (old : Document) : Type 0 where
  pub checks : Checks old.tree old
  pub other : AreOfOneShape old.tree T → ⊥

-- D is a revision of the old document for T, and its text is short enough to be read. No side below its bound has a valid placement, on any
-- finer grid either.
pub record IsRevisionOf (T : TreeValue) (old : Document) (B : ℕ) (D : Document) : Type 0 where
  pub revisable : IsRevisable T old
  pub revised : IsRevised T old B D
  pub ranges : IsDocument D
  pub short : length (doc_text D) ≤ most_document_bytes
  pub no_more : D.bound ≤ D.side
  pub none_below : NoneBelow T old.sheet D.bound

-- `revise` answers a document that is revisable by a revision: one whose bound is its side, so that no smaller sheet will do, or one whose
-- bound is less; and a document that doesn't check against its own tree by the first reason.
abbrev pub IsRevision : TreeValue → ℕ → Document → Status → List ℕ → Type 0
IsRevision T B old Done text = (D : Document) × IsRevisionOf T old B D × (D.bound ≡ D.side) × IsWanted T old.sheet D.side × (text ≡ doc_text D)
IsRevision T B old (GaveUp side bound) text = (D : Document) × IsRevisionOf T old B D × (D.bound < D.side) × (side ≡ D.side) × (bound ≡ D.bound) × (text ≡ doc_text D)
IsRevision T B old (No reason) text = IsFirstReason old.tree old reason × (text ≡ no_text reason)
IsRevision T B old status text = ⊥

-- a document was read to the end of the source whose shape differs
abbrev pub ReadsOtherShape : TreeValue → Option (List ℕ) → Option (List ℕ) → Type 0
ReadsOtherShape T left after = (old : Document) × ReadsDoc left after old × DiffersInShape T old

-- What `revise` has read behind the tree and written: no document came, or it was answered, or its shape differs and nothing was written.
abbrev pub RevisesAgainst : TreeValue → ℕ → Option (List ℕ) → Option (List ℕ) → Option (List ℕ) → Option (List ℕ) → Status → Type 0
RevisesAgainst T B left after held now status =
    Handles (IsRevision T B) left after held now status
    ⊎ (ReadsOtherShape T left after × (status ≡ ShapeDiffers) × (now ≡ held))

-- What `revise` has read and written: what was left of `tree` and of `doc` before and after, what the sink held before and after. Either no tree
-- came, or the document was read behind it.
abbrev pub RevisesBoth : ℕ → Option (List ℕ) → Option (List ℕ) → Option (List ℕ) → Option (List ℕ) → Option (List ℕ) → Option (List ℕ) → Status → Type 0
RevisesBoth B tree tree_after doc doc_after held now status =
    (ReadsNoTree tree tree_after status × (now ≡ held))
    ⊎ ((T : TreeValue) × ReadsTree tree tree_after T × RevisesAgainst T B doc doc_after held now status)

-- The budget is enough: it covers the paths that a revision may examine. A revision has one start.
abbrev pub CoversRevision : TreeValue → Document → ℕ → Type 0
CoversRevision T old B =
    (start : Placement) → IsStart T old.sheet old.points start
    → CoversGrown T old.sheet start.side (open_paths (nodes_of T old.sheet (kept_of T old.sheet start.side old.proof))) (budget_beside B (kept_of T old.sheet start.side old.proof))
