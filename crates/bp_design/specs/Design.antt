-- A design: what it proves to whoever reads it, and how the search of this crate writes it.
use Rattle.std.specs.Prelude.{◌≡◌, ℕ, ◌<◌, ◌≤◌, length, Bool, Some}
use Rattle.bp_base.specs.declared.point.Sheet.{Sheet}
use Rattle.bp_base.specs.declared.refutation.Refutation.{Refutation}
use Rattle.bp_base.specs.Limits.{most_document_bytes}
use Rattle.bp_base.specs.Tree.{TreeValue}
use Rattle.bp_metric.specs.Nodes.{nodes_of}
use Rattle.bp_metric.specs.Stated.{CoversStated}
use Rattle.bp_metric.specs.Valid.{NoneBelow}
use Rattle.bp_document.specs.declared.document.Document.{Document}
use Rattle.bp_document.specs.Ranges.{IsDocument}
use Rattle.bp_document.specs.Text.{doc_text}
use Rattle.bp_check.specs.Checks.{Checks}
use Rattle.bp_check.specs.Written.{IsWanted, IsWritten, examined_count, open_count}

-- D is a document of T on this sheet that checks, and its text is short enough to be read. Its points are valid at its side; no side below its bound has a valid placement, on any
-- finer grid either; and where the bound is the side, no smaller sheet will do.
pub record IsProved (T : TreeValue) (G : Sheet) (D : Document) : Type 0 where
  pub tree : D.tree ≡ T
  pub sheet : D.sheet ≡ G
  pub ranges : IsDocument D
  pub checks : Checks T D
  pub short : length (doc_text D) ≤ most_document_bytes
  pub no_more : D.bound ≤ D.side
  pub none_below : NoneBelow T G D.bound
  pub smallest : D.bound ≡ D.side → IsWanted T G D.side

-- Why the bound is less than the side: some nodes are left open, and the whole budget was spent on the others. That the inner ones stand in
-- the stated tree is a part of what is written.
pub record IsGivenUp (B : ℕ) (D : Document) : Type 0 where
  pub refutation : Refutation
  pub proof : D.proof ≡ Some refutation
  pub left : 1 ≤ open_count (nodes_of D.tree D.sheet refutation)
  pub spent : examined_count (nodes_of D.tree D.sheet refutation) ≡ B

-- D is a design of T on this sheet with this budget, by the steady answer or without it
pub record IsDesign (T : TreeValue) (G : Sheet) (B : ℕ) (steady : Bool) (D : Document) : Type 0 where
  pub proved : IsProved T G D
  -- a budget that covers the stated tree is enough
  pub complete : CoversStated T G B → D.bound ≡ D.side
  -- how the search writes it; by the steady answer the points are the steady ones where the bound is the side
  pub written : IsWritten T B steady D
  pub given_up : D.bound < D.side → IsGivenUp B D
