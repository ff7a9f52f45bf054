-- What is asked of a side, and what `design` writes.
use Rattle.std.specs.Prelude.{◌≡◌, ◌⊎◌, ℕ, ◌≤◌, min, max, List, length, filter, All, Any, Bool, true, false, Option, None, Some}
use Rattle.bp_base.specs.declared.point.Point.{Point}
use Rattle.bp_base.specs.declared.point.Sheet.{Sheet}
use Rattle.bp_base.specs.declared.path.Step.{Step}
use Rattle.bp_base.specs.declared.refutation.Refutation.{Refutation}
use Rattle.bp_base.specs.Tree.{TreeValue}
use Rattle.bp_metric.specs.Valid.{Valid, NoneBelow}
use Rattle.bp_metric.specs.Coordinates.{IsForced, IsShown}
use Rattle.bp_metric.specs.Next.{IsNext}
use Rattle.bp_metric.specs.Opening.{IsOpening, side_of}
use Rattle.bp_metric.specs.Floor.{IsFloor}
use Rattle.bp_metric.specs.Nodes.{Node, Part, SplitOf, ClosedBy, OpenBy, counted, nodes_of, weighs}
use Rattle.bp_metric.specs.Stated.{IsInner, IsStatedFor}
use Rattle.bp_metric.specs.Steady.{IsSteady}
use Rattle.bp_document.specs.declared.document.Document.{Document}
use Rattle.bp_check.specs.Checks.{Checks}

-- S is the least side, on any finer grid too
pub record IsWanted (T : TreeValue) (G : Sheet) (S : ℕ) : Type 0 where
  pub points : List Point
  pub valid : Valid T G 1 S points
  pub none_below : NoneBelow T G S

-- the claim counts with at least n, or it doesn't count
abbrev pub CountsFrom : ℕ → Option ℕ → Type 0
CountsFrom n None = Unit {0}
CountsFrom n (Some w) = n ≤ w

-- what stands in a written proof: splits at inner nodes of the stated tree on their next pair, leaves with the claim that is shown of their path, closed ones at no less than the side
abbrev pub IsWrittenPart : TreeValue → Sheet → ℕ → ℕ → List Step → Part → Type 0
IsWrittenPart T G u side path (SplitOf p children) = IsStatedFor T G u path × IsInner T G u path p
IsWrittenPart T G u side path (ClosedBy claim) = IsShown T G path claim × CountsFrom side (counted T G claim)
IsWrittenPart T G u side path (OpenBy claim) = IsShown T G path claim

abbrev pub IsWrittenNode : TreeValue → Sheet → ℕ → ℕ → Node → Type 0
IsWrittenNode T G u side node = IsWrittenPart T G u side node.path node.part

-- the bound that a proof of this weight gives
abbrev pub bound_of : ℕ → ℕ → Option ℕ → ℕ
bound_of side floor None = side
bound_of side floor (Some w) = min side (max floor w)

-- v is forced by a closed leaf whose path has no next pair
abbrev pub SolvedPart : TreeValue → Sheet → ℕ → List Step → Part → Type 0
SolvedPart T G v path (SplitOf p children) = ⊥
SolvedPart T G v path (ClosedBy claim) = IsForced T G path v × IsNext T path None
SolvedPart T G v path (OpenBy claim) = ⊥

abbrev pub IsSolved : TreeValue → Sheet → ℕ → Node → Type 0
IsSolved T G v node = SolvedPart T G v node.path node.part

-- the side is the least of u and of what the solved leaves force
pub record IsLeastSide (T : TreeValue) (G : Sheet) (u side : ℕ) (nodes : List Node) : Type 0 where
  pub no_more : side ≤ u
  pub least : (v : ℕ) → Any (IsSolved T G v) nodes → side ≤ v
  pub reached : (side ≡ u) ⊎ Any (IsSolved T G side) nodes

abbrev pub is_open : Part → Bool
is_open (SplitOf p children) = false
is_open (ClosedBy claim) = false
is_open (OpenBy claim) = true

abbrev pub is_examined : Part → Bool
is_examined (SplitOf p children) = true
is_examined (ClosedBy claim) = true
is_examined (OpenBy claim) = false

abbrev pub open_count : List Node → ℕ
open_count nodes = length (filter (λ (n : Node). is_open n.part) nodes)

abbrev pub examined_count : List Node → ℕ
examined_count nodes = length (filter (λ (n : Node). is_examined n.part) nodes)

-- a written proof: its nodes, its bound, its side, and that the budget B was spent where it has open leaves
pub record IsWrittenProof (T : TreeValue) (G : Sheet) (B u floor side bound : ℕ) (r : Refutation) : Type 0 where
  pub nodes : All (IsWrittenNode T G u side) (nodes_of T G r)
  pub bound_is : bound ≡ bound_of side floor (weighs T G r)
  pub side_is : IsLeastSide T G u side (nodes_of T G r)
  pub within_budget : examined_count (nodes_of T G r) ≤ B
  pub budget_spent : 1 ≤ open_count (nodes_of T G r) → examined_count (nodes_of T G r) ≡ B

-- without a proof the side is the floor's and so is the bound; with one it isn't
abbrev pub HasWrittenProof : TreeValue → Sheet → ℕ → ℕ → Document → Option Refutation → Type 0
HasWrittenProof T G B u D None = (D.side ≡ D.floor.side) × (D.bound ≡ D.side)
HasWrittenProof T G B u D (Some r) = (D.side ≡ D.floor.side → ⊥) × IsWrittenProof T G B u D.floor.side D.side D.bound r

-- what `design` writes for T with budget B; steady says whether the steady answer was asked for
pub record IsWritten (T : TreeValue) (B : ℕ) (steady : Bool) (D : Document) : Type 0 where
  pub checks : Checks T D
  pub floor : IsFloor T D.sheet D.floor
  pub opening : List Point
  pub is_opening : IsOpening T D.sheet opening
  pub no_worse : D.side ≤ side_of D.sheet opening
  -- where the opening meets the floor its points are written, unless the steady ones are asked for
  pub opening_points : steady ≡ false → side_of D.sheet opening ≡ D.floor.side → D.points ≡ opening
  pub steady_points : steady ≡ true → D.bound ≡ D.side → IsSteady T D.sheet D.side D.points
  pub proof : HasWrittenProof T D.sheet B (side_of D.sheet opening) D D.proof
