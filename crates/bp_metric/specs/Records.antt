-- Records of a search: that no branch is lost or doubled, and that each is what judging its path gives.
use Rattle.std.specs.Prelude.{◌⊎◌, ℕ, ◌<◌, ◌≤◌, List, [], ◌∷◌, ◌++◌, map, None}
use Rattle.std.specs.List.{flat_map}
use Rattle.bp_base.specs.declared.point.Sheet.{Sheet}
use Rattle.bp_base.specs.declared.path.Pair.{Pair}
use Rattle.bp_base.specs.declared.path.Step.{Step}
use Rattle.bp_base.specs.declared.record.Task.{Task}
use Rattle.bp_base.specs.declared.record.Record.{Record}
use Rattle.bp_base.specs.declared.record.RecordKind.{RecordKind}
use Rattle.bp_base.specs.declared.record.RecordKind.TheVariants.{Split, Closed}
use Rattle.bp_base.specs.Tree.{TreeValue}
use Rattle.bp_base.specs.Bags.{AreSame}
use Rattle.bp_metric.specs.Choices.{allowed}
use Rattle.bp_metric.specs.Coordinates.{IsForced, IsShown}
use Rattle.bp_metric.specs.Next.{IsNext}
use Rattle.bp_metric.specs.Opening.{IsOpeningSide}
use Rattle.bp_metric.specs.Refutation.{extended}
use Rattle.bp_metric.specs.Stated.{IsInner, IsStatedFor}

-- the path extended by the pair and each allowed choice
abbrev pub children : TreeValue → Sheet → List Step → Pair → List (List Step)
children T G path p = map (extended path p) (allowed T G p)

abbrev pub children_of_kind : TreeValue → Sheet → List Step → RecordKind → List (List Step)
children_of_kind T G path (Split p) = children T G path p
children_of_kind T G path (Closed claim) = []

abbrev pub children_of : TreeValue → Sheet → Record → List (List Step)
children_of T G r = children_of_kind T G r.path r.kind

abbrev pub paths_of : List Record → List (List Step)
paths_of records = map (λ (r : Record). r.path) records

abbrev pub paths_left : List Task → List (List Step)
paths_left left = map (λ (t : Task). t.path) left

-- the empty path and all children of splits are, each as often, the paths of the records and of the tasks left
abbrev pub IsBalanced : TreeValue → Sheet → List Record → List Task → Type 0
IsBalanced T G records left = AreSame ([] ∷ flat_map (children_of T G) records) (paths_of records ++ paths_left left)

-- the record's kind is what judging its path gives
abbrev pub IsJudged : TreeValue → Sheet → ℕ → Record → RecordKind → Type 0
IsJudged T G u r (Split p) = IsInner T G u r.path p × ((v : ℕ) → IsForced T G r.path v → v < r.bound)
IsJudged T G u r (Closed claim) =
    IsShown T G r.path claim × (((v : ℕ) → IsForced T G r.path v → r.bound ≤ v) ⊎ IsNext T r.path None)

-- the record is sound for side S
pub record IsSound (T : TreeValue) (G : Sheet) (S : ℕ) (r : Record) : Type 0 where
  pub opening_side : ℕ
  pub is_opening_side : IsOpeningSide T G opening_side
  pub stated : IsStatedFor T G opening_side r.path
  pub no_less : S ≤ r.bound
  pub no_more : r.bound ≤ opening_side
  pub judged : IsJudged T G opening_side r r.kind
