-- The distances of all leaves in one list, row after row.
use Rattle.std.specs.Prelude.{◌≡◌, ℕ, List, map}
use Rattle.std.specs.List.{flat_map}
use Rattle.bp_base.specs.Tree.{TreeValue, leaf_nodes}
use Rattle.bp_metric.specs.Distance.{dist}

-- the distances of node a and these nodes
abbrev pub row_of : TreeValue → List ℕ → ℕ → List ℕ
row_of T nodes a = map (dist T a) nodes

abbrev pub rows_of : TreeValue → List ℕ → List ℕ → List ℕ
rows_of T nodes from = flat_map (row_of T nodes) from

abbrev pub IsTable : TreeValue → List ℕ → Type 0
IsTable T table = table ≡ rows_of T (leaf_nodes T) (leaf_nodes T)
