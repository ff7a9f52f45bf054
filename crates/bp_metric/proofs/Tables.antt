-- What stands where in the table of all distances.
use Rattle.std.proofs.Common.{◌≡◌, ℕ, ◌+◌, ◌-◌, ◌*◌, ◌<◌, ◌≤◌, List, [], ◌∷◌, length, get_or, take, sym, ◌∙◌, ap, subst, arith, length-append}
use Rattle.std.specs.List.{flat_map}
use Rattle.std.proofs.lemmas.List.{length-map, get_or-map, length-take-le, get_or_default}
use Rattle.std.proofs.lemmas.List.Concat.{get_or-flat_map}
use Rattle.bp_base.specs.Tree.{TreeValue, IsTree, IsLeaf, leaf_count, leaf_node, leaf_nodes}
use Rattle.bp_metric.specs.Distance.{dist, leaf_dist, most_distance}
use Rattle.bp_metric.specs.Table.{row_of, rows_of, IsTable}
use Rattle.bp_metric.proofs.Distances.{dist_small}

rows_long : (T : TreeValue) (nodes from : List ℕ) → length (rows_of T nodes from) ≡ length from * length nodes
rows_long T nodes [] = omega arith
rows_long T nodes (a ∷ from) =
    let ih = rows_long T nodes from in
    let row = length-map nodes (dist T a) in
    omega (arith, length-append (row_of T nodes a) (rows_of T nodes from), ih, row)

place_within : (a b n : ℕ) → a < n → b < n → a * n + b < n * n
place_within a b n from to = grind (arith)

pub table_long : (T : TreeValue) (table : List ℕ) → IsTable T table → length table ≡ leaf_count T * leaf_count T
table_long T table is = ap length is ∙ rows_long T (leaf_nodes T) (leaf_nodes T)

-- the entry of leaves i and j
pub table_at : (T : TreeValue) (table : List ℕ) (i j : ℕ) → IsTable T table → IsLeaf T i → IsLeaf T j → get_or table ((i - 1) * leaf_count T + (j - 1)) 0 ≡ leaf_dist T i j
table_at T table i j is leaf_i leaf_j =
    let nodes = leaf_nodes T in
    let row = row_of T nodes in
    let i_within : i - 1 < length nodes = omega (arith, leaf_i.0, leaf_i.1) in
    let j_within : j - 1 < length nodes = omega (arith, leaf_j.0, leaf_j.1) in
    let here = get_or nodes (i - 1) 0 in
    let in_row : j - 1 < length (row here) = omega (arith, j_within, length-map nodes (dist T here)) in
    let before : length (flat_map row (take (i - 1) nodes)) ≡ (i - 1) * leaf_count T = rows_long T nodes (take (i - 1) nodes) ∙ ap (λ (n : ℕ). n * length nodes) (length-take-le (i - 1) nodes (omega (arith, i_within))) in
    ap (λ (t : List ℕ). get_or t ((i - 1) * leaf_count T + (j - 1)) 0) is
    ∙ ap (λ (n : ℕ). get_or (rows_of T nodes nodes) (n + (j - 1)) 0) (sym before)
    ∙ get_or-flat_map row nodes (i - 1) (j - 1) 0 0 i_within in_row
    ∙ get_or-map (dist T here) nodes (j - 1) 0 0 j_within

pub place_in : (T : TreeValue) (table : List ℕ) (i j : ℕ) → IsTable T table → IsLeaf T i → IsLeaf T j → (i - 1) * leaf_count T + (j - 1) < length table
place_in T table i j is leaf_i leaf_j =
    let long = table_long T table is in
    let within = place_within (i - 1) (j - 1) (leaf_count T) (omega (arith, leaf_i.0, leaf_i.1)) (omega (arith, leaf_j.0, leaf_j.1)) in
    omega (arith, long, within)

-- what the code reads, with the lists as it has them
module _ (T : TreeValue) (leaves table : List ℕ) (U : TreeValue) (i j n len : ℕ) (ls : leaves ≡ leaf_nodes T) (is : IsTable T table) (same : T ≡ U) (leaf_i : IsLeaf U i) (leaf_j : IsLeaf U j) (read : n ≡ len) (long : len ≡ length leaves) where
  here_i : IsLeaf T i
  here_i = subst (λ (V : TreeValue). IsLeaf V i) (sym same) leaf_i

  here_j : IsLeaf T j
  here_j = subst (λ (V : TreeValue). IsLeaf V j) (sym same) leaf_j

  counted : n ≡ leaf_count T
  counted = read ∙ long ∙ ap length ls

  pub read_place : (room : ℕ) → room ≡ length table → (i - 1) * n + (j - 1) < room
  read_place room all = let h = place_in T table i j is here_i here_j in rw (counted, all) h

  pub read_dist : (r : ℕ) → r ≡ get_or table ((i - 1) * n + (j - 1)) r → r ≡ leaf_dist U i j
  read_dist r value =
      let at : r ≡ get_or table ((i - 1) * leaf_count T + (j - 1)) r = subst (λ (m : ℕ). r ≡ get_or table ((i - 1) * m + (j - 1)) r) counted value in
      let known : r ≡ leaf_dist T i j = at ∙ get_or_default table ((i - 1) * leaf_count T + (j - 1)) r 0 (place_in T table i j is here_i here_j) ∙ table_at T table i j is here_i here_j in
      subst (λ (V : TreeValue). r ≡ leaf_dist V i j) same known

  pub read_small : (r : ℕ) → r ≡ get_or table ((i - 1) * n + (j - 1)) r → IsTree T → r ≤ most_distance
  read_small r value t =
      let known = read_dist r value in
      let small : leaf_dist U i j ≤ most_distance = subst (λ (V : TreeValue). leaf_dist V i j ≤ most_distance) same (dist_small T t (leaf_node T i) (leaf_node T j)) in
      omega (arith, known, small)
