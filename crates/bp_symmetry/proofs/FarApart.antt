-- A valid placement of each tree: its tips one below the other, each farther from the next than any two leaves are apart.
use Rattle.std.proofs.Common.{◌≡◌, ℕ, ◌-◌, ◌*◌, ◌<◌, ◌≤◌, List, length, map, get_or, sym, ◌∙◌, ap, subst, arith}
use Rattle.std.specs.List.{range_with_len}
use Rattle.std.proofs.lemmas.List.{length-map, get_or-map}
use Rattle.std.proofs.lemmas.List.FromFn.{length-range_with_len, get_or-range_with_len}
use Rattle.bp_base.specs.declared.point.Point.{Point}
use Rattle.bp_base.specs.declared.point.Sheet.{Sheet}
use Rattle.bp_base.specs.declared.point.Sheet.TheVariants.{Square, Strip}
use Rattle.bp_base.specs.Point.{origin, point_at, gap}
use Rattle.bp_base.specs.Tree.{TreeValue, IsTree, IsLeaf, leaf_count, leaf_node}
use Rattle.bp_metric.specs.Distance.{leaf_dist, most_distance}
use Rattle.bp_metric.specs.Valid.{IsPair, Lies, Valid}
use Rattle.bp_metric.proofs.Distances.{dist_small}

abbrev far_point : ℕ → Point
far_point k = record { x = 0; y = k * most_distance }

abbrev pub far_points : ℕ → List Point
far_points n = map far_point (range_with_len 0 n)

far_at : (n i : ℕ) → 1 ≤ i → i ≤ n → point_at (far_points n) i ≡ far_point (i - 1)
far_at n i from to =
    let within : i - 1 < length (range_with_len 0 n) = omega (arith, length-range_with_len 0 n) in
    let number : get_or (range_with_len 0 n) (i - 1) 0 ≡ i - 1 = omega (arith, get_or-range_with_len 0 n (i - 1) 0 (omega arith)) in
    get_or-map far_point (range_with_len 0 n) (i - 1) 0 origin within ∙ ap far_point number

module _ (T : TreeValue) (t : IsTree T) where
  lies : (G : Sheet) (i : ℕ) → IsLeaf T i → Lies G 1 (leaf_count T * most_distance) (far_point (i - 1))
  lies Square i leaf = (omega arith, omega (arith, leaf.0, leaf.1))
  lies (Strip width) i leaf = (omega arith, omega (arith, leaf.0, leaf.1))

  far : (i j : ℕ) → IsPair T i j → 1 * leaf_dist T i j ≤ gap (far_point (i - 1)) (far_point (j - 1))
  far i j pair = omega (arith, dist_small T t (leaf_node T i) (leaf_node T j), pair.0, pair.1)

  far_moved : (i j : ℕ) (p r : Point) → p ≡ far_point (i - 1) → r ≡ far_point (j - 1) → IsPair T i j → 1 * leaf_dist T i j ≤ gap p r
  far_moved i j p r first second pair =
      subst (λ (o : Point). 1 * leaf_dist T i j ≤ gap o r) (sym first) (subst (λ (o : Point). 1 * leaf_dist T i j ≤ gap (far_point (i - 1)) o) (sym second) (far i j pair))

  pub far_valid : (G : Sheet) → Valid T G 1 (leaf_count T * most_distance) (far_points (leaf_count T))
  far_valid G = record {
    each = length-map (range_with_len 0 (leaf_count T)) far_point ∙ length-range_with_len 0 (leaf_count T);
    inside = λ i leaf. subst (Lies G 1 (leaf_count T * most_distance)) (sym (far_at (leaf_count T) i leaf.0 leaf.1)) (lies G i leaf);
    far = λ i j pair. far_moved i j (point_at (far_points (leaf_count T)) i) (point_at (far_points (leaf_count T)) j) (far_at (leaf_count T) i pair.0 (omega arith)) (far_at (leaf_count T) j (omega arith) pair.2) pair;
  }
