-- What is kept, taken apart, is a revision on its way.
use Rattle.std.proofs.Common.{◌≡◌, inl, ℕ, ◌<◌, List, [], ◌++◌, length, get_or, map, All, refl, sym, ap, ◌∙◌, subst, arith}
use Rattle.std.specs.List.{filter}
use Rattle.std.proofs.lemmas.List.{append-nil, get_or-map, get_or_default, length-map}
use Rattle.std.proofs.lemmas.List.Elements.{All-filter, All-map}
use Rattle.bp_base.specs.declared.path.Step.{Step}
use Rattle.bp_base.specs.declared.point.Placement.{Placement}
use Rattle.bp_base.specs.declared.point.Point.{Point}
use Rattle.bp_base.specs.declared.point.Sheet.{Sheet}
use Rattle.bp_base.specs.declared.record.Record.{Record}
use Rattle.bp_base.specs.declared.record.Task.{Task}
use Rattle.bp_base.specs.declared.refutation.Refutation.{Refutation}
use Rattle.bp_base.specs.Tree.{TreeValue}
use Rattle.bp_metric.specs.Nodes.{Node, nodes_of}
use Rattle.bp_metric.specs.Records.{paths_left}
use Rattle.bp_metric.specs.Refutation.{Fits}
use Rattle.bp_metric.specs.Valid.{Valid}
use Rattle.bp_check.specs.Written.{is_open}
use Rattle.bp_check.proofs.Reading.{nodes-whole}
use Rattle.bp_join.specs.Joined.{node_of}
use Rattle.bp_written.specs.Told.{IsOfPairs}
use Rattle.bp_revise.specs.Apart.{examined, nodes_below, open_paths}
use Rattle.bp_revise.specs.Course.{IsBegun, IsLeft, IsOnCourse}
use Rattle.bp_revise.specs.Revised.IsGrown.{root}
use Rattle.bp_written.proofs.GoodNodes.{IsGood}
use Rattle.bp_revise.proofs.GoodNodes.{all_good, begun_balanced}

module _ (T : TreeValue) (G : Sheet) (kept : Refutation) where
  -- from nothing
  pub begins : (records : List Record) (left : List Task) → map (node_of T G) records ≡ [] ++ examined (nodes_below T G kept []) → paths_left left ≡ [] ++ open_paths (nodes_below T G kept []) → IsBegun T G kept records left
  begins records left first second = record {
    records = first ∙ ap examined (sym (nodes-whole T G kept));
    left = second ∙ ap open_paths (sym (nodes-whole T G kept));
  }

  module _ (fits : Fits T G kept []) (start : Placement) (records : List Record) (left : List Task) (begun : IsBegun T G kept records left) where
    abbrev roots : List (List Step)
    roots = open_paths (nodes_of T G kept)

    root_pairs : All (IsOfPairs T) roots
    root_pairs =
        let good = All-filter (λ (n : Node). is_open n.part) (IsGood T G) (nodes_of T G kept) (all_good T G kept fits) in
        All-map (IsOfPairs T) (λ (n : Node). n.path) (filter (λ (n : Node). is_open n.part) (nodes_of T G kept)) (λ k d less. (good k d less).0)

    all_left : All (IsLeft T G start.side roots) left
    all_left k d less =
        let there : k < length roots = omega (arith, less, ap length begun.left, length-map left (λ (x : Task). x.path)) in
        let is : get_or roots k d.path ≡ (get_or left k d).path = ap (λ (l : List (List Step)). get_or l k d.path) (sym begun.left) ∙ get_or-map (λ (x : Task). x.path) left k d d.path less in (
          subst (IsOfPairs T) is (root_pairs k d.path there),
          root (k, there, get_or_default roots k (get_or left k d).path d.path there ∙ is),
        )

    pub on_course : (side : ℕ) (points : List Point) → side ≡ start.side → points ≡ start.points → Valid T G 1 start.side start.points → IsOnCourse T G start records roots (record { records = records; left = left; side = side; points = points; examined = 0 })
    on_course side points same_side same_points valid = record {
      made = [];
      records = sym (append-nil records);
      many = refl;
      each = λ k d less. absurd (omega (arith, less));
      balanced = begun_balanced T G kept records left begun fits;
      no_worse = omega (arith, same_side);
      least = λ v (k, r, less, at, solves). absurd (omega (arith, less));
      reached = inl same_side;
      valid = subst (λ (P : List Point). Valid T G 1 side P) (sym same_points) (subst (λ (s : ℕ). Valid T G 1 s start.points) (sym same_side) valid);
      points = λ still. same_points;
      solved = λ less. absurd (omega (arith, less, same_side));
      left = all_left;
    }
