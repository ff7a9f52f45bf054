-- The paths of tasks left are the root or children of split records, so they stand in the stated tree.
use Rattle.std.proofs.Common.{◌≡◌, ℕ, suc, List, [], ◌∷◌, ◌++◌, All, get_or, sym, ap, ◌∙◌, subst, arith}
use Rattle.std.specs.List.{Contains, flat_map}
use Rattle.std.proofs.lemmas.List.{get_or-map, length-map}
use Rattle.std.proofs.lemmas.List.Concat.{flat_map-cons}
use Rattle.std.proofs.lemmas.List.Elements.{All-append, All-contains, All-contains_itself, All-cons, All-map, Contains-append_right}
use Rattle.bp_base.specs.declared.path.Choice.{Choice}
use Rattle.bp_base.specs.declared.path.Pair.{Pair}
use Rattle.bp_base.specs.declared.path.Step.{Step}
use Rattle.bp_base.specs.declared.point.Point.{Point}
use Rattle.bp_base.specs.declared.point.Sheet.{Sheet}
use Rattle.bp_base.specs.declared.record.Record.{Record}
use Rattle.bp_base.specs.declared.record.RecordKind.{RecordKind}
use Rattle.bp_base.specs.declared.record.RecordKind.TheVariants.{Split, Closed}
use Rattle.bp_base.specs.declared.record.Task.{Task}
use Rattle.bp_base.specs.Tree.{TreeValue}
use Rattle.bp_base.proofs.Bags.{kept_path, same_sym}
use Rattle.bp_metric.specs.Choices.{allowed}
use Rattle.bp_metric.specs.Opening.{IsOpening, IsOpeningSide, side_of}
use Rattle.bp_metric.specs.Records.{IsBalanced, IsJudged, IsSound, children_of, children_of_kind, paths_left, paths_of}
use Rattle.bp_metric.specs.Refutation.{extended}
use Rattle.bp_metric.specs.Stated.{IsInner, IsStated, IsStatedFor}

-- what holds of each list of one step's results holds of all of them
all_flat : {X A : Type 0} (P : A → Type 0) (f : X → List A) (xs : List X) → All (λ x. All P (f x)) xs → All P (flat_map f xs)
all_flat P f [] all = λ k d less. absurd (omega (arith, less))
all_flat P f (x ∷ xs) all =
    subst (All P) (sym (flat_map-cons f x xs)) (All-append P (f x) (flat_map f xs) (all 0 x (omega arith)) (all_flat P f xs (λ k d less. all (suc k) d (omega (arith, less)))))

module _ (T : TreeValue) (G : Sheet) (openings : (P Q : List Point) → IsOpening T G P → IsOpening T G Q → P ≡ Q) where
  pub one_side : (u v : ℕ) → IsOpeningSide T G u → IsOpeningSide T G v → u ≡ v
  one_side u v first second =
      first.is_side ∙ ap (side_of G) (openings first.opening second.opening first.is_opening second.is_opening) ∙ sym second.is_side

  module _ (child_stated : (u : ℕ) (path : List Step) (p : Pair) (c : Choice) → IsStatedFor T G u path → IsInner T G u path p → Contains (allowed T G p) c → IsStatedFor T G u (extended path p c)) where
    root_stated : IsStated T G []
    root_stated u is_side k less = absurd (omega (arith, less))

    children_stated : (u : ℕ) (r : Record) (kind : RecordKind) → IsOpeningSide T G u → IsStatedFor T G u r.path → IsJudged T G u r kind → All (IsStated T G) (children_of_kind T G r.path kind)
    children_stated u r (Closed claim) is_side stated judged = λ k d less. absurd (omega (arith, less))
    children_stated u r (Split p) is_side stated judged =
        All-map (IsStated T G) (extended r.path p) (allowed T G p) (λ k d less. child (get_or (allowed T G p) k d) (All-contains_itself (allowed T G p) k d less))
      where
        child : (c : Choice) → Contains (allowed T G p) c → IsStated T G (extended r.path p c)
        child c among v other =
            subst (λ (w : ℕ). IsStatedFor T G w (extended r.path p c)) (one_side u v is_side other) (child_stated u r.path p c stated judged.0 among)

    -- each path left is one of a balanced list of the root and children
    pub left_stated : (S : ℕ) (records : List Record) (left : List Task) → IsBalanced T G records left → All (IsSound T G S) records → All (λ (t : Task). IsStated T G t.path) left
    left_stated S records left balanced sound k d less =
        All-contains (IsStated T G) born (get_or left k d).path
        (All-cons (IsStated T G) [] (flat_map (children_of T G) records) root_stated (all_flat (IsStated T G) (children_of T G) records (λ i e below. let s = sound i e below in children_stated s.opening_side (get_or records i e) (get_or records i e).kind s.is_opening_side s.stated s.judged)))
        (kept_path (paths_of records ++ paths_left left) born (get_or left k d).path (same_sym born (paths_of records ++ paths_left left) balanced) (Contains-append_right (paths_of records) (paths_left left) (get_or left k d).path here))
      where
        born : List (List Step)
        born = [] ∷ flat_map (children_of T G) records

        path_of : Task → List Step
        path_of t = t.path

        here : Contains (paths_left left) (get_or left k d).path
        here = (k, omega (arith, less, length-map left path_of), get_or-map path_of left k d (get_or left k d).path less)
