-- The document of a search.
use Rattle.std.proofs.Common.{◌≡◌, ◌≢◌, inl, inr, ℕ, ◌+◌, ◌-◌, ◌≤◌, List, [], length, get_or, All, Option, None, Some, refl, sym, ap, ◌∙◌, subst, arith}
use Rattle.std.proofs.lemmas.Bool.{cases_lt}
use Rattle.std.proofs.lemmas.List.{get_or_default, length-map}
use Rattle.std.proofs.lemmas.List.Elements.{All-map, recursion_from_All}
use Rattle.bp_base.specs.declared.point.Floor.{Floor}
use Rattle.bp_base.specs.declared.point.Point.{Point}
use Rattle.bp_base.specs.declared.point.Sheet.{Sheet}
use Rattle.bp_base.specs.declared.point.Sheet.TheVariants.{Square, Strip}
use Rattle.bp_base.specs.declared.record.Record.{Record}
use Rattle.bp_base.specs.declared.record.Settled.{Settled}
use Rattle.bp_base.specs.declared.record.Task.{Task}
use Rattle.bp_base.specs.declared.refutation.Refutation.{Refutation}
use Rattle.bp_base.specs.Limits.{most_number, most_steps}
use Rattle.bp_base.specs.Point.{origin, point_at, IsSmallPoint}
use Rattle.bp_base.specs.Tree.{TreeValue, IsTree, leaf_count}
use Rattle.bp_metric.specs.Chains.{HasPairsOf}
use Rattle.bp_metric.specs.Floor.{FloorHolds}
use Rattle.bp_metric.specs.Metric.{IsMetric, IsSheet, MetricValue}
use Rattle.bp_metric.specs.Nodes.{Node, Part, counted_part, nodes_of, parts_of, weighs}
use Rattle.bp_metric.specs.Refutation.{Fits}
use Rattle.bp_metric.specs.Valid.{Lies, NoneBelow, Valid}
use Rattle.bp_join.specs.Joined.{HasPairOf, IsJoined}
use Rattle.bp_document.specs.declared.document.Document.{Document}
use Rattle.bp_document.specs.Ranges.{HasProof, IsDocument, IsFloorLine, IsProof, IsSmallPart}
use Rattle.bp_check.specs.Checks.{Checks, IsBoundShown, ProofFits}
use Rattle.bp_check.specs.Written.{CountsFrom, bound_of}
use Rattle.bp_written.specs.Told.{CanBeTold, Counts, HasProofOf, IsDocumentOf, IsFloorOf, IsOfPairs}
use Rattle.bp_written.proofs.Bounds.{all_from, bound_shown, bound_small, bound_whole}
use Rattle.bp_written.proofs.FoundNodes.{all_found, examined_all, nodes_many, open_all_left}
use Rattle.bp_written.proofs.GoodNodes.{IsGood, good_fits, good_range, kind_good, open_good, pair_there}
use Rattle.bp_written.proofs.NodeParts.{depth_within, parts_same}

-- Placements.

place_small : (G : Sheet) (s : ℕ) (p : Point) → IsSheet G → s ≤ most_number → Lies G 1 s p → IsSmallPoint p
place_small Square s p sheet small lies = (omega (arith, lies.0, small), omega (arith, lies.1, small))
place_small (Strip width) s p sheet small lies = (omega (arith, lies.0, sheet), omega (arith, lies.1, small))

pub points_small : (T : TreeValue) (G : Sheet) (s : ℕ) (P : List Point) → IsSheet G → s ≤ most_number → Valid T G 1 s P → All IsSmallPoint P
points_small T G s P sheet small valid k d less =
    let lies = valid.inside (k + 1) (omega arith, omega (arith, less, valid.each)) in
    let here : k + 1 - 1 ≡ k = omega arith in
    let at : point_at P (k + 1) ≡ get_or P k d = ap (λ (i : ℕ). get_or P i origin) here ∙ get_or_default P k origin d less in
    place_small G s (get_or P k d) sheet small (subst (Lies G 1 s) at lies)

floor_line : (T : TreeValue) (G : Sheet) (f : Floor) → IsFloorOf T G f → IsFloorLine f
floor_line T G f is = record {
  m = omega (arith, is.small.m);
  side = omega (arith, is.small.side);
  leaves = record { some = is.holds.some; short = is.small.few; small = λ k d within. omega (arith, is.small.leaves k d within) };
}

-- The document with these parts.

abbrev pub document : TreeValue → Sheet → Settled → Floor → Option Refutation → ℕ → Document
document T G Z f proof bound = record { tree = T; side = Z.side; bound = bound; points = Z.points; floor = f; proof = proof; sheet = G }

pub is_told : (T : TreeValue) (G : Sheet) (Z : Settled) (f : Floor) (D : Document) → IsDocumentOf T G Z f D → D ≡ document T G Z f D.proof D.bound
is_told T G Z f D told i = record { tree = told.tree i; side = told.side i; bound = D.bound; points = told.points i; floor = told.floor i; proof = D.proof; sheet = told.sheet i }

-- What holds of each document that tells the search.
pub of_told : (T : TreeValue) (G : Sheet) (Z : Settled) (f : Floor) (P : Document → Type 0) → ((proof : Option Refutation) (bound : ℕ) → HasProofOf T G Z f proof bound → Checks T (document T G Z f proof bound) → IsDocument (document T G Z f proof bound) → P (document T G Z f proof bound)) → (D : Document) → IsDocumentOf T G Z f D → Checks T D → IsDocument D → P D
of_told T G Z f P step D told checks ranges =
    let same = is_told T G Z f D told in
    subst P (sym same) (step D.proof D.bound told.proof (subst (Checks T) same checks) (subst IsDocument same ranges))

module _ (T : TreeValue) (t : IsTree T) (G : Sheet) (Z : Settled) (can : CanBeTold T G Z) where
  records_pairs : All (λ (x : Record). HasPairOf T x.kind) Z.records
  records_pairs k d less = let x = get_or Z.records k d in pair_there T x.path x.kind (can.records k d less).1

  left_pairs : All (λ (x : Task). HasPairsOf (leaf_count T) x.path) Z.left
  left_pairs k d less = (can.left k d less).pairs

  module _ (r : Refutation) (joined : IsJoined T G Z.records Z.left r) where
    abbrev nodes : List Node
    nodes = nodes_of T G r

    all_good : All (IsGood T G) nodes
    all_good =
        all_found T G Z.records Z.left r joined (IsGood T G) (λ (x : Task). IsOfPairs T x.path) (open_good T G t)
        (λ k d less. let x = get_or Z.records k d in let is = can.records k d less in (is.0, kind_good T G x.path x.kind is.1))
        can.left

    joined_fits : Fits T G r []
    joined_fits = good_fits T G r all_good

    is_proof : IsProof r
    is_proof = record {
      lines = omega (arith, can.room, ap length (parts_same T G r), length-map nodes (λ (n : Node). n.part), nodes_many T G Z.records Z.left r joined);
      depth = depth_within T G most_steps r (λ k d less. (good_range T G t (get_or nodes k d) (all_good k d less)).0);
      parts = subst (All IsSmallPart) (parts_same T G r) (All-map IsSmallPart (λ (n : Node). n.part) nodes (λ k d less. (good_range T G t (get_or nodes k d) (all_good k d less)).1));
    }

    weighs_whole : length Z.left ≡ 0 → All (Counts T G Z.side) Z.records → CountsFrom Z.side (weighs T G r)
    unfolding weighs
    weighs_whole none counts =
        let P : Part → Type 0 = λ part. CountsFrom Z.side (counted_part T G part) in
        let each = all_found T G Z.records Z.left r joined (λ n. P n.part) (λ x. ⊥) (λ x n no is. absurd no) counts
        (λ k d less. absurd (omega (arith, less, none))) in
        let mapped : All P (parts_of r) = subst (All P) (parts_same T G r) (All-map P (λ (n : Node). n.part) nodes each) in
        all_from Z.side (counted_part T G) (parts_of r) (recursion_from_All P (parts_of r) mapped)

  module _ (sheet : IsSheet G) (f : Floor) (is_floor : IsFloorOf T G f) (law : NoneBelow T G f.side) where
    side_above : f.side ≤ Z.side
    side_above = elim (cases_lt Z.side f.side) [
      | inl less ↦ absurd (law 1 Z.side Z.points (omega arith) (omega (arith, less)) can.valid)
      | inr most ↦ most
    ]

    -- the document, and what holds of it
    abbrev pub Tells : Document → Type 0
    Tells D = IsDocumentOf T G Z f D × (Checks T D × IsDocument D)

    tells : (proof : Option Refutation) (bound : ℕ) → HasProofOf T G Z f proof bound → ProofFits T G proof → IsBoundShown T (document T G Z f proof bound) → HasProof proof → bound ≤ Z.side → Tells (document T G Z f proof bound)
    tells proof bound has fits shown within most = (
      record { tree = refl; sheet = refl; side = refl; points = refl; floor = refl; proof = has },
      (
        record { tree = refl; valid = can.valid; floor = is_floor.holds; fits = fits; bound = shown },
        record {
          tree = t;
          side = can.small;
          bound = omega (arith, most, can.small);
          each = can.valid.each;
          points = points_small T G Z.side Z.points sheet can.small can.valid;
          floor = floor_line T G f is_floor;
          proof = within;
          sheet = sheet;
        },
      ),
    )

    at_floor : Z.side ≡ f.side → Tells (document T G Z f None Z.side)
    at_floor meets = tells None Z.side (meets, refl) tt (inl (omega (arith, meets))) tt (omega arith)

    above_floor : Z.side ≢ f.side → (r : Refutation) → IsJoined T G Z.records Z.left r → (w : ℕ) → weighs T G r ≡ Some w → Tells (document T G Z f (Some r) (bound_of Z.side f.side (weighs T G r)))
    above_floor apart r joined w is =
        let fits = joined_fits r joined in
        tells (Some r) (bound_of Z.side f.side (weighs T G r)) (record {
          above = omega (arith, side_above, apart);
          joined = joined;
          fits = fits;
          examined = examined_all T G Z.records Z.left r joined;
          opened = open_all_left T G Z.records Z.left r joined;
          bound_is = refl;
          whole = λ none counts. bound_whole Z.side f.side (weighs T G r) (weighs_whole r joined none counts);
        })
        fits (bound_shown Z.side f.side w (weighs T G r) is) (is_proof r joined) (bound_small Z.side f.side (weighs T G r))

-- what the code asks, with the facts as it has them of a metric
module _ (M : MetricValue) (m : IsMetric M) (Z : Settled) (can : CanBeTold M.tree M.sheet Z) where
  pub pairs_of_records : (records : List Record) → records ≡ Z.records → All (λ (x : Record). HasPairOf M.tree x.kind) records
  pairs_of_records records is = subst (All (λ (x : Record). HasPairOf M.tree x.kind)) (sym is) (records_pairs M.tree m.tree M.sheet Z can)

  pub pairs_of_left : (tasks : List Task) → tasks ≡ Z.left → All (λ (x : Task). HasPairsOf (leaf_count M.tree) x.path) tasks
  pairs_of_left tasks is =
      subst (All (λ (x : Task). HasPairsOf (leaf_count M.tree) x.path)) (sym is) (left_pairs M.tree m.tree M.sheet Z can)

  same_joined : (records : List Record) → records ≡ Z.records → (tasks : List Task) → tasks ≡ Z.left → (r : Refutation) → IsJoined M.tree M.sheet records tasks r → IsJoined M.tree M.sheet Z.records Z.left r
  same_joined records first tasks second r joined =
      subst (λ (ts : List Task). IsJoined M.tree M.sheet Z.records ts r) second (subst (λ (rs : List Record). IsJoined M.tree M.sheet rs tasks r) first joined)

  pub fits_joined : (records : List Record) → records ≡ Z.records → (tasks : List Task) → tasks ≡ Z.left → (r : Refutation) → IsJoined M.tree M.sheet records tasks r → Fits M.tree M.sheet r []
  fits_joined records first tasks second r joined = joined_fits M.tree m.tree M.sheet Z can r (same_joined records first tasks second r joined)

  module _ (f : Floor) (is_floor : IsFloorOf M.tree M.sheet f) (law : (g : Floor) → FloorHolds M.tree M.sheet g → NoneBelow M.tree M.sheet g.side) (T : TreeValue) (same : T ≡ M.tree) (G : Sheet) (on : G ≡ M.sheet) where
    abbrev TellsIt : Document → Type 0
    TellsIt D = IsDocumentOf M.tree M.sheet Z f D × (Checks M.tree D × IsDocument D)

    pub found_at_floor : Z.side ≡ f.side → TellsIt (record { tree = T; side = Z.side; bound = Z.side; points = Z.points; floor = f; proof = None; sheet = G })
    found_at_floor meets =
        subst TellsIt (λ i. record { tree = sym same i; side = Z.side; bound = Z.side; points = Z.points; floor = f; proof = None; sheet = sym on i })
        (at_floor M.tree m.tree M.sheet Z can m.sheet f is_floor (law f is_floor.holds) meets)

    pub found_above : Z.side ≢ f.side → (records : List Record) → records ≡ Z.records → (tasks : List Task) → tasks ≡ Z.left → (r : Refutation) → IsJoined M.tree M.sheet records tasks r → ((R : Refutation) → Fits M.tree M.sheet R [] → (w : ℕ) × (weighs M.tree M.sheet R ≡ Some w)) → (weight : Option ℕ) → weight ≡ weighs M.tree M.sheet r → (bound : ℕ) → bound ≡ bound_of Z.side f.side weight → TellsIt (record { tree = T; side = Z.side; bound = bound; points = Z.points; floor = f; proof = Some r; sheet = G })
    found_above apart records first tasks second r joined counts weight weighed bound bounded =
        let is = same_joined records first tasks second r joined in
        let w = counts r (joined_fits M.tree m.tree M.sheet Z can r is) in
        let whole : bound ≡ bound_of Z.side f.side (weighs M.tree M.sheet r) = bounded ∙ ap (bound_of Z.side f.side) weighed in
        subst TellsIt (λ i. record { tree = sym same i; side = Z.side; bound = sym whole i; points = Z.points; floor = f; proof = Some r; sheet = sym on i })
        (above_floor M.tree m.tree M.sheet Z can m.sheet f is_floor (law f is_floor.holds) apart r is w.0 w.1)
