-- What a revision ends with, and the document that is written of it.
use Rattle.std.proofs.Common.{◌≡◌, ◌⊎◌, inl, inr, ℕ, zero, suc, ◌+◌, ◌*◌, ◌<◌, ◌≤◌, cond, List, [], ◌∷◌, ◌++◌, length, get_or, map, All, Any, refl, sym, ap, ◌∙◌, subst, arith}
use Rattle.std.specs.List.{sum_by}
use Rattle.std.specs.Prelude.{Option, None, Some}
use Rattle.std.proofs.lemmas.Bool.{cases_lt}
use Rattle.std.proofs.lemmas.List.{length-append, length-map, get_or-map, append_assoc, map-append}
use Rattle.std.proofs.lemmas.List.Elements.{All-append, All-filter, All-from_recursion, All-map, recursion_from_All}
use Rattle.bp_base.specs.declared.path.Step.{Step}
use Rattle.bp_base.specs.declared.point.Placement.{Placement}
use Rattle.bp_base.specs.declared.point.Sheet.{Sheet}
use Rattle.bp_base.specs.declared.record.Record.{Record}
use Rattle.bp_base.specs.declared.record.RecordKind.{RecordKind}
use Rattle.bp_base.specs.declared.record.RecordKind.TheVariants.{Split, Closed}
use Rattle.bp_base.specs.declared.record.Settled.{Settled}
use Rattle.bp_base.specs.declared.record.Task.{Task}
use Rattle.bp_base.specs.declared.refutation.Refutation.{Refutation}
use Rattle.bp_base.specs.Bags.{AreSame}
use Rattle.bp_base.specs.Limits.{most_number, most_proof_lines}
use Rattle.bp_base.specs.Tree.{TreeValue, IsTree}
use Rattle.bp_metric.specs.Nodes.{Node, Part, SplitOf, ClosedBy, OpenBy, counted, counted_part, node_count_of, nodes_of}
use Rattle.bp_metric.specs.Records.{IsBalanced}
use Rattle.bp_metric.specs.Refutation.{Fits}
use Rattle.bp_join.specs.Joined.{AreOpenNodes, IsJoined, IsOpenNode, node_of, part_of}
use Rattle.bp_check.specs.Written.{CountsFrom, examined_count, is_examined}
use Rattle.bp_written.specs.Told.{CanBeTold, IsOfPairs, IsProofOf, MayStand}
use Rattle.bp_written.proofs.Covered.{all_covered, few_more}
use Rattle.bp_written.proofs.FoundNodes.{all_found, open_all, open_at, open_holds}
use Rattle.bp_written.proofs.GoodNodes.{IsGood, PartGood}
use Rattle.bp_written.proofs.PathPairs.{next_can}
use Rattle.bp_revise.specs.Apart.{examined, open_paths}
use Rattle.bp_revise.specs.Course.{IsAtEnd, IsBegun, IsLeft, IsOnCourse, Solves}
use Rattle.bp_revise.specs.Revised.{CoversGrown, IsGrown, IsLeastFrom, IsOther, IsOtherPart, IsRevisedProof, IsSolved, PartCounts, SolvedPart, budget_beside}
use Rattle.bp_revise.proofs.GoodNodes.{all_good, begun_balanced, begun_many}
use Rattle.bp_revise.proofs.Takings.{examined_append}

-- Lists.

module _ {X : Type 0} where
  any_append_cases : (P : X → Type 0) (xs ys : List X) → Any P (xs ++ ys) → Any P xs ⊎ Any P ys
  any_append_cases P [] ys any = inr any
  any_append_cases P (x ∷ xs) ys (zero, y, less, at, holds) = inl (0, y, omega arith, at, holds)
  any_append_cases P (x ∷ xs) ys (suc k, y, less, at, holds) = go (any_append_cases P xs ys (k, y, omega (arith, less), at, holds))
    where
      go : Any P xs ⊎ Any P ys → Any P (x ∷ xs) ⊎ Any P ys
      go (inl (l, z, within, here, is)) = inl (suc l, z, omega (arith, within), here, is)
      go (inr there) = inr there

module _ {X Y : Type 0} where
  any_map_back : (P : Y → Type 0) (f : X → Y) (xs : List X) → Any P (map f xs) → Any (λ x. P (f x)) xs
  any_map_back P f [] (k, y, less, at, holds) = absurd (omega (arith, less))
  any_map_back P f (x ∷ xs) (zero, y, less, at, holds) = (0, x, omega arith, refl, subst P (sym at) holds)
  any_map_back P f (x ∷ xs) (suc k, y, less, at, holds) = go (any_map_back P f xs (k, y, omega (arith, less), at, holds))
    where
      go : Any (λ z. P (f z)) xs → Any (λ z. P (f z)) (x ∷ xs)
      go (l, z, within, here, is) = (suc l, z, omega (arith, within), here, is)

  any_map_left : (P : Y → Type 0) (f : X → Y) (xs : List X) (ys : List Y) → Any (λ x. P (f x)) xs → Any P (map f xs ++ ys)
  any_map_left P f [] ys (k, x, less, at, holds) = absurd (omega (arith, less))
  any_map_left P f (x ∷ xs) ys (zero, z, less, at, holds) = (0, f x, omega arith, refl, subst (λ y. P (f y)) (sym at) holds)
  any_map_left P f (x ∷ xs) ys (suc k, z, less, at, holds) = go (any_map_left P f xs ys (k, z, omega (arith, less), at, holds))
    where
      go : Any P (map f xs ++ ys) → Any P (f x ∷ (map f xs ++ ys))
      go (l, y, within, here, is) = (suc l, y, omega (arith, within), here, is)

  all_back : (P : Y → Type 0) (f : X → Y) (xs : List X) (ys : List Y) → map f xs ≡ ys → All P ys → All (λ x. P (f x)) xs
  all_back P f xs ys is all k d less =
      let there : k < length ys = omega (arith, less, ap length is, length-map xs f) in
      subst P (ap (λ (l : List Y). get_or l k (f d)) (sym is) ∙ get_or-map f xs k d (f d) less) (all k (f d) there)

-- Nodes of records that were made, and of branches left.

module _ (T : TreeValue) (t : IsTree T) (G : Sheet) where
  other_stands : (start side : ℕ) (path : List Step) (kind : RecordKind) → IsOfPairs T path → IsOtherPart T G start side path (part_of T G kind) → MayStand T path kind
  other_stands start side path (Split p) of is = next_can T t path of is.0.no_cycle p is.1
  other_stands start side path (Closed claim) of is = open_holds T t G path claim is.0

  good_stands : (path : List Step) (kind : RecordKind) → PartGood T G path (part_of T G kind) → MayStand T path kind
  good_stands path (Split p) is = is.0
  good_stands path (Closed claim) is = is

  counts_more : (less side : ℕ) → less ≤ side → (w : Option ℕ) → CountsFrom side w → CountsFrom less w
  counts_more less side below None counts = counts
  counts_more less side below (Some w) counts = omega (arith, counts, below)

  part_counts_more : (less side : ℕ) → less ≤ side → (part : Part) → PartCounts T G side part → PartCounts T G less part
  part_counts_more less side below (SplitOf p k) counts = tt
  part_counts_more less side below (ClosedBy claim) counts = counts_more less side below (counted T G claim) counts
  part_counts_more less side below (OpenBy claim) counts = tt

  other_counts : (start side : ℕ) (path : List Step) (part : Part) → IsOtherPart T G start side path part → PartCounts T G side part
  other_counts start side path (SplitOf p k) is = tt
  other_counts start side path (ClosedBy claim) is = is.1
  other_counts start side path (OpenBy claim) is = tt

  kind_counts : (side : ℕ) (kind : RecordKind) → PartCounts T G side (part_of T G kind) → CountsFrom side (counted_part T G (part_of T G kind))
  kind_counts side (Split p) counts = tt
  kind_counts side (Closed claim) counts = counts

  -- What is kept, and a revision that has ended.

  module _ (kept : Refutation) (fits : Fits T G kept []) (start : Placement) (counts : All (λ (n : Node). PartCounts T G start.side n.part) (nodes_of T G kept)) (base : List Record) (first : List Task) (begun : IsBegun T G kept base first) (Z : Settled) (course : IsOnCourse T G start base (open_paths (nodes_of T G kept)) Z) where
    abbrev kept_nodes : List Node
    kept_nodes = nodes_of T G kept

    abbrev roots : List (List Step)
    roots = open_paths kept_nodes

    base_good : All (λ (x : Record). IsGood T G (node_of T G x)) base
    base_good =
        all_back (IsGood T G) (node_of T G) base (examined kept_nodes) begun.records (All-filter (λ (n : Node). is_examined n.part) (IsGood T G) kept_nodes (all_good T G kept fits))

    base_counts : All (λ (x : Record). PartCounts T G Z.side (part_of T G x.kind)) base
    base_counts k d less =
        part_counts_more Z.side start.side course.no_worse (part_of T G (get_or base k d).kind)
        (all_back (λ (n : Node). PartCounts T G start.side n.part) (node_of T G) base (examined kept_nodes) begun.records (All-filter (λ (n : Node). is_examined n.part) (λ (n : Node). PartCounts T G start.side n.part) kept_nodes counts) k d less)

    abbrev Stands : Record → Type 0
    Stands x = IsOfPairs T x.path × MayStand T x.path x.kind

    base_stand : All Stands base
    base_stand k d less = let x = get_or base k d in let is = base_good k d less in (is.0, good_stands x.path x.kind is.1)

    made_stand : All Stands course.made
    made_stand k d less =
        let x = get_or course.made k d in
        let is = course.each k d less in
        (is.0, other_stands start.side Z.side x.path x.kind is.0 is.1.1)

    made_counts : All (λ (x : Record). PartCounts T G Z.side (part_of T G x.kind)) course.made
    made_counts k d less = let x = get_or course.made k d in other_counts start.side Z.side x.path (part_of T G x.kind) (course.each k d less).1.1

    records_count : All (λ (x : Record). PartCounts T G Z.side (part_of T G x.kind)) Z.records
    records_count =
        subst (All (λ (x : Record). PartCounts T G Z.side (part_of T G x.kind))) (sym course.records) (All-append (λ (x : Record). PartCounts T G Z.side (part_of T G x.kind)) base course.made base_counts made_counts)

    -- nothing is lost, and there is room for all
    few_nodes : length Z.records + length Z.left ≤ node_count_of kept + 4 * Z.examined
    few_nodes =
        let balanced = subst (λ (rs : List Record). IsBalanced T G rs Z.left) course.records course.balanced in
        omega (
          arith,
          few_more T G base course.made first Z.left (begun_balanced T G kept base first begun fits) balanced,
          begun_many T G kept base first begun,
          ap length course.records,
          course.many,
        )

    pub can_tell : (B : ℕ) → Z.examined ≤ budget_beside B kept → node_count_of kept ≤ most_proof_lines → start.side ≤ most_number → CanBeTold T G Z
    can_tell B within few small = record {
      balanced = course.balanced;
      records = subst (All Stands) (sym course.records) (All-append Stands base course.made base_stand made_stand);
      left = λ k d less. (course.left k d less).0;
      room = omega (arith, few, within, few_nodes);
      valid = course.valid;
      small = omega (arith, course.no_worse, small);
    }

    module _ (r : Refutation) (joined : IsJoined T G Z.records Z.left r) where
      abbrev nodes : List Node
      nodes = nodes_of T G r

      abbrev others : List Node
      others = map (node_of T G) course.made ++ joined.opens

      nodes_count : All (λ (n : Node). PartCounts T G Z.side n.part) nodes
      nodes_count =
          all_found T G Z.records Z.left r joined (λ (n : Node). PartCounts T G Z.side n.part) (λ (x : Task). Unit {0})
          (λ x n any is. open_at T G (λ path part. PartCounts T G Z.side part) x n is tt)
          records_count (λ k d less. tt)

      same : AreSame nodes (examined kept_nodes ++ others)
      same h =
          joined.same h
          ∙ ap (λ (rs : List Record). sum_by h (map (node_of T G) rs ++ joined.opens)) course.records
          ∙ ap (λ (l : List Node). sum_by h (l ++ joined.opens)) (map-append (node_of T G) base course.made)
          ∙ ap (λ (l : List Node). sum_by h ((l ++ map (node_of T G) course.made) ++ joined.opens)) begun.records
          ∙ ap (sum_by h) (append_assoc (examined kept_nodes) (map (node_of T G) course.made) joined.opens)

      each_other : All (IsOther T G start.side roots Z.side) others
      each_other =
          All-append (IsOther T G start.side roots Z.side) (map (node_of T G) course.made) joined.opens
          (All-map (IsOther T G start.side roots Z.side) (node_of T G) course.made (λ k d less. (course.each k d less).1))
          (All-from_recursion (IsOther T G start.side roots Z.side) joined.opens
          (open_all T G (IsLeft T G start.side roots) (IsOther T G start.side roots Z.side) open_other Z.left joined.opens joined.are_opens (recursion_from_All (IsLeft T G start.side roots) Z.left course.left)))
        where
          open_other : (x : Task) (n : Node) → IsLeft T G start.side roots x → IsOpenNode T G x n → IsOther T G start.side roots Z.side n
          open_other x n left is = open_at T G (λ path part. IsGrown T G start.side roots path × IsOtherPart T G start.side Z.side path part) x n is (left.1, is.shown)

      no_solved : (v : ℕ) → All (λ (n : Node). IsSolved T G v n → ⊥) joined.opens
      no_solved v =
          All-from_recursion (λ (n : Node). IsSolved T G v n → ⊥) joined.opens
          (open_all T G (λ (x : Task). Unit {0}) (λ (n : Node). IsSolved T G v n → ⊥) (λ x n any is. open_at T G (λ path part. SolvedPart T G v path part → ⊥) x n is (λ solved. solved)) Z.left joined.opens joined.are_opens (recursion_from_All (λ (x : Task). Unit {0}) Z.left (λ k d less. tt)))

      least_there : (v : ℕ) → Any (IsSolved T G v) (map (node_of T G) course.made) ⊎ Any (IsSolved T G v) joined.opens → Z.side ≤ v
      least_there v (inl made) = course.least v (any_map_back (IsSolved T G v) (node_of T G) course.made made)
      least_there v (inr (k, n, less, at, solved)) = absurd (subst (λ (m : Node). IsSolved T G v m → ⊥) at (no_solved v k n less) solved)

      reached_there : (Z.side ≡ start.side) ⊎ Any (Solves T G Z.side) course.made → (Z.side ≡ start.side) ⊎ Any (IsSolved T G Z.side) others
      reached_there (inl at_start) = inl at_start
      reached_there (inr made) = inr (any_map_left (IsSolved T G Z.side) (node_of T G) course.made joined.opens made)

      side_is : IsLeastFrom T G start.side Z.side others
      side_is = record {
        no_more = course.no_worse;
        least = λ v any. least_there v (any_append_cases (IsSolved T G v) (map (node_of T G) course.made) joined.opens any);
        reached = reached_there course.reached;
      }

      others_examined : examined_count others ≡ length course.made
      others_examined =
          omega (
            arith,
            ap length (examined_append (map (node_of T G) course.made) joined.opens),
            length-append (examined (map (node_of T G) course.made)) (examined joined.opens),
            made_examined course.made,
            opens_examined Z.left joined.opens joined.are_opens,
          )
        where
          made_examined : (xs : List Record) → length (examined (map (node_of T G) xs)) ≡ length xs
          made_examined [] = refl
          made_examined (x ∷ xs) = go x.path x.kind (made_examined xs)
            where
              go : (path : List Step) (kind : RecordKind) → length (examined (map (node_of T G) xs)) ≡ length xs → length (examined ((record { path = path; part = part_of T G kind }) ∷ map (node_of T G) xs)) ≡ suc (length xs)
              go path (Split p) rest = ap suc rest
              go path (Closed claim) rest = ap suc rest

          opens_examined : (left : List Task) (opens : List Node) → AreOpenNodes T G left opens → length (examined opens) ≡ 0
          opens_examined [] [] are = refl
          opens_examined [] (n ∷ opens) are = absurd are
          opens_examined (x ∷ left) [] are = absurd are
          opens_examined (x ∷ left) (n ∷ opens) are =
              ap (λ (part : Part). length (cond (is_examined part) (n ∷ examined opens) (examined opens))) are.0.part ∙ opens_examined left opens are.1

      -- The budget.

      module _ (floor B bound : ℕ) (end : IsAtEnd floor (budget_beside B kept) Z) (is : IsProofOf T G Z floor bound r) where
        spent : 1 ≤ length Z.left → Z.examined ≡ budget_beside B kept
        spent some = elim end.1 [
          | inl none ↦ absurd (omega (arith, some, ap length none))
          | inr ends ↦ elim ends [ inl all ↦ all | inr low ↦ absurd (omega (arith, is.above, low)) ]
        ]

        none_left : CoversGrown T G start.side roots (budget_beside B kept) → length Z.left ≡ 0
        none_left covers =
            let most = all_covered T G Z.records Z.left course.balanced base course.made course.records (IsGrown T G start.side roots) (λ k d less. (course.each k d less).1.0) (λ k d less. (course.left k d less).1) (budget_beside B kept) covers in
            elim (cases_lt 0 (length Z.left)) [
              | inl some ↦ absurd (omega (arith, most, some, course.many, spent some))
              | inr none ↦ omega (arith, none)
            ]

        whole : length Z.left ≡ 0 → bound ≡ Z.side
        whole none = is.whole none (λ k d less. kind_counts Z.side (get_or Z.records k d).kind (records_count k d less))

        pub revised_proof : IsRevisedProof T G B start.side floor Z.side bound kept r
        revised_proof = record {
          others = others;
          same = same;
          each = each_other;
          counts = nodes_count;
          bound_is = is.bound_is;
          side_is = side_is;
          within_budget = omega (arith, others_examined, course.many, end.0);
          budget_spent = λ some. omega (arith, spent (omega (arith, some, is.opened)), others_examined, course.many);
          open_left = λ less. elim (cases_lt 0 (length Z.left)) [
            | inl some ↦ omega (arith, some, is.opened)
            | inr none ↦ absurd (omega (arith, less, whole (omega (arith, none))))
          ];
          complete = λ covers. whole (none_left covers);
        }
