-- What a search ends with, and the document that is written of it.
use Rattle.std.proofs.Common.{◌≡◌, ◌⊎◌, inl, inr, ℕ, ◌<◌, ◌≤◌, List, [], ◌∷◌, length, get_or, map, All, Option, None, Some, refl, sym, ap, ◌∙◌, subst, arith}
use Rattle.std.specs.List.{Any, range_with_len}
use Rattle.std.proofs.lemmas.Bool.{cases_lt, false≢true}
use Rattle.std.proofs.lemmas.List.{length-map, get_or_default}
use Rattle.std.proofs.lemmas.List.FromFn.{length-range_with_len}
use Rattle.bp_base.specs.declared.chain.Claim.{Claim}
use Rattle.bp_base.specs.declared.chain.Claim.TheVariants.{Walk, Cycle}
use Rattle.bp_base.specs.declared.path.Step.{Step}
use Rattle.bp_base.specs.declared.point.Floor.{Floor}
use Rattle.bp_base.specs.declared.point.Placement.{Placement}
use Rattle.bp_base.specs.declared.point.Point.{Point}
use Rattle.bp_base.specs.declared.point.Sheet.{Sheet}
use Rattle.bp_base.specs.declared.record.Record.{Record}
use Rattle.bp_base.specs.declared.record.RecordKind.{RecordKind}
use Rattle.bp_base.specs.declared.record.RecordKind.TheVariants.{Split, Closed}
use Rattle.bp_base.specs.declared.record.Settled.{Settled}
use Rattle.bp_base.specs.declared.record.Task.{Task}
use Rattle.bp_base.specs.declared.refutation.Refutation.{Refutation}
use Rattle.bp_base.specs.Limits.{most_budget, most_number}
use Rattle.bp_base.specs.Tree.{TreeValue, IsTree}
use Rattle.bp_base.proofs.Bags.{same-length}
use Rattle.bp_metric.specs.Coordinates.{IsForced, IsShown, IsShownOrCycle}
use Rattle.bp_metric.specs.Floor.{IsFloor, IsFloorSide}
use Rattle.bp_metric.specs.Next.{IsNext}
use Rattle.bp_metric.specs.Nodes.{Node, counted_part, nodes_of}
use Rattle.bp_metric.specs.Opening.{IsOpening, IsOpeningSide, side_of}
use Rattle.bp_metric.specs.Records.{IsJudged, IsSound}
use Rattle.bp_metric.specs.Stated.{CoversStated, IsStated, IsStatedFor}
use Rattle.bp_branch.specs.Branches.{IsBranch}
use Rattle.bp_branch.proofs.Picked.{picked_branch, stated_picked}
use Rattle.bp_core.specs.Settled.{IsSettled, Solves}
use Rattle.bp_join.specs.Joined.{IsJoined, part_of}
use Rattle.bp_document.specs.declared.document.Document.{Document}
use Rattle.bp_document.specs.Ranges.{IsDocument}
use Rattle.bp_check.specs.Checks.{Checks}
use Rattle.bp_check.specs.Written.{CountsFrom, IsLeastSide, IsSolved, IsWrittenNode, IsWrittenPart, IsWrittenProof, HasWrittenProof, SolvedPart}
use Rattle.bp_written.specs.Told.{CanBeTold, Counts, HasProofOf, IsDocumentOf, IsFloorOf, IsOfPairs, IsProofOf, MayStand}
use Rattle.bp_written.proofs.Covered.{all_covered, few_more}
use Rattle.bp_written.proofs.Documents.{document, of_told}
use Rattle.bp_written.proofs.FoundNodes.{all_found, open_at, record_found, shown_holds}
use Rattle.bp_written.proofs.PathPairs.{next_can}
use Rattle.bp_written.proofs.ShownCounts.{shown_counts}
use Rattle.bp_design.specs.Searched.{IsAbove, IsOpeningOf, IsSearched}

-- each record has its own ticket
pub records_many : (T : TreeValue) (G : Sheet) (B : ℕ) (Z : Settled) → IsSettled T G B Z → length Z.records ≡ Z.examined
records_many T G B Z settled =
    omega (
      arith,
      length-map Z.records (λ (x : Record). x.ticket),
      same-length (map (λ (x : Record). x.ticket) Z.records) (range_with_len 0 Z.examined) settled.tickets,
      length-range_with_len 0 Z.examined,
    )

-- Stated paths, and what is judged of them.

module _ (T : TreeValue) (t : IsTree T) (G : Sheet) where
  stated_branch : (u : ℕ) (path : List Step) → IsStatedFor T G u path → IsBranch T path
  stated_branch u path stated = picked_branch T t path (stated_picked T t G u path stated)

  path_pairs : (u : ℕ) (path : List Step) → IsStatedFor T G u path → IsOfPairs T path
  path_pairs u path stated = let b = stated_branch u path stated in record { pairs = b.pairs; differ = b.differ }

  kind_stands : (u : ℕ) (x : Record) (kind : RecordKind) → IsStatedFor T G u x.path → IsJudged T G u x kind → MayStand T x.path kind
  kind_stands u x (Split p) stated judged = next_can T t x.path (path_pairs u x.path stated) (stated_branch u x.path stated).no_cycle p judged.0.next
  kind_stands u x (Closed claim) stated judged = shown_holds T t G x.path claim judged.0

  module _ (u : ℕ) (is_u : IsOpeningSide T G u) (one : (v : ℕ) → IsOpeningSide T G v → v ≡ u) (B : ℕ) (Z : Settled) (settled : IsSettled T G B Z) (left : All (λ (x : Task). IsStated T G x.path) Z.left) where
    -- a sound record, with the opening's side as u
    stated_for : (x : Record) → IsSound T G Z.side x → IsStatedFor T G u x.path
    stated_for x sound = subst (λ (v : ℕ). IsStatedFor T G v x.path) (one sound.opening_side sound.is_opening_side) sound.stated

    judged_for : (x : Record) → IsSound T G Z.side x → IsJudged T G u x x.kind
    judged_for x sound = subst (λ (v : ℕ). IsJudged T G v x x.kind) (one sound.opening_side sound.is_opening_side) sound.judged

    many : length Z.records ≡ Z.examined
    many = records_many T G B Z settled

    -- a path without a next pair forces no less than the side, since it is solved
    forces : (k : ℕ) (d : Record) → k < length Z.records → (claim : Claim) → IsJudged T G u (get_or Z.records k d) (Closed claim) → (v : ℕ) → IsForced T G (get_or Z.records k d).path v → Z.side ≤ v
    forces k d less claim judged v forced = go (get_or Z.records k d) refl judged forced
      where
        go : (x : Record) → get_or Z.records k d ≡ x → IsJudged T G u x (Closed claim) → IsForced T G x.path v → Z.side ≤ v
        go x is judged forced = elim judged.1 [
          | inl above ↦ omega (arith, above v forced, subst (λ (y : Record). Z.side ≤ y.bound) is (settled.sound k d less).no_less)
          | inr none ↦ settled.least.least v (k, x, less, get_or_default Z.records k x d less ∙ is, (forced, none))
        ]

    solved_least : (k : ℕ) (d : Record) → k < length Z.records → (v : ℕ) → IsForced T G (get_or Z.records k d).path v → IsNext T (get_or Z.records k d).path None → Z.side ≤ v
    solved_least k d less v forced none =
        let x = get_or Z.records k d in
        settled.least.least v (k, x, less, get_or_default Z.records k x d less, (forced, none))

    kind_counts : (k : ℕ) (d : Record) → k < length Z.records → (kind : RecordKind) → IsJudged T G u (get_or Z.records k d) kind → CountsFrom Z.side (counted_part T G (part_of T G kind))
    kind_counts k d less (Split p) judged = tt
    kind_counts k d less (Closed claim) judged = shown_counts T (get_or Z.records k d).path Z.side G claim judged.0 (forces k d less claim judged)

    records_count : All (Counts T G Z.side) Z.records
    records_count k d less = let x = get_or Z.records k d in kind_counts k d less x.kind (judged_for x (settled.sound k d less))

    abbrev root : Task
    root = record { path = []; bound = 0 }

    can_tell : B ≤ most_budget → Z.side ≤ most_number → CanBeTold T G Z
    can_tell few small = record {
      balanced = settled.balanced;
      records = λ k d less. (
          let x = get_or Z.records k d in
          let sound = settled.sound k d less in
          let stated = stated_for x sound in
          (path_pairs u x.path stated, kind_stands u x x.kind stated (judged_for x sound)));
      left = λ k d less. let x = get_or Z.left k d in path_pairs u x.path (left k d less u is_u);
      room = omega (arith, few, few_more T G [] Z.records (root ∷ []) Z.left (λ h. refl) settled.balanced, many, settled.within_budget);
      valid = settled.valid;
      small = small;
    }

    -- The budget.

    module _ (l : ℕ) (floors : (m : ℕ) → IsFloorSide T G m → m ≤ l) (above : l < Z.side) where
      spent : 1 ≤ length Z.left → Z.examined ≡ B
      spent some = elim settled.at_end [
        | inl none ↦ absurd (omega (arith, some, ap length none))
        | inr ends ↦ elim ends [
          | inl all ↦ all
          | inr low ↦ absurd (omega (arith, above, low.2, floors low.0 low.1))
        ]
      ]

      none_left : CoversStated T G B → length Z.left ≡ 0
      none_left covers =
          let first : All (λ (x : Record). IsStated T G x.path) Z.records = λ k d less v is_v. (
          let x = get_or Z.records k d in subst (λ (w : ℕ). IsStatedFor T G w x.path) (sym (one v is_v)) (stated_for x (settled.sound k d less))) in
          let most = all_covered T G Z.records Z.left settled.balanced [] Z.records refl (IsStated T G) first left B covers in
          elim (cases_lt 0 (length Z.left)) [
            | inl some ↦ absurd (omega (arith, most, some, many, spent some))
            | inr none ↦ omega (arith, none)
          ]

    module _ (r : Refutation) (joined : IsJoined T G Z.records Z.left r) where
      abbrev nodes : List Node
      nodes = nodes_of T G r

      kind_written : (k : ℕ) (d : Record) → k < length Z.records → (kind : RecordKind) → IsJudged T G u (get_or Z.records k d) kind → IsWrittenNode T G u Z.side (record { path = (get_or Z.records k d).path; part = part_of T G kind })
      kind_written k d less (Split p) judged = (stated_for (get_or Z.records k d) (settled.sound k d less), judged.0)
      kind_written k d less (Closed claim) judged =
          (judged.0, shown_counts T (get_or Z.records k d).path Z.side G claim judged.0 (forces k d less claim judged))

      not_cycle : (x : Task) → IsStated T G x.path → (claim : Claim) → IsShownOrCycle T G x.path claim → IsShown T G x.path claim
      not_cycle x is (Walk axis chain) shown = shown
      not_cycle x is (Cycle axis chain) cycle = absurd ((stated_branch u x.path (is u is_u)).no_cycle (axis, (chain, cycle)))

      written_nodes : All (IsWrittenNode T G u Z.side) nodes
      written_nodes =
          all_found T G Z.records Z.left r joined (IsWrittenNode T G u Z.side) (λ (x : Task). IsStated T G x.path)
          (λ x n is open_is. open_at T G (IsWrittenPart T G u Z.side) x n open_is (not_cycle x is open_is.claim open_is.shown))
          (λ k d less. let x = get_or Z.records k d in kind_written k d less x.kind (judged_for x (settled.sound k d less)))
          left

      -- The side.

      abbrev IsNoLess : Node → Type 0
      IsNoLess n = (v : ℕ) → IsSolved T G v n → Z.side ≤ v

      kind_no_less : (k : ℕ) (d : Record) → k < length Z.records → (kind : RecordKind) → IsNoLess (record { path = (get_or Z.records k d).path; part = part_of T G kind })
      kind_no_less k d less (Split p) v solved = absurd solved
      kind_no_less k d less (Closed claim) v solved = solved_least k d less v solved.0 solved.1

      least_nodes : All IsNoLess nodes
      least_nodes =
          all_found T G Z.records Z.left r joined IsNoLess (λ (x : Task). IsStated T G x.path)
          (λ x n is open_is. open_at T G (λ path part. (v : ℕ) → SolvedPart T G v path part → Z.side ≤ v) x n open_is (λ v solved. absurd solved))
          (λ k d less. kind_no_less k d less (get_or Z.records k d).kind)
          left

      kind_solved : (x : Record) (kind : RecordKind) → IsJudged T G u x kind → Solves T G Z.side x → SolvedPart T G Z.side x.path (part_of T G kind)
      kind_solved x (Split p) judged solves = let next = judged.0.next in absurd (solves.1 p next.pair next.near)
      kind_solved x (Closed claim) judged solves = solves

      reached : (Z.side ≡ u) ⊎ Any (IsSolved T G Z.side) nodes
      reached = elim settled.least.reached [
        | inl same ↦ inl (same ∙ one settled.least.opening_side settled.least.is_opening_side)
        | inr any ↦
            let x = any.1 in
            let sound : IsSound T G Z.side x = subst (IsSound T G Z.side) any.3 (settled.sound any.0 x any.2) in
            inr (record_found T G Z.records Z.left r joined (IsSolved T G Z.side) (any.0, x, any.2, any.3, kind_solved x x.kind (judged_for x sound) any.4))
      ]

      least_side : IsLeastSide T G u Z.side nodes
      least_side = record {
        no_more = omega (arith, settled.least.no_more, one settled.least.opening_side settled.least.is_opening_side);
        least = λ v any. subst IsNoLess any.3 (least_nodes any.0 any.1 any.2) v any.4;
        reached = reached;
      }

-- no floor of the tree has a greater side
pub floor_most : (T : TreeValue) (G : Sheet) (f : Floor) → IsFloor T G f → (m : ℕ) → IsFloorSide T G m → m ≤ f.side
floor_most T G f is m side =
    let other = side.is_floor in
    omega (arith, side.is_side, ap (λ (g : Floor). g.side) other.is, is.greatest other.i other.j other.pair)

-- The document.

module _ (T : TreeValue) (t : IsTree T) (G : Sheet) (Z : Settled) (left : All (λ (x : Task). IsStated T G x.path) Z.left) (f : Floor) (one : (v w : ℕ) → IsOpeningSide T G v → IsOpeningSide T G w → v ≡ w) (above : (v : ℕ) → IsOpeningSide T G v → IsAbove f v) (B : ℕ) (settled : IsSettled T G B Z) where
  abbrev start : IsOpeningSide T G settled.least.opening_side
  start = settled.least.is_opening_side

  abbrev u : ℕ
  u = side_of G start.opening

  is_u : IsOpeningSide T G u
  is_u = record { opening = start.opening; is_opening = start.is_opening; is_side = refl }

  one_u : (v : ℕ) → IsOpeningSide T G v → v ≡ u
  one_u v is_v = one v u is_v is_u

  side_no_more : Z.side ≤ u
  side_no_more = omega (arith, settled.least.no_more, start.is_side)

  pub can_be_told : B ≤ most_budget → CanBeTold T G Z
  can_be_told few = can_tell T t G u is_u one_u B Z settled left few (omega (arith, side_no_more, (above u is_u).1))

  module _ (is_floor : IsFloorOf T G f) where
    abbrev floors : (m : ℕ) → IsFloorSide T G m → m ≤ f.side
    floors = floor_most T G f is_floor.floor

    proof_written : (bound : ℕ) (r : Refutation) → IsProofOf T G Z f.side bound r → IsWrittenProof T G B u f.side Z.side bound r
    proof_written bound r is = record {
      nodes = written_nodes T t G u is_u one_u B Z settled left r is.joined;
      bound_is = is.bound_is;
      side_is = least_side T t G u is_u one_u B Z settled left r is.joined;
      within_budget = omega (arith, is.examined, many, settled.within_budget);
      budget_spent =
          λ some. omega (arith, spent T t G u is_u one_u B Z settled left f.side floors is.above (omega (arith, some, is.opened)), is.examined, many);
    }
      where
        many : length Z.records ≡ Z.examined
        many = records_many T G B Z settled

    has_written : (proof : Option Refutation) (bound : ℕ) → HasProofOf T G Z f proof bound → HasWrittenProof T G B u (document T G Z f proof bound) proof
    has_written None bound has = has
    has_written (Some r) bound is = (λ meets. absurd (omega (arith, meets, is.above)), proof_written bound r is)

    complete : (proof : Option Refutation) (bound : ℕ) → HasProofOf T G Z f proof bound → CoversStated T G B → bound ≡ Z.side
    complete None bound has covers = has.1
    complete (Some r) bound is covers =
        is.whole (none_left T t G u is_u one_u B Z settled left f.side floors is.above covers) (records_count T t G u is_u one_u B Z settled left)

    pub is_searched : (D : Document) → IsDocumentOf T G Z f D → Checks T D → IsDocument D → IsSearched T G B D
    is_searched =
        of_told T G Z f (IsSearched T G B) (λ proof bound has checks ranges. record {
          tree = refl;
          sheet = refl;
          ranges = ranges;
          written = record {
            checks = checks;
            floor = is_floor.floor;
            opening = start.opening;
            is_opening = start.is_opening;
            no_worse = side_no_more;
            opening_points = λ plain meets. absurd (omega (arith, meets, (above u is_u).0));
            steady_points = λ steady. absurd (false≢true steady);
            proof = has_written proof bound has;
          };
          complete = complete proof bound has;
        })

-- two openings of a tree have one side
pub one_side : (T : TreeValue) (G : Sheet) → ((P Q : List Point) → IsOpening T G P → IsOpening T G Q → P ≡ Q) → (v w : ℕ) → IsOpeningSide T G v → IsOpeningSide T G w → v ≡ w
one_side T G openings v w first second =
    first.is_side ∙ ap (side_of G) (openings first.opening second.opening first.is_opening second.is_opening) ∙ sym second.is_side

-- the opening's side is above the floor's, and small
pub opening_above : (T : TreeValue) (G : Sheet) (p : Placement) (f : Floor) → IsOpeningOf T G p → f.side < p.side → ((P Q : List Point) → IsOpening T G P → IsOpening T G Q → P ≡ Q) → (v : ℕ) → IsOpeningSide T G v → IsAbove f v
opening_above T G p f is less openings v side =
    let same : v ≡ p.side = side.is_side ∙ ap (side_of G) (openings side.opening p.points side.is_opening is.opening) ∙ sym is.side in
    (omega (arith, same, less), omega (arith, same, is.small.side))
