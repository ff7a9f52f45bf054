-- An old document that checks, and a tree of its shape: what the calls of a revision need, and what they come to.
use Rattle.std.proofs.Common.{◌≡◌, ℕ, ◌+◌, ◌-◌, ◌/◌, ◌≤◌, min, List, [], length, All, sym, ap, ◌∙◌, subst, arith}
use Rattle.bp_base.specs.declared.path.Step.{Step}
use Rattle.bp_base.specs.declared.point.Placement.{Placement}
use Rattle.bp_base.specs.declared.point.Sheet.{Sheet}
use Rattle.bp_base.specs.declared.record.Record.{Record}
use Rattle.bp_base.specs.declared.record.Settled.{Settled}
use Rattle.bp_base.specs.declared.refutation.Refutation.{Refutation}
use Rattle.bp_base.specs.Limits.{most_number, most_proof_lines}
use Rattle.bp_base.specs.Tree.{TreeValue, leaf_count}
use Rattle.bp_metric.specs.Distance.{most_side}
use Rattle.bp_metric.specs.Metric.{IsMetric, MetricValue}
use Rattle.bp_metric.specs.Nodes.{Node, node_count_of, nodes_of}
use Rattle.bp_metric.specs.Refutation.{Fits}
use Rattle.bp_document.specs.declared.document.Document.{Document}
use Rattle.bp_metric.specs.Valid.{NoneBelow}
use Rattle.bp_check.specs.Checks.{Checks, ProofFits}
use Rattle.bp_check.specs.Written.{IsWanted}
use Rattle.bp_revise.specs.Apart.{open_paths}
use Rattle.bp_revise.specs.Course.{IsAtEnd, IsBegun, IsEnded, IsOnCourse, IsWrittenFrom}
use Rattle.bp_revise.specs.Keep.{AreOfOneShape, kept_of}
use Rattle.bp_revise.specs.Revised.{HasRoom, IsRevised, PartCounts}
use Rattle.bp_revise.specs.Start.{IsStart}
use Rattle.bp_revise.proofs.Documents.{is_revised}
use Rattle.bp_revise.proofs.GoodNodes.{begun_many}
use Rattle.bp_revise.proofs.Keeps.{kept_counts, kept_few, proof_kept}
use Rattle.bp_revise.proofs.Shapes.{same_leaves}

module _ (M : MetricValue) (m : IsMetric M) (T : TreeValue) (old : Document) (is : M ≡ record { tree = T; sheet = old.sheet }) (checks : Checks old.tree old) (room : HasRoom old.proof) (shape : AreOfOneShape old.tree T) where
  tree_is : M.tree ≡ T
  tree_is = ap (λ (N : MetricValue). N.tree) is

  sheet_is : M.sheet ≡ old.sheet
  sheet_is = ap (λ (N : MetricValue). N.sheet) is

  shape_there : AreOfOneShape old.tree M.tree
  shape_there = subst (AreOfOneShape old.tree) (sym tree_is) shape

  pub points_each : length old.points ≡ leaf_count M.tree
  points_each = checks.valid.each ∙ same_leaves old.tree M.tree shape_there

  fits_there : ProofFits old.tree M.sheet old.proof
  fits_there = subst (λ (G : Sheet). ProofFits old.tree G old.proof) (sym sheet_is) checks.fits

  pub can_keep : (S : TreeValue) × AreOfOneShape S M.tree × ProofFits S M.sheet old.proof
  can_keep = (old.tree, shape_there, fits_there)

  module _ (start : Placement) (kept : Refutation) (kept_is : kept ≡ kept_of M.tree M.sheet start.side old.proof) where
    pub kept_there : Fits M.tree M.sheet kept []
    kept_there = subst (λ (r : Refutation). Fits M.tree M.sheet r []) (sym kept_is) (proof_kept M.tree m.tree M.sheet start.side old.tree shape_there old.proof fits_there)

    counts_there : All (λ (n : Node). PartCounts M.tree M.sheet start.side n.part) (nodes_of M.tree M.sheet kept)
    counts_there = subst (λ (r : Refutation). All (λ (n : Node). PartCounts M.tree M.sheet start.side n.part) (nodes_of M.tree M.sheet r)) (sym kept_is) (kept_counts M.tree M.sheet start.side old.proof)

    few_there : node_count_of kept ≤ most_proof_lines
    few_there = omega (arith, ap node_count_of kept_is, kept_few M.tree M.sheet start.side old.proof room)

    module _ (small : start.side ≤ most_side) (begun : Settled) (b : IsBegun M.tree M.sheet kept begun.records begun.left) (course : IsOnCourse M.tree M.sheet start begun.records (open_paths (nodes_of M.tree M.sheet kept)) begun) (none : begun.examined ≡ 0) where
      many : length begun.records + length begun.left ≡ node_count_of kept
      many = begun_many M.tree M.sheet kept begun.records begun.left b

      pub few_nodes : length begun.records + length begun.left ≤ most_proof_lines
      few_nodes = omega (arith, many, few_there)

      pub can_search : (budget : ℕ) → (p : Placement) × (base : List Record) × (roots : List (List Step)) × (p.side ≤ most_number) × (begun.examined ≤ budget) × IsOnCourse M.tree M.sheet p base roots begun
      can_search budget = (start, begun.records, open_paths (nodes_of M.tree M.sheet kept), omega (arith, small), omega (arith, none), course)

      pub ends : (B floor budget : ℕ) → budget ≡ min B ((most_proof_lines - (length begun.records + length begun.left)) / 4) → (Z : Settled) → ((p : Placement) (base : List Record) (roots : List (List Step)) → IsOnCourse M.tree M.sheet p base roots begun → IsOnCourse M.tree M.sheet p base roots Z) → IsAtEnd floor budget Z → IsEnded M.tree M.sheet B floor start kept Z
      ends B floor budget least Z follows end = record {
        fits = kept_there;
        counts = counts_there;
        few = few_there;
        small = small;
        base = begun.records;
        first = begun.left;
        begun = b;
        course = follows start begun.records (open_paths (nodes_of M.tree M.sheet kept)) course;
        end = subst (λ (n : ℕ). IsAtEnd floor n Z) (least ∙ ap (λ (n : ℕ). min B ((most_proof_lines - n) / 4)) many) end;
      }

    pub revision : (B : ℕ) (D : Document) → IsStart M.tree M.sheet old.points start → IsWrittenFrom M.tree M.sheet B start kept D → IsRevised T old B D
    revision B D begins written =
        let there : IsWrittenFrom M.tree M.sheet B start (kept_of M.tree M.sheet start.side old.proof) D = subst (λ (r : Refutation). IsWrittenFrom M.tree M.sheet B start r D) kept_is written in
        is_revised T M.sheet old B start D sheet_is (subst (λ (U : TreeValue). IsStart U M.sheet old.points start) tree_is begins)
        (subst (λ (U : TreeValue). IsWrittenFrom U M.sheet B start (kept_of U M.sheet start.side old.proof) D) tree_is there)

  pub below_there : (D : Document) → D.sheet ≡ M.sheet → NoneBelow M.tree D.sheet D.bound → NoneBelow T old.sheet D.bound
  below_there D on none =
      subst (λ (G : Sheet). NoneBelow T G D.bound) (on ∙ sheet_is) (subst (λ (U : TreeValue). NoneBelow U D.sheet D.bound) tree_is none)

  pub wanted_there : (D : Document) → D.sheet ≡ M.sheet → IsWanted M.tree D.sheet D.side → IsWanted T old.sheet D.side
  wanted_there D on wanted =
      subst (λ (G : Sheet). IsWanted T G D.side) (on ∙ sheet_is) (subst (λ (U : TreeValue). IsWanted U D.sheet D.side) tree_is wanted)
