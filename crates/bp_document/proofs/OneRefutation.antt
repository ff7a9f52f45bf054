-- A refutation's nodes follow one another, and are those of no other.
use Rattle.std.proofs.Common.{◌≡◌, ℕ, ◌+◌, ◌≤◌, List, [], ◌∷◌, ◌++◌, length, get_or, drop, map, All, Option, None, Some, refl, sym, ◌∙◌, ap, subst, arith, append_assoc}
use Rattle.std.specs.List.{flat_map, AllByRecursion}
use Rattle.std.proofs.lemmas.List.{append-nil}
use Rattle.bp_base.specs.declared.path.Pair.{Pair}
use Rattle.bp_base.specs.declared.chain.Claim.{Claim}
use Rattle.bp_base.specs.declared.refutation.Refutation.{Refutation}
use Rattle.bp_base.specs.declared.refutation.Refutation.TheVariants.{Split, Closed, Open}
use Rattle.bp_base.specs.Limits.{most_steps}
use Rattle.bp_metric.specs.Nodes.{SplitOf, ClosedBy, OpenBy, parts_of}
use Rattle.bp_metric.proofs.Refutations.{parts-split, parts-closed, parts-open}
use Rattle.bp_document.specs.declared.node_line.NodeKind.{NodeKind}
use Rattle.bp_document.specs.declared.node_line.NodeLine.{NodeLine}
use Rattle.bp_document.specs.Ranges.{one_deeper, depth_of, IsSmallPart}
use Rattle.bp_document.specs.Places.{DepthFits, Follow}
use Rattle.bp_document.specs.Told.{node_at, node_list}
use Rattle.bp_document.specs.Built.{forest}
use Rattle.bp_document.proofs.Nodes.{depth-split}
use Rattle.bp_document.proofs.NodeLists.{by_nodes, all_left, all_right, all_given, list-split, list-closed, list-open}

-- The nodes of a refutation fit where its root does, and leave what follows at its depth or less where it may stand.
abbrev NodesFollow : Refutation → Type 0
NodesFollow r = (depth : ℕ) (most : Option ℕ) (rest : List NodeLine) → DepthFits most depth → depth_of r + depth ≤ most_steps → AllByRecursion IsSmallPart (parts_of r) → ((m : ℕ) → depth ≤ m → Follow (Some m) rest) → Follow most (node_list r depth ++ rest)

forest_follow : (rs : List Refutation) (depth m : ℕ) (rest : List NodeLine) → AllByRecursion NodesFollow rs → depth + 1 ≤ m → one_deeper (map depth_of rs) + depth ≤ most_steps → AllByRecursion IsSmallPart (flat_map parts_of rs) → ((k : ℕ) → depth ≤ k → Follow (Some k) rest) → Follow (Some m) (forest (depth + 1) rs ++ rest)
forest_follow [] depth m rest all deep low small then = then m (omega (arith, deep))
forest_follow (r ∷ rs) depth m rest all deep low small then =
    let here = all.0 (depth + 1) (Some m) (forest (depth + 1) rs ++ rest) (omega arith, deep, omega (arith, low)) (omega (arith, low)) (all_left IsSmallPart (parts_of r) (flat_map parts_of rs) small)
    (λ k less. forest_follow rs depth k rest all.1 less (omega (arith, low)) (all_right IsSmallPart (parts_of r) (flat_map parts_of rs) small) then) in
    subst (Follow (Some m)) (sym (append_assoc (node_list r (depth + 1)) (forest (depth + 1) rs) rest)) here

split_follow : (p : Pair) (rs : List Refutation) → AllByRecursion NodesFollow rs → NodesFollow (Split p rs)
split_follow p rs all depth most rest fits low small then =
    let mine : AllByRecursion IsSmallPart (SplitOf p (length rs) ∷ flat_map parts_of rs) = subst (AllByRecursion IsSmallPart) (parts-split p rs) small in
    let below = forest_follow rs depth (depth + 1) rest all (omega arith) (omega (arith, low, depth-split p rs)) mine.1 then in
    subst (λ (l : List NodeLine). Follow most (l ++ rest)) (sym (list-split p rs depth)) (mine.0, fits, below)

pub nodes_follow : (r : Refutation) → NodesFollow r
nodes_follow = by_nodes NodesFollow split_follow
    (λ claim depth most rest fits low small then.
    let mine : AllByRecursion IsSmallPart (ClosedBy claim ∷ []) = subst (AllByRecursion IsSmallPart) (parts-closed claim) small in
    subst (λ (l : List NodeLine). Follow most (l ++ rest)) (sym (list-closed claim depth)) (mine.0, fits, then depth (omega arith)))
    (λ claim depth most rest fits low small then.
    let mine : AllByRecursion IsSmallPart (OpenBy claim ∷ []) = subst (AllByRecursion IsSmallPart) (parts-open claim) small in
    subst (λ (l : List NodeLine). Follow most (l ++ rest)) (sym (list-open claim depth)) (mine.0, fits, then depth (omega arith)))

pub root_follows : (r : Refutation) → depth_of r ≤ most_steps → All IsSmallPart (parts_of r) → Follow None (node_list r 0)
root_follows r low small =
    subst (Follow None) (append-nil (node_list r 0)) (nodes_follow r 0 None [] refl (omega (arith, low)) (all_given IsSmallPart (parts_of r) small) (λ m less. tt))

-- A refutation's nodes begin with one at its depth.
pub root_of : (r : Refutation) → (depth : ℕ) → (kind : NodeKind) × (more : List NodeLine) × (node_list r depth ≡ node_at depth kind ∷ more)
root_of = by_nodes (λ r. (depth : ℕ) → (kind : NodeKind) × (more : List NodeLine) × (node_list r depth ≡ node_at depth kind ∷ more))
    (λ p rs all depth. (NodeKind.Split p, forest (depth + 1) rs, list-split p rs depth))
    (λ claim depth. (NodeKind.Closed claim, [], list-closed claim depth))
    (λ claim depth. (NodeKind.Open claim, [], list-open claim depth))

-- the next node is no deeper than this
abbrev IsShallow : ℕ → List NodeLine → Type 0
IsShallow depth [] = Unit {0}
IsShallow depth (l ∷ ls) = l.depth ≤ depth

shallow_forest : (rs : List Refutation) (depth : ℕ) (rest : List NodeLine) → IsShallow depth rest → IsShallow (depth + 1) (forest (depth + 1) rs ++ rest)
shallow_forest [] depth [] low = tt
shallow_forest [] depth (l ∷ ls) low = omega (arith, low)
shallow_forest (r ∷ rs) depth rest low =
    let root = root_of r (depth + 1) in
    subst (λ (l : List NodeLine). IsShallow (depth + 1) ((l ++ forest (depth + 1) rs) ++ rest)) (sym root.2) (omega arith)

abbrev kind_tag : NodeKind → ℕ
kind_tag (NodeKind.Split p) = 0
kind_tag (NodeKind.Closed claim) = 1
kind_tag (NodeKind.Open claim) = 2

-- nothing follows where a tree begins
no_root : (r : Refutation) (depth : ℕ) (more rest : List NodeLine) → IsShallow depth rest → rest ≡ node_list r (depth + 1) ++ more → ⊥
no_root r depth more [] low same =
    let root = root_of r (depth + 1) in
    omega (arith, ap length (same ∙ ap (λ (l : List NodeLine). l ++ more) root.2))
no_root r depth more (l ∷ ls) low same =
    let root = root_of r (depth + 1) in
    let first : l.depth ≡ depth + 1 = ap (λ (x : List NodeLine). (get_or x 0 l).depth) (same ∙ ap (λ (x : List NodeLine). x ++ more) root.2) in
    omega (arith, first, low)

-- Where the same nodes stand, the same refutation does, and the same follows.
abbrev IsOne : Refutation → Type 0
IsOne r = (depth : ℕ) (s : Refutation) (rest more : List NodeLine) → IsShallow depth rest → IsShallow depth more → node_list r depth ++ rest ≡ node_list s depth ++ more → (r ≡ s) × (rest ≡ more)

forest_one : (rs : List Refutation) → AllByRecursion IsOne rs → (depth : ℕ) (ss : List Refutation) (rest more : List NodeLine) → IsShallow depth rest → IsShallow depth more → forest (depth + 1) rs ++ rest ≡ forest (depth + 1) ss ++ more → (rs ≡ ss) × (rest ≡ more)
forest_one [] all depth [] rest more low low' same = (refl, same)
forest_one [] all depth (s ∷ ss) rest more low low' same = absurd (no_root s depth (forest (depth + 1) ss ++ more) rest low (same ∙ append_assoc (node_list s (depth + 1)) (forest (depth + 1) ss) more))
forest_one (r ∷ rs) all depth [] rest more low low' same = absurd (no_root r depth (forest (depth + 1) rs ++ rest) more low' (sym same ∙ append_assoc (node_list r (depth + 1)) (forest (depth + 1) rs) rest))
forest_one (r ∷ rs) all depth (s ∷ ss) rest more low low' same =
    let one = all.0 (depth + 1) s (forest (depth + 1) rs ++ rest) (forest (depth + 1) ss ++ more) (shallow_forest rs depth rest low) (shallow_forest ss depth more low')
    (sym (append_assoc (node_list r (depth + 1)) (forest (depth + 1) rs) rest) ∙ same ∙ append_assoc (node_list s (depth + 1)) (forest (depth + 1) ss) more) in
    let others = forest_one rs all.1 depth ss rest more low low' one.1 in
    (λ i. one.0 i ∷ others.0 i, others.1)

-- a proof leaf, or a split, and its kind
module _ (r : Refutation) (kind : NodeKind) (depth : ℕ) (below rest : List NodeLine) (is : node_list r depth ≡ node_at depth kind ∷ below) where
  same_kind : (s : Refutation) (other : NodeKind) (under more : List NodeLine) → node_list s depth ≡ node_at depth other ∷ under → node_list r depth ++ rest ≡ node_list s depth ++ more → (kind ≡ other) × (below ++ rest ≡ under ++ more)
  same_kind s other under more is' same =
      let e : node_at depth kind ∷ (below ++ rest) ≡ node_at depth other ∷ (under ++ more) =
      ap (λ (l : List NodeLine). l ++ rest) (sym is) ∙ same ∙ ap (λ (l : List NodeLine). l ++ more) is' in
      (ap (λ (l : List NodeLine). (get_or l 0 (node_at depth kind)).kind) e, ap (drop 1) e)

abbrev pair_in : Pair → NodeKind → Pair
pair_in d (NodeKind.Split p) = p
pair_in d (NodeKind.Closed claim) = d
pair_in d (NodeKind.Open claim) = d

abbrev claim_in : Claim → NodeKind → Claim
claim_in d (NodeKind.Split p) = d
claim_in d (NodeKind.Closed claim) = claim
claim_in d (NodeKind.Open claim) = claim

split_one : (p : Pair) (rs : List Refutation) → AllByRecursion IsOne rs → IsOne (Split p rs)
split_one p rs all depth s rest more low low' same = go s same
  where
    go : (s : Refutation) → node_list (Split p rs) depth ++ rest ≡ node_list s depth ++ more → (Split p rs ≡ s) × (rest ≡ more)
    go = by_nodes (λ s. node_list (Split p rs) depth ++ rest ≡ node_list s depth ++ more → (Split p rs ≡ s) × (rest ≡ more))
        (λ q ss known same.
        let k = same_kind (Split p rs) (NodeKind.Split p) depth (forest (depth + 1) rs) rest (list-split p rs depth) (Split q ss) (NodeKind.Split q) (forest (depth + 1) ss) more (list-split q ss depth) same in
        let pair : p ≡ q = ap (pair_in p) k.0 in
        let f = forest_one rs all depth ss rest more low low' k.1 in
        (λ i. Split (pair i) (f.0 i), f.1))
        (λ claim same.
        let k = same_kind (Split p rs) (NodeKind.Split p) depth (forest (depth + 1) rs) rest (list-split p rs depth) (Closed claim) (NodeKind.Closed claim) [] more (list-closed claim depth) same in
        absurd (omega (arith, ap kind_tag k.0)))
        (λ claim same.
        let k = same_kind (Split p rs) (NodeKind.Split p) depth (forest (depth + 1) rs) rest (list-split p rs depth) (Open claim) (NodeKind.Open claim) [] more (list-open claim depth) same in
        absurd (omega (arith, ap kind_tag k.0)))

closed_one : (c : Claim) → IsOne (Closed c)
closed_one c depth s rest more low low' same = go s same
  where
    go : (s : Refutation) → node_list (Closed c) depth ++ rest ≡ node_list s depth ++ more → (Closed c ≡ s) × (rest ≡ more)
    go = by_nodes (λ s. node_list (Closed c) depth ++ rest ≡ node_list s depth ++ more → (Closed c ≡ s) × (rest ≡ more))
        (λ q ss known same.
        let k = same_kind (Closed c) (NodeKind.Closed c) depth [] rest (list-closed c depth) (Split q ss) (NodeKind.Split q) (forest (depth + 1) ss) more (list-split q ss depth) same in
        absurd (omega (arith, ap kind_tag k.0)))
        (λ claim same.
        let k = same_kind (Closed c) (NodeKind.Closed c) depth [] rest (list-closed c depth) (Closed claim) (NodeKind.Closed claim) [] more (list-closed claim depth) same in
        (ap Closed (ap (claim_in c) k.0), k.1))
        (λ claim same.
        let k = same_kind (Closed c) (NodeKind.Closed c) depth [] rest (list-closed c depth) (Open claim) (NodeKind.Open claim) [] more (list-open claim depth) same in
        absurd (omega (arith, ap kind_tag k.0)))

open_one : (c : Claim) → IsOne (Open c)
open_one c depth s rest more low low' same = go s same
  where
    go : (s : Refutation) → node_list (Open c) depth ++ rest ≡ node_list s depth ++ more → (Open c ≡ s) × (rest ≡ more)
    go = by_nodes (λ s. node_list (Open c) depth ++ rest ≡ node_list s depth ++ more → (Open c ≡ s) × (rest ≡ more))
        (λ q ss known same.
        let k = same_kind (Open c) (NodeKind.Open c) depth [] rest (list-open c depth) (Split q ss) (NodeKind.Split q) (forest (depth + 1) ss) more (list-split q ss depth) same in
        absurd (omega (arith, ap kind_tag k.0)))
        (λ claim same.
        let k = same_kind (Open c) (NodeKind.Open c) depth [] rest (list-open c depth) (Closed claim) (NodeKind.Closed claim) [] more (list-closed claim depth) same in
        absurd (omega (arith, ap kind_tag k.0)))
        (λ claim same.
        let k = same_kind (Open c) (NodeKind.Open c) depth [] rest (list-open c depth) (Open claim) (NodeKind.Open claim) [] more (list-open claim depth) same in
        (ap Open (ap (claim_in c) k.0), k.1))

each_one : (r : Refutation) → IsOne r
each_one = by_nodes IsOne split_one closed_one open_one

-- nodes are those of one refutation
pub one_refutation : (r s : Refutation) → node_list r 0 ≡ node_list s 0 → r ≡ s
one_refutation r s same =
    (each_one r 0 s [] [] tt tt (append-nil (node_list r 0) ∙ same ∙ sym (append-nil (node_list s 0)))).0
