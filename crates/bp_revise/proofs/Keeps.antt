-- What is kept of a proof fits what it has to, and is no larger than the proof.
use Rattle.std.proofs.Common.{◌≡◌, ◌==◌, ℕ, zero, suc, ◌+◌, ◌<◌, ◌≤◌, Bool, true, false, cond, List, [], ◌∷◌, ◌++◌, length, get_or, map, take, All, Option, None, Some, refl, sym, ap, ◌∙◌, subst, arith, length-append}
use Rattle.std.specs.List.{flat_map, AllByRecursion}
use Rattle.std.proofs.lemmas.List.{get_or-map, length-map, map-append, take_more, take_all}
use Rattle.std.proofs.lemmas.List.Elements.{All-from_recursion}
use Rattle.std.proofs.lemmas.Bool.{ltb-false}
use Rattle.bp_base.specs.declared.path.Choice.{Choice}
use Rattle.bp_base.specs.declared.path.Pair.{Pair}
use Rattle.bp_base.specs.declared.path.Step.{Step}
use Rattle.bp_base.specs.declared.point.Sheet.{Sheet}
use Rattle.bp_base.specs.declared.chain.Claim.{Claim}
use Rattle.bp_base.specs.declared.refutation.Refutation.{Refutation, fold-roll-Refutation}
use Rattle.bp_base.specs.declared.refutation.Refutation.TheOpen.{Refutation-F}
use Rattle.bp_base.specs.declared.refutation.Refutation.TheVariants.{Split, Closed, Open, rolls-Split, rolls-Closed, rolls-Open}
use Rattle.bp_base.specs.Limits.{most_proof_lines}
use Rattle.bp_base.specs.Path.{IsPairOf}
use Rattle.bp_base.specs.Tree.{TreeValue, IsTree, IsLeaf, leaf_count}
use Rattle.bp_base.proofs.Bags.{equal, itself}
use Rattle.bp_metric.specs.Chains.{ClaimHolds}
use Rattle.bp_metric.specs.Choices.{allowed}
use Rattle.bp_metric.specs.Nodes.{Node, Part, counted, node_count_of, nodes_of, parts_of}
use Rattle.bp_metric.specs.Refutation.{CanSplit, EachFits, Fits, extended}
use Rattle.bp_metric.proofs.Refutations.{fits-split, fits-closed, fits-open, parts-split, parts-closed, parts-open}
use Rattle.bp_document.proofs.NodeLists.{by_nodes}
use Rattle.bp_chain.specs.Counting.{chain_of}
use Rattle.bp_check.specs.Checks.{ProofFits}
use Rattle.bp_check.specs.Written.{CountsFrom}
use Rattle.bp_check.proofs.Claims.{leaves_of}
use Rattle.bp_revise.specs.Keep.{AreOfOneShape, FitsShape, falls_short, kept, kept_at, kept_of, one_leaf}
use Rattle.bp_revise.specs.Revised.{HasRoom, PartCounts}
use Rattle.bp_written.proofs.NodeParts.{parts_same}
use Rattle.bp_revise.proofs.Shapes.{same_allowed, same_leaves}

-- what holds of all images holds of all
module _ {X Y : Type 0} where
  all_back_map : (P : Y → Type 0) (f : X → Y) (xs : List X) (ys : List Y) → map f xs ≡ ys → All P ys → All (λ x. P (f x)) xs
  all_back_map P f xs ys is all k d less =
      let there : k < length ys = omega (arith, less, ap length is, length-map xs f) in
      subst P (ap (λ (l : List Y). get_or l k (f d)) (sym is) ∙ get_or-map f xs k d (f d) less) (all k (f d) there)

-- Equations.

module _ (T : TreeValue) (G : Sheet) (start : ℕ) where
  abbrev pub split_kept : Pair → List Refutation → Bool → Refutation
  split_kept p rs same = cond same (Split p (map (kept T G start) rs)) (Open one_leaf)

  pub kept-split : (p : Pair) (rs : List Refutation) → kept T G start (Split p rs) ≡ split_kept p rs (length rs == length (allowed T G p))
  unfolding kept
  kept-split p rs =
      ap (kept T G start) (sym (rolls-Split p rs)) ∙ fold-roll-Refutation Refutation (kept_at T G start) (Refutation-F.Split p rs)
      ∙ (λ i. split_kept p rs (length-map rs (kept T G start) i == length (allowed T G p)))

  pub kept-closed : (claim : Claim) → kept T G start (Closed claim) ≡ cond (falls_short start (counted T G claim)) (Open claim) (Closed claim)
  unfolding kept
  kept-closed claim = ap (kept T G start) (sym (rolls-Closed claim)) ∙ fold-roll-Refutation Refutation (kept_at T G start) (Refutation-F.Closed claim)

  pub kept-open : (claim : Claim) → kept T G start (Open claim) ≡ Open claim
  unfolding kept
  kept-open claim = ap (kept T G start) (sym (rolls-Open claim)) ∙ fold-roll-Refutation Refutation (kept_at T G start) (Refutation-F.Open claim)

  -- Its nodes are no more.

  abbrev IsFewer : Refutation → Type 0
  IsFewer r = node_count_of (kept T G start r) ≤ node_count_of r

  abbrev parts_in : List Refutation → ℕ
  parts_in rs = length (flat_map parts_of rs)

  fewer_children : (rs : List Refutation) → AllByRecursion IsFewer rs → parts_in (map (kept T G start) rs) ≤ parts_in rs
  fewer_children [] all = omega arith
  fewer_children (r ∷ rs) all =
      omega (arith, all.0, fewer_children rs all.1, length-append (parts_of r) (flat_map parts_of rs), length-append (parts_of (kept T G start r)) (flat_map parts_of (map (kept T G start) rs)))

  count-split : (p : Pair) (rs : List Refutation) → node_count_of (Split p rs) ≡ suc (parts_in rs)
  count-split p rs = ap length (parts-split p rs)

  count-open : (claim : Claim) → node_count_of (Open claim) ≡ 1
  count-open claim = ap length (parts-open claim)

  count-closed : (claim : Claim) → node_count_of (Closed claim) ≡ 1
  count-closed claim = ap length (parts-closed claim)

  fewer_split : (p : Pair) (rs : List Refutation) (b : Bool) → AllByRecursion IsFewer rs → node_count_of (split_kept p rs b) ≤ node_count_of (Split p rs)
  fewer_split p rs true all = omega (arith, count-split p rs, count-split p (map (kept T G start) rs), fewer_children rs all)
  fewer_split p rs false all = omega (arith, count-split p rs, count-open one_leaf)

  fewer_closed : (claim : Claim) (b : Bool) → node_count_of (cond b (Open claim) (Closed claim)) ≤ node_count_of (Closed claim)
  fewer_closed claim true = omega (arith, count-open claim, count-closed claim)
  fewer_closed claim false = omega arith

  pub kept_fewer : (r : Refutation) → node_count_of (kept T G start r) ≤ node_count_of r
  kept_fewer =
      by_nodes IsFewer
      (λ p rs all. omega (arith, ap node_count_of (kept-split p rs), fewer_split p rs (length rs == length (allowed T G p)) all))
      (λ claim. omega (arith, ap node_count_of (kept-closed claim), fewer_closed claim (falls_short start (counted T G claim))))
      (λ claim. omega (arith, ap node_count_of (kept-open claim)))

-- It fits.

each_many : (S : TreeValue) (G : Sheet) (path : List Step) (p : Pair) (cs : List Choice) (rs : List Refutation) → EachFits (Fits S G) path p cs rs → length rs ≡ length cs
each_many S G path p [] [] each = refl
each_many S G path p [] (r ∷ rs) each = absurd each
each_many S G path p (c ∷ cs) [] each = absurd each
each_many S G path p (c ∷ cs) (r ∷ rs) each = ap suc (each_many S G path p cs rs each.1)

module _ (T : TreeValue) (t : IsTree T) (G : Sheet) (start : ℕ) (S : TreeValue) (shape : AreOfOneShape S T) where
  abbrev IsFit : Refutation → Type 0
  IsFit r = (path : List Step) → Fits S G r path → Fits T G (kept T G start r) path

  holds_there : (path : List Step) (claim : Claim) → ClaimHolds (leaf_count S) path claim → ClaimHolds (leaf_count T) path claim
  holds_there path claim = subst (λ (n : ℕ). ClaimHolds n path claim) (same_leaves S T shape)

  one_leaf_holds : (path : List Step) → ClaimHolds (leaf_count T) path one_leaf
  one_leaf_holds path = record {
    some = omega arith;
    are_leaves = one;
    differ = λ i j d less within. absurd (omega (arith, less, within));
    placed = tt;
  }
    where
      one : All (λ i. (1 ≤ i) × (i ≤ leaf_count T)) (1 ∷ [])
      one zero d less = (omega arith, omega (arith, t.leaves_enough))
      one (suc k) d less = absurd (omega (arith, less))

  open_fits : (path : List Step) (claim : Claim) → ClaimHolds (leaf_count T) path claim → Fits T G (Open claim) path
  open_fits path claim holds = coe 0 1 (i. sym (fits-open T G claim path) i) holds

  closed_fits : (path : List Step) (claim : Claim) → ClaimHolds (leaf_count T) path claim → Fits T G (Closed claim) path
  closed_fits path claim holds = coe 0 1 (i. sym (fits-closed T G claim path) i) holds

  split_there : (path : List Step) (p : Pair) → CanSplit S path p → CanSplit T path p
  split_there path p can = record { pair = subst (λ (n : ℕ). IsPairOf n p) (same_leaves S T shape) can.pair; new = can.new }

  each_kept : (path : List Step) (p : Pair) (cs : List Choice) (rs : List Refutation) → AllByRecursion IsFit rs → EachFits (Fits S G) path p cs rs → EachFits (Fits T G) path p cs (map (kept T G start) rs)
  each_kept path p [] [] all each = tt
  each_kept path p [] (r ∷ rs) all each = absurd each
  each_kept path p (c ∷ cs) [] all each = absurd each
  each_kept path p (c ∷ cs) (r ∷ rs) all each = (all.0 (extended path p c) each.0, each_kept path p cs rs all.1 each.1)

  split_fits : (p : Pair) (rs : List Refutation) (b : Bool) → (length rs == length (allowed T G p)) ≡ b → AllByRecursion IsFit rs → (path : List Step) → Fits S G (Split p rs) path → Fits T G (split_kept T G start p rs b) path
  split_fits p rs false is all path fits = open_fits path one_leaf (one_leaf_holds path)
  split_fits p rs true is all path fits =
      let both : CanSplit S path p × EachFits (Fits S G) path p (allowed S G p) rs = coe 0 1 (i. fits-split S G p rs path i) fits in
      let many = equal (length rs) (length (allowed T G p)) is in
      let same : allowed S G p ≡ allowed T G p = same_allowed S T G p (sym (each_many S G path p (allowed S G p) rs both.1) ∙ many) in
      let each = subst (λ (cs : List Choice). EachFits (Fits S G) path p cs rs) same both.1 in
      coe 0 1 (i. sym (fits-split T G p (map (kept T G start) rs) path) i) (split_there path p both.0, each_kept path p (allowed T G p) rs all each)

  kept_split_fits : (p : Pair) (rs : List Refutation) → AllByRecursion IsFit rs → IsFit (Split p rs)
  kept_split_fits p rs all path fits =
      subst (λ (r : Refutation). Fits T G r path) (sym (kept-split T G start p rs)) (split_fits p rs (length rs == length (allowed T G p)) refl all path fits)

  leaf_fits : (claim : Claim) (b : Bool) (path : List Step) → ClaimHolds (leaf_count T) path claim → Fits T G (cond b (Open claim) (Closed claim)) path
  leaf_fits claim true path holds = open_fits path claim holds
  leaf_fits claim false path holds = closed_fits path claim holds

  pub kept_fits : (r : Refutation) (path : List Step) → Fits S G r path → Fits T G (kept T G start r) path
  kept_fits =
      by_nodes IsFit kept_split_fits
      (λ claim path fits.
      subst (λ (r : Refutation). Fits T G r path) (sym (kept-closed T G start claim)) (leaf_fits claim (falls_short start (counted T G claim)) path (holds_there path claim (coe 0 1 (i. fits-closed S G claim path i) fits))))
      (λ claim path fits.
      subst (λ (r : Refutation). Fits T G r path) (sym (kept-open T G start claim)) (open_fits path claim (holds_there path claim (coe 0 1 (i. fits-open S G claim path i) fits))))

  pub proof_kept : (proof : Option Refutation) → ProofFits S G proof → Fits T G (kept_of T G start proof) []
  proof_kept None fits = open_fits [] one_leaf (one_leaf_holds [])
  proof_kept (Some r) fits = kept_fits r [] fits

-- What the code asks of a proof that fits on a tree of the same shape.

module _ (T : TreeValue) (G : Sheet) where
  pub kept_pair : (p : Pair) (rs : List Refutation) (r : Refutation) → r ≡ Split p rs → FitsShape T G r → IsPairOf (leaf_count T) p
  kept_pair p rs r is (S, shape, (path, fits)) =
      let both : CanSplit S path p × EachFits (Fits S G) path p (allowed S G p) rs = coe 0 1 (i. fits-split S G p rs path i) (subst (λ (x : Refutation). Fits S G x path) is fits) in
      subst (λ (n : ℕ). IsPairOf n p) (same_leaves S T shape) both.0.pair

  each_at : (S : TreeValue) → AreOfOneShape S T → (path : List Step) (p : Pair) (cs : List Choice) (rs : List Refutation) (k : ℕ) (d : Refutation) → k < length rs → EachFits (Fits S G) path p cs rs → FitsShape T G (get_or rs k d)
  each_at S shape path p cs [] k d less each = absurd (omega (arith, less))
  each_at S shape path p [] (r ∷ rs) k d less each = absurd each
  each_at S shape path p (c ∷ cs) (r ∷ rs) zero d less each = (S, shape, (extended path p c, each.0))
  each_at S shape path p (c ∷ cs) (r ∷ rs) (suc k) d less each = each_at S shape path p cs rs k d (omega (arith, less)) each.1

  pub child_shape : (p : Pair) (rs items : List Refutation) (r : Refutation) (k : ℕ) (child : Refutation) → r ≡ Split p rs → items ≡ rs → FitsShape T G r → k < length items → child ≡ get_or items k child → FitsShape T G child
  child_shape p rs items r k child is same (S, shape, (path, fits)) less here =
      let both : CanSplit S path p × EachFits (Fits S G) path p (allowed S G p) rs = coe 0 1 (i. fits-split S G p rs path i) (subst (λ (x : Refutation). Fits S G x path) is fits) in
      let each : EachFits (Fits S G) path p (allowed S G p) items = subst (EachFits (Fits S G) path p (allowed S G p)) (sym same) both.1 in
      subst (FitsShape T G) (sym here) (each_at S shape path p (allowed S G p) items k child less each)

  pub shape_leaves : (claim : Claim) (r : Refutation) → r ≡ Closed claim → FitsShape T G r → All (IsLeaf T) (chain_of claim)
  shape_leaves claim r is (S, shape, (path, fits)) =
      let holds : ClaimHolds (leaf_count S) path claim = coe 0 1 (i. fits-closed S G claim path i) (subst (λ (x : Refutation). Fits S G x path) is fits) in
      leaves_of T path claim (subst (λ (n : ℕ). ClaimHolds n path claim) (same_leaves S T shape) holds)

  module _ (start : ℕ) where
    -- one child more
    pub keep_more : (items ks more : List Refutation) (k : ℕ) (child one : Refutation) → k < length items → child ≡ get_or items k child → one ≡ kept T G start child → ks ≡ map (kept T G start) (take k items) → more ≡ ks ++ one ∷ [] → more ≡ map (kept T G start) (take (k + 1) items)
    keep_more items ks more k child one less is one_is before pushed =
        pushed
        ∙ (λ i. before i ++ (one_is ∙ ap (kept T G start) is) i ∷ [])
        ∙ sym (map-append (kept T G start) (take k items) (get_or items k child ∷ []))
        ∙ ap (map (kept T G start)) (sym (take_more items k child less))

    pub keep_all : (p : Pair) (rs items ks : List Refutation) (r : Refutation) (k : ℕ) → r ≡ Split p rs → items ≡ rs → length items ≤ k → length items ≡ length (allowed T G p) → ks ≡ map (kept T G start) (take k items) → Split p ks ≡ kept T G start r
    keep_all p rs items ks r k is same done many before =
        let all : ks ≡ map (kept T G start) rs = before ∙ ap (map (kept T G start)) (take_all k items done ∙ same) in
        let equal_many : length rs ≡ length (allowed T G p) = ap length (sym same) ∙ many in
        let yes : (length rs == length (allowed T G p)) ≡ true = ap (λ (n : ℕ). n == length (allowed T G p)) equal_many ∙ itself (length (allowed T G p)) in
        sym (ap (kept T G start) is ∙ kept-split T G start p rs ∙ ap (split_kept T G start p rs) yes ∙ ap (Split p) (sym all))

    pub not_kept : (p : Pair) (rs items : List Refutation) (r : Refutation) → r ≡ Split p rs → items ≡ rs → (length items ≡ length (allowed T G p) → ⊥) → Open one_leaf ≡ kept T G start r
    not_kept p rs items r is same differ =
        sym (ap (kept T G start) is ∙ kept-split T G start p rs ∙ go (length rs == length (allowed T G p)) refl)
      where
        go : (b : Bool) → (length rs == length (allowed T G p)) ≡ b → split_kept T G start p rs b ≡ Open one_leaf
        go true is_same = absurd (differ (ap length same ∙ equal (length rs) (length (allowed T G p)) is_same))
        go false is_not = refl

    pub open_kept : (claim : Claim) (r : Refutation) → r ≡ Open claim → Open claim ≡ kept T G start r
    open_kept claim r is = sym (ap (kept T G start) is ∙ kept-open T G start claim)

    pub closed_kept : (claim : Claim) (r : Refutation) → r ≡ Closed claim → kept T G start (Closed claim) ≡ kept T G start r
    closed_kept claim r is = ap (kept T G start) (sym is)

    pub short_kept : (claim : Claim) (b : Bool) → b ≡ falls_short start (counted T G claim) → (b ≡ true → Open claim ≡ kept T G start (Closed claim)) × (b ≡ false → Closed claim ≡ kept T G start (Closed claim))
    short_kept claim b is = (
      λ yes. sym (kept-closed T G start claim ∙ ap (λ (c : Bool). cond c (Open claim) (Closed claim)) (sym is ∙ yes)),
      λ no. sym (kept-closed T G start claim ∙ ap (λ (c : Bool). cond c (Open claim) (Closed claim)) (sym is ∙ no)),
    )

-- Its closed leaves count from the start on.

module _ (T : TreeValue) (G : Sheet) (start : ℕ) where
  abbrev Count : Part → Type 0
  Count part = PartCounts T G start part

  abbrev HasCounts : Refutation → Type 0
  HasCounts r = AllByRecursion Count (parts_of (kept T G start r))

  both : (xs ys : List Part) → AllByRecursion Count xs → AllByRecursion Count ys → AllByRecursion Count (xs ++ ys)
  both [] ys front back = back
  both (x ∷ xs) ys front back = (front.0, both xs ys front.1 back)

  children_count : (rs : List Refutation) → AllByRecursion HasCounts rs → AllByRecursion Count (flat_map parts_of (map (kept T G start) rs))
  children_count [] all = tt
  children_count (r ∷ rs) all = both (parts_of (kept T G start r)) (flat_map parts_of (map (kept T G start) rs)) all.0 (children_count rs all.1)

  open_count : (claim : Claim) → AllByRecursion Count (parts_of (Open claim))
  open_count claim = subst (AllByRecursion Count) (sym (parts-open claim)) (tt, tt)

  split_count : (p : Pair) (rs : List Refutation) (b : Bool) → AllByRecursion HasCounts rs → AllByRecursion Count (parts_of (split_kept T G start p rs b))
  split_count p rs true all = subst (AllByRecursion Count) (sym (parts-split p (map (kept T G start) rs))) (tt, children_count rs all)
  split_count p rs false all = open_count one_leaf

  reaches : (w : Option ℕ) → falls_short start w ≡ false → CountsFrom start w
  reaches None is = tt
  reaches (Some w) is = omega (arith, ltb-false w start is)

  closed_count : (claim : Claim) (b : Bool) → falls_short start (counted T G claim) ≡ b → AllByRecursion Count (parts_of (cond b (Open claim) (Closed claim)))
  closed_count claim true is = open_count claim
  closed_count claim false is = subst (AllByRecursion Count) (sym (parts-closed claim)) (reaches (counted T G claim) is, tt)

  has_counts : (r : Refutation) → HasCounts r
  has_counts =
      by_nodes HasCounts
      (λ p rs all. subst (λ (r : Refutation). AllByRecursion Count (parts_of r)) (sym (kept-split T G start p rs)) (split_count p rs (length rs == length (allowed T G p)) all))
      (λ claim. subst (λ (r : Refutation). AllByRecursion Count (parts_of r)) (sym (kept-closed T G start claim)) (closed_count claim (falls_short start (counted T G claim)) refl))
      (λ claim. subst (λ (r : Refutation). AllByRecursion Count (parts_of r)) (sym (kept-open T G start claim)) (open_count claim))

  proof_counts : (proof : Option Refutation) → AllByRecursion Count (parts_of (kept_of T G start proof))
  proof_counts None = open_count one_leaf
  proof_counts (Some r) = has_counts r

  pub kept_counts : (proof : Option Refutation) → All (λ (n : Node). Count n.part) (nodes_of T G (kept_of T G start proof))
  kept_counts proof =
      let r = kept_of T G start proof in
      all_back_map Count (λ (n : Node). n.part) (nodes_of T G r) (parts_of r) (parts_same T G r) (All-from_recursion Count (parts_of r) (proof_counts proof))

  pub kept_few : (proof : Option Refutation) → HasRoom proof → node_count_of (kept_of T G start proof) ≤ most_proof_lines
  kept_few None has = omega (arith, ap length (parts-open one_leaf))
  kept_few (Some r) has = omega (arith, has, kept_fewer T G start r)

pub proof_shape : (T : TreeValue) (G : Sheet) (proof : Option Refutation) (r : Refutation) → proof ≡ Some r → (S : TreeValue) × AreOfOneShape S T × ProofFits S G proof → FitsShape T G r
proof_shape T G proof r is (S, shape, fits) = (S, shape, ([], subst (ProofFits S G) is fits))
