-- The nodes of a refutation, as lines and as they are built.
use Rattle.std.proofs.Common.{◌≡◌, ℕ, suc, ◌+◌, ◌-◌, ◌≤◌, List, [], ◌∷◌, ◌++◌, length, get_or, take, map, All, Option, None, Some, refl, sym, ◌∙◌, ap, subst, arith, append_assoc, length-append}
use Rattle.std.specs.List.{flat_map, AllByRecursion}
use Rattle.std.proofs.lemmas.Grind.{flat_map-append}
use Rattle.std.proofs.lemmas.List.{append-nil, take_all, take_more}
use Rattle.std.proofs.lemmas.List.Elements.{All-append, All-cons, All-nil}
use Rattle.bp_base.specs.declared.path.Pair.{Pair}
use Rattle.bp_base.specs.declared.chain.Claim.{Claim}
use Rattle.bp_base.specs.declared.refutation.Refutation.{Refutation, roll-Refutation, ind-Refutation, fold-roll-Refutation}
use Rattle.bp_base.specs.declared.refutation.Refutation.TheOpen.{Refutation-F}
use Rattle.bp_base.specs.declared.refutation.Refutation.TheVariants.{Split, Closed, Open, rolls-Split, rolls-Closed, rolls-Open}
use Rattle.bp_base.specs.declared.refutation.Refutation.TheFolds.{map-Refutation}
use Rattle.bp_base.specs.Limits.{most_steps}
use Rattle.bp_metric.specs.Nodes.{SplitOf, ClosedBy, OpenBy, parts_of, node_count_of}
use Rattle.bp_metric.proofs.Refutations.{parts-split, parts-closed, parts-open}
use Rattle.bp_document.specs.declared.builder.Branch.{Branch}
use Rattle.bp_document.specs.declared.node_line.NodeKind.{NodeKind}
use Rattle.bp_document.specs.declared.node_line.NodeLine.{NodeLine}
use Rattle.bp_document.specs.Ranges.{one_deeper, depth_of, IsSmallPart}
use Rattle.bp_document.specs.Text.{node_lines}
use Rattle.bp_document.specs.Nodes.{IsKindOfNumbers, node_text}
use Rattle.bp_document.specs.Places.{DepthFits, Follow, deepest}
use Rattle.bp_document.specs.Told.{node_at, node_list, node_list_at}
use Rattle.bp_document.specs.Built.{forest, told}
use Rattle.bp_document.proofs.Nodes.{lines_at, lines-split, lines-closed, lines-open, depth-split, depth-closed, depth-open}

-- What holds of a split where it holds of its children, and of the proof leaves, holds of each refutation.
module _ (P : Refutation → Type 0) (split : (p : Pair) (rs : List Refutation) → AllByRecursion P rs → P (Split p rs)) (closed : (claim : Claim) → P (Closed claim)) (opened : (claim : Claim) → P (Open claim)) where
  abbrev Known : Type 0
  Known = (r : Refutation) × P r

  abbrev known : List Known → List Refutation
  known rs = map (λ (r : Known). r.0) rs

  all_known : (rs : List Known) → AllByRecursion P (known rs)
  all_known [] = tt
  all_known (r ∷ rs) = (r.1, all_known rs)

  node : (x : Refutation-F Refutation) (y : Refutation-F Known) → map-Refutation Known Refutation (λ (r : Known). r.0) y ≡ x → P (roll-Refutation x)
  node x (Refutation-F.Split p rs) is = subst (λ z. P (roll-Refutation z)) is (subst P (sym (rolls-Split p (known rs))) (split p (known rs) (all_known rs)))
  node x (Refutation-F.Closed claim) is = subst (λ z. P (roll-Refutation z)) is (subst P (sym (rolls-Closed claim)) (closed claim))
  node x (Refutation-F.Open claim) is = subst (λ z. P (roll-Refutation z)) is (subst P (sym (rolls-Open claim)) (opened claim))

  pub by_nodes : (r : Refutation) → P r
  by_nodes = ind-Refutation P node

flat-map : (rs : List Refutation) (depth : ℕ) → flat_map (λ (nodes : ℕ → List NodeLine). nodes depth) (map node_list rs) ≡ forest depth rs
flat-map [] depth = refl
flat-map (r ∷ rs) depth = λ i. node_list r depth ++ flat-map rs depth i

pub list-split : (p : Pair) (rs : List Refutation) (depth : ℕ) → node_list (Split p rs) depth ≡ node_at depth (NodeKind.Split p) ∷ forest (depth + 1) rs
unfolding node_list
list-split p rs depth =
    ap (λ r. node_list r depth) (sym (rolls-Split p rs)) ∙ (λ i. fold-roll-Refutation (ℕ → List NodeLine) node_list_at (Refutation-F.Split p rs) i depth)
    ∙ ap (λ (t : List NodeLine). node_at depth (NodeKind.Split p) ∷ t) (flat-map rs (depth + 1))

pub list-closed : (claim : Claim) (depth : ℕ) → node_list (Closed claim) depth ≡ node_at depth (NodeKind.Closed claim) ∷ []
unfolding node_list
list-closed claim depth =
    ap (λ r. node_list r depth) (sym (rolls-Closed claim)) ∙ (λ i. fold-roll-Refutation (ℕ → List NodeLine) node_list_at (Refutation-F.Closed claim) i depth)

pub list-open : (claim : Claim) (depth : ℕ) → node_list (Open claim) depth ≡ node_at depth (NodeKind.Open claim) ∷ []
unfolding node_list
list-open claim depth =
    ap (λ r. node_list r depth) (sym (rolls-Open claim)) ∙ (λ i. fold-roll-Refutation (ℕ → List NodeLine) node_list_at (Refutation-F.Open claim) i depth)

-- The lines of a refutation are those of its nodes, and they are as many.
abbrev HasLines : Refutation → Type 0
HasLines r = (depth : ℕ) → (node_lines r depth ≡ flat_map node_text (node_list r depth)) × (node_count_of r ≡ length (node_list r depth))

forest_lines : (rs : List Refutation) (depth : ℕ) → AllByRecursion HasLines rs → (flat_map (lines_at depth) rs ≡ flat_map node_text (forest depth rs)) × (length (flat_map parts_of rs) ≡ length (forest depth rs))
forest_lines [] depth all = (refl, refl)
forest_lines (r ∷ rs) depth all =
    let one = all.0 depth in
    let rest = forest_lines rs depth all.1 in (
      ap (λ (t : List ℕ). t ++ flat_map (lines_at depth) rs) one.0 ∙ ap (λ (t : List ℕ). flat_map node_text (node_list r depth) ++ t) rest.0 ∙ sym (flat_map-append node_text (node_list r depth) (forest depth rs)),
      omega (arith, one.1, rest.1, length-append (parts_of r) (flat_map parts_of rs), length-append (node_list r depth) (forest depth rs)),
    )

split_lines : (p : Pair) (rs : List Refutation) → AllByRecursion HasLines rs → HasLines (Split p rs)
split_lines p rs all depth =
    let rest = forest_lines rs (depth + 1) all in (
      lines-split p rs depth ∙ ap (λ (t : List ℕ). node_text (node_at depth (NodeKind.Split p)) ++ t) rest.0 ∙ ap (flat_map node_text) (sym (list-split p rs depth)),
      omega (arith, ap length (parts-split p rs), rest.1, ap length (list-split p rs depth)),
    )

pub has_lines : (r : Refutation) → HasLines r
has_lines = by_nodes HasLines split_lines
    (λ claim depth. (lines-closed claim depth ∙ sym (append-nil (node_text (node_at depth (NodeKind.Closed claim)))) ∙ ap (flat_map node_text) (sym (list-closed claim depth)), omega (arith, ap length (parts-closed claim), ap length (list-closed claim depth))))
    (λ claim depth. (lines-open claim depth ∙ sym (append-nil (node_text (node_at depth (NodeKind.Open claim)))) ∙ ap (flat_map node_text) (sym (list-open claim depth)), omega (arith, ap length (parts-open claim), ap length (list-open claim depth))))

-- What holds of all of a list, told by recursion, holds of its two parts.
module _ {A : Type 0} (P : A → Type 0) where
  pub all_left : (xs ys : List A) → AllByRecursion P (xs ++ ys) → AllByRecursion P xs
  all_left [] ys all = tt
  all_left (x ∷ xs) ys all = (all.0, all_left xs ys all.1)

  pub all_right : (xs ys : List A) → AllByRecursion P (xs ++ ys) → AllByRecursion P ys
  all_right [] ys all = all
  all_right (x ∷ xs) ys all = all_right xs ys all.1

  pub all_given : (xs : List A) → All P xs → AllByRecursion P xs
  all_given [] all = tt
  all_given (x ∷ xs) all = (all 0 x (omega arith), all_given xs (λ k d less. all (suc k) d (omega (arith, less))))

-- a node within the ranges
abbrev pub IsFine : NodeLine → Type 0
IsFine l = IsKindOfNumbers l.kind × (l.depth ≤ most_steps)

-- Fine nodes are those of a refutation within the ranges.
abbrev KeepsRanges : Refutation → Type 0
KeepsRanges r = (depth : ℕ) → AllByRecursion IsFine (node_list r depth) → (depth_of r + depth ≤ most_steps) × All IsSmallPart (parts_of r)

forest_ranges : (rs : List Refutation) (depth : ℕ) → depth ≤ most_steps → AllByRecursion KeepsRanges rs → AllByRecursion IsFine (forest (depth + 1) rs) → (one_deeper (map depth_of rs) + depth ≤ most_steps) × All IsSmallPart (flat_map parts_of rs)
forest_ranges [] depth low all fine = (omega (arith, low), All-nil IsSmallPart)
forest_ranges (r ∷ rs) depth low all fine =
    let one = all.0 (depth + 1) (all_left IsFine (node_list r (depth + 1)) (forest (depth + 1) rs) fine) in
    let rest = forest_ranges rs depth low all.1 (all_right IsFine (node_list r (depth + 1)) (forest (depth + 1) rs) fine) in
    (omega (arith, one.0, rest.0), All-append IsSmallPart (parts_of r) (flat_map parts_of rs) one.1 rest.1)

split_ranges : (p : Pair) (rs : List Refutation) → AllByRecursion KeepsRanges rs → KeepsRanges (Split p rs)
split_ranges p rs all depth fine =
    let mine : AllByRecursion IsFine (node_at depth (NodeKind.Split p) ∷ forest (depth + 1) rs) = subst (AllByRecursion IsFine) (list-split p rs depth) fine in
    let rest = forest_ranges rs depth mine.0.1 all mine.1 in
    (omega (arith, depth-split p rs, rest.0), subst (All IsSmallPart) (sym (parts-split p rs)) (All-cons IsSmallPart (SplitOf p (length rs)) (flat_map parts_of rs) mine.0.0 rest.1))

pub keeps_ranges : (r : Refutation) → KeepsRanges r
keeps_ranges = by_nodes KeepsRanges split_ranges
    (λ claim depth fine.
    let mine : AllByRecursion IsFine (node_at depth (NodeKind.Closed claim) ∷ []) = subst (AllByRecursion IsFine) (list-closed claim depth) fine in
    (omega (arith, depth-closed claim, mine.0.1), subst (All IsSmallPart) (sym (parts-closed claim)) (All-cons IsSmallPart (ClosedBy claim) [] mine.0.0 (All-nil IsSmallPart))))
    (λ claim depth fine.
    let mine : AllByRecursion IsFine (node_at depth (NodeKind.Open claim) ∷ []) = subst (AllByRecursion IsFine) (list-open claim depth) fine in
    (omega (arith, depth-open claim, mine.0.1), subst (All IsSmallPart) (sym (parts-open claim)) (All-cons IsSmallPart (OpenBy claim) [] mine.0.0 (All-nil IsSmallPart))))

-- nodes that follow are fine
fits_low : (most : Option ℕ) (depth : ℕ) → DepthFits most depth → depth ≤ most_steps
fits_low None depth fits = omega (arith, fits)
fits_low (Some most) depth fits = fits.2

pub follow_fine : (most : Option ℕ) (ns : List NodeLine) → Follow most ns → AllByRecursion IsFine ns
follow_fine most [] follow = tt
follow_fine most (l ∷ ls) follow = ((follow.0, fits_low most l.depth follow.1), follow_fine (Some (deepest l.kind l.depth)) ls follow.2)

-- Open splits one behind the other.
pub told_append : (bs cs : List Branch) (depth : ℕ) → told depth (bs ++ cs) ≡ told depth bs ++ told (depth + length bs) cs
told_append [] cs depth = let e : depth ≡ depth + 0 = omega arith in ap (λ (d : ℕ). told d cs) e
told_append (b ∷ bs) cs depth =
    let e : depth + 1 + length bs ≡ depth + suc (length bs) = omega arith in
    ap (λ (t : List NodeLine). node_at depth (NodeKind.Split b.pair) ∷ (forest (depth + 1) b.children ++ t)) (told_append bs cs (depth + 1))
    ∙ ap (λ (t : List NodeLine). node_at depth (NodeKind.Split b.pair) ∷ t) (sym (append_assoc (forest (depth + 1) b.children) (told (depth + 1) bs) (told (depth + 1 + length bs) cs)))
    ∙ ap (λ (d : ℕ). node_at depth (NodeKind.Split b.pair) ∷ ((forest (depth + 1) b.children ++ told (depth + 1) bs) ++ told d cs)) e

pub told_one : (b : Branch) (depth : ℕ) → told depth (b ∷ []) ≡ node_list (Split b.pair b.children) depth
told_one b depth = ap (λ (t : List NodeLine). node_at depth (NodeKind.Split b.pair) ∷ t) (append-nil (forest (depth + 1) b.children)) ∙ sym (list-split b.pair b.children depth)

abbrev pub with_child : Branch → Refutation → Branch
with_child b r = record { pair = b.pair; children = b.children ++ r ∷ [] }

pub told_child : (b : Branch) (r : Refutation) (depth : ℕ) → told depth (with_child b r ∷ []) ≡ told depth (b ∷ []) ++ node_list r (depth + 1)
told_child b r depth =
    let head = node_at depth (NodeKind.Split b.pair) in
    ap (λ (t : List NodeLine). head ∷ t) (append-nil (forest (depth + 1) (b.children ++ r ∷ [])) ∙ flat_map-append (λ (x : Refutation). node_list x (depth + 1)) b.children (r ∷ []) ∙ ap (λ (t : List NodeLine). forest (depth + 1) b.children ++ t) (append-nil (node_list r (depth + 1))))
    ∙ ap (λ (t : List NodeLine). head ∷ (t ++ node_list r (depth + 1))) (sym (append-nil (forest (depth + 1) b.children)))

told_parts : (bs cs : List Branch) → told 0 (bs ++ cs) ≡ told 0 bs ++ told (length bs) cs
told_parts bs cs = let e : 0 + length bs ≡ length bs = omega arith in told_append bs cs 0 ∙ ap (λ (d : ℕ). told 0 bs ++ told d cs) e

-- a child more of the last
pub told_last : (bs : List Branch) (b : Branch) (r : Refutation) → told 0 (bs ++ with_child b r ∷ []) ≡ told 0 (bs ++ b ∷ []) ++ node_list r (length bs + 1)
told_last bs b r =
    told_parts bs (with_child b r ∷ []) ∙ ap (λ (t : List NodeLine). told 0 bs ++ t) (told_child b r (length bs))
    ∙ sym (append_assoc (told 0 bs) (told (length bs) (b ∷ [])) (node_list r (length bs + 1))) ∙ ap (λ (t : List NodeLine). t ++ node_list r (length bs + 1)) (sym (told_parts bs (b ∷ [])))

-- the last one closed
pub told_closed : (bs : List Branch) (b : Branch) → told 0 (bs ++ b ∷ []) ≡ told 0 bs ++ node_list (Split b.pair b.children) (length bs)
told_closed bs b = told_parts bs (b ∷ []) ∙ ap (λ (t : List NodeLine). told 0 bs ++ t) (told_one b (length bs))

-- a new one
abbrev pub new_branch : Pair → Branch
new_branch p = record { pair = p; children = [] }

pub told_new : (bs : List Branch) (p : Pair) → told 0 (bs ++ new_branch p ∷ []) ≡ told 0 bs ++ node_at (length bs) (NodeKind.Split p) ∷ []
told_new bs p = told_parts bs (new_branch p ∷ [])

-- the last and those before it
pub parted : (bs : List Branch) (b : Branch) → 1 ≤ length bs → bs ≡ take (length bs - 1) bs ++ get_or bs (length bs - 1) b ∷ []
parted bs b some =
    let e : length bs ≡ length bs - 1 + 1 = omega (arith, some) in
    sym (take_all (length bs) bs (omega arith)) ∙ ap (λ (n : ℕ). take n bs) e ∙ take_more bs (length bs - 1) b (omega (arith, some))
