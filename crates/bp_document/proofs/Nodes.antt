-- Node lines and depths of a refutation and its children.
use Rattle.std.proofs.Common.{◌≡◌, ℕ, zero, suc, ◌+◌, ◌<◌, ◌≤◌, List, [], ◌∷◌, ◌++◌, length, get_or, map, refl, sym, ap, ◌∙◌, arith, length-append, subst, Result}
use Rattle.std.specs.List.{flat_map}
use Rattle.std.specs.declared.option.Option.{Option}
use Rattle.bp_base.specs.declared.outside.Failed.{Failed}
use Rattle.bp_text.specs.Puts.{Puts}
use Rattle.bp_base.specs.declared.path.Pair.{Pair}
use Rattle.bp_base.specs.declared.chain.Claim.{Claim}
use Rattle.bp_base.specs.declared.refutation.Refutation.{Refutation, fold-roll-Refutation}
use Rattle.bp_base.specs.declared.refutation.Refutation.TheOpen.{Refutation-F}
use Rattle.bp_base.specs.declared.refutation.Refutation.TheVariants.{Split, Closed, Open, rolls-Split, rolls-Closed, rolls-Open}
use Rattle.bp_metric.specs.Nodes.{parts_of, node_count_of}
use Rattle.bp_metric.proofs.Refutations.{parts-split}
use Rattle.bp_document.specs.Lines.{split_line, closed_line, open_line}
use Rattle.bp_document.specs.Ranges.{one_deeper, depth_at, depth_of}
use Rattle.bp_document.specs.Text.{node_lines_at, node_lines}

-- the lines of children at this depth
abbrev pub lines_at : ℕ → Refutation → List ℕ
lines_at depth r = node_lines r depth

flat-map : (rs : List Refutation) (depth : ℕ) → flat_map (λ (lines : ℕ → List ℕ). lines depth) (map node_lines rs) ≡ flat_map (lines_at depth) rs
flat-map [] depth = refl
flat-map (r ∷ rs) depth = λ i. node_lines r depth ++ flat-map rs depth i

pub lines-split : (p : Pair) (rs : List Refutation) (depth : ℕ) → node_lines (Split p rs) depth ≡ split_line depth p ++ flat_map (lines_at (depth + 1)) rs
unfolding node_lines
lines-split p rs depth =
    ap (λ r. node_lines r depth) (sym (rolls-Split p rs)) ∙ (λ i. fold-roll-Refutation (ℕ → List ℕ) node_lines_at (Refutation-F.Split p rs) i depth)
    ∙ ap (λ (t : List ℕ). split_line depth p ++ t) (flat-map rs (depth + 1))

pub lines-closed : (claim : Claim) (depth : ℕ) → node_lines (Closed claim) depth ≡ closed_line depth claim
unfolding node_lines
lines-closed claim depth =
    ap (λ r. node_lines r depth) (sym (rolls-Closed claim)) ∙ (λ i. fold-roll-Refutation (ℕ → List ℕ) node_lines_at (Refutation-F.Closed claim) i depth)

pub lines-open : (claim : Claim) (depth : ℕ) → node_lines (Open claim) depth ≡ open_line depth claim
unfolding node_lines
lines-open claim depth =
    ap (λ r. node_lines r depth) (sym (rolls-Open claim)) ∙ (λ i. fold-roll-Refutation (ℕ → List ℕ) node_lines_at (Refutation-F.Open claim) i depth)

pub depth-split : (p : Pair) (rs : List Refutation) → depth_of (Split p rs) ≡ one_deeper (map depth_of rs)
unfolding depth_of
depth-split p rs = ap depth_of (sym (rolls-Split p rs)) ∙ fold-roll-Refutation ℕ depth_at (Refutation-F.Split p rs)

pub depth-closed : (claim : Claim) → depth_of (Closed claim) ≡ 0
unfolding depth_of
depth-closed claim = ap depth_of (sym (rolls-Closed claim)) ∙ fold-roll-Refutation ℕ depth_at (Refutation-F.Closed claim)

pub depth-open : (claim : Claim) → depth_of (Open claim) ≡ 0
unfolding depth_of
depth-open claim = ap depth_of (sym (rolls-Open claim)) ∙ fold-roll-Refutation ℕ depth_at (Refutation-F.Open claim)

one_deeper_all : (rs : List Refutation) (k : ℕ) (d : Refutation) → k < length rs → depth_of (get_or rs k d) + 1 ≤ one_deeper (map depth_of rs)
one_deeper_all [] k d less = absurd (omega arith)
one_deeper_all (r ∷ rs) zero d less = omega arith
one_deeper_all (r ∷ rs) (suc k) d less = let h = one_deeper_all rs k d (omega arith) in omega (arith, h)

-- a child is less deep than the split
pub child_depth : (p : Pair) (rs : List Refutation) (k : ℕ) (d child : Refutation) → k < length rs → child ≡ get_or rs k d → depth_of child + 1 ≤ depth_of (Split p rs)
child_depth p rs k d child less is = omega (arith, depth-split p rs, one_deeper_all rs k d less, ap depth_of is)

parts_within : (rs : List Refutation) (k : ℕ) (d : Refutation) → k < length rs → node_count_of (get_or rs k d) ≤ length (flat_map parts_of rs)
parts_within [] k d less = absurd (omega arith)
parts_within (r ∷ rs) zero d less = omega (arith, length-append (parts_of r) (flat_map parts_of rs))
parts_within (r ∷ rs) (suc k) d less = let h = parts_within rs k d (omega arith) in omega (arith, h, length-append (parts_of r) (flat_map parts_of rs))

-- a child has fewer nodes than the split
pub child_smaller : (p : Pair) (rs : List Refutation) (k : ℕ) (d child : Refutation) → k < length rs → child ≡ get_or rs k d → node_count_of child < node_count_of (Split p rs)
child_smaller p rs k d child less is = omega (arith, ap length (parts-split p rs), parts_within rs k d less, ap node_count_of is)

-- the lines of a split, with the children as the code has them
pub lines_of : (r : Refutation) (p : Pair) (rs items : List Refutation) (depth : ℕ) → r ≡ Split p rs → items ≡ rs → node_lines r depth ≡ split_line depth p ++ flat_map (lines_at (depth + 1)) items
lines_of r p rs items depth is same =
    ap (λ (s : Refutation). node_lines s depth) is ∙ lines-split p rs depth ∙ ap (λ (l : List Refutation). split_line depth p ++ flat_map (lines_at (depth + 1)) l) (sym same)

-- the lines of a child, as an element of the list
pub lines_item : {T : Type 0} (a c : Option (List ℕ)) (r : Result T Failed) (depth : ℕ) (child element : Refutation) → child ≡ element → Puts a c r (node_lines child depth) → Puts a c r (lines_at depth element)
lines_item a c r depth child element is puts = subst (λ (s : Refutation). Puts a c r (node_lines s depth)) is puts

-- a split of two children
pub depth_of_two : (p : Pair) (rs : List Refutation) (first second : Refutation) → rs ≡ first ∷ second ∷ [] → depth_of (Split p rs) ≤ depth_of first + depth_of second + 1
depth_of_two p rs first second is = omega (arith, depth-split p rs, ap (λ (l : List Refutation). one_deeper (map depth_of l)) is)
