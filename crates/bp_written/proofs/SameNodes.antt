-- A test of equality for nodes, and what it carries from a list of nodes to the same nodes in another order.
use Rattle.std.proofs.Common.{◌≡◌, ℕ, Bool, true, false, true≢false, ◌&&◌, ◌==◌, List, [], ◌∷◌, All, sym, refl}
use Rattle.std.specs.List.{Any}
use Rattle.bp_base.specs.declared.chain.Claim.{Claim}
use Rattle.bp_base.specs.declared.chain.Claim.TheVariants.{Walk, Cycle}
use Rattle.bp_base.specs.declared.point.Axis.{Axis}
use Rattle.bp_base.specs.declared.point.Axis.TheVariants.{X, Y}
use Rattle.bp_base.specs.Bags.{AreSame, same_path}
use Rattle.bp_base.proofs.Bags.{moved, all_moved, both_true, equal, itself, path_itself, path_sound}
use Rattle.bp_metric.specs.Nodes.{Node, Part, SplitOf, ClosedBy, OpenBy}

abbrev same_axis : Axis → Axis → Bool
same_axis X X = true
same_axis X Y = false
same_axis Y X = false
same_axis Y Y = true

axis_itself : (a : Axis) → same_axis a a ≡ true
axis_itself X = refl
axis_itself Y = refl

axis_sound : (a b : Axis) → same_axis a b ≡ true → a ≡ b
axis_sound X X e = refl
axis_sound X Y e = absurd (true≢false (sym e))
axis_sound Y X e = absurd (true≢false (sym e))
axis_sound Y Y e = refl

abbrev same_numbers : List ℕ → List ℕ → Bool
same_numbers [] [] = true
same_numbers [] (n ∷ ns) = false
same_numbers (m ∷ ms) [] = false
same_numbers (m ∷ ms) (n ∷ ns) = (m == n) && same_numbers ms ns

numbers_itself : (ms : List ℕ) → same_numbers ms ms ≡ true
numbers_itself [] = refl
numbers_itself (m ∷ ms) = rw (itself m) (numbers_itself ms)

numbers_sound : (ms ns : List ℕ) → same_numbers ms ns ≡ true → ms ≡ ns
numbers_sound [] [] e = refl
numbers_sound [] (n ∷ ns) e = absurd (true≢false (sym e))
numbers_sound (m ∷ ms) [] e = absurd (true≢false (sym e))
numbers_sound (m ∷ ms) (n ∷ ns) e = let b = both_true (m == n) (same_numbers ms ns) e in let h = equal m n b.0 in let r = numbers_sound ms ns b.1 in λ k. h k ∷ r k

abbrev same_claim : Claim → Claim → Bool
same_claim (Walk a ms) (Walk b ns) = same_axis a b && same_numbers ms ns
same_claim (Walk a ms) (Cycle b ns) = false
same_claim (Cycle a ms) (Walk b ns) = false
same_claim (Cycle a ms) (Cycle b ns) = same_axis a b && same_numbers ms ns

claim_itself : (c : Claim) → same_claim c c ≡ true
claim_itself (Walk a ms) = rw (axis_itself a) (numbers_itself ms)
claim_itself (Cycle a ms) = rw (axis_itself a) (numbers_itself ms)

claim_sound : (c d : Claim) → same_claim c d ≡ true → c ≡ d
claim_sound (Walk a ms) (Walk b ns) e = let h = both_true (same_axis a b) (same_numbers ms ns) e in let f = axis_sound a b h.0 in let g = numbers_sound ms ns h.1 in λ k. Walk (f k) (g k)
claim_sound (Walk a ms) (Cycle b ns) e = absurd (true≢false (sym e))
claim_sound (Cycle a ms) (Walk b ns) e = absurd (true≢false (sym e))
claim_sound (Cycle a ms) (Cycle b ns) e = let h = both_true (same_axis a b) (same_numbers ms ns) e in let f = axis_sound a b h.0 in let g = numbers_sound ms ns h.1 in λ k. Cycle (f k) (g k)

-- Nodes.

abbrev same_part : Part → Part → Bool
same_part (SplitOf p m) (SplitOf q n) = (p.i == q.i) && ((p.j == q.j) && (m == n))
same_part (SplitOf p m) (ClosedBy d) = false
same_part (SplitOf p m) (OpenBy d) = false
same_part (ClosedBy c) (SplitOf q n) = false
same_part (ClosedBy c) (ClosedBy d) = same_claim c d
same_part (ClosedBy c) (OpenBy d) = false
same_part (OpenBy c) (SplitOf q n) = false
same_part (OpenBy c) (ClosedBy d) = false
same_part (OpenBy c) (OpenBy d) = same_claim c d

part_itself : (p : Part) → same_part p p ≡ true
part_itself (SplitOf p m) = rw (itself p.i, itself p.j) (itself m)
part_itself (ClosedBy c) = claim_itself c
part_itself (OpenBy c) = claim_itself c

part_sound : (p q : Part) → same_part p q ≡ true → p ≡ q
part_sound (SplitOf p m) (SplitOf q n) e =
    let outer = both_true (p.i == q.i) ((p.j == q.j) && (m == n)) e in
    let inner = both_true (p.j == q.j) (m == n) outer.1 in
    let i = equal p.i q.i outer.0 in
    let j = equal p.j q.j inner.0 in
    let c = equal m n inner.1 in
    λ k. SplitOf (record { i = i k; j = j k }) (c k)
part_sound (SplitOf p m) (ClosedBy d) e = absurd (true≢false (sym e))
part_sound (SplitOf p m) (OpenBy d) e = absurd (true≢false (sym e))
part_sound (ClosedBy c) (SplitOf q n) e = absurd (true≢false (sym e))
part_sound (ClosedBy c) (ClosedBy d) e = let h = claim_sound c d e in λ k. ClosedBy (h k)
part_sound (ClosedBy c) (OpenBy d) e = absurd (true≢false (sym e))
part_sound (OpenBy c) (SplitOf q n) e = absurd (true≢false (sym e))
part_sound (OpenBy c) (ClosedBy d) e = absurd (true≢false (sym e))
part_sound (OpenBy c) (OpenBy d) e = let h = claim_sound c d e in λ k. OpenBy (h k)

abbrev same_node : Node → Node → Bool
same_node m n = same_path m.path n.path && same_part m.part n.part

node_itself : (n : Node) → same_node n n ≡ true
node_itself n = rw (path_itself n.path) (part_itself n.part)

node_sound : (m n : Node) → same_node m n ≡ true → m ≡ n
node_sound m n e = let b = both_true (same_path m.path n.path) (same_part m.part n.part) e in let p = path_sound m.path n.path b.0 in let q = part_sound m.part n.part b.1 in λ k. record { path = p k; part = q k }

-- what holds of all nodes of one list holds of all of the other
pub all_nodes : (P : Node → Type 0) (xs ys : List Node) → AreSame xs ys → All P xs → All P ys
all_nodes P xs ys both all = all_moved same_node node_itself node_sound P xs ys both all

-- what holds of some node of one list holds of some of the other
pub any_node : (P : Node → Type 0) (xs ys : List Node) → AreSame xs ys → Any P xs → Any P ys
any_node P xs ys both any =
    let c = moved same_node node_itself node_sound xs ys any.1 both (any.0, any.2, any.3) in
    (c.0, any.1, c.1, c.2, any.4)
