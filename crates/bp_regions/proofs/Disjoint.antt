-- Tips that are far apart have balls that share no cell, so regions of edges that stand beside each other are disjoint.
use Rattle.std.proofs.Common.{◌≡◌, ◌≢◌, ℕ, ◌+◌, ◌<◌, ◌≤◌, List, Option, None, Some, true, false, refl, sym, ◌∙◌, ap, subst, arith, inl, inr}
use Rattle.std.proofs.lemmas.Bool.{cases_eq, cases_order, cases_Bool, false≢true}
use Rattle.bp_base.specs.declared.point.Point.{Point}
use Rattle.bp_base.specs.declared.point.Sheet.TheVariants.{Square}
use Rattle.bp_base.specs.Point.{point_at, gap}
use Rattle.bp_base.specs.Tree.{TreeValue, IsTree, IsEdge, IsLeaf, leaf_node}
use Rattle.bp_metric.specs.Distance.{is_below, leaf_below, leaf_dist, radius}
use Rattle.bp_metric.specs.Valid.{Valid}
use Rattle.bp_metric.proofs.Distances.{dist_comm}
use Rattle.bp_metric.proofs.Regions.{beside_apart, radii_beside}
use Rattle.bp_regions.specs.Cells.{IsInBall, Own, Owner, Reach}

-- tips whose balls share a cell are nearer than the sum of the radii
near : (p r : Point) (a b x y : ℕ) → IsInBall p a x y → IsInBall r b x y → gap p r < a + b
near p r a b x y (p1, p2, p3, p4) (r1, r2, r3, r4) = omega (arith, p1, p2, p3, p4, r1, r2, r3, r4)

module _ (T : TreeValue) (t : IsTree T) (S : ℕ) (P : List Point) (v : Valid T Square 1 S P) where
  far_balls : (i j a b x y : ℕ) → IsLeaf T i → IsLeaf T j → i ≢ j → a + b ≤ leaf_dist T i j → IsInBall (point_at P i) a x y → IsInBall (point_at P j) b x y → ⊥
  far_balls i j a b x y i_leaf j_leaf apart far in_i in_j = elim (cases_order i j) [
    | inl same ↦ apart same
    | inr (inl less) ↦
        omega (arith, v.far i j (i_leaf.0, less, j_leaf.1), near (point_at P i) (point_at P j) a b x y in_i in_j, far)
    | inr (inr more) ↦
        omega (arith, v.far j i (j_leaf.0, more, i_leaf.1), near (point_at P j) (point_at P i) b a x y in_j in_i, far, dist_comm T t (leaf_node T i) (leaf_node T j))
  ]

  pub disjoint : (e f : ℕ) → IsEdge T e → IsEdge T f → is_below T e f ≡ false → is_below T f e ≡ false → (x y : ℕ) → Reach T S P e x y → Reach T S P f x y → ⊥
  disjoint e f e_edge f_edge ef fe x y in_e in_f =
      let i = in_e.leaf in
      let j = in_f.leaf in
      let apart : i ≢ j = λ same. false≢true (sym (beside_apart T t (leaf_node T i) e f e_edge.0 f_edge.0 (ef, fe) in_e.below) ∙ subst (λ (k : ℕ). leaf_below T k f ≡ true) (sym same) in_f.below) in
      far_balls i j (radius T i e) (radius T j f) x y in_e.among in_f.among apart (radii_beside T t i j e f e_edge f_edge (ef, fe) in_e.below in_f.below) in_e.near in_f.near

  pub owned_once : (e f : ℕ) → IsEdge T e → IsEdge T f → (x y : ℕ) → Own T S P e x y → Own T S P f x y → e ≡ f
  owned_once e f e_edge f_edge x y own_e own_f = elim (cases_eq e f) [
    | inl same ↦ same
    | inr apart ↦ elim (cases_Bool (is_below T e f)) [
      | inl ef ↦ absurd (own_f.alone e e_edge apart ef own_e.reach)
      | inr ef ↦ elim (cases_Bool (is_below T f e)) [
        | inl fe ↦ absurd (own_e.alone f f_edge (λ same. apart (sym same)) fe own_f.reach)
        | inr fe ↦ absurd (disjoint e f e_edge f_edge ef fe x y own_e.reach own_f.reach)
      ]
    ]
  ]

  pub one_owner : (x y : ℕ) (o p : Option ℕ) → Owner T S P x y o → Owner T S P x y p → o ≡ p
  one_owner x y None None a b = refl
  one_owner x y None (Some f) a b = absurd (a f b.0 b.1)
  one_owner x y (Some e) None a b = absurd (b e a.0 a.1)
  one_owner x y (Some e) (Some f) a b = ap (λ (k : ℕ). Some k) (owned_once e f a.0 b.0 x y a.1 b.1)
