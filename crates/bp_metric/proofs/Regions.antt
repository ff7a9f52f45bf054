-- The edges above a node form one way, so what lies below two edges of which neither is above the other is far apart.
use Rattle.std.proofs.Common.{◌≡◌, ◌⊎◌, ℕ, zero, suc, ◌+◌, ◌-◌, ◌<◌, ◌≤◌, true, false, ◌==◌, refl, sym, ◌∙◌, ap, arith, inl, inr}
use Rattle.std.proofs.lemmas.Bool.{cases_lt, cases_Bool, eqb-true, or_cases, or_right, false_from_ne_true, false≢true}
use Rattle.bp_base.specs.Tree.{TreeValue, IsTree, IsEdge, parent, length_of, node_count, leaf_node}
use Rattle.bp_metric.specs.Distance.{is_below, share, dist, leaf_dist, leaf_below, radius}
use Rattle.bp_metric.proofs.Ranges.{sums_at_least}
use Rattle.bp_metric.proofs.Distances.{parent_falls, is_below-up, le_from_below}

module _ (T : TreeValue) (t : IsTree T) where
  -- the node itself, or its parent, is below the edge
  up_cases : (a e : ℕ) → 0 < a → is_below T a e ≡ true → (a ≡ e) ⊎ (is_below T (parent T a) e ≡ true)
  up_cases a e above is = elim (or_cases (a == e) (is_below T (parent T a) e) (sym (is_below-up T t a e above) ∙ is)) [
    | inl here ↦ inl (eqb-true a e here)
    | inr up ↦ inr up
  ]

  up_from : (a e : ℕ) → 0 < a → is_below T (parent T a) e ≡ true → is_below T a e ≡ true
  up_from a e above up = is_below-up T t a e above ∙ or_right (a == e) (is_below T (parent T a) e) up

  trans_within : (k a e g : ℕ) → a ≤ k → 0 < e → 0 < g → is_below T a e ≡ true → is_below T e g ≡ true → is_below T a g ≡ true
  trans_within zero a e g small e_above g_above ae eg = absurd (omega (arith, le_from_below T t a e ae))
  trans_within (suc k) a e g small e_above g_above ae eg =
      let above : 0 < a = omega (arith, le_from_below T t a e ae) in
      elim (up_cases a e above ae) [
        | inl same ↦ ap (λ (x : ℕ). is_below T x g) same ∙ eg
        | inr up ↦ up_from a g above (trans_within k (parent T a) e g (omega (arith, parent_falls T t a)) e_above g_above up eg)
      ]

  pub below_trans : (a e g : ℕ) → 0 < e → 0 < g → is_below T a e ≡ true → is_below T e g ≡ true → is_below T a g ≡ true
  below_trans a e g e_above g_above ae eg = trans_within a a e g (omega arith) e_above g_above ae eg

  one_way_within : (k a e g : ℕ) → a ≤ k → 0 < e → e ≤ g → is_below T a e ≡ true → is_below T a g ≡ true → is_below T g e ≡ true
  one_way_within zero a e g small e_above order ae ag = absurd (omega (arith, le_from_below T t a e ae))
  one_way_within (suc k) a e g small e_above order ae ag =
      let above : 0 < a = omega (arith, le_from_below T t a e ae) in
      elim (up_cases a g above ag) [
        | inl same ↦ ap (λ (x : ℕ). is_below T x e) (sym same) ∙ ae
        | inr up ↦ elim (up_cases a e above ae) [
          | inl here ↦ absurd (omega (arith, here, le_from_below T t (parent T a) g up, parent_falls T t a))
          | inr also ↦ one_way_within k (parent T a) e g (omega (arith, parent_falls T t a)) e_above order also up
        ]
      ]

  -- of two edges above one node, the one of the greater number is below the other
  pub one_way : (a e g : ℕ) → 0 < e → e ≤ g → is_below T a e ≡ true → is_below T a g ≡ true → is_below T g e ≡ true
  one_way a e g e_above order ae ag = one_way_within a a e g (omega arith) e_above order ae ag

  -- neither of the two edges is above the other
  abbrev pub AreBeside : ℕ → ℕ → Type 0
  AreBeside e f = (is_below T e f ≡ false) × (is_below T f e ≡ false)

  -- no node is below both
  pub beside_apart : (a e f : ℕ) → 0 < e → 0 < f → AreBeside e f → is_below T a e ≡ true → is_below T a f ≡ false
  beside_apart a e f e_above f_above beside ae = false_from_ne_true (is_below T a f) (λ af. elim (cases_lt e f) [
    | inl less ↦ false≢true (sym beside.1 ∙ one_way a e f e_above (omega arith) ae af)
    | inr more ↦ false≢true (sym beside.0 ∙ one_way a f e f_above more af ae)
  ])

  -- an edge on the way from a up to the upper node of e: a is below it, and it is below e
  share_way : (a e g : ℕ) → 0 < e → 0 < g → is_below T a e ≡ true → (share T a (parent T e) g ≡ 0) ⊎ ((is_below T a g ≡ true) × (is_below T g e ≡ true) × (share T a (parent T e) g ≡ length_of T g))
  unfolding share
  share_way a e g e_above g_above ae = elim (cases_Bool (is_below T (parent T e) g)) [
    | inl up ↦
        let ag : is_below T a g ≡ true = below_trans a e g e_above g_above ae (up_from e g e_above up) in
        inl (rw (ag, up) refl)
    | inr up ↦ elim (cases_Bool (is_below T a g)) [
      | inr off ↦ inl (rw (off, up) refl)
      | inl ag ↦ elim (cases_lt g e) [
        | inr order ↦ inr (ag, one_way a e g e_above order ae ag, rw (ag, up) refl)
        | inl less ↦ elim (up_cases e g e_above (one_way a g e g_above (omega arith) ag ae)) [
          | inl same ↦ absurd (omega (arith, same, less))
          | inr more ↦ absurd (false≢true (sym up ∙ more))
        ]
      ]
    ]
  ]

  share_whole : (a b g : ℕ) → is_below T a g ≡ true → is_below T b g ≡ false → share T a b g ≡ length_of T g
  unfolding share
  share_whole a b g x y = rw (x, y) refl

  share_whole_right : (a b g : ℕ) → is_below T a g ≡ false → is_below T b g ≡ true → share T a b g ≡ length_of T g
  unfolding share
  share_whole_right a b g x y = rw (x, y) refl

  shares_beside : (a b e f g : ℕ) → 0 < e → 0 < f → 0 < g → AreBeside e f → is_below T a e ≡ true → is_below T b f ≡ true → share T a (parent T e) g + share T b (parent T f) g ≤ share T a b g
  shares_beside a b e f g e_above f_above g_above beside ae bf =
      let not_b : is_below T g e ≡ true → is_below T b g ≡ false = λ ge. false_from_ne_true (is_below T b g) (λ bg. false≢true (sym (beside_apart b e f e_above f_above beside (below_trans b g e g_above e_above bg ge)) ∙ bf)) in
      let not_a : is_below T g f ≡ true → is_below T a g ≡ false = λ gf. false_from_ne_true (is_below T a g) (λ ag. false≢true (sym (beside_apart a e f e_above f_above beside ae) ∙ below_trans a g f g_above f_above ag gf)) in
      elim (share_way a e g e_above g_above ae) [
        | inl x ↦ elim (share_way b f g f_above g_above bf) [
          | inl y ↦ omega (arith, x, y)
          | inr (bg, gf, y) ↦ omega (arith, x, y, share_whole_right a b g (not_a gf) bg)
        ]
        | inr (ag, ge, x) ↦ elim (share_way b f g f_above g_above bf) [
          | inl y ↦ omega (arith, x, y, share_whole a b g ag (not_b ge))
          | inr (bg, gf, y) ↦ absurd (false≢true (sym (not_b ge) ∙ bg))
        ]
      ]

  -- a way between what lies below two edges of which neither is above the other goes up over both
  pub dist_beside : (a b e f : ℕ) → 0 < e → 0 < f → AreBeside e f → is_below T a e ≡ true → is_below T b f ≡ true → dist T a (parent T e) + dist T b (parent T f) ≤ dist T a b
  unfolding dist
  dist_beside a b e f e_above f_above beside ae bf =
      sums_at_least (share T a b) (share T a (parent T e)) (share T b (parent T f)) 1 (node_count T - 1) (λ g above. shares_beside a b e f g e_above f_above above beside ae bf)

  pub radii_beside : (i j e f : ℕ) → IsEdge T e → IsEdge T f → AreBeside e f → leaf_below T i e ≡ true → leaf_below T j f ≡ true → radius T i e + radius T j f ≤ leaf_dist T i j
  radii_beside i j e f e_edge f_edge beside ie jf = dist_beside (leaf_node T i) (leaf_node T j) e f e_edge.0 f_edge.0 beside ie jf
