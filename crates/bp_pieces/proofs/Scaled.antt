-- Chains over a table of cells between cuts, and chains over the unit cells.
use Rattle.std.proofs.Common.{◌≡◌, ◌⊎◌, ℕ, zero, suc, ◌+◌, ◌-◌, ◌<◌, ◌≤◌, ◌↔◌, refl, sym, subst, arith, inl, inr}
use Rattle.std.proofs.lemmas.Bool.{cases_eq, cases_lt, cases_order}
use Rattle.bp_contour.proofs.Scaled.{AreSteps, Lies, lies_somewhere}
use Rattle.bp_pieces.specs.declared.kind.Kind.{Kind}
use Rattle.bp_pieces.specs.declared.kind.Kind.TheVariants.{Outside, Reached}
use Rattle.bp_pieces.specs.Labels.{Near}
use Rattle.bp_pieces.specs.Pieces.{AreNeighbours, IsJoined, Touch}
use Rattle.bp_pieces.specs.Pieces.IsJoined.{alone, onward}
use Rattle.bp_pieces.proofs.Joined.{joined_back, joined_on, last_in}
use Rattle.bp_pieces.proofs.Labelled.{near_back}

-- touching cells are near, whatever the kind
touching : (kind : Kind) (x y u v : ℕ) → Touch x y u v → Near kind x y u v
touching Reached x y u v t = t
touching Outside x y u v (inl (e, inl n)) = (omega arith, omega arith, omega arith, omega arith)
touching Outside x y u v (inl (e, inr n)) = (omega arith, omega arith, omega arith, omega arith)
touching Outside x y u v (inr (e, inl n)) = (omega arith, omega arith, omega arith, omega arith)
touching Outside x y u v (inr (e, inr n)) = (omega arith, omega arith, omega arith, omega arith)

module _ (cut : ℕ → ℕ) (n end : ℕ) (h : AreSteps cut n end) where
  pub low_or_same : (i j : ℕ) → i ≤ j → j ≤ n → cut i ≤ cut j
  low_or_same i j order within = elim (cases_eq i j) [
    | inl same ↦ subst (λ (k : ℕ). cut i ≤ cut k) same (omega arith)
    | inr apart ↦ omega (arith, h.rise i j (omega (arith, order, apart)) within)
  ]

  -- a number lies between one pair of neighbouring cuts
  pub lies_once : (i k x : ℕ) → Lies cut n i x → Lies cut n k x → i ≡ k
  lies_once i k x a b = elim (cases_order i k) [
    | inl same ↦ same
    | inr (inl less) ↦ absurd (omega (arith, a.to, b.from, low_or_same (i + 1) k (omega (arith, less)) (omega (arith, b.within))))
    | inr (inr more) ↦ absurd (omega (arith, b.to, a.from, low_or_same (k + 1) i (omega (arith, more)) (omega (arith, a.within))))
  ]

  -- the next number lies there too, or between the next pair
  pub lies_next : (i k x : ℕ) → Lies cut n i x → Lies cut n k (x + 1) → (i ≡ k) ⊎ (i + 1 ≡ k)
  lies_next i k x a b = elim (cases_lt (x + 1) (cut (i + 1))) [
    | inl short ↦ inl (lies_once i k (x + 1) (record { within = a.within; from = omega (arith, a.from); to = short }) b)
    | inr far ↦ elim (cases_lt (i + 1) k) [
      | inl less ↦ absurd (omega (arith, a.to, b.from, h.rise (i + 1) k less (omega (arith, b.within))))
      | inr low ↦ elim (cases_lt k (i + 1)) [
        | inl below ↦ absurd (omega (arith, b.to, far, low_or_same (k + 1) (i + 1) (omega (arith, below)) (omega (arith, a.within))))
        | inr high ↦ inr (omega (arith, low, high))
      ]
    ]
  ]

  pub lies_beside : (i k x u : ℕ) → Lies cut n i x → Lies cut n k u → AreNeighbours x u → (i ≡ k) ⊎ AreNeighbours i k
  lies_beside i k x u a b (inl e) = elim (lies_next i k x a (subst (Lies cut n k) (sym e) b)) [
    | inl same ↦ inl same
    | inr next ↦ inr (inl next)
  ]
  lies_beside i k x u a b (inr e) = elim (lies_next k i u b (subst (Lies cut n i) (sym e) a)) [
    | inl same ↦ inl (sym same)
    | inr next ↦ inr (inr next)
  ]

-- numbers that differ by one at most
abbrev pub AreClose : ℕ → ℕ → Type 0
AreClose a b = (a ≤ b + 1) × (b ≤ a + 1)

pub close_cases : (a b : ℕ) → AreClose a b → (a ≡ b) ⊎ AreNeighbours a b
close_cases a b close = elim (cases_order a b) [
  | inl same ↦ inl same
  | inr (inl less) ↦ inr (inl (omega (arith, less, close.1)))
  | inr (inr more) ↦ inr (inr (omega (arith, more, close.0)))
]

module _ (cut : ℕ → ℕ) (n end : ℕ) (h : AreSteps cut n end) where
  lies_close : (i k x u : ℕ) → Lies cut n i x → Lies cut n k u → AreClose x u → AreClose i k
  lies_close i k x u a b close = elim (close_cases x u close) [
    | inl same ↦
        let e : i ≡ k = lies_once cut n end h i k u (subst (Lies cut n i) same a) b in
        (omega (arith, e), omega (arith, e))
    | inr beside ↦ elim (lies_beside cut n end h i k x u a b beside) [
      | inl same ↦ (omega (arith, same), omega (arith, same))
      | inr (inl next) ↦ (omega (arith, next), omega (arith, next))
      | inr (inr next) ↦ (omega (arith, next), omega (arith, next))
    ]
  ]

module _ (In Held : ℕ → ℕ → Type 0) (kind : Kind) (X Y : ℕ → ℕ) (w h side : ℕ) (columns : AreSteps X w side) (rows : AreSteps Y h side) (same : (a b x y : ℕ) → Lies X w a x → Lies Y h b y → (In x y ↔ Held a b)) (In_in : (x y : ℕ) → In x y → (x < side) × (y < side)) where
  near_on : (k : Kind) (x y u v a b c d : ℕ) → Lies X w a x → Lies Y h b y → Lies X w c u → Lies Y h d v → Near k x y u v → ((a ≡ c) × (b ≡ d)) ⊎ Near k a b c d
  near_on Reached x y u v a b c d la lb lc ld (inl (e, beside)) =
      let f : a ≡ c = lies_once X w side columns a c u (subst (Lies X w a) e la) lc in
      elim (lies_beside Y h side rows b d y v lb ld beside) [
        | inl level ↦ inl (f, level)
        | inr next ↦ inr (inl (f, next))
      ]
  near_on Reached x y u v a b c d la lb lc ld (inr (e, beside)) =
      let f : b ≡ d = lies_once Y h side rows b d v (subst (Lies Y h b) e lb) ld in
      elim (lies_beside X w side columns a c x u la lc beside) [
        | inl level ↦ inl (level, f)
        | inr next ↦ inr (inr (f, next))
      ]
  near_on Outside x y u v a b c d la lb lc ld n =
      let p = lies_close X w side columns a c x u la lc (n.0, n.1) in
      let q = lies_close Y h side rows b d y v lb ld (n.2, n.3) in
      inr (p.0, p.1, q.0, q.1)

  -- a chain over the cells gives one over the table
  pub to_table : (x y u v a b c d : ℕ) → IsJoined In (Near kind) x y u v → Lies X w a x → Lies Y h b y → Lies X w c u → Lies Y h d v → IsJoined Held (Near kind) a b c d
  to_table x y _ _ a b c d (alone i) la lb lc ld =
      let e : a ≡ c = lies_once X w side columns a c x la lc in
      let f : b ≡ d = lies_once Y h side rows b d y lb ld in
      subst (λ (k : ℕ). IsJoined Held (Near kind) a b k d) e (subst (λ (k : ℕ). IsJoined Held (Near kind) a b a k) f (alone ((same a b x y la lb).0 i)))
  to_table x y _ _ a b c d (onward {u} {v} j s t n i) la lb lc ld =
      let (u_in, v_in) = In_in u v (last_in In (Near kind) x y u v j) in
      let (k, lk) = lies_somewhere X w side columns u u_in in
      let (m, lm) = lies_somewhere Y h side rows v v_in in
      let before = to_table x y u v a b k m j la lb lk lm in
      elim (near_on kind u v s t k m c d lk lm lc ld n) [
        | inl (e, f) ↦ subst (λ (q : ℕ). IsJoined Held (Near kind) a b q d) e (subst (λ (q : ℕ). IsJoined Held (Near kind) a b k q) f before)
        | inr close ↦ onward before c d close ((same c d s t lc ld).0 i)
      ]

  -- cells between the same cuts are joined
  walk_x : (a b x y k : ℕ) → Held a b → Lies X w a x → Lies Y h b y → Lies X w a (x + k) → IsJoined In (Near kind) x y (x + k) y
  walk_x a b x y zero held la lb to =
      let e : x + zero ≡ x = omega arith in
      subst (λ (q : ℕ). IsJoined In (Near kind) x y q y) (sym e) (alone ((same a b x y la lb).1 held))
  walk_x a b x y (suc k) held la lb to =
      let short : Lies X w a (x + k) = record { within = la.within; from = omega (arith, la.from); to = omega (arith, to.to) } in
      let before = walk_x a b x y k held la lb short in
      onward before (x + suc k) y (touching kind (x + k) y (x + suc k) y (inr (refl, inl (omega arith)))) ((same a b (x + suc k) y to lb).1 held)

  walk_y : (a b x y k : ℕ) → Held a b → Lies X w a x → Lies Y h b y → Lies Y h b (y + k) → IsJoined In (Near kind) x y x (y + k)
  walk_y a b x y zero held la lb to =
      let e : y + zero ≡ y = omega arith in
      subst (λ (q : ℕ). IsJoined In (Near kind) x y x q) (sym e) (alone ((same a b x y la lb).1 held))
  walk_y a b x y (suc k) held la lb to =
      let short : Lies Y h b (y + k) = record { within = lb.within; from = omega (arith, lb.from); to = omega (arith, to.to) } in
      let before = walk_y a b x y k held la lb short in
      onward before x (y + suc k) (touching kind x (y + k) x (y + suc k) (inl (refl, inl (omega arith)))) ((same a b x (y + suc k) la to).1 held)

  along_x : (a b x u y : ℕ) → Held a b → Lies X w a x → Lies X w a u → Lies Y h b y → IsJoined In (Near kind) x y u y
  along_x a b x u y held la lc lb = elim (cases_lt u x) [
    | inl less ↦
        let e : u + (x - u) ≡ x = omega (arith, less) in
        joined_back In (Near kind) (near_back kind) u y x y (subst (λ (q : ℕ). IsJoined In (Near kind) u y q y) e (walk_x a b u y (x - u) held lc lb (subst (Lies X w a) (sym e) la)))
    | inr more ↦
        let e : x + (u - x) ≡ u = omega (arith, more) in
        subst (λ (q : ℕ). IsJoined In (Near kind) x y q y) e (walk_x a b x y (u - x) held la lb (subst (Lies X w a) (sym e) lc))
  ]

  along_y : (a b x y v : ℕ) → Held a b → Lies X w a x → Lies Y h b y → Lies Y h b v → IsJoined In (Near kind) x y x v
  along_y a b x y v held la lb ld = elim (cases_lt v y) [
    | inl less ↦
        let e : v + (y - v) ≡ y = omega (arith, less) in
        joined_back In (Near kind) (near_back kind) x v x y (subst (λ (q : ℕ). IsJoined In (Near kind) x v x q) e (walk_y a b x v (y - v) held la ld (subst (Lies Y h b) (sym e) lb)))
    | inr more ↦
        let e : y + (v - y) ≡ v = omega (arith, more) in
        subst (λ (q : ℕ). IsJoined In (Near kind) x y x q) e (walk_y a b x y (v - y) held la lb (subst (Lies Y h b) (sym e) ld))
  ]

  pub in_one : (a b x y u v : ℕ) → Held a b → Lies X w a x → Lies Y h b y → Lies X w a u → Lies Y h b v → IsJoined In (Near kind) x y u v
  in_one a b x y u v held la lb lc ld =
      joined_on In (Near kind) x y u y u v (along_x a b x u y held la lc lb) (along_y a b u y v held lc lb ld)
