-- A path has one value of each: coordinates, forced side, and claim.
use Rattle.std.proofs.Common.{◌≡◌, ℕ, zero, suc, ◌+◌, ◌-◌, ◌<◌, ◌≤◌, List, [], ◌∷◌, length, get_or, refl, sym, ◌∙◌, ap, subst, arith, inl, inr}
use Rattle.std.proofs.lemmas.List.{ext_get_or}
use Rattle.std.proofs.lemmas.Bool.{cases_eq, cases_lt}
use Rattle.bp_base.specs.declared.point.Axis.{Axis}
use Rattle.bp_base.specs.declared.point.Axis.TheVariants.{X, Y}
use Rattle.bp_base.specs.declared.point.Sheet.{Sheet}
use Rattle.bp_base.specs.declared.point.Sheet.TheVariants.{Square, Strip}
use Rattle.bp_base.specs.declared.path.Step.{Step}
use Rattle.bp_base.specs.declared.chain.Claim.{Claim}
use Rattle.bp_base.specs.declared.chain.Claim.TheVariants.{Walk, Cycle}
use Rattle.bp_base.specs.declared.record.Least.{Least}
use Rattle.bp_base.specs.Tree.{TreeValue, IsTree, IsLeaf, leaf_count}
use Rattle.bp_metric.specs.Chains.{HasPairsOf, first_of, last_of}
use Rattle.bp_metric.specs.Coordinates.{IsLow, IsGreatestOn, IsGreatest, IsForced, IsShownOn, IsShownLast, IsShownBefore, AreShown, IsShownWalk, IsShown, IsLeast}
use Rattle.bp_metric.proofs.Lows.{placed_apart, one_low, one_greatest_on}

module _ (T : TreeValue) (path : List Step) where
  one_greatest : (v w : ℕ) → IsGreatest T path v → IsGreatest T path w → v ≡ w
  one_greatest v w l m =
      omega (arith, l.most m.axis m.on_axis.chain m.on_axis.is_chain, m.on_axis.weighs, m.most l.axis l.on_axis.chain l.on_axis.is_chain, l.on_axis.weighs)

  pub one_forced : (G : Sheet) (v w : ℕ) → IsForced T G path v → IsForced T G path w → v ≡ w
  one_forced Square v w l m = one_greatest v w l m
  one_forced (Strip width) v w (inl l) (inl m) = l.1 ∙ sym m.1
  one_forced (Strip width) v w (inl l) (inr m) = absurd (m.0 l.0)
  one_forced (Strip width) v w (inr l) (inl m) = absurd (l.0 m.0)
  one_forced (Strip width) v w (inr l) (inr m) = one_greatest_on T path Y v w l.1 m.1

  x_or_y : (G : Sheet) → IsShownOn T G path X → IsShownOn T G path Y → ⊥
  x_or_y Square x y = y.2 (subst (IsGreatestOn T path X) (one_greatest x.0 y.0 x.1 y.1) x.2)
  x_or_y (Strip width) x y = y x

  one_axis : (G : Sheet) (axis other : Axis) → IsShownOn T G path axis → IsShownOn T G path other → axis ≡ other
  one_axis G X X l m = refl
  one_axis G X Y l m = absurd (x_or_y G l m)
  one_axis G Y X l m = absurd (x_or_y G m l)
  one_axis G Y Y l m = refl

  module _ (axis : Axis) where
    one_last : (i j : ℕ) → IsShownLast T path axis i → IsShownLast T path axis j → i ≡ j
    one_last i j l m =
        let same : l.low ≡ m.low = one_greatest_on T path axis l.low m.low l.greatest m.greatest in
        elim (cases_eq i j) [
          | inl e ↦ e
          | inr apart ↦ elim (cases_lt i j) [
            | inl less ↦ absurd (m.least i less (subst (IsLow T path axis i) same l.is_low))
            | inr most ↦ absurd (l.least j (omega arith) (subst (IsLow T path axis j) (sym same) m.is_low))
          ]
        ]

    one_before : (a c b : ℕ) → IsShownBefore T path axis a b → IsShownBefore T path axis c b → a ≡ c
    one_before a c b l m =
        let same : l.low_b ≡ m.low_b = one_low T path axis b l.low_b m.low_b l.is_b m.is_b in
        elim (cases_eq a c) [
          | inl e ↦ e
          | inr apart ↦ elim (cases_lt a c) [
            | inl less ↦ absurd (m.least a l.low_a less l.placed l.is_a (l.makes_up ∙ same))
            | inr most ↦ absurd (l.least c m.low_a (omega arith) m.placed m.is_a (m.makes_up ∙ sym same))
          ]
        ]

    shown_at : (xs : List ℕ) (k : ℕ) → AreShown T path axis xs → k + 1 < length xs → IsShownBefore T path axis (get_or xs k 0) (get_or xs (k + 1) 0)
    shown_at [] k shown less = absurd (omega arith)
    shown_at (x ∷ []) k shown less = absurd (omega arith)
    shown_at (x ∷ y ∷ more) zero shown less = shown.0
    shown_at (x ∷ y ∷ more) (suc k) shown less =
        let next : suc k + 1 ≡ suc (k + 1) = omega arith in
        rw next (shown_at (y ∷ more) k shown.1 (omega arith))

    module _ (xs ys : List ℕ) (xs_shown : AreShown T path axis xs) (ys_shown : AreShown T path axis ys) (last : last_of xs ≡ last_of ys) where
      -- the lists agree from their ends
      from_end : (k : ℕ) → k < length xs → k < length ys → get_or xs (length xs - 1 - k) 0 ≡ get_or ys (length ys - 1 - k) 0
      from_end zero x_less y_less =
          let x_at : length xs - 1 - 0 ≡ length xs - 1 = omega arith in
          let y_at : length ys - 1 - 0 ≡ length ys - 1 = omega arith in
          ap (λ (p : ℕ). get_or xs p 0) x_at ∙ last ∙ ap (λ (p : ℕ). get_or ys p 0) (sym y_at)
      from_end (suc k) x_less y_less =
          let p : ℕ = length xs - 1 - suc k in
          let q : ℕ = length ys - 1 - suc k in
          let p_next : p + 1 ≡ length xs - 1 - k = omega arith in
          let q_next : q + 1 ≡ length ys - 1 - k = omega arith in
          let here = from_end k (omega arith) (omega arith) in
          let x_before = shown_at xs p xs_shown (omega arith) in
          let y_before = shown_at ys q ys_shown (omega arith) in
          let same : get_or xs (p + 1) 0 ≡ get_or ys (q + 1) 0 =
          ap (λ (r : ℕ). get_or xs r 0) p_next ∙ here ∙ ap (λ (r : ℕ). get_or ys r 0) (sym q_next) in
          one_before (get_or xs p 0) (get_or ys q 0) (get_or ys (q + 1) 0) (subst (IsShownBefore T path axis (get_or xs p 0)) same x_before) y_before

module _ (T : TreeValue) (t : IsTree T) (path : List Step) (pairs : HasPairsOf (leaf_count T) path) where
  not_shorter : (axis : Axis) (xs ys : List ℕ) → AreShown T path axis xs → AreShown T path axis ys → last_of xs ≡ last_of ys → 1 ≤ length xs → IsLow T path axis (first_of xs) 0 → length xs < length ys → ⊥
  not_shorter axis xs ys xs_shown ys_shown last some begins shorter =
      let k : ℕ = length xs - 1 in
      let q : ℕ = length ys - 1 - k - 1 in
      let first_at : length xs - 1 - k ≡ 0 = omega arith in
      let q_next : q + 1 ≡ length ys - 1 - k = omega arith in
      let same : first_of xs ≡ get_or ys (q + 1) 0 =
      ap (λ (p : ℕ). get_or xs p 0) (sym first_at) ∙ from_end T path axis xs ys xs_shown ys_shown last k (omega arith) (omega arith) ∙ ap (λ (p : ℕ). get_or ys p 0) (sym q_next) in
      let before = shown_at T path axis ys q ys_shown (omega arith) in
      let zero_is : before.low_b ≡ 0 = one_low T path axis (get_or ys (q + 1) 0) before.low_b 0 before.is_b (subst (λ (i : ℕ). IsLow T path axis i 0) same begins) in
      absurd (omega (arith, zero_is, before.makes_up, placed_apart T t path pairs axis (get_or ys q 0) (get_or ys (q + 1) 0) before.placed))

  one_chain : (axis : Axis) (G : Sheet) (xs ys : List ℕ) → IsShownWalk T G path axis xs → IsShownWalk T G path axis ys → xs ≡ ys
  one_chain axis G xs ys l m =
      let last : last_of xs ≡ last_of ys = one_last T path axis (last_of xs) (last_of ys) l.last m.last in
      let long : length xs ≡ length ys = elim (cases_lt (length xs) (length ys)) [
        | inl less ↦ absurd (not_shorter axis xs ys l.before m.before last l.is_chain.some l.begins less)
        | inr most ↦ elim (cases_lt (length ys) (length xs)) [
          | inl less ↦ absurd (not_shorter axis ys xs m.before l.before (sym last) m.is_chain.some m.begins less)
          | inr also ↦ omega arith
        ]
      ] in
      ext_get_or 0 xs ys long
      (λ i less.
      let x_at : length xs - 1 - (length xs - 1 - i) ≡ i = omega arith in
      let y_at : length ys - 1 - (length xs - 1 - i) ≡ i = omega arith in
      ap (λ (p : ℕ). get_or xs p 0) (sym x_at) ∙ from_end T path axis xs ys l.before m.before last (length xs - 1 - i) (omega arith) (omega arith) ∙ ap (λ (p : ℕ). get_or ys p 0) y_at)

  pub one_claim : (G : Sheet) (c d : Claim) → IsShown T G path c → IsShown T G path d → c ≡ d
  one_claim G (Walk axis xs) (Walk other ys) l m =
      let same : axis ≡ other = one_axis T path G axis other l.on_axis m.on_axis in
      let l_too : IsShownWalk T G path other xs = subst (λ (z : Axis). IsShownWalk T G path z xs) same l in
      let chains : xs ≡ ys = one_chain other G xs ys l_too m in
      λ i. Walk (same i) (chains i)
  one_claim G (Walk axis xs) (Cycle other ys) l m = absurd m
  one_claim G (Cycle axis xs) d l m = absurd l

  one_row : (axis : Axis) (xs ys : List ℕ) → length xs ≡ leaf_count T → length ys ≡ leaf_count T → ((i : ℕ) → IsLeaf T i → IsLow T path axis i (get_or xs (i - 1) 0)) → ((i : ℕ) → IsLeaf T i → IsLow T path axis i (get_or ys (i - 1) 0)) → xs ≡ ys
  one_row axis xs ys x_each y_each x_low y_low =
      ext_get_or 0 xs ys (x_each ∙ sym y_each)
      (λ k less.
      let leaf : IsLeaf T (k + 1) = (omega arith, omega (arith, x_each, less)) in
      let at : k + 1 - 1 ≡ k = omega arith in
      ap (λ (p : ℕ). get_or xs p 0) (sym at) ∙ one_low T path axis (k + 1) (get_or xs (k + 1 - 1) 0) (get_or ys (k + 1 - 1) 0) (x_low (k + 1) leaf) (y_low (k + 1) leaf) ∙ ap (λ (p : ℕ). get_or ys p 0) at)

  pub one_least : (G : Sheet) (l m : Least) → IsLeast T G path l → IsLeast T G path m → l ≡ m
  one_least G l m a b =
      let xs = one_row X l.xs m.xs a.xs_each b.xs_each a.xs b.xs in
      let ys = one_row Y l.ys m.ys a.ys_each b.ys_each a.ys b.ys in
      let forced = one_forced T path G l.forced m.forced a.forced b.forced in
      let claim = one_claim G l.claim m.claim a.claim b.claim in
      λ i. record { xs = xs i; ys = ys i; forced = forced i; claim = claim i }
