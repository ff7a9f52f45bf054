-- Reasons: when each is the first, that there is only one, and none against a right certificate.
use Rattle.std.proofs.Common.{◌≡◌, ◌↔◌, inl, inr, ℕ, suc, ◌-◌, ◌<◌, List, [], Option, None, Some, refl, sym, ap, ◌∙◌, subst, arith}
use Rattle.std.proofs.lemmas.Bool.{cases_lt, cases_order}
use Rattle.bp_base.specs.declared.path.Pair.{Pair}
use Rattle.bp_base.specs.declared.point.Floor.{Floor}
use Rattle.bp_base.specs.declared.point.Point.{Point}
use Rattle.bp_base.specs.declared.point.Sheet.{Sheet}
use Rattle.bp_base.specs.Tree.{TreeValue}
use Rattle.bp_metric.specs.Floor.{FloorHolds}
use Rattle.bp_metric.specs.Valid.{Valid}
use Rattle.bp_pairs.specs.declared.valid.Flaw.{Flaw}
use Rattle.bp_pairs.specs.declared.valid.Flaw.TheVariants as flaw
use Rattle.bp_pairs.specs.Flaws.{AreInside, IsFlaw, IsFirstOutside, AreFirstNear}
use Rattle.bp_arrangement.specs.Swaps.{IsAdmissible, IsFirstBadSwap}
use Rattle.bp_lemmas.specs.Systems.{System}
use Rattle.bp_lemmas.specs.Standing.{Lemma}
use Rattle.bp_certificate.specs.declared.certificate.Certificate.{Certificate}
use Rattle.bp_certificate.specs.declared.certificate.CertificateHead.{CertificateHead}
use Rattle.bp_certificate.specs.declared.certificate.Lemmas.{Lemmas}
use Rattle.bp_certificate.specs.declared.certificate.Plan.{Plan}
use Rattle.bp_verify.specs.declared.verdict.Reason.{Reason}
use Rattle.bp_verify.specs.declared.verdict.Reason.TheVariants.{TreeDiffers, Outside, TooNear, BadFloor, BadCorner, BadSwap, BadLemma, BoundNotShown}
use Rattle.bp_verify.specs.declared.verdict.Verdict.{Verdict}
use Rattle.bp_verify.specs.declared.verdict.Verdict.TheVariants.{Yes, No}
use Rattle.bp_verify.specs.Certifies.{Certifies, IsBoundProved, ProvesFrom, lemmas_of, system_of}
use Rattle.bp_verify.specs.Reasons.{HasCorner, HasBadSwap, HasBadLemma, FailsCorner, FailsSwap, FailsLemma, FailsBound, IsFirstBadLemma, Fails, rank, IsFirstReason}
use Rattle.bp_verify.specs.Verdicts.{reason_of, HasPlan, HasHead, CanSwapAll, IsPlanReason, IsReasonBefore, IsVerdictOf}
use Rattle.bp_verify.proofs.Each.{each_at, in_front}

-- what proves the bound fails no condition of the lemmas
module _ (T : TreeValue) (G : Sheet) (bound : ℕ) (L : Lemmas) where
  from_corner : (corner : Option Pair) → ProvesFrom T G bound L corner → HasCorner T corner
  from_corner None proves = absurd proves
  from_corner (Some p) proves = proves.corner

  from_swaps : (corner : Option Pair) (n : ℕ) → ProvesFrom T G bound L corner → HasBadSwap T L.swaps corner n → ⊥
  from_swaps None n proves fails = fails
  from_swaps (Some p) n proves fails = fails.bad (proves.admissible (n - 1) [] (omega (arith, fails.among)))

  from_lemmas : (corner : Option Pair) (n : ℕ) → ProvesFrom T G bound L corner → HasBadLemma T G bound L corner n → ⊥
  from_lemmas None n proves fails = fails
  from_lemmas (Some p) n proves fails = fails.bad (each_at (system_of T G bound p L) [] (lemmas_of L) (n - 1) proves.stand (omega (arith, fails.among)))

  from_ends : (corner : Option Pair) → ProvesFrom T G bound L corner → FailsBound bound 0 (Some L) → ⊥
  from_ends None proves fails = proves
  from_ends (Some p) proves fails = fails proves.ends

module _ (T : TreeValue) (G : Sheet) (bound floor : ℕ) where
  proved_corner : (ls : Option Lemmas) → IsBoundProved T G bound floor ls → FailsCorner T ls → ⊥
  proved_corner None proved fails = fails
  proved_corner (Some L) proved fails = fails (from_corner T G bound L L.corner proved)

  proved_swaps : (ls : Option Lemmas) (n : ℕ) → IsBoundProved T G bound floor ls → FailsSwap T ls n → ⊥
  proved_swaps None n proved fails = fails
  proved_swaps (Some L) n proved fails = from_swaps T G bound L L.corner n proved fails

  proved_lemmas : (ls : Option Lemmas) (n : ℕ) → IsBoundProved T G bound floor ls → FailsLemma T G bound ls n → ⊥
  proved_lemmas None n proved fails = fails
  proved_lemmas (Some L) n proved fails = from_lemmas T G bound L L.corner n proved fails

  proved_bound : (ls : Option Lemmas) → IsBoundProved T G bound floor ls → FailsBound bound floor ls → ⊥
  proved_bound None proved fails = omega (arith, proved, fails)
  proved_bound (Some L) proved fails = from_ends T G bound L L.corner proved fails

module _ (T : TreeValue) (C : Certificate) where
  -- no reason fails a right certificate
  pub none_fails : Certifies T C → (r : Reason) → Fails T C r → ⊥
  none_fails right TreeDiffers fails = fails right.tree
  none_fails right (Outside i) fails = fails.outside.1 (right.valid.inside i fails.outside.0)
  none_fails right (TooNear i j) fails = omega (arith, fails.near.1, right.valid.far i j fails.near.0)
  none_fails right BadFloor fails = fails right.floor
  none_fails right BadCorner fails = proved_corner T C.sheet C.bound C.floor.side C.lemmas right.bound fails
  none_fails right (BadSwap n) fails = proved_swaps T C.sheet C.bound C.floor.side C.lemmas n right.bound fails
  none_fails right (BadLemma n) fails = proved_lemmas T C.sheet C.bound C.floor.side C.lemmas n right.bound fails
  none_fails right BoundNotShown fails = proved_bound T C.sheet C.bound C.floor.side C.lemmas right.bound fails

  one_outside : (i k : ℕ) → IsFirstOutside T C.sheet C.side C.points i → IsFirstOutside T C.sheet C.side C.points k → i ≡ k
  one_outside i k first other = elim (cases_order i k) [
    | inl same ↦ same
    | inr (inl less) ↦ absurd (other.earlier i less first.outside)
    | inr (inr more) ↦ absurd (first.earlier k more other.outside)
  ]

  one_near : (i j k l : ℕ) → AreFirstNear T C.points i j → AreFirstNear T C.points k l → (i ≡ k) × (j ≡ l)
  one_near i j k l first other = elim (cases_order i k) [
    | inr (inl less) ↦ absurd (other.earlier i j first.near (inl less))
    | inr (inr more) ↦ absurd (first.earlier k l other.near (inl more))
    | inl same ↦ elim (cases_order j l) [
      | inl also ↦ (same, also)
      | inr (inl less) ↦ absurd (other.earlier i j first.near (inr (same, less)))
      | inr (inr more) ↦ absurd (first.earlier k l other.near (inr (sym same, more)))
    ]
  ]

  one_bad : (S : System) (ls : List Lemma) (n m : ℕ) → IsFirstBadLemma S ls n → IsFirstBadLemma S ls m → n ≡ m
  one_bad S ls n m first other = elim (cases_order n m) [
    | inl same ↦ same
    | inr (inl less) ↦ absurd (first.bad (other.earlier n first.among.0 less))
    | inr (inr more) ↦ absurd (other.bad (first.earlier m other.among.0 more))
  ]

  one_swap : (A B : ℕ) (swaps : List (List Pair)) (n m : ℕ) → IsFirstBadSwap T A B swaps n → IsFirstBadSwap T A B swaps m → n ≡ m
  one_swap A B swaps n m first other = elim (cases_order n m) [
    | inl same ↦ same
    | inr (inl less) ↦ absurd (first.bad (in_front (IsAdmissible T A B) swaps (n - 1) (m - 1) (omega (arith, first.among, less)) (omega (arith, first.among)) other.earlier))
    | inr (inr more) ↦ absurd (other.bad (in_front (IsAdmissible T A B) swaps (m - 1) (n - 1) (omega (arith, other.among, more)) (omega (arith, other.among)) first.earlier))
  ]

  one_swap_of : (L : Lemmas) (corner : Option Pair) (n m : ℕ) → HasBadSwap T L.swaps corner n → HasBadSwap T L.swaps corner m → n ≡ m
  one_swap_of L None n m first other = absurd first
  one_swap_of L (Some p) n m first other = one_swap p.i p.j L.swaps n m first other

  one_swap_among : (ls : Option Lemmas) (n m : ℕ) → FailsSwap T ls n → FailsSwap T ls m → n ≡ m
  one_swap_among None n m first other = absurd first
  one_swap_among (Some L) n m first other = one_swap_of L L.corner n m first other

  one_lemma_of : (L : Lemmas) (corner : Option Pair) (n m : ℕ) → HasBadLemma T C.sheet C.bound L corner n → HasBadLemma T C.sheet C.bound L corner m → n ≡ m
  one_lemma_of L None n m first other = absurd first
  one_lemma_of L (Some p) n m first other = one_bad (system_of T C.sheet C.bound p L) (lemmas_of L) n m first other

  one_lemma_among : (ls : Option Lemmas) (n m : ℕ) → FailsLemma T C.sheet C.bound ls n → FailsLemma T C.sheet C.bound ls m → n ≡ m
  one_lemma_among None n m first other = absurd first
  one_lemma_among (Some L) n m first other = one_lemma_of L L.corner n m first other

  one_of_rank : (r s : Reason) → rank r ≡ rank s → Fails T C r → Fails T C s → r ≡ s
  one_of_rank TreeDiffers TreeDiffers same first other = refl
  one_of_rank (Outside i) (Outside k) same first other = ap (λ (n : ℕ). Outside n) (one_outside i k first other)
  one_of_rank (TooNear i j) (TooNear k l) same first other = let both = one_near i j k l first other in λ n. TooNear (both.0 n) (both.1 n)
  one_of_rank BadFloor BadFloor same first other = refl
  one_of_rank BadCorner BadCorner same first other = refl
  one_of_rank (BadSwap k) (BadSwap l) same first other = ap (λ (n : ℕ). BadSwap n) (one_swap_among C.lemmas k l first other)
  one_of_rank (BadLemma k) (BadLemma l) same first other = ap (λ (n : ℕ). BadLemma n) (one_lemma_among C.lemmas k l first other)
  one_of_rank BoundNotShown BoundNotShown same first other = refl
  one_of_rank r s same first other = absurd (omega (arith, same))

  pub one_first : (r s : Reason) → IsFirstReason T C r → IsFirstReason T C s → r ≡ s
  one_first r s first other = elim (cases_order (rank r) (rank s)) [
    | inl same ↦ one_of_rank r s same first.fails other.fails
    | inr (inl less) ↦ absurd (other.first r less first.fails)
    | inr (inr more) ↦ absurd (first.first s more other.fails)
  ]

  -- the reasons below a rank are passed
  abbrev Passes : ℕ → Type 0
  Passes n = (r : Reason) → rank r < n → Fails T C r → ⊥

  pass : (n : ℕ) → Passes n → ((r : Reason) → rank r ≡ n → Fails T C r → ⊥) → Passes (suc n)
  pass n front here r less fails = elim (cases_lt (rank r) n) [
    | inl below ↦ front r below fails
    | inr not ↦ here r (omega (arith, less, not)) fails
  ]

  pub differs_first : (C.tree ≡ T → ⊥) → IsFirstReason T C TreeDiffers
  differs_first other = record { fails = other; first = λ r less fails. omega (arith, less) }

  module _ (same : C.tree ≡ T) where
    at_tree : (r : Reason) → rank r ≡ 0 → Fails T C r → ⊥
    at_tree TreeDiffers is fails = fails same
    at_tree r is fails = absurd (omega (arith, is))

    tree_passes : Passes 1
    tree_passes = pass 0 (λ r less fails. omega (arith, less)) at_tree

    at_outside : AreInside T C.sheet C.side C.points → (r : Reason) → rank r ≡ 1 → Fails T C r → ⊥
    at_outside inside (Outside i) is fails = fails.outside.1 (inside i fails.outside.0)
    at_outside inside r is fails = absurd (omega (arith, is))

    -- the reason that a flaw is
    pub flaw_first : (f : Flaw) → IsFlaw T C.sheet C.side C.points f → IsFirstReason T C (reason_of f)
    flaw_first (flaw.Outside i) is = record { fails = is; first = tree_passes }
    flaw_first (flaw.Near i j) (inside, near) = record { fails = near; first = pass 1 tree_passes (at_outside inside) }

    module _ (valid : Valid T C.sheet 1 C.side C.points) where
      at_near : (r : Reason) → rank r ≡ 2 → Fails T C r → ⊥
      at_near (TooNear i j) is fails = omega (arith, fails.near.1, valid.far i j fails.near.0)
      at_near r is fails = absurd (omega (arith, is))

      points_pass : Passes 3
      points_pass = pass 2 (pass 1 tree_passes (at_outside valid.inside)) at_near

      pub floor_first : (FloorHolds T C.sheet C.floor → ⊥) → IsFirstReason T C BadFloor
      floor_first not = record { fails = not; first = points_pass }

      module _ (floor : FloorHolds T C.sheet C.floor) where
        at_floor : (r : Reason) → rank r ≡ 3 → Fails T C r → ⊥
        at_floor BadFloor is fails = fails floor
        at_floor r is fails = absurd (omega (arith, is))

        floor_passes : Passes 4
        floor_passes = pass 3 points_pass at_floor

        pub corner_first : FailsCorner T C.lemmas → IsFirstReason T C BadCorner
        corner_first fails = record { fails = fails; first = floor_passes }

        module _ (corner : FailsCorner T C.lemmas → ⊥) where
          at_corner : (r : Reason) → rank r ≡ 4 → Fails T C r → ⊥
          at_corner BadCorner is fails = corner fails
          at_corner r is fails = absurd (omega (arith, is))

          corner_passes : Passes 5
          corner_passes = pass 4 floor_passes at_corner

          pub swap_first : (n : ℕ) → FailsSwap T C.lemmas n → IsFirstReason T C (BadSwap n)
          swap_first n fails = record { fails = fails; first = corner_passes }

          module _ (swaps : (n : ℕ) → FailsSwap T C.lemmas n → ⊥) where
            at_swap : (r : Reason) → rank r ≡ 5 → Fails T C r → ⊥
            at_swap (BadSwap n) is fails = swaps n fails
            at_swap r is fails = absurd (omega (arith, is))

            swaps_pass : Passes 6
            swaps_pass = pass 5 corner_passes at_swap

            pub lemma_first : (n : ℕ) → FailsLemma T C.sheet C.bound C.lemmas n → IsFirstReason T C (BadLemma n)
            lemma_first n fails = record { fails = fails; first = swaps_pass }

            module _ (lemmas : (n : ℕ) → FailsLemma T C.sheet C.bound C.lemmas n → ⊥) where
              at_lemma : (r : Reason) → rank r ≡ 6 → Fails T C r → ⊥
              at_lemma (BadLemma n) is fails = lemmas n fails
              at_lemma r is fails = absurd (omega (arith, is))

              pub bound_first : FailsBound C.bound C.floor.side C.lemmas → IsFirstReason T C BoundNotShown
              bound_first fails = record { fails = fails; first = pass 6 swaps_pass at_lemma }

-- the reason that lemmas give before they are read one by one
abbrev IsLemmasReason : TreeValue → Option Lemmas → Option Reason → Type 0
IsLemmasReason T ls None = CanSwapAll T ls
IsLemmasReason T ls (Some TreeDiffers) = ⊥
IsLemmasReason T ls (Some (Outside i)) = ⊥
IsLemmasReason T ls (Some (TooNear i j)) = ⊥
IsLemmasReason T ls (Some BadFloor) = ⊥
IsLemmasReason T ls (Some BadCorner) = FailsCorner T ls
IsLemmasReason T ls (Some (BadSwap n)) = (FailsCorner T ls → ⊥) × FailsSwap T ls n
IsLemmasReason T ls (Some (BadLemma n)) = ⊥
IsLemmasReason T ls (Some BoundNotShown) = ⊥

module _ (T : TreeValue) where
  of_lemmas : (L : Lemmas) (r : Option Reason) → IsPlanReason T L.swaps L.corner r → IsLemmasReason T (Some L) r
  of_lemmas L None can = can
  of_lemmas L (Some TreeDiffers) never = never
  of_lemmas L (Some (Outside i)) never = never
  of_lemmas L (Some (TooNear i j)) never = never
  of_lemmas L (Some BadFloor) never = never
  of_lemmas L (Some BadCorner) fails = fails
  of_lemmas L (Some (BadSwap n)) (has, bad) = (λ fails. fails has, bad)
  of_lemmas L (Some (BadLemma n)) never = never
  of_lemmas L (Some BoundNotShown) never = never

  of_plan : (ls : Option Lemmas) (p : Plan) (r : Option Reason) → HasPlan ls (Some p) → IsPlanReason T p.swaps p.corner r → IsLemmasReason T ls r
  of_plan None p r has reason = absurd has
  of_plan (Some L) p r (corner, swaps) reason =
      of_lemmas L r (subst (λ (c : Option Pair). IsPlanReason T L.swaps c r) (sym corner) (subst (λ (s : List (List Pair)). IsPlanReason T s p.corner r) (sym swaps) reason))

  without_plan : (ls : Option Lemmas) → HasPlan ls None → CanSwapAll T ls
  without_plan None has = tt
  without_plan (Some L) has = absurd has

-- as the code has them: the parts of a head
module _ (T : TreeValue) (G : Sheet) (C : Certificate) (H : CertificateHead) (sheet : H.sheet ≡ G) (h : HasHead C H) where
  pub differs_before : (H.tree ≡ T → ⊥) → IsFirstReason T C TreeDiffers
  differs_before other = differs_first T C (λ is. other (sym h.tree ∙ is))

  module _ (same : H.tree ≡ T) where
    here : (P : Sheet → ℕ → List Point → Type 0) → P G H.side H.points → P C.sheet C.side C.points
    here P is = subst (λ (Q : List Point). P C.sheet C.side Q) (sym h.points) (subst (λ (n : ℕ). P C.sheet n H.points) (sym h.side) (subst (λ (S : Sheet). P S H.side H.points) (sym (h.sheet ∙ sheet)) is))

    pub flaw_before : (f : Flaw) (r : Reason) → r ≡ reason_of f → IsFlaw T G H.side H.points f → IsFirstReason T C r
    flaw_before f r is flawed =
        subst (IsFirstReason T C) (sym is) (flaw_first T C (h.tree ∙ same) f (here (λ (S : Sheet) (n : ℕ) (Q : List Point). IsFlaw T S n Q f) flawed))

    module _ (valid : Valid T G 1 H.side H.points) where
      valid_here : Valid T C.sheet 1 C.side C.points
      valid_here = here (λ (S : Sheet) (n : ℕ) (Q : List Point). Valid T S 1 n Q) valid

      floor_there : FloorHolds T C.sheet C.floor → FloorHolds T G H.floor
      floor_there holds = subst (λ (f : Floor). FloorHolds T G f) h.floor (subst (λ (S : Sheet). FloorHolds T S C.floor) (h.sheet ∙ sheet) holds)

      pub floor_before : (FloorHolds T G H.floor → ⊥) → IsFirstReason T C BadFloor
      floor_before not = floor_first T C (h.tree ∙ same) valid_here (λ holds. not (floor_there holds))

      module _ (floor : FloorHolds T G H.floor) where
        floor_here : FloorHolds T C.sheet C.floor
        floor_here = subst (λ (S : Sheet). FloorHolds T S C.floor) (sym (h.sheet ∙ sheet)) (subst (λ (f : Floor). FloorHolds T G f) (sym h.floor) floor)

        reason_is : (r : Option Reason) → IsLemmasReason T C.lemmas r → IsReasonBefore T C r
        reason_is None can = record { tree = h.tree ∙ same; valid = valid_here; floor = floor_here; swaps = can }
        reason_is (Some TreeDiffers) never = absurd never
        reason_is (Some (Outside i)) never = absurd never
        reason_is (Some (TooNear i j)) never = absurd never
        reason_is (Some BadFloor) never = absurd never
        reason_is (Some BadCorner) fails = corner_first T C (h.tree ∙ same) valid_here floor_here fails
        reason_is (Some (BadSwap n)) (has, bad) = swap_first T C (h.tree ∙ same) valid_here floor_here has n bad
        reason_is (Some (BadLemma n)) never = absurd never
        reason_is (Some BoundNotShown) never = absurd never

        pub plan_before : (p : Plan) (r : Option Reason) → H.plan ≡ Some p → IsPlanReason T p.swaps p.corner r → IsReasonBefore T C r
        plan_before p r is reason = reason_is r (of_plan T C.lemmas p r (subst (HasPlan C.lemmas) is h.plan) reason)

        pub none_before : H.plan ≡ None → IsReasonBefore T C None
        none_before is = reason_is None (without_plan T C.lemmas (subst (HasPlan C.lemmas) is h.plan))

-- the verdict and what it says
module _ (T : TreeValue) (C : Certificate) where
  pub yes_is : (v : Verdict) → IsVerdictOf T C v → ((v ≡ Yes) ↔ Certifies T C)
  yes_is Yes right = (λ is. right, λ also. refl)
  yes_is (No r) first = (λ is. absurd (cc), λ right. absurd (none_fails T C right r first.fails))

  pub no_is : (v : Verdict) → IsVerdictOf T C v → (r : Reason) → ((v ≡ No r) ↔ IsFirstReason T C r)
  no_is Yes right r = (λ is. absurd (cc), λ first. absurd (none_fails T C right r first.fails))
  no_is (No s) first r = (
    λ is. let same : s ≡ r = cc in subst (IsFirstReason T C) same first,
    λ other. ap (λ (q : Reason). No q) (one_first T C s r first other),
  )
