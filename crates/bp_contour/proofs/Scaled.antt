-- Runs over a table of cells between cuts are runs over the unit cells, and all of them.
use Rattle.std.proofs.Common.{◌≡◌, ℕ, zero, suc, ◌+◌, ◌-◌, ◌<◌, ◌≤◌, ◌↔◌, sym, ap, subst, arith, inl, inr}
use Rattle.std.proofs.lemmas.Bool.{cases_eq, cases_lt, cases_order}
use Rattle.bp_regions.specs.Runs.{Below, GoesEast, GoesWest, IsStretch}

-- Cuts 0 to n rise from 0 to the end.
pub record AreSteps (cut : ℕ → ℕ) (n end : ℕ) : Type 0 where
  pub first : cut 0 ≡ 0
  pub last : cut n ≡ end
  pub rise : (i j : ℕ) → i < j → j ≤ n → cut i < cut j

-- the number lies between cut k and the next one
pub record Lies (cut : ℕ → ℕ) (n k x : ℕ) : Type 0 where
  pub within : k < n
  pub from : cut k ≤ x
  pub to : x < cut (k + 1)

module _ (cut : ℕ → ℕ) (n end : ℕ) (h : AreSteps cut n end) where
  rise_or_same : (i j : ℕ) → i ≤ j → j ≤ n → cut i ≤ cut j
  rise_or_same i j order within = elim (cases_eq i j) [
    | inl same ↦ subst (λ (k : ℕ). cut i ≤ cut k) same (omega arith)
    | inr apart ↦ omega (arith, h.rise i j (omega (arith, order, apart)) within)
  ]

  pub same_step : (i j : ℕ) → i ≤ n → j ≤ n → cut i ≡ cut j → i ≡ j
  same_step i j i_in j_in e = elim (cases_order i j) [
    | inl same ↦ same
    | inr (inl less) ↦ absurd (omega (arith, h.rise i j less j_in, e))
    | inr (inr more) ↦ absurd (omega (arith, h.rise j i more i_in, e))
  ]

  find_below : (m x : ℕ) → m ≤ n → x < cut m → (k : ℕ) × Lies cut n k x
  find_below zero x within less = absurd (omega (arith, less, h.first))
  find_below (suc m) x within less = elim (cases_lt x (cut m)) [
    | inl short ↦ find_below m x (omega (arith, within)) short
    | inr far ↦ (
      m,
      record {
        within = omega (arith, within);
        from = far;
        to = subst (λ (k : ℕ). x < cut k) (omega arith) less;
      },
    )
  ]

  pub lies_somewhere : (x : ℕ) → x < end → (k : ℕ) × Lies cut n k x
  lies_somewhere x less = find_below n x (omega arith) (omega (arith, h.last, less))

  pub lies_at : (k : ℕ) → k < n → Lies cut n k (cut k)
  lies_at k less = record {
    within = less;
    from = omega arith;
    to = h.rise k (k + 1) (omega arith) (omega (arith, less));
  }

  -- the number before a cut
  pub lies_before : (k : ℕ) → 1 ≤ k → k ≤ n → Lies cut n (k - 1) (cut k - 1)
  lies_before k some within =
      let e : k - 1 + 1 ≡ k = omega (arith, some) in
      let less : cut (k - 1) < cut k = h.rise (k - 1) k (omega (arith, some)) within in
      record {
        within = omega (arith, some, within);
        from = omega (arith, less);
        to = subst (λ (m : ℕ). cut k - 1 < cut m) (sym e) (omega (arith, less));
      }

  pub some_before : (k : ℕ) → 1 ≤ k → k ≤ n → 1 ≤ cut k
  some_before k some within = omega (arith, h.first, h.rise 0 k (omega (arith, some)) within)

  pub some_index : (k : ℕ) → 1 ≤ cut k → 1 ≤ k
  some_index zero some = absurd (omega (arith, some, h.first))
  some_index (suc k) some = omega arith

  lies_from : (i k x : ℕ) → Lies cut n k x → i ≤ n → cut i ≤ x → i ≤ k
  lies_from i k x at within from = elim (cases_lt k i) [
    | inl less ↦
        absurd (omega (arith, at.to, from, rise_or_same (k + 1) i (omega (arith, less)) within))
    | inr more ↦ more
  ]

  lies_to : (j k x : ℕ) → Lies cut n k x → x < cut j → k < j
  lies_to j k x at to = elim (cases_lt k j) [
    | inl less ↦ less
    | inr more ↦
        absurd (omega (arith, at.from, to, rise_or_same j k more (omega (arith, at.within))))
  ]

  -- A property of unit steps that is the same between neighbouring cuts, and holds nowhere past the end.
  module _ (P Q : ℕ → Type 0) (same : (k x : ℕ) → Lies cut n k x → (P x ↔ Q k)) (P_in : (x : ℕ) → P x → x < end) (Q_in : (k : ℕ) → Q k → k < n) where
    last_in : (a c : ℕ) → IsStretch Q a c → c ≤ n
    last_in a c s =
        omega (arith, Q_in (c - 1) (s.all (c - 1) (omega (arith, s.some)) (omega (arith, s.some))), s.some)

    pub stretch_scaled : (a c : ℕ) → IsStretch Q a c → IsStretch P (cut a) (cut c)
    stretch_scaled a c s =
        let c_in : c ≤ n = last_in a c s in
        record {
          some = h.rise a c s.some c_in;
          all = λ x from to.
              let (k, at) = lies_somewhere x (omega (arith, to, h.last, rise_or_same c n c_in (omega arith))) in
              (same k x at).1 (s.all k (lies_from a k x at (omega (arith, s.some, c_in)) from) (lies_to c k x at to));
          start = λ some here.
              let a_some : 1 ≤ a = some_index a some in
              s.start a_some ((same (a - 1) (cut a - 1) (lies_before a a_some (omega (arith, s.some, c_in)))).0 here);
          stop = λ here. elim (cases_lt c n) [
            | inl less ↦ s.stop ((same c (cut c) (lies_at c less)).0 here)
            | inr more ↦
                let c_is : c ≡ n = omega (arith, more, c_in) in
                omega (arith, P_in (cut c) here, ap cut c_is, h.last)
          ];
        }

    -- where a stretch begins is a cut
    start_cut : (u v : ℕ) → IsStretch P u v → (a : ℕ) × (a < n) × (cut a ≡ u)
    start_cut u v s =
        let here : P u = s.all u (omega arith) s.some in
        let (a, at) = lies_somewhere u (P_in u here) in
        elim (cases_eq (cut a) u) [
          | inl is ↦ (a, at.within, is)
          | inr apart ↦
              let before : Lies cut n a (u - 1) = record { within = at.within; from = omega (arith, at.from, apart); to = omega (arith, at.to) } in
              absurd (s.start (omega (arith, at.from, apart)) ((same a (u - 1) before).1 ((same a u at).0 here)))
        ]

    stop_cut : (u v : ℕ) → IsStretch P u v → (c : ℕ) × (c ≤ n) × (cut c ≡ v)
    stop_cut u v s =
        let here : P (v - 1) = s.all (v - 1) (omega (arith, s.some)) (omega (arith, s.some)) in
        let (k, at) = lies_somewhere (v - 1) (P_in (v - 1) here) in
        elim (cases_eq (cut (k + 1)) v) [
          | inl is ↦ (k + 1, omega (arith, at.within), is)
          | inr apart ↦
              let after : Lies cut n k v = record { within = at.within; from = omega (arith, at.from); to = omega (arith, at.to, apart) } in
              absurd (s.stop ((same k v after).1 ((same k (v - 1) at).0 here)))
        ]

    pub stretch_back : (u v : ℕ) → IsStretch P u v → (a : ℕ) × (c : ℕ) × (cut a ≡ u) × (cut c ≡ v) × IsStretch Q a c
    stretch_back u v s =
        let (a, a_in, a_is) = start_cut u v s in
        let (c, c_in, c_is) = stop_cut u v s in
        let less : a < c = elim (cases_lt a c) [
          | inl short ↦ short
          | inr more ↦
              absurd (omega (arith, rise_or_same c a more (omega (arith, a_in)), a_is, c_is, s.some))
        ] in (
          a,
          c,
          a_is,
          c_is,
          record {
            some = less;
            all = λ k from to.
                (same k (cut k) (lies_at k (omega (arith, to, c_in)))).0 (s.all (cut k) (omega (arith, a_is, rise_or_same a k from (omega (arith, to, c_in)))) (omega (arith, c_is, h.rise k c to c_in)));
            start = λ some here.
                let at : Lies cut n (a - 1) (cut a - 1) = lies_before a some (omega (arith, a_in)) in
                s.start (omega (arith, a_is, some_before a some (omega (arith, a_in)))) (subst (λ (m : ℕ). P (m - 1)) a_is ((same (a - 1) (cut a - 1) at).1 here));
            stop = λ here. s.stop (subst P c_is ((same c (cut c) (lies_at c (Q_in c here))).1 here));
          },
        )

-- Lines: what goes along a cut of one axis, between cuts of the other.
module _ (In Held : ℕ → ℕ → Type 0) (across along : ℕ → ℕ) (w h side : ℕ) (columns : AreSteps across w side) (rows : AreSteps along h side) (same : (a b x y : ℕ) → Lies across w a x → Lies along h b y → (In x y ↔ Held a b)) (In_in : (x y : ℕ) → In x y → (x < side) × (y < side)) (Held_in : (a b : ℕ) → Held a b → (a < w) × (b < h)) where
  above : (a b x : ℕ) → b ≤ h → Lies across w a x → (In x (along b) ↔ Held a b)
  above a b x b_in at = elim (cases_lt b h) [
    | inl less ↦ same a b x (along b) at (lies_at along h side rows b less)
    | inr more ↦
        let b_is : b ≡ h = omega (arith, more, b_in) in (
          λ i. absurd (omega (arith, (In_in x (along b) i).1, ap along b_is, rows.last)),
          λ i. absurd (omega (arith, (Held_in a b i).1, b_is)),
        )
  ]

  below : (a b x : ℕ) → b ≤ h → Lies across w a x → (Below In x (along b) ↔ Below Held a b)
  below a b x b_in at = (
    λ i.
        let some : 1 ≤ b = some_index along h side rows b i.0 in
        (some, (same a (b - 1) x (along b - 1) at (lies_before along h side rows b some b_in)).0 i.1),
    λ i. (
      some_before along h side rows b i.0 b_in,
      (same a (b - 1) x (along b - 1) at (lies_before along h side rows b i.0 b_in)).1 i.1,
    ),
  )

  pub east_same : (b : ℕ) → b ≤ h → (a x : ℕ) → Lies across w a x → (GoesEast In x (along b) ↔ GoesEast Held a b)
  east_same b b_in a x at =
      let up = above a b x b_in at in
      let down = below a b x b_in at in
      (λ g. (up.0 g.0, λ d. g.1 (down.1 d)), λ g. (up.1 g.0, λ d. g.1 (down.0 d)))

  pub west_same : (b : ℕ) → b ≤ h → (a x : ℕ) → Lies across w a x → (GoesWest In x (along b) ↔ GoesWest Held a b)
  west_same b b_in a x at =
      let up = above a b x b_in at in
      let down = below a b x b_in at in
      (λ g. (down.0 g.0, λ d. g.1 (up.1 d)), λ g. (down.1 g.0, λ d. g.1 (up.0 d)))

  -- a segment lies on a cut
  pub east_cut : (x y : ℕ) → GoesEast In x y → (b : ℕ) × (b ≤ h) × (along b ≡ y)
  east_cut x y g =
      let (a, a_at) = lies_somewhere across w side columns x (In_in x y g.0).0 in
      let (b, b_at) = lies_somewhere along h side rows y (In_in x y g.0).1 in
      elim (cases_eq (along b) y) [
        | inl is ↦ (b, omega (arith, b_at.within), is)
        | inr apart ↦
            let before : Lies along h b (y - 1) = record { within = b_at.within; from = omega (arith, b_at.from, apart); to = omega (arith, b_at.to) } in
            absurd (g.1 (omega (arith, b_at.from, apart), (same a b x (y - 1) a_at before).1 ((same a b x y a_at b_at).0 g.0)))
      ]

  pub west_cut : (x y : ℕ) → GoesWest In x y → (b : ℕ) × (b ≤ h) × (along b ≡ y)
  west_cut x y g =
      let (a, a_at) = lies_somewhere across w side columns x (In_in x (y - 1) g.0.1).0 in
      let (b, b_at) = lies_somewhere along h side rows (y - 1) (In_in x (y - 1) g.0.1).1 in
      elim (cases_eq (along (b + 1)) y) [
        | inl is ↦ (b + 1, omega (arith, b_at.within), is)
        | inr apart ↦
            let after : Lies along h b y = record { within = b_at.within; from = omega (arith, b_at.from); to = omega (arith, b_at.to, apart) } in
            absurd (g.1 ((same a b x y a_at after).1 ((same a b x (y - 1) a_at b_at).0 g.0.1)))
      ]

  module _ (b : ℕ) (b_in : b ≤ h) where
    pub east_scaled : (a c : ℕ) → IsStretch (λ k. GoesEast Held k b) a c → IsStretch (λ x. GoesEast In x (along b)) (across a) (across c)
    east_scaled =
        stretch_scaled across w side columns (λ x. GoesEast In x (along b)) (λ k. GoesEast Held k b) (east_same b b_in) (λ x g. (In_in x (along b) g.0).0) (λ k g. (Held_in k b g.0).0)

    pub west_scaled : (a c : ℕ) → IsStretch (λ k. GoesWest Held k b) a c → IsStretch (λ x. GoesWest In x (along b)) (across a) (across c)
    west_scaled =
        stretch_scaled across w side columns (λ x. GoesWest In x (along b)) (λ k. GoesWest Held k b) (west_same b b_in) (λ x g. (In_in x (along b - 1) g.0.1).0) (λ k g. (Held_in k (b - 1) g.0.1).0)

    pub east_back : (u v : ℕ) → IsStretch (λ x. GoesEast In x (along b)) u v → (a : ℕ) × (c : ℕ) × (across a ≡ u) × (across c ≡ v) × IsStretch (λ k. GoesEast Held k b) a c
    east_back =
        stretch_back across w side columns (λ x. GoesEast In x (along b)) (λ k. GoesEast Held k b) (east_same b b_in) (λ x g. (In_in x (along b) g.0).0) (λ k g. (Held_in k b g.0).0)

    pub west_back : (u v : ℕ) → IsStretch (λ x. GoesWest In x (along b)) u v → (a : ℕ) × (c : ℕ) × (across a ≡ u) × (across c ≡ v) × IsStretch (λ k. GoesWest Held k b) a c
    west_back =
        stretch_back across w side columns (λ x. GoesWest In x (along b)) (λ k. GoesWest Held k b) (west_same b b_in) (λ x g. (In_in x (along b - 1) g.0.1).0) (λ k g. (Held_in k (b - 1) g.0.1).0)
