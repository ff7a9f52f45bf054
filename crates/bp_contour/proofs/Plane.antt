-- Runs over a table and runs over the unit cells, in all four directions.
use Rattle.std.proofs.Common.{◌≡◌, ◌≢◌, ℕ, ◌-◌, ◌<◌, ◌≤◌, ◌↔◌, List, refl, sym, ◌∙◌, ap, subst, arith, inl, inr}
use Rattle.bp_base.specs.declared.point.Point.{Point}
use Rattle.bp_contour.specs.declared.runs.Run.{Run}
use Rattle.bp_contour.specs.declared.way.Way.{Way}
use Rattle.bp_contour.specs.declared.way.Way.TheVariants.{East, North, West, South}
use Rattle.bp_regions.specs.Contours.{ComesBefore}
use Rattle.bp_regions.specs.Runs.{GoesEast, GoesNorth, GoesSouth, GoesWest, IsAfter, IsRun, IsStretch}
use Rattle.bp_contour.specs.Listed.{AreRuns, Follows, Turns, run_at}
use Rattle.bp_contour.specs.Ways.{Arrives, Begins, Leaves, RunBy, left_of, right_of}
use Rattle.bp_contour.proofs.Corners.{opposite, run_arrives, run_begins, same_end, same_point, two_leave}
use Rattle.bp_contour.proofs.Directed.{run_of, turns_left, way_of}
use Rattle.bp_contour.proofs.Scaled.{AreSteps, Lies, east_back, east_cut, east_scaled, same_step, west_back, west_cut, west_scaled}

pub opposite_of_right : (v : Way) → opposite (right_of v) ≡ left_of v
opposite_of_right East = refl
opposite_of_right North = refl
opposite_of_right West = refl
opposite_of_right South = refl

module _ (In Held : ℕ → ℕ → Type 0) (X Y : ℕ → ℕ) (w h side : ℕ) (columns : AreSteps X w side) (rows : AreSteps Y h side) (same : (a b x y : ℕ) → Lies X w a x → Lies Y h b y → (In x y ↔ Held a b)) (In_in : (x y : ℕ) → In x y → (x < side) × (y < side)) (Held_in : (a b : ℕ) → Held a b → (a < w) × (b < h)) where
  abbrev pub scaled : Point → Point
  scaled p = record { x = X p.x; y = Y p.y }

  -- the same with the axes changed over
  turned_same : (b a y x : ℕ) → Lies Y h b y → Lies X w a x → (In x y ↔ Held a b)
  turned_same b a y x at_y at_x = same a b x y at_x at_y

  turned_in : (y x : ℕ) → In x y → (y < side) × (x < side)
  turned_in y x i = let (a, b) = In_in x y i in (b, a)

  turned_held : (b a : ℕ) → Held a b → (b < h) × (a < w)
  turned_held b a i = let (c, d) = Held_in a b i in (d, c)

  pub run_scaled : (v : Way) (p q : Point) → RunBy Held v p q → RunBy In v (scaled p) (scaled q)
  run_scaled East p q r =
      let here = Held_in p.x p.y (r.1.all p.x (omega arith) r.1.some).0 in
      (ap Y r.0, east_scaled In Held X Y w h side columns rows same In_in Held_in p.y (omega (arith, here.1)) p.x q.x r.1)
  run_scaled West p q r =
      let here = (r.1.all q.x (omega arith) r.1.some).0 in
      (ap Y r.0, west_scaled In Held X Y w h side columns rows same In_in Held_in p.y (omega (arith, (Held_in q.x (p.y - 1) here.1).1)) q.x p.x r.1)
  run_scaled South p q r =
      let here = Held_in p.x q.y (r.1.all q.y (omega arith) r.1.some).0 in
      (ap X r.0, east_scaled (λ y x. In x y) (λ b a. Held a b) Y X h w side rows columns turned_same turned_in turned_held p.x (omega (arith, here.0)) q.y p.y r.1)
  run_scaled North p q r =
      let here = (r.1.all p.y (omega arith) r.1.some).0 in
      (ap X r.0, west_scaled (λ y x. In x y) (λ b a. Held a b) Y X h w side rows columns turned_same turned_in turned_held p.x (omega (arith, (Held_in (p.x - 1) p.y here.1).0)) p.y q.y r.1)

  pub run_back : (v : Way) (p q : Point) → RunBy In v p q → (r : Point) × (s : Point) × RunBy Held v r s × (scaled r ≡ p) × (scaled s ≡ q)
  run_back East p q r =
      let (b, b_in, b_is) = east_cut In Held X Y w h side columns rows same In_in Held_in p.x p.y (r.1.all p.x (omega arith) r.1.some) in
      let moved : IsStretch (λ x. GoesEast In x (Y b)) p.x q.x = subst (λ (y : ℕ). IsStretch (λ x. GoesEast In x y) p.x q.x) (sym b_is) r.1 in
      let (a, c, a_is, c_is, s) = east_back In Held X Y w h side columns rows same In_in Held_in b b_in p.x q.x moved in
      (record { x = a; y = b }, record { x = c; y = b }, (refl, s), same_point _ p a_is b_is, same_point _ q c_is (b_is ∙ r.0))
  run_back West p q r =
      let (b, b_in, b_is) = west_cut In Held X Y w h side columns rows same In_in Held_in q.x p.y (r.1.all q.x (omega arith) r.1.some) in
      let moved : IsStretch (λ x. GoesWest In x (Y b)) q.x p.x = subst (λ (y : ℕ). IsStretch (λ x. GoesWest In x y) q.x p.x) (sym b_is) r.1 in
      let (a, c, a_is, c_is, s) = west_back In Held X Y w h side columns rows same In_in Held_in b b_in q.x p.x moved in
      (record { x = c; y = b }, record { x = a; y = b }, (refl, s), same_point _ p c_is b_is, same_point _ q a_is (b_is ∙ r.0))
  run_back South p q r =
      let (b, b_in, b_is) = east_cut (λ y x. In x y) (λ b a. Held a b) Y X h w side rows columns turned_same turned_in turned_held q.y p.x (r.1.all q.y (omega arith) r.1.some) in
      let moved : IsStretch (λ y. GoesSouth In (X b) y) q.y p.y = subst (λ (x : ℕ). IsStretch (λ y. GoesSouth In x y) q.y p.y) (sym b_is) r.1 in
      let (a, c, a_is, c_is, s) = east_back (λ y x. In x y) (λ b a. Held a b) Y X h w side rows columns turned_same turned_in turned_held b b_in q.y p.y moved in
      (record { x = b; y = c }, record { x = b; y = a }, (refl, s), same_point _ p b_is c_is, same_point _ q (b_is ∙ r.0) a_is)
  run_back North p q r =
      let (b, b_in, b_is) = west_cut (λ y x. In x y) (λ b a. Held a b) Y X h w side rows columns turned_same turned_in turned_held p.y p.x (r.1.all p.y (omega arith) r.1.some) in
      let moved : IsStretch (λ y. GoesNorth In (X b) y) p.y q.y = subst (λ (x : ℕ). IsStretch (λ y. GoesNorth In x y) p.y q.y) (sym b_is) r.1 in
      let (a, c, a_is, c_is, s) = west_back (λ y x. In x y) (λ b a. Held a b) Y X h w side rows columns turned_same turned_in turned_held b b_in p.y q.y moved in
      (record { x = b; y = a }, record { x = b; y = c }, (refl, s), same_point _ p b_is a_is, same_point _ q (b_is ∙ r.0) c_is)

  -- Points of the table.

  abbrev pub OnTable : Point → Type 0
  OnTable p = (p.x ≤ w) × (p.y ≤ h)

  leaves_on : (v : Way) (p : Point) → Leaves Held v p → OnTable p
  leaves_on East p l = let (a, b) = Held_in p.x p.y l.0 in (omega (arith, a), omega (arith, b))
  leaves_on North p l =
      let (a, b) = Held_in (p.x - 1) p.y l.0.1 in (omega (arith, a), omega (arith, b))
  leaves_on West p l =
      let (a, b) = Held_in (p.x - 1) (p.y - 1) l.1.0.1 in (omega (arith, a), omega (arith, b))
  leaves_on South p l =
      let (a, b) = Held_in p.x (p.y - 1) l.1.0 in (omega (arith, a), omega (arith, b))

  arrives_on : (v : Way) (p : Point) → Arrives Held v p → OnTable p
  arrives_on East p l =
      let (a, b) = Held_in (p.x - 1) p.y l.1.0 in (omega (arith, a), omega (arith, b))
  arrives_on North p l =
      let (a, b) = Held_in (p.x - 1) (p.y - 1) l.1.0.1 in (omega (arith, a), omega (arith, b))
  arrives_on West p l =
      let (a, b) = Held_in p.x (p.y - 1) l.0.1 in (omega (arith, a), omega (arith, b))
  arrives_on South p l =
      let (a, b) = Held_in p.x p.y l.0 in (omega (arith, a), omega (arith, b))

  pub run_on : (v : Way) (p q : Point) → RunBy Held v p q → OnTable p × OnTable q
  run_on v p q r =
      (leaves_on v p (run_begins Held v p q r).0, arrives_on v q (run_arrives Held v p q r))

  pub scaled_same : (p q : Point) → OnTable p → OnTable q → scaled p ≡ scaled q → p ≡ q
  scaled_same p q p_on q_on e =
      same_point p q (same_step X w side columns p.x q.x p_on.0 q_on.0 (ap (λ (r : Point). r.x) e)) (same_step Y h side rows p.y q.y p_on.1 q_on.1 (ap (λ (r : Point). r.y) e))

  pub scaled_before : (p q : Point) → OnTable q → ComesBefore p q → ComesBefore (scaled p) (scaled q)
  scaled_before p q q_on (inl lower) = inl (rows.rise p.y q.y lower q_on.1)
  scaled_before p q q_on (inr (level, left)) = inr (ap Y level, columns.rise p.x q.x left q_on.0)

  -- What follows over the table is after over the cells.
  module _ (rs : List Run) (are : AreRuns Held rs) (i j : ℕ) (f : Follows Held rs i j) where
    run_i : RunBy Held (run_at rs i).way (run_at rs i).from (run_at rs i).to
    run_i = are.sound i f.from

    run_j : RunBy Held (run_at rs j).way (run_at rs i).to (run_at rs j).to
    run_j =
        subst (λ (p : Point). RunBy Held (run_at rs j).way p (run_at rs j).to) f.begins (are.sound j f.within)

    real_j : RunBy In (run_at rs j).way (scaled (run_at rs i).to) (scaled (run_at rs j).to)
    real_j = run_scaled (run_at rs j).way (run_at rs i).to (run_at rs j).to run_j

    -- where another run begins too, this one turned left
    must_be_left : (u : Way) → Begins Held u (run_at rs i).to → u ≢ (run_at rs j).way → Turns Held (run_at rs i).way (run_at rs i).to (run_at rs j).way → (run_at rs j).way ≡ left_of (run_at rs i).way
    must_be_left u begins apart (inl is) = is
    must_be_left u begins apart (inr (is, none)) = elim (two_leave Held (run_at rs j).way u (run_at rs i).to (run_begins Held (run_at rs j).way (run_at rs i).to (run_at rs j).to run_j).0 begins.0) [
      | inl same ↦ absurd (apart (sym same))
      | inr turned ↦
          let u_is : u ≡ left_of (run_at rs i).way = turned ∙ ap opposite is ∙ opposite_of_right (run_at rs i).way in
          absurd (none (subst (λ (v : Way). Begins Held v (run_at rs i).to) u_is begins))
    ]

    other_run : (s : Point) → IsRun In (scaled (run_at rs i).to) s → s ≢ scaled (run_at rs j).to → (run_at rs j).way ≡ left_of (run_at rs i).way
    other_run s run apart =
        let (u, real) = way_of In (scaled (run_at rs i).to) s run in
        let (p, q, held, p_is, q_is) = run_back u (scaled (run_at rs i).to) s real in
        let p_same : p ≡ (run_at rs i).to = scaled_same p (run_at rs i).to (run_on u p q held).0 (run_on (run_at rs i).way (run_at rs i).from (run_at rs i).to run_i).1 p_is in
        let begins : Begins Held u (run_at rs i).to = subst (Begins Held u) p_same (run_begins Held u p q held) in
        must_be_left u begins (λ same. apart (same_end In (run_at rs j).way (scaled (run_at rs i).to) s (scaled (run_at rs j).to) (subst (λ (v : Way). RunBy In v (scaled (run_at rs i).to) s) same real) real_j)) f.turns

    pub after_scaled : IsAfter In (scaled (run_at rs i).from) (scaled (run_at rs i).to) (scaled (run_at rs j).to)
    after_scaled = record {
      run = run_of In (run_at rs j).way (scaled (run_at rs i).to) (scaled (run_at rs j).to) real_j;
      left = λ s run apart.
          let is = other_run s run apart in
          turns_left In (run_at rs i).way (scaled (run_at rs i).from) (scaled (run_at rs i).to) (scaled (run_at rs j).to) (run_scaled (run_at rs i).way (run_at rs i).from (run_at rs i).to run_i) (subst (λ (v : Way). RunBy In v (scaled (run_at rs i).to) (scaled (run_at rs j).to)) is real_j);
    }
