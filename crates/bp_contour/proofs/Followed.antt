-- No two runs have the same run after them.
use Rattle.std.proofs.Common.{◌≡◌, ℕ, ◌<◌, List, length, refl, sym, ◌∙◌, ap, subst, inl, inr}
use Rattle.std.proofs.lemmas.Bool.{cases_order}
use Rattle.bp_base.specs.declared.point.Point.{Point}
use Rattle.bp_contour.specs.declared.runs.Run.{Run}
use Rattle.bp_contour.specs.declared.way.Way.{Way}
use Rattle.bp_contour.specs.declared.way.Way.TheVariants.{East, North, West, South}
use Rattle.bp_contour.specs.Listed.{AreRising, AreRuns, Follows, StandsBefore, Turns, run_at}
use Rattle.bp_contour.specs.Ways.{Arrives, Begins, RunBy, left_of, number_of, right_of}
use Rattle.bp_contour.proofs.Corners.{both_begin, known_way, opposite, run_arrives, same_begin, two_arrive}
use Rattle.bp_contour.proofs.Listing.{never_both}

pub right_of_left : (v : Way) → right_of (left_of v) ≡ v
right_of_left East = refl
right_of_left North = refl
right_of_left West = refl
right_of_left South = refl

pub same_left : (v w : Way) → left_of v ≡ left_of w → v ≡ w
same_left v w e = sym (right_of_left v) ∙ ap right_of e ∙ right_of_left w

pub opposite_twice : (v : Way) → opposite (opposite v) ≡ v
opposite_twice East = refl
opposite_twice North = refl
opposite_twice West = refl
opposite_twice South = refl

-- a run stands at one place alone
pub one_place : (rs : List Run) → AreRising rs → (i j : ℕ) → i < length rs → j < length rs → (run_at rs i).way ≡ (run_at rs j).way → (run_at rs i).from ≡ (run_at rs j).from → i ≡ j
one_place rs rising i j i_in j_in way from = elim (cases_order i j) [
  | inl same ↦ same
  | inr (inl less) ↦ absurd (alike i j way from (rising i j less j_in))
  | inr (inr more) ↦ absurd (alike j i (sym way) (sym from) (rising j i more i_in))
]
  where
    alike : (i j : ℕ) → (run_at rs i).way ≡ (run_at rs j).way → (run_at rs i).from ≡ (run_at rs j).from → StandsBefore (run_at rs i).from.y (run_at rs i).from.x (number_of (run_at rs i).way) (run_at rs j).from.y (run_at rs j).from.x (number_of (run_at rs j).way) → ⊥
    alike i j way from before =
        let b = subst (λ (w : Way). StandsBefore (run_at rs j).from.y (run_at rs j).from.x (number_of w) (run_at rs j).from.y (run_at rs j).from.x (number_of (run_at rs j).way)) way (subst (λ (p : Point). StandsBefore p.y p.x (number_of (run_at rs i).way) (run_at rs j).from.y (run_at rs j).from.x (number_of (run_at rs j).way)) from before) in
        never_both _ _ _ _ _ _ b b

-- where a run begins on the left, the one that follows goes there
goes_left : (In : ℕ → ℕ → Type 0) (v w : Way) (p : Point) → Turns In v p w → Begins In (left_of v) p → w ≡ left_of v
goes_left In v w p (inl is) b = is
goes_left In v w p (inr (is, none)) b = absurd (none b)

module _ (In : ℕ → ℕ → Type 0) (rs : List Run) (are : AreRuns In rs) where
  pub follows_back : (i j k : ℕ) → Follows In rs i k → Follows In rs j k → i ≡ j
  follows_back i j k fi fj =
      let a = run_at rs i in
      let b = run_at rs j in
      let met : b.to ≡ a.to = sym fj.begins ∙ fi.begins in
      let run_a : RunBy In a.way a.from a.to = are.sound i fi.from in
      let run_b : RunBy In b.way b.from a.to = subst (λ (p : Point). RunBy In b.way b.from p) met (are.sound j fj.from) in
      let turns_b : Turns In b.way a.to (run_at rs k).way = subst (λ (p : Point). Turns In b.way p (run_at rs k).way) met fj.turns in
      elim (known_way a.way b.way) [
        | inl same ↦
            let other : RunBy In a.way b.from a.to = subst (λ (w : Way). RunBy In w b.from a.to) (sym same) run_b in
            one_place rs are.rising i j fi.from fj.from same (same_begin In a.way a.from b.from a.to run_a other)
        | inr apart ↦ elim (two_arrive In a.way b.way a.to (run_arrives In a.way a.from a.to run_a) (run_arrives In b.way b.from a.to run_b)) [
          | inl same ↦ absurd (apart same)
          | inr other ↦
              let arrives_a : Arrives In a.way a.to = run_arrives In a.way a.from a.to run_a in
              let arrives_b : Arrives In b.way a.to = run_arrives In b.way b.from a.to run_b in
              let back : opposite b.way ≡ a.way = ap opposite other ∙ opposite_twice a.way in
              let left_a : Begins In (left_of a.way) a.to = both_begin In a.way a.to arrives_a (subst (λ (w : Way). Arrives In w a.to) other arrives_b) in
              let left_b : Begins In (left_of b.way) a.to = both_begin In b.way a.to arrives_b (subst (λ (w : Way). Arrives In w a.to) (sym back) arrives_a) in
              absurd (apart (same_left a.way b.way (sym (goes_left In a.way (run_at rs k).way a.to fi.turns left_a) ∙ goes_left In b.way (run_at rs k).way a.to turns_b left_b)))
        ]
      ]
