-- What the words of `design` ask of it.
use Rattle.std.proofs.Common.{◌≡◌, inl, inr, ℕ, ◌≤◌, List, true, false, refl, arith}
use Rattle.std.specs.declared.option.Option.{Option}
use Rattle.std.specs.declared.option.Option.TheVariants.{None, Some}
use Rattle.std.proofs.lemmas.Bool.{false≢true}
use Rattle.bp_base.specs.declared.point.Sheet.TheVariants.{Square}
use Rattle.bp_base.specs.Limits.{most_budget, most_hands, most_width}
use Rattle.bp_metric.specs.Metric.{IsSheet}
use Rattle.bp_words.specs.declared.words.Words.{Words}
use Rattle.bp_words.specs.declared.words.Words.TheVariants.{Design, Made, Trial, Revise, Solve}
use Rattle.bp_words.specs.Words.{AreApart, HasDefault, HasOptional, IsWords, most_seed, most_solve_budget, usual_budget, usual_hands, usual_solve_budget}
use Rattle.bp_engine.specs.Outcomes.{HasRanges, HasSheet, IsAsked, IsSeed}
use Rattle.bp_engine.specs.Run.{UsesFold, asked_of, draws_of, sheet_of, solve_asked_of}

sheet_range : (name : List ℕ) (words : List (List ℕ)) (strip : Option ℕ) → HasOptional name 0 most_width words strip → IsSheet (sheet_of strip)
sheet_range name words None h = tt
sheet_range name words (Some width) h = h.2.2

budget_range : (name : List ℕ) (words : List (List ℕ)) (budget : ℕ) → HasDefault name 1 most_budget usual_budget words budget → budget ≤ most_budget
budget_range name words budget (inl given) = given.2.2
budget_range name words budget (inr usual) = omega (arith, usual.1)

hands_range : (name : List ℕ) (words : List (List ℕ)) (workers : ℕ) → HasDefault name 1 most_hands usual_hands words workers → (1 ≤ workers) × (workers ≤ most_hands)
hands_range name words workers (inl given) = (given.2.1, given.2.2)
hands_range name words workers (inr usual) = (omega (arith, usual.1), omega (arith, usual.1))

budget_some : (name : List ℕ) (words : List (List ℕ)) (budget : ℕ) → HasDefault name 1 most_budget usual_budget words budget → 1 ≤ budget
budget_some name words budget (inl given) = given.2.1
budget_some name words budget (inr usual) = omega (arith, usual.1)

seed_range : (name : List ℕ) (words : List (List ℕ)) (replay : Option ℕ) → HasOptional name 0 most_seed words replay → IsSeed replay
seed_range name words None h = tt
seed_range name words (Some seed) h = omega (arith, h.2.2)

solve_range : (name : List ℕ) (words : List (List ℕ)) (budget : ℕ) → HasDefault name 1 most_solve_budget usual_solve_budget words budget → budget ≤ most_solve_budget
solve_range name words budget (inl given) = given.2.2
solve_range name words budget (inr usual) = omega (arith, usual.1)

pub ranges : (words : List (List ℕ)) (w : Words) → IsWords words w → HasRanges w
ranges words (Design workers budget replay fold strip steady) asks = (
  sheet_range _ words strip asks.has_strip,
  budget_range _ words budget asks.has_budget,
  asks.apart,
  budget_some _ words budget asks.has_budget,
  hands_range _ words workers asks.has_workers,
  seed_range _ words replay asks.has_replay,
)
ranges words (Made leaves seed) asks = (asks.has_leaves.1, asks.has_leaves.2, omega (arith, asks.has_seed.2))
ranges words (Trial leaves seed) asks = (asks.has_leaves.1, asks.has_leaves.2, omega (arith, asks.has_seed.2))
ranges words (Revise place budget) asks = budget_range _ words budget asks.has_budget
ranges words (Solve budget strip fold mirror) asks = (sheet_range _ words strip asks.has_strip, solve_range _ words budget asks.has_budget, asks.no_fold)
ranges words w asks = tt

on_square : (fold strip : Option ℕ) → AreApart fold strip → draws_of fold ≡ true → sheet_of strip ≡ Square
on_square None strip h draws = absurd (false≢true draws)
on_square (Some place) None h draws = refl
on_square (Some place) (Some width) h draws = absurd h

pub is_asked : (workers budget : ℕ) (replay fold strip steady : Option ℕ) → HasRanges (Design workers budget replay fold strip steady) → IsAsked (asked_of workers budget replay fold strip steady)
is_asked workers budget replay fold strip steady h = record { placed = record { sheet = h.0; square = on_square fold strip h.2 }; budget = h.1; some = h.3; hands = h.4; seed = h.5 }

pub has_sheet : (budget : ℕ) (fold strip : Option ℕ) → IsSheet (sheet_of strip) × (budget ≤ most_solve_budget) × AreApart fold strip → HasSheet (solve_asked_of budget fold strip)
has_sheet budget fold strip h = record { sheet = h.0; square = on_square fold strip h.2 }

pub uses_fold : (workers budget : ℕ) (replay fold strip steady : Option ℕ) → draws_of fold ≡ true → UsesFold (Design workers budget replay fold strip steady)
uses_fold workers budget replay None strip steady draws = absurd (false≢true draws)
uses_fold workers budget replay (Some place) strip steady draws = tt

pub no_drawing : (workers budget : ℕ) (replay fold strip steady : Option ℕ) → (UsesFold (Design workers budget replay fold strip steady) → ⊥) → draws_of fold ≡ false
no_drawing workers budget replay None strip steady unused = refl
no_drawing workers budget replay (Some place) strip steady unused = absurd (unused tt)

pub solve_uses_fold : (budget : ℕ) (fold strip : Option ℕ) → draws_of fold ≡ true → UsesFold (Solve budget strip fold None)
solve_uses_fold budget None strip draws = absurd (false≢true draws)
solve_uses_fold budget (Some place) strip draws = tt

pub solve_no_drawing : (budget : ℕ) (fold strip : Option ℕ) → (UsesFold (Solve budget strip fold None) → ⊥) → draws_of fold ≡ false
solve_no_drawing budget None strip unused = refl
solve_no_drawing budget (Some place) strip unused = absurd (unused tt)
