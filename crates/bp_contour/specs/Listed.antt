-- All runs of a set of cells in one list, by rising first point (y, x) and then by direction.
use Rattle.std.specs.Prelude.{◌≡◌, ◌⊎◌, ℕ, ◌<◌, List, length, slice_index_or}
use Rattle.bp_base.specs.declared.point.Point.{Point}
use Rattle.bp_base.specs.Point.{origin}
use Rattle.bp_contour.specs.declared.runs.Run.{Run}
use Rattle.bp_contour.specs.declared.way.Way.{Way}
use Rattle.bp_contour.specs.declared.way.Way.TheVariants.{East}
use Rattle.bp_contour.specs.Ways.{Begins, RunBy, left_of, number_of, right_of}

-- a run from (x,y) of direction number n stands before one from (u,v) of direction number m
abbrev pub StandsBefore : ℕ → ℕ → ℕ → ℕ → ℕ → ℕ → Type 0
StandsBefore y x n v u m = (y < v) ⊎ ((y ≡ v) × (x < u)) ⊎ ((y ≡ v) × (x ≡ u) × (n < m))

abbrev pub no_run : Run
no_run = record { way = East; from = origin; to = origin }

abbrev pub run_at : List Run → ℕ → Run
run_at runs k = slice_index_or runs k no_run

-- the runs stand in this order, and none twice
abbrev pub AreRising : List Run → Type 0
AreRising runs =
    (i j : ℕ) → i < j → j < length runs → StandsBefore (run_at runs i).from.y (run_at runs i).from.x (number_of (run_at runs i).way) (run_at runs j).from.y (run_at runs j).from.x (number_of (run_at runs j).way)

-- the run at place k goes this way from p
pub record IsFound (runs : List Run) (k : ℕ) (way : Way) (p : Point) : Type 0 where
  pub within : k < length runs
  pub goes : (run_at runs k).way ≡ way
  pub begins : (run_at runs k).from ≡ p

-- the list has each run that stands before (x,y) and n, in order
pub record AreRunsUpTo (In : ℕ → ℕ → Type 0) (y x n : ℕ) (runs : List Run) : Type 0 where
  pub sound : (k : ℕ) → k < length runs → RunBy In (run_at runs k).way (run_at runs k).from (run_at runs k).to
  pub early : (k : ℕ) → k < length runs → StandsBefore (run_at runs k).from.y (run_at runs k).from.x (number_of (run_at runs k).way) y x n
  pub complete : (way : Way) (p q : Point) → RunBy In way p q → StandsBefore p.y p.x (number_of way) y x n → (k : ℕ) × IsFound runs k way p
  pub rising : AreRising runs

-- the list has each run, in order
pub record AreRuns (In : ℕ → ℕ → Type 0) (runs : List Run) : Type 0 where
  pub sound : (k : ℕ) → k < length runs → RunBy In (run_at runs k).way (run_at runs k).from (run_at runs k).to
  pub complete : (way : Way) (p q : Point) → RunBy In way p q → (k : ℕ) × IsFound runs k way p
  pub rising : AreRising runs

-- a run that goes w follows one that went v to p: to the left where a run begins there, else to the right
abbrev pub Turns : (ℕ → ℕ → Type 0) → Way → Point → Way → Type 0
Turns In v p w = (w ≡ left_of v) ⊎ ((w ≡ right_of v) × (Begins In (left_of v) p → ⊥))

-- the run at place j begins where the one at place i ends, and turns left wherever a run does
pub record Follows (In : ℕ → ℕ → Type 0) (runs : List Run) (i j : ℕ) : Type 0 where
  pub from : i < length runs
  pub within : j < length runs
  pub begins : (run_at runs j).from ≡ (run_at runs i).to
  pub turns : Turns In (run_at runs i).way (run_at runs i).to (run_at runs j).way
