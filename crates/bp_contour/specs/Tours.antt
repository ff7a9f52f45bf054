-- Closed tours over places, each place gone once.
use Rattle.bp_base.specs.declared.point.Point.{Point}
use Rattle.bp_contour.specs.declared.runs.Run.{Run}
use Rattle.bp_contour.specs.Listed.{run_at}
use Rattle.bp_contour.specs.Table.{grid_point}
use Rattle.std.specs.Prelude.{◌≡◌, ◌≢◌, ◌⊎◌, ℕ, ◌+◌, ◌-◌, ◌<◌, ◌≤◌, Bool, true, false, List, [], length, map, slice_index, slice_index_or}

abbrev pub mark_at : List Bool → ℕ → Bool
mark_at marks k = slice_index_or marks k false

-- where a marked place follows another, that is marked too
abbrev pub AreClosed : (ℕ → ℕ → Type 0) → List Bool → Type 0
AreClosed After marks = (i j : ℕ) → After i j → mark_at marks j ≡ true → mark_at marks i ≡ true

-- the grid point at which the run at place k begins
abbrev pub start_of : List ℕ → List ℕ → List Run → ℕ → Point
start_of columns rows runs k = grid_point columns rows (run_at runs k).from

-- all runs begin at grid points
abbrev pub AreOnGrid : List ℕ → List ℕ → List Run → Type 0
AreOnGrid columns rows runs =
    (k : ℕ) → k < length runs → ((run_at runs k).from.x < length columns) × ((run_at runs k).from.y < length rows)

-- a tour from start on, each place after the one before it, none gone twice
pub record IsTour (After : ℕ → ℕ → Type 0) (start : ℕ) (tour : List ℕ) : Type 0 where
  pub some : 0 < length tour
  pub first : slice_index tour 0 ≡ start
  pub steps : (k : ℕ) → k + 1 < length tour → After (slice_index tour k) (slice_index tour (k + 1))
  pub apart : (i j : ℕ) → i < j → j < length tour → slice_index tour i ≢ slice_index tour j

-- the tour's places were not marked before, and are the ones that are now marked too
pub record AreMarked (tour : List ℕ) (before after : List Bool) : Type 0 where
  pub long : length after ≡ length before
  pub fresh : (k : ℕ) → k < length tour → mark_at before (slice_index tour k) ≡ false
  pub within : (k : ℕ) → k < length tour → slice_index tour k < length before
  pub marked : (k : ℕ) → k < length tour → mark_at after (slice_index tour k) ≡ true
  pub kept : (p : ℕ) → mark_at before p ≡ true → mark_at after p ≡ true
  pub only : (p : ℕ) → mark_at after p ≡ true → (mark_at before p ≡ true) ⊎ ((k : ℕ) × (k < length tour) × (slice_index tour k ≡ p))

-- the tour leads back to its start
pub record Closes (After : ℕ → ℕ → Type 0) (start : ℕ) (tour : List ℕ) : Type 0 where
  pub goes : IsTour After start tour
  pub back : After (slice_index tour (length tour - 1)) start

abbrev pub tour_at : List (List ℕ) → ℕ → List ℕ
tour_at tours i = slice_index_or tours i []

-- Closed tours that go over all marked places and over no place twice, each from its least place on, by rising least place.
-- All places before the given one are marked.
pub record AreTours (After : ℕ → ℕ → Type 0) (upto : ℕ) (marks : List Bool) (tours : List (List ℕ)) : Type 0 where
  pub closed : (i : ℕ) → i < length tours → Closes After (slice_index (tour_at tours i) 0) (tour_at tours i)
  pub least : (i k : ℕ) → i < length tours → k < length (tour_at tours i) → slice_index (tour_at tours i) 0 ≤ slice_index (tour_at tours i) k
  pub rising : (i j : ℕ) → i < j → j < length tours → slice_index (tour_at tours i) 0 < slice_index (tour_at tours j) 0
  pub early : (i : ℕ) → i < length tours → slice_index (tour_at tours i) 0 < upto
  pub gone : (i k : ℕ) → i < length tours → k < length (tour_at tours i) → mark_at marks (slice_index (tour_at tours i) k) ≡ true
  pub each : (p : ℕ) → mark_at marks p ≡ true → (i : ℕ) × (k : ℕ) × (i < length tours) × (k < length (tour_at tours i)) × (slice_index (tour_at tours i) k ≡ p)
  pub apart : (i j k m : ℕ) → i < j → j < length tours → k < length (tour_at tours i) → m < length (tour_at tours j) → slice_index (tour_at tours i) k ≢ slice_index (tour_at tours j) m
  pub done : (p : ℕ) → p < upto → mark_at marks p ≡ true

-- the points are those of a closed tour from start on, whose places are now marked
pub record IsRound (After : ℕ → ℕ → Type 0) (point : ℕ → Point) (start : ℕ) (before after : List Bool) (points : List Point) : Type 0 where
  pub tour : List ℕ
  pub closes : Closes After start tour
  pub marks : AreMarked tour before after
  pub points_are : points ≡ map point tour

-- the loops are those of closed tours over all n places
pub record AreRound (After : ℕ → ℕ → Type 0) (n : ℕ) (point : ℕ → Point) (loops : List (List Point)) : Type 0 where
  pub marks : List Bool
  pub long : length marks ≡ n
  pub tours : List (List ℕ)
  pub are : AreTours After n marks tours
  pub loops_are : loops ≡ map (map point) tours
