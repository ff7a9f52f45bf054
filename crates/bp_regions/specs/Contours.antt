-- Contours: the closed loops along the boundary of a set of cells, as the points at which they turn.
use Rattle.std.specs.Prelude.{◌≡◌, ◌⊎◌, ℕ, ◌+◌, ◌<◌, ◌==◌, List, [], length, slice_index_or, if◌then◌else◌}
use Rattle.bp_base.specs.declared.point.Point.{Point}
use Rattle.bp_base.specs.Point.{origin}
use Rattle.bp_regions.specs.Runs.{IsAfter, IsRun}

-- the order by (y, x)
abbrev pub ComesBefore : Point → Point → Type 0
ComesBefore p q = (p.y < q.y) ⊎ ((p.y ≡ q.y) × (p.x < q.x))

abbrev pub loop_at : List (List Point) → ℕ → List Point
loop_at loops i = slice_index_or loops i []

-- the point at place k of a loop, and the place after k, round the loop
abbrev pub turn_at : List Point → ℕ → Point
turn_at l k = slice_index_or l k origin

abbrev pub next_place : List Point → ℕ → ℕ
next_place l k = if k + 1 == length l then 0 else k + 1

abbrev pub turn_after : List Point → ℕ → Point
turn_after l k = turn_at l (next_place l k)

-- loop i has a place k
abbrev pub IsPlace : List (List Point) → ℕ → ℕ → Type 0
IsPlace loops i k = (i < length loops) × (k < length (loop_at loops i))

-- loop i goes from p to q at its place k
pub record Goes (loops : List (List Point)) (i k : ℕ) (p q : Point) : Type 0 where
  pub place : IsPlace loops i k
  pub from : turn_at (loop_at loops i) k ≡ p
  pub to : turn_after (loop_at loops i) k ≡ q

-- there is one place, and only one, at which a loop goes from p to q
pub record GoesOnce (loops : List (List Point)) (p q : Point) : Type 0 where
  pub loop : ℕ
  pub place : ℕ
  pub goes : Goes loops loop place p q
  pub only : (j m : ℕ) → Goes loops j m p q → (j ≡ loop) × (m ≡ place)

-- Each step of a loop is a run, each run is gone once, each is followed by the one after it, a loop begins at its least point,
-- and loops rise by it.
pub record AreContours (In : ℕ → ℕ → Type 0) (loops : List (List Point)) : Type 0 where
  pub runs : (i k : ℕ) → IsPlace loops i k → IsRun In (turn_at (loop_at loops i) k) (turn_after (loop_at loops i) k)
  pub once : (p q : Point) → IsRun In p q → GoesOnce loops p q
  pub after : (i k : ℕ) → IsPlace loops i k → IsAfter In (turn_at (loop_at loops i) k) (turn_after (loop_at loops i) k) (turn_after (loop_at loops i) (next_place (loop_at loops i) k))
  pub some : (i : ℕ) → i < length loops → 0 < length (loop_at loops i)
  pub least : (i k : ℕ) → IsPlace loops i k → ComesBefore (turn_at (loop_at loops i) k) (turn_at (loop_at loops i) 0) → ⊥
  pub rising : (i j : ℕ) → i < j → j < length loops → ComesBefore (turn_at (loop_at loops i) 0) (turn_at (loop_at loops j) 0)
