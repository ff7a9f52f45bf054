-- A take that goes from deque to deque: what is known while nothing was found.
use Rattle.std.specs.Prelude.{◌≡◌, ℕ, ◌-◌, ◌<◌, ◌≤◌, List, Option, None, Some, Bool, false}
use Rattle.bp_base.specs.declared.record.Task.{Task}
use Rattle.bp_pool.specs.Tries.{IsBare, place}

-- nothing was found so far
abbrev pub Idle : Option (List (List Task)) → ℕ → ℕ → ℕ → Bool → Option (List (List Task)) → Type 0
Idle None number hands k lost new = new ≡ None
Idle (Some ds) number hands k lost new = (new ≡ Some ds) × IsBare ds (number - 1) × ((j : ℕ) → 1 ≤ j → j < k → IsBare ds (place number hands j)) × (lost ≡ false)
