-- Turns of the schedules in memory: which live hand, counted from 0, moves next, and what stands after it.
use Rattle.std.specs.Prelude.{◌≡◌, ℕ, ◌%◌, List, [], ◌∷◌}
use Rattle.bp_base.specs.Generator.{drawn, next_state}

-- the next of the numbers that are left modulo live, or 0 where none is left
abbrev pub ListTurns : List ℕ → ℕ → ℕ → List ℕ → Type 0
ListTurns [] live answer after = (answer ≡ 0) × (after ≡ [])
ListTurns (number ∷ left) live answer after = (answer ≡ number % live) × (after ≡ left)

-- the next draw of the generator modulo live
abbrev pub SeedTurns : ℕ → ℕ → ℕ → ℕ → Type 0
SeedTurns state live answer after = (answer ≡ drawn state % live) × (after ≡ next_state state)
