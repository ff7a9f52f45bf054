-- When a search for the least side ends.
use Rattle.std.specs.Prelude.{◌⊎◌, ℕ, ◌≤◌}

-- the bound has met the side, or as many lemmas were learned as the budget allows
abbrev pub HasEnded : (bound side learned budget : ℕ) → Type 0
HasEnded bound side learned budget = (side ≤ bound) ⊎ (budget ≤ learned)
