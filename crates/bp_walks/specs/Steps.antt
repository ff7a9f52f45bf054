-- What one step places before a leaf.
use Rattle.std.specs.Prelude.{◌≡◌, ℕ}
use Rattle.bp_base.specs.declared.point.Axis.{Axis}
use Rattle.bp_base.specs.declared.path.Step.{Step}
use Rattle.bp_metric.specs.Chains.{PlacesBy}

-- p is the one leaf that the step places before this leaf
abbrev pub IsOnlyBefore : Axis → ℕ → Step → ℕ → Type 0
IsOnlyBefore axis leaf step p =
    PlacesBy axis p leaf step.pair step.choice × ((a : ℕ) → PlacesBy axis a leaf step.pair step.choice → a ≡ p)
