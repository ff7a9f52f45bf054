-- What a walk of some weight counts with on a strip, and the leaves of a claim.
use Rattle.std.specs.Prelude.{ℕ, nat_lt, List, Option, None, Some, if◌then◌else◌}
use Rattle.bp_base.specs.declared.chain.Claim.{Claim}
use Rattle.bp_base.specs.declared.chain.Claim.TheVariants.{Walk, Cycle}
use Rattle.bp_base.specs.declared.point.Axis.{Axis}
use Rattle.bp_base.specs.declared.point.Axis.TheVariants.{X, Y}

abbrev pub chain_of : Claim → List ℕ
chain_of (Walk axis chain) = chain
chain_of (Cycle axis chain) = chain

-- a walk on x counts 0, and one that is wider than the strip doesn't count
abbrev pub counted_on : Axis → ℕ → ℕ → Option ℕ
counted_on X width weight = if nat_lt width weight then None else Some 0
counted_on Y width weight = Some weight
