-- What a metric is seen as: a tree, and the sheet that its tips are placed on.
use Rattle.std.specs.Prelude.{◌≤◌}
use Rattle.bp_base.specs.declared.point.Sheet.{Sheet}
use Rattle.bp_base.specs.declared.point.Sheet.TheVariants.{Square, Strip}
use Rattle.bp_base.specs.Limits.{most_width}
use Rattle.bp_base.specs.Tree.{TreeValue, IsTree}

pub record MetricValue : Type 0 where
  pub tree : TreeValue
  pub sheet : Sheet

-- a strip's width is at most 999,999
abbrev pub IsSheet : Sheet → Type 0
IsSheet Square = Unit {0}
IsSheet (Strip width) = width ≤ most_width

-- what each metric keeps
pub record IsMetric (M : MetricValue) : Type 0 where
  pub tree : IsTree M.tree
  pub sheet : IsSheet M.sheet
