-- A search with one branch in hand, and what examining that branch makes of it.
use Rattle.std.specs.Prelude.{◌+◌, List, [], ◌∷◌, ◌++◌, reverse, Option, None, Some}
use Rattle.bp_base.specs.declared.point.Placement.{Placement}
use Rattle.bp_base.specs.declared.point.Sheet.{Sheet}
use Rattle.bp_base.specs.declared.record.Record.{Record}
use Rattle.bp_base.specs.declared.record.Settled.{Settled}
use Rattle.bp_base.specs.declared.record.Task.{Task}
use Rattle.bp_base.specs.Tree.{TreeValue}
use Rattle.bp_core.specs.Underway.{IsUnderway}

-- the search is on its way, with no more branches to examine than it has examined
abbrev pub IsOnItsWay : TreeValue → Sheet → Settled → Type 0
IsOnItsWay T G Z = IsUnderway T G Z.examined Z

-- the same, where t is in hand and is left too
abbrev pub IsTaken : TreeValue → Sheet → Settled → Task → Type 0
IsTaken T G Z t = IsOnItsWay T G (record Z { left = Z.left ++ t ∷ [] })

-- a placement of a solved branch is the best one
abbrev pub placed : Settled → Option Placement → Settled
placed Z None = Z
placed Z (Some p) = record Z { side = p.side; points = p.points }

-- the children of the branch in hand are left, the first of them last, and it has its record
abbrev pub recorded : Settled → Record → List Task → Settled
recorded Z r children = record {
  records = Z.records ++ r ∷ [];
  left = Z.left ++ reverse children;
  side = Z.side;
  points = Z.points;
  examined = Z.examined + 1;
}

-- what examining makes of the search
abbrev pub followed : Settled → Record → Option Placement → List Task → Settled
followed Z r placement children = recorded (placed Z placement) r children
