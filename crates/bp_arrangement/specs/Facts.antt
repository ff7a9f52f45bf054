-- Facts of a placement on a finer grid: when one holds, and each one's denial.
use Rattle.std.specs.Prelude.{ℕ, ◌+◌, ◌*◌, ◌/◌, ◌%◌, ◌<◌, ◌≤◌, List}
use Rattle.bp_base.specs.declared.point.Axis.{Axis}
use Rattle.bp_base.specs.declared.point.Axis.TheVariants.{X, Y}
use Rattle.bp_base.specs.declared.point.Point.{Point}
use Rattle.bp_base.specs.Point.{point_at}
use Rattle.bp_base.specs.Tree.{TreeValue}
use Rattle.bp_metric.specs.Distance.{leaf_dist}
use Rattle.bp_arrangement.specs.declared.fact.Fact.{Fact}
use Rattle.bp_arrangement.specs.declared.fact.Fact.TheVariants.{Before, NotBefore, Least, Below}

-- where a leaf lies on an axis
abbrev pub coordinate : List Point → Axis → ℕ → ℕ
coordinate P X leaf = (point_at P leaf).x
coordinate P Y leaf = (point_at P leaf).y

-- Where the bound of a code lies on a grid q times finer: 2K at q * K, and 2K + 1 one step of that grid behind it.
unfoldable pub mark : ℕ → ℕ → ℕ
mark q code = q * (code / 2) + code % 2

-- the fact holds of a placement on a grid q times finer
abbrev pub Holds : TreeValue → ℕ → List Point → Fact → Type 0
Holds T q P (Before axis first second) = coordinate P axis first + q * leaf_dist T first second ≤ coordinate P axis second
Holds T q P (NotBefore axis first second) = coordinate P axis second < coordinate P axis first + q * leaf_dist T first second
Holds T q P (Least axis leaf code) = mark q code ≤ coordinate P axis leaf
Holds T q P (Below axis leaf code) = coordinate P axis leaf < mark q code

abbrev pub denial : Fact → Fact
denial (Before axis first second) = NotBefore axis first second
denial (NotBefore axis first second) = Before axis first second
denial (Least axis leaf code) = Below axis leaf code
denial (Below axis leaf code) = Least axis leaf code
