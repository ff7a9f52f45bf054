-- Where it is kept what is known of an order: at its name. Of a mirror's orders, which have several names, at the first.
use Rattle.std.specs.Prelude.{ℕ, ◌+◌, ◌*◌, ◌/◌, ◌%◌, zero, suc, Bool, if◌then◌else◌}
use Rattle.bp_base.specs.declared.point.Axis.{Axis}
use Rattle.bp_base.specs.Tree.{TreeValue}
use Rattle.bp_lemmas.specs.Systems.{Order, never, is_order}
use Rattle.bp_lemmas.specs.Trees.{number, axis_of, leaf_of, are_two_leaves}
use Rattle.bp_mirror.specs.Systems.{mirror_order}
use Rattle.bp_replay.specs.declared.cell.Cell.{Cell}
use Rattle.bp_replay.specs.Tasks.{Ties, cornered, mirrored, Task}

-- one place for each coordinate
abbrev pub places : ℕ
places = 66

abbrev pub rows : ℕ
rows = 33

-- names of orders: an axis and two leaves
abbrev pub names : ℕ
names = 2178

abbrev pub name_number : Axis → ℕ → ℕ → ℕ
name_number axis i j = number axis i * rows + j

-- the order by the name of this number, where the leaves are two
unfoldable pub order_named : TreeValue → (Axis → ℕ → ℕ → Order) → ℕ → Order
order_named T order n =
    if are_two_leaves T (leaf_of (n / rows)) (n % rows) then order (axis_of (n / rows)) (leaf_of (n / rows)) (n % rows) else never

-- the first number from n on, among so many, of which it is so, and else the one behind them
abbrev pub first_of : (ℕ → Bool) → ℕ → ℕ → ℕ
first_of f zero n = n
first_of f (suc more) n = if f n then n else first_of f more (suc n)

-- the first name of the order
unfoldable pub first_name : TreeValue → (Axis → ℕ → ℕ → Order) → ℕ → ℕ
first_name T order n = first_of (λ (m : ℕ). is_order (order_named T order m) (order_named T order n)) n 0

abbrev pub cell_at : ℕ → Cell
cell_at n = record { row = n / rows; column = n % rows }

abbrev pub cell_by : Ties → TreeValue → Axis → ℕ → ℕ → Cell
cell_by (cornered corner) T axis i j = record { row = number axis i; column = j }
cell_by (mirrored kind mirror) T axis i j = cell_at (first_name T (mirror_order T kind mirror) (name_number axis i j))

abbrev pub cell_of : Task → Axis → ℕ → ℕ → Cell
cell_of t axis i j = cell_by t.ties t.tree axis i j
