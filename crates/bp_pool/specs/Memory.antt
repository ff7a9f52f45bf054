-- How deques in memory are kept.
use Rattle.std.specs.Prelude.{◌≤◌, map, length, Vec}
use Rattle.std.specs.declared.alloc.Global.{Global}
use Rattle.bp_base.specs.Limits.{most_hands}
use Rattle.bp_base.specs.declared.record.Task.{Task}
use Rattle.bp_pool.specs.declared.mem.MemTries.TheInside.{Inside}
use Rattle.bp_pool.specs.Mem.{MemView}
use Rattle.bp_pool.specs.Tries.{AreCounts}

abbrev pub mem_view : Inside → MemView
mem_view m = record { number = m.number; deques = map (λ (v : Vec Task Global). v.items) m.deques.items; misses = m.misses.items }

-- 1 to 16 deques, a count for each, and a number that names one.
pub record IsMem (m : Inside) : Type 0 where
  pub number : (1 ≤ m.number) × (m.number ≤ length m.deques.items)
  pub few : length m.deques.items ≤ most_hands
  pub counts : AreCounts m.misses.items (length m.deques.items)
