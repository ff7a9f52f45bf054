-- Lines of bytes, which end with LF, 10, or with the bytes.
use Rattle.std.specs.Prelude.{◌≡◌, ◌≢◌, ◌↔◌, ℕ, ◌+◌, ◌<◌, ◌≤◌, List, length, slice_index, IsTrue, if◌then◌else◌}
use Rattle.bp_base.specs.declared.point.Line.{Line}

-- the line of the bytes that begins at this place
pub record IsLineAt (bytes : List ℕ) (at : ℕ) (l : Line) : Type 0 where
  pub begins : at < length bytes
  pub from : l.from ≡ at
  pub after : at ≤ l.to
  pub within : l.to ≤ length bytes
  pub free : (k : ℕ) → at ≤ k → k < l.to → slice_index bytes k ≢ 10
  pub ends : l.to < length bytes → slice_index bytes l.to ≡ 10
  pub ended : IsTrue l.ended ↔ (l.to < length bytes)
  pub next : l.next ≡ (if l.ended then l.to + 1 else length bytes)
