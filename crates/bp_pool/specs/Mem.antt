-- Deques in memory, as contracts see them.
use Rattle.std.specs.Prelude.{◌≡◌, ℕ, List, [], length}
use Rattle.bp_base.specs.declared.record.Task.{Task}
use Rattle.bp_pool.specs.Rest.{RestView}

-- the hand's number, what each deque holds, and for each how often it was seen empty
pub record MemView : Type 0 where
  pub number : ℕ
  pub deques : List (List Task)
  pub misses : List ℕ

abbrev pub IsSameMem : MemView → MemView → Type 0
IsSameMem old new = (new.number ≡ old.number) × (length new.deques ≡ length old.deques)

-- no try is lost
abbrev pub no_counts : MemView → List ℕ
no_counts m = []

-- nothing else is kept
abbrev pub no_rest : MemView → RestView
no_rest m = record { pool = record { deques = []; leaves = 0; root = record { path = []; bound = 0 } }; pushed = []; idle = 0 }
