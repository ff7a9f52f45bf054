use Rattle.std.proofs.Common.{ℕ, ◌<◌, get_or}
use Rattle.bp_catalogue.specs.declared.entry.Entry.{Entry}
use Rattle.bp_catalogue.specs.Entries.{IsOf}
use Rattle.bp_catalogue.proofs.catalogue.place_of.Given as goal

abbrev pub invariant-loop-k : goal.invariant-loop-k
invariant-loop-k l = (j : ℕ) (d : Entry) → j < l.k → IsOf l.tree l.budget (get_or l.entries j d) → ⊥
