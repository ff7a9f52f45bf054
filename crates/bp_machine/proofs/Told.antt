-- The same run, told by another state of its schedule.
use Rattle.std.proofs.Common.{ℕ, List, [], ◌∷◌, ap}
use Rattle.bp_base.specs.declared.point.Placement.{Placement}
use Rattle.bp_base.specs.declared.record.Settled.{Settled}
use Rattle.bp_metric.specs.Metric.{MetricValue}
use Rattle.bp_machine.specs.Runs.{IsScheduled, Runs}
use Rattle.bp_machine.specs.State.{StateValue}

module _ {Q P : Type 0} (f : Q → P) (turns : Q → ℕ → ℕ → Q → Type 0) (told : P → ℕ → ℕ → P → Type 0) (tells : (q after : Q) (live k : ℕ) → turns q live k after → told (f q) live k (f after)) where
  runs_told : (answers : List ℕ) (S to : StateValue) (q after : Q) → Runs turns answers S q to after → Runs told answers S (f q) to (f after)
  runs_told [] S to q after (same, still) = (same, ap f still)
  runs_told (k ∷ answers) S to q after (S', q', (awake, wakes, some, turn, move), rest) = (S', f q', (awake, wakes, some, tells q q' _ k turn, move), runs_told answers S' to q' after rest)

  pub scheduled_told : (M : MetricValue) (opening : Placement) (floor hands budget : ℕ) (q after : Q) (Z : Settled) → IsScheduled turns M opening floor hands budget q after Z → IsScheduled told M opening floor hands budget (f q) (f after) Z
  scheduled_told M opening floor hands budget q after Z is = record {
    answers = is.answers;
    end = is.end;
    run = runs_told is.answers _ is.end q after is.run;
    all_left = is.all_left;
    stays_so = is.stays_so;
    outcome = is.outcome;
  }
