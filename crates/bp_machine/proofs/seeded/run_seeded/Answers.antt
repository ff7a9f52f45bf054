use Rattle.bp_base.specs.declared.schedule.SeedSchedule.{SeedSchedule}
use Rattle.bp_base.specs.Turns.{SeedTurns}
use Rattle.bp_machine.proofs.Told.{scheduled_told}
use Rattle.bp_machine.proofs.seeded.run_seeded.Goals as goal

pub returns-clause-scheduled : goal.returns-clause-scheduled
returns-clause-scheduled c = record {
  opening = c.args.opening;
  is_opening = c.requires.opening;
  is_side = c.requires.side;
  floor = c.args.floor;
  is_floor = c.requires.floor;
  after = c.run_schedule.new.schedule.state;
  scheduled =
      scheduled_told (λ (q : SeedSchedule). q.state) _ SeedTurns (λ q after live k turn. turn) c.args.metric.now c.args.opening c.args.floor c.args.hands c.args.budget _ c.run_schedule.new.schedule c.in_ok-run_schedule.field-0 c.in_ok-run_schedule.ensures.scheduled;
}
