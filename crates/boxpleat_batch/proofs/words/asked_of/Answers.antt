use Rattle.std.proofs.Common.{codes, arith}
use Rattle.clap.specs.Matches.{found_of}
use Rattle.boxpleat_batch.specs.Words.{most_batch_budget, most_workers}
use Rattle.boxpleat_batch.proofs.Readings.{among_rows}
use Rattle.boxpleat_batch.proofs.words.asked_of.Goals as goal

pub number_of-requires : goal.number_of-requires
number_of-requires c = (most_workers, omega arith, c.in-Ok.ensures.workers)

pub number_of-requires-2 : goal.number_of-requires-2
number_of-requires-2 c = (most_batch_budget, omega arith, c.in-Ok.ensures.budget)

pub returns-clause-asked : goal.returns-clause-asked
returns-clause-asked c =
    let f = found_of c.in-Ok.matches in
    let workers = c.number_of.ensures.text in
    let budget = c.number_of-2.ensures.text in
    let few = c.number_of.ensures.within most_workers (omega arith) c.in-Ok.ensures.workers in
    let small = c.number_of-2.ensures.within most_batch_budget (omega arith) c.in-Ok.ensures.budget in
    record {
      takes = c.in-Ok.ensures.takes;
      workers = (workers.0, among_rows f (codes "workers") workers.0 _ workers.1 c.in-Ok.ensures.rows, workers.2);
      budget = (budget.0, among_rows f (codes "budget") budget.0 _ budget.1 c.in-Ok.ensures.rows, budget.2);
      some_workers = few.0;
      few_workers = few.1;
      some_budget = small.0;
      small_budget = small.1;
    }
