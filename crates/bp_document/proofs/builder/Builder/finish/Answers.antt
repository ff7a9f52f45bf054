use Rattle.bp_document.proofs.Builders.{finishes}
use Rattle.bp_document.proofs.builder.Builder.finish.Goals as goal

pub returns : goal.returns
returns c = finishes c.args.self c.close_to.new.self c.in_ok-close_to.ensures
