use Rattle.bp_lemmas.proofs.Law.{systems_law}
use Rattle.bp_lemmas.proofs.laws.law_of_systems.Goals as goal

pub returns : goal.returns
returns c = record { none = systems_law }
