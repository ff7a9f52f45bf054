use Rattle.std.proofs.Common.{inr, refl}
use Rattle.bp_document.proofs.Sizes.{short_text}
use Rattle.bp_document.proofs.laws.law_of_sizes.Goals as goal

pub returns-clause-short : goal.returns-clause-short
returns-clause-short c = short_text

pub returns-clause-text : goal.returns-clause-text
returns-clause-text c = λ D is names. record { short = short_text D is names; document = is; text = inr refl }
