use Rattle.std.proofs.Common.{subst}
use Rattle.bp_pool.specs.Hands.{HandView}
use Rattle.bp_pool.specs.Rows.{IsParts}
use Rattle.bp_pool.proofs.Parts.{parts_of}
use Rattle.bp_pool.proofs.hand.Hand.into_parts.Goals as goal

pub returns : goal.returns
returns c = subst (λ (v : HandView). IsParts v c.self.inside.own c.self.inside.thefts.items) c.self.view_is (parts_of c.self.inside c.self.invariant)
