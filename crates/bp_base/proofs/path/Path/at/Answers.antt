use Rattle.bp_base.proofs.Steps.{small_at}
use Rattle.bp_base.specs.declared.path.Packed.{Packed}
use Rattle.bp_base.proofs.path.Path.at.Goals as goal

pub returns-clause-small : goal.returns-clause-small
returns-clause-small c =
    small_at (λ (s : Packed). record { pair = record { i = s.i; j = s.j }; choice = s.choice }) c.self.inside.steps.items c.deref.result.now c.args.self.now c.args.k _ c.unpacked.result c.self.invariant.pairs c.self.view_is c.requires c.deref.ensures c.unpacked.ensures
