use Rattle.std.proofs.Common.{◌≡◌, ◌⊎◌, inl, ℕ, List, subst}
use Rattle.bp_base.specs.Causes.{Appends, AppendsFront}
use Rattle.bp_engine.specs.declared.status.Status.TheVariants.{Done, WriteFault}
use Rattle.bp_engine.proofs.trying.try_made.Goals as goal

pub returns-in-Ok-clause-tries : goal.returns-in-Ok-clause-tries
returns-in-Ok-clause-tries g c =
    let held = g.K.Sink.held c.args.out.now in
    let now = g.K.Sink.held c.write_trial.new.out in
    inl (
      c.in-Ok.text.items,
      c.in-Ok.ensures,
      subst (λ (t : List ℕ). ((c.write_trial.result ≡ Done) × Appends held now t) ⊎ ((c.write_trial.result ≡ WriteFault) × AppendsFront held now t)) c.deref.ensures.value c.write_trial.ensures.text,
    )

pub returns-in-Ok-clause-unwritten : goal.returns-in-Ok-clause-unwritten
returns-in-Ok-clause-unwritten g c = λ unwritten. absurd (unwritten c.write_trial.ensures.ends)
