use Rattle.std.proofs.Common.{◌++◌, ◌∷◌, [], List, inl, sym, ◌∙◌, subst, arith}
use Rattle.bp_base.specs.declared.record.Settled.{Settled}
use Rattle.bp_base.specs.declared.record.Task.{Task}
use Rattle.bp_core.specs.Underway.{IsUnderway}
use Rattle.bp_stack.proofs.Ended.{covers, ended}
use Rattle.bp_stack.proofs.searching.search.Goals as goal

pub returns-in-None : goal.returns-in-None
returns-in-None c =
    let T = c.args.metric.now.tree in
    let G = c.args.metric.now.sheet in
    let Z = c.loop-search.search in
    let Y : Settled = record Z { left = c.pop.new.self } in
    let way : IsUnderway T G c.args.budget Y =
    subst (λ (L : List Task). IsUnderway T G c.args.budget (record Z { left = L })) (c.in-None.ensures.0 ∙ sym c.in-None.ensures.1) c.loop-search.invariant.underway in
    record { settled = ended T G c.args.budget Y way (inl c.in-None.ensures.1); underway = way }

pub work_on-requires-clause-taken : goal.work_on-requires-clause-taken
work_on-requires-clause-taken c =
    let T = c.args.metric.now.tree in
    let G = c.args.metric.now.sheet in
    let Z = c.loop-search.search in
    let Y : Settled = record Z { left = c.pop.new.self ++ c.in-Some.task ∷ [] } in
    let way : IsUnderway T G c.args.budget Y =
    subst (λ (L : List Task). IsUnderway T G c.args.budget (record Z { left = L })) c.in-Some.ensures c.loop-search.invariant.underway in
    covers T G c.args.budget Z.examined Y way (omega arith)
