use Rattle.std.proofs.Common.{List, inl, sym, ◌∙◌, subst, arith}
use Rattle.bp_base.specs.declared.record.Task.{Task}
use Rattle.bp_revise.specs.Course.{IsOnCourse}
use Rattle.bp_revise.proofs.searching.work_off.Goals as goal

pub returns-in-None : goal.returns-in-None
returns-in-None c =
    let T = c.args.metric.now.tree in
    let G = c.args.metric.now.sheet in
    let Z = c.loop-search.search in
    record {
      course = λ start base roots before.
          subst (λ (L : List Task). IsOnCourse T G start base roots (record Z { left = L })) (c.in-None.ensures.0 ∙ sym c.in-None.ensures.1) (c.loop-search.invariant.course start base roots before);
      end = (c.loop-search.invariant.within, inl c.in-None.ensures.1);
    }

pub work_on-requires-clause-course : goal.work_on-requires-clause-course
work_on-requires-clause-course c =
    let T = c.args.metric.now.tree in
    let G = c.args.metric.now.sheet in
    let Z = c.loop-search.search in
    let h = c.requires.course in
    (h.0, h.1, h.2, h.3, subst (λ (L : List Task). IsOnCourse T G h.0 h.1 h.2 (record Z { left = L })) c.in-Some.ensures (c.loop-search.invariant.course h.0 h.1 h.2 h.5))

pub loop-search-preserved : goal.loop-search-preserved
loop-search-preserved c =
    let T = c.args.metric.now.tree in
    let G = c.args.metric.now.sheet in
    let Z = c.loop-search.search in
    let e = c.in_ok-work_on-in-Some.ensures in
    record {
      examiner = c.work_on.ensures.metric ∙ c.loop-search.invariant.examiner;
      empty = e.empty;
      within = omega (arith, e.ticket, c.if-search-budget.true);
      course = λ start base roots before.
          e.course start base roots (subst (λ (L : List Task). IsOnCourse T G start base roots (record Z { left = L })) c.in-Some.ensures (c.loop-search.invariant.course start base roots before));
    }
