use Rattle.std.proofs.Common.{arith}
use Rattle.bp_revise.specs.Course.{IsEnded, IsWrittenFrom}
use Rattle.bp_revise.proofs.Documents.{can_be_told, is_written}
use Rattle.bp_revise.proofs.Revisions.{below_there, can_keep, can_search, ends, few_nodes, kept_there, points_each, revision, wanted_there}
use Rattle.bp_revise.proofs.revising.revise_on.Goals as goal

pub start-requires : goal.start-requires
start-requires c = points_each c.args.metric.now c.requires.metric c.args._tree.now c.args.old c.requires.value c.requires.checks c.requires.room c.requires.shape

pub keep-requires : goal.keep-requires
keep-requires c = can_keep c.args.metric.now c.requires.metric c.args._tree.now c.args.old c.requires.value c.requires.checks c.requires.room c.requires.shape

pub begin-requires-clause-fits : goal.begin-requires-clause-fits
begin-requires-clause-fits c =
    kept_there c.args.metric.now c.requires.metric c.args._tree.now c.args.old c.requires.value c.requires.checks c.requires.room c.requires.shape c.in_ok-start.start c.in_ok-kept.kept c.in_ok-kept.ensures

pub overflow_sub-room : goal.overflow_sub-room
overflow_sub-room c =
    omega (arith, c.len.ensures, c.len-2.ensures, few_nodes c.args.metric.now c.requires.metric c.args._tree.now c.args.old c.requires.value c.requires.checks c.requires.room c.requires.shape c.in_ok-start.start c.in_ok-kept.kept c.in_ok-kept.ensures c.in_ok-start.ensures.small c.in_ok-begun.begun c.in_ok-begun.ensures.begun c.in_ok-begun.ensures.course c.in_ok-begun.ensures.none)

pub search-requires : goal.search-requires
search-requires c = record {
  course = can_search c.args.metric.now c.requires.metric c.args._tree.now c.args.old c.requires.value c.requires.checks c.requires.room c.requires.shape c.in_ok-start.start c.in_ok-kept.kept c.in_ok-kept.ensures c.in_ok-start.ensures.small c.in_ok-begun.begun c.in_ok-begun.ensures.begun c.in_ok-begun.ensures.course c.in_ok-begun.ensures.none c.min.result;
}

pub document_of-requires-clause-floor : goal.document_of-requires-clause-floor
document_of-requires-clause-floor c = record { floor = c.in_ok-floor.ensures.floor; holds = c.in_ok-floor.ensures.holds; small = c.in_ok-floor.ensures.small }

pub document_of-requires-clause-settled : goal.document_of-requires-clause-settled
document_of-requires-clause-settled c =
    let e = ends c.args.metric.now c.requires.metric c.args._tree.now c.args.old c.requires.value c.requires.checks c.requires.room c.requires.shape c.in_ok-start.start c.in_ok-kept.kept c.in_ok-kept.ensures c.in_ok-start.ensures.small c.in_ok-begun.begun c.in_ok-begun.ensures.begun c.in_ok-begun.ensures.course c.in_ok-begun.ensures.none c.args.budget c.in_ok-floor.floor.side c.min.result (omega (arith, c.min.ensures, c.len.ensures, c.len-2.ensures)) c.in_ok-settled.settled c.in_ok-settled.ensures.course c.in_ok-settled.ensures.end in
    can_be_told c.args.metric.now.tree c.requires.metric.tree c.args.metric.now.sheet c.in_ok-floor.floor c.in_ok-settled.settled c.args.budget c.in_ok-start.start c.in_ok-kept.kept e

pub returns : goal.returns
returns c =
    let M = c.args.metric.now in
    let m = c.requires.metric in
    let T = c.args._tree.now in
    let old = c.args.old in
    let is = c.requires.value in
    let start = c.in_ok-start.start in
    let kept = c.in_ok-kept.kept in
    let side = c.in_ok-floor.floor.side in
    let settled = c.in_ok-settled.settled in
    let ended : IsEnded M.tree M.sheet c.args.budget side start kept settled =
    ends M m T old is c.requires.checks c.requires.room c.requires.shape start kept c.in_ok-kept.ensures c.in_ok-start.ensures.small c.in_ok-begun.begun c.in_ok-begun.ensures.begun c.in_ok-begun.ensures.course c.in_ok-begun.ensures.none c.args.budget side c.min.result (omega (arith, c.min.ensures, c.len.ensures, c.len-2.ensures)) settled c.in_ok-settled.ensures.course c.in_ok-settled.ensures.end in
    let D = c.in_ok-document.document in
    let w : IsWrittenFrom M.tree M.sheet c.args.budget start kept D =
    is_written M.tree m.tree M.sheet c.in_ok-floor.floor settled c.args.budget start kept ended (record { floor = c.in_ok-floor.ensures.floor; holds = c.in_ok-floor.ensures.holds; small = c.in_ok-floor.ensures.small }) D c.in_ok-document.ensures.told c.in_ok-document.ensures.checks c.in_ok-document.ensures.ranges in
    record {
      revised = revision M m T old is c.requires.checks c.requires.room c.requires.shape start kept c.in_ok-kept.ensures c.args.budget D c.in_ok-start.ensures.start w;
      ranges = w.ranges;
      short = c.law_of_checked_texts.ensures.short M.tree D w.ranges w.checks;
      none_below = below_there M m T old is c.requires.checks c.requires.room c.requires.shape D w.sheet (c.law_of_checks.ensures.none_below D w.sheet w.checks);
      bound = c.law_of_checks.ensures.bound D w.sheet w.checks;
      smallest = λ meets. wanted_there M m T old is c.requires.checks c.requires.room c.requires.shape D w.sheet (c.law_of_checks.ensures.wanted D w.sheet w.checks meets);
    }
