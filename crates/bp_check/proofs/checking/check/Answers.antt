use Rattle.std.proofs.Common.{sym, ap, subst}
use Rattle.bp_metric.specs.Metric.{MetricValue}
use Rattle.bp_metric.specs.Valid.{NoneBelow}
use Rattle.bp_base.specs.Tree.{TreeValue}
use Rattle.bp_check.specs.Verdicts.{IsVerdictOf}
use Rattle.bp_check.specs.Written.{IsWanted}
use Rattle.bp_check.proofs.Reasoning.{if_ok, yes_is, no_is}
use Rattle.bp_check.proofs.checking.check.Goals as goal

pub returns-clause-yes : goal.returns-clause-yes
returns-clause-yes c =
    let D = c.args.document.now in
    let tree = ap (λ (M : MetricValue). M.tree) c.in_ok-metric.ensures.value in
    if_ok c.judge.result (λ v is. yes_is c.args.tree.now D v (subst (λ (T : TreeValue). IsVerdictOf T D v) tree is)) c.judge.ensures

pub returns-clause-no : goal.returns-clause-no
returns-clause-no c =
    let D = c.args.document.now in
    let tree = ap (λ (M : MetricValue). M.tree) c.in_ok-metric.ensures.value in
    if_ok c.judge.result (λ v is. no_is c.args.tree.now D v (subst (λ (T : TreeValue). IsVerdictOf T D v) tree is)) c.judge.ensures

pub returns-clause-none_below : goal.returns-clause-none_below
returns-clause-none_below c =
    let D = c.args.document.now in
    let tree = ap (λ (M : MetricValue). M.tree) c.in_ok-metric.ensures.value in
    let sheet = ap (λ (M : MetricValue). M.sheet) c.in_ok-metric.ensures.value in
    if_ok c.judge.result (λ v is yes. subst (λ (T : TreeValue). NoneBelow T D.sheet D.bound) tree
    (c.law_of_checks.ensures.none_below D (sym sheet) ((yes_is c.in_ok-metric.metric.tree D v is).0 yes))) c.judge.ensures

pub returns-clause-wanted : goal.returns-clause-wanted
returns-clause-wanted c =
    let D = c.args.document.now in
    let tree = ap (λ (M : MetricValue). M.tree) c.in_ok-metric.ensures.value in
    let sheet = ap (λ (M : MetricValue). M.sheet) c.in_ok-metric.ensures.value in
    if_ok c.judge.result (λ v is yes same. subst (λ (T : TreeValue). IsWanted T D.sheet D.side) tree
    (c.law_of_checks.ensures.wanted D (sym sheet) ((yes_is c.in_ok-metric.metric.tree D v is).0 yes) same)) c.judge.ensures
