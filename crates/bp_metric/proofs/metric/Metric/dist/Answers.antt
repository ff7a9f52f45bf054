use Rattle.std.proofs.Common.{ap}
use Rattle.bp_metric.specs.Metric.{MetricValue}
use Rattle.bp_metric.proofs.Tables.{read_place, read_dist, read_small}
use Rattle.bp_metric.proofs.metric.Metric.dist.Goals as goal

pub index-requires : goal.index-requires
index-requires c =
    let m = c.self.inside in
    read_place m.tree m.leaves.items m.table.items c.args.self.now.tree c.args.i c.args.j c.len.result m.leaves.len c.self.invariant.0 c.self.invariant.1 (ap (λ (v : MetricValue). v.tree) c.self.view_is) c.requires.i c.requires.j c.len.ensures m.leaves.ok.0 m.table.len m.table.ok.0

pub returns-clause-value : goal.returns-clause-value
returns-clause-value c =
    let m = c.self.inside in
    read_dist m.tree m.leaves.items m.table.items c.args.self.now.tree c.args.i c.args.j c.len.result m.leaves.len c.self.invariant.0 c.self.invariant.1 (ap (λ (v : MetricValue). v.tree) c.self.view_is) c.requires.i c.requires.j c.len.ensures m.leaves.ok.0 c.index.result.now c.index.ensures

pub returns-clause-small : goal.returns-clause-small
returns-clause-small c =
    let m = c.self.inside in
    read_small m.tree m.leaves.items m.table.items c.args.self.now.tree c.args.i c.args.j c.len.result m.leaves.len c.self.invariant.0 c.self.invariant.1 (ap (λ (v : MetricValue). v.tree) c.self.view_is) c.requires.i c.requires.j c.len.ensures m.leaves.ok.0 c.index.result.now c.index.ensures c.parents-tree.ensures.tree
