use Rattle.std.proofs.Common.{◌∙◌, ◌++◌, List, ap, map, reverse}
use Rattle.std.proofs.lemmas.Result.{IfOk-weaker}
use Rattle.bp_base.specs.declared.record.Record.{Record}
use Rattle.bp_join.specs.declared.entry.Opened.{Opened}
use Rattle.bp_join.specs.Entries.{entry_node, opened_node}
use Rattle.bp_join.specs.Joined.{node_of}
use Rattle.bp_join.proofs.Joins.{stands}
use Rattle.bp_join.proofs.joining.join.Goals as goal

pub tree-requires : goal.tree-requires
tree-requires c =
    (stands c.args.metric.now.tree c.args.metric.now.sheet c.args.records.items c.args.left.items c.in_ok-opened.opened.items c.in_ok-entries.entries.items c.add_opened.new.entries.items c.put_in_order.new.entries.items c.add_records.new.entries.items c.put_in_order-2.new.entries.items c.in_ok-opened.ensures c.in_ok-entries.ensures.items (c.in_ok-add_opened.ensures c.args.metric.now.tree c.args.metric.now.sheet ∙ ap (λ (os : List Opened). map (entry_node c.args.metric.now.tree c.args.metric.now.sheet) c.in_ok-entries.entries.items ++ map opened_node os) c.deref.ensures.value) c.put_in_order.ensures.moved (c.in_ok-add_records.ensures c.args.metric.now.tree c.args.metric.now.sheet ∙ ap (λ (rs : List Record). map (entry_node c.args.metric.now.tree c.args.metric.now.sheet) c.put_in_order.new.entries.items ++ map (node_of c.args.metric.now.tree c.args.metric.now.sheet) (reverse rs)) c.deref-2.ensures.value) c.put_in_order-2.ensures.moved (c.in_ok-put_in_order-2.ensures.order c.args.metric.now.tree c.args.metric.now.sheet) c.requires.balanced c.requires.splits).begins

pub returns-clause-joined : goal.returns-clause-joined
returns-clause-joined c =
    let all = stands c.args.metric.now.tree c.args.metric.now.sheet c.args.records.items c.args.left.items c.in_ok-opened.opened.items c.in_ok-entries.entries.items c.add_opened.new.entries.items c.put_in_order.new.entries.items c.add_records.new.entries.items c.put_in_order-2.new.entries.items c.in_ok-opened.ensures c.in_ok-entries.ensures.items (c.in_ok-add_opened.ensures c.args.metric.now.tree c.args.metric.now.sheet ∙ ap (λ (os : List Opened). map (entry_node c.args.metric.now.tree c.args.metric.now.sheet) c.in_ok-entries.entries.items ++ map opened_node os) c.deref.ensures.value) c.put_in_order.ensures.moved (c.in_ok-add_records.ensures c.args.metric.now.tree c.args.metric.now.sheet ∙ ap (λ (rs : List Record). map (entry_node c.args.metric.now.tree c.args.metric.now.sheet) c.put_in_order.new.entries.items ++ map (node_of c.args.metric.now.tree c.args.metric.now.sheet) (reverse rs)) c.deref-2.ensures.value) c.put_in_order-2.ensures.moved (c.in_ok-put_in_order-2.ensures.order c.args.metric.now.tree c.args.metric.now.sheet) c.requires.balanced c.requires.splits in
    IfOk-weaker c.tree.result _ _ (λ r takes. all.joined _ r takes) c.tree.ensures.tree

pub returns-clause-fits : goal.returns-clause-fits
returns-clause-fits c =
    let all = stands c.args.metric.now.tree c.args.metric.now.sheet c.args.records.items c.args.left.items c.in_ok-opened.opened.items c.in_ok-entries.entries.items c.add_opened.new.entries.items c.put_in_order.new.entries.items c.add_records.new.entries.items c.put_in_order-2.new.entries.items c.in_ok-opened.ensures c.in_ok-entries.ensures.items (c.in_ok-add_opened.ensures c.args.metric.now.tree c.args.metric.now.sheet ∙ ap (λ (os : List Opened). map (entry_node c.args.metric.now.tree c.args.metric.now.sheet) c.in_ok-entries.entries.items ++ map opened_node os) c.deref.ensures.value) c.put_in_order.ensures.moved (c.in_ok-add_records.ensures c.args.metric.now.tree c.args.metric.now.sheet ∙ ap (λ (rs : List Record). map (entry_node c.args.metric.now.tree c.args.metric.now.sheet) c.put_in_order.new.entries.items ++ map (node_of c.args.metric.now.tree c.args.metric.now.sheet) (reverse rs)) c.deref-2.ensures.value) c.put_in_order-2.ensures.moved (c.in_ok-put_in_order-2.ensures.order c.args.metric.now.tree c.args.metric.now.sheet) c.requires.balanced c.requires.splits in
    IfOk-weaker c.tree.result _ _ (λ r takes. all.fits (λ u path p stated next. c.law_of_children.ensures.new path p (c.law_of_branches.ensures.picked path (c.law_of_branches.ensures.stated u path stated)) next) _ r takes) c.tree.ensures.tree
