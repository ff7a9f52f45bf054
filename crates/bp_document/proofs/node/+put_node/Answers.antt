use Rattle.std.proofs.Common.{◌≡◌, ◌+◌, ◌<◌, ap, ◌∙◌, arith, List, length, get_or}
use Rattle.std.specs.List.{flat_map}
use Rattle.bp_base.specs.declared.refutation.Refutation.{Refutation}
use Rattle.bp_text.proofs.Bytes.{appends_none}
use Rattle.bp_text.proofs.Puts.{puts_first, puts_last, puts_same, loop_more, loop_exit, loop_all, cause_exit}
use Rattle.bp_metric.specs.Nodes.{node_count_of}
use Rattle.bp_document.specs.Ranges.{depth_of}
use Rattle.bp_document.specs.Text.{node_lines}
use Rattle.bp_document.proofs.Nodes.{lines_at, lines-split, lines-closed, lines-open, lines_of, lines_item, child_depth, child_smaller}
use Rattle.bp_document.proofs.node.+put_node.Goals as goal

pub returns-in_err-put_split-in-Split-clause-text :
    goal.returns-in_err-put_split-in-Split-clause-text
returns-in_err-put_split-in-Split-clause-text g t c =
    puts_first (flat_map (lines_at (c.args.depth + 1)) c.in-Split.children) _ _ _ _ _ _ c.from_residual.ensures.0 c.in_err-put_split-in-Split.ensures.text (ap (λ (r : Refutation). node_lines r c.args.depth) c.in-Split.is ∙ lines-split c.in-Split.pair c.in-Split.children c.args.depth)

pub loop-child-init : goal.loop-child-init
loop-child-init g t c = (appends_none _, omega arith)

pub put_node-requires : goal.put_node-requires
put_node-requires g t c κs within =
    let child = c.child-item.result in
    let children = c.in-Split.children in
    let k = c.loop-child.child-index in
    let less : k < length children = omega (arith, c.loop-child-test.true, ap length c.as_slice-child-items.ensures) in
    let is : child ≡ get_or children k child = c.child-item.is ∙ ap (λ (l : List Refutation). get_or l k child) c.as_slice-child-items.ensures in
    let fewer = child_smaller c.in-Split.pair children k child child less is in
    let deeper = child_depth c.in-Split.pair children k child child less is in (
      omega (arith, fewer, ap node_count_of c.in-Split.is),
      (within, omega (arith, deeper, c.requires, ap depth_of c.in-Split.is)),
    )

pub returns-in_err-put_node-in-Split-clause-text :
    goal.returns-in_err-put_node-in-Split-clause-text
returns-in_err-put_node-in-Split-clause-text g t c =
    let children = c.as_slice-child-items.result.now in
    let whole = lines_of c.args.node.now c.in-Split.pair c.in-Split.children children c.args.depth c.in-Split.is c.as_slice-child-items.ensures in
    puts_last _ _ _ _ _ _ _ c.in_ok-put_split-in-Split.ensures.text.all
    (loop_exit (lines_at (c.args.depth + 1)) _ _ _ _ _ children c.loop-child.child-index c.child-item.result c.loop-child-test.true c.from_residual-in_err-put_node-in-Split.ensures.0 c.loop-child.invariant.0 (lines_item _ _ _ _ _ _ c.child-item.is c.in_err-put_node-in-Split.ensures.text)) whole

pub returns-in_err-put_node-in-Split-clause-cause :
    goal.returns-in_err-put_node-in-Split-clause-cause
returns-in_err-put_node-in-Split-clause-cause g t c =
    cause_exit _ _ _ _ _ c.from_residual-in_err-put_node-in-Split.ensures.0 (omega (arith, c.in_ok-put_split-in-Split.ensures.cause.later, c.loop-child.invariant.1)) c.in_err-put_node-in-Split.ensures.cause

pub loop-child-preserved : goal.loop-child-preserved
loop-child-preserved g t c = (
  loop_more (lines_at (c.args.depth + 1)) _ _ _ c.in_ok-put_node-in-Split.field-0 c.as_slice-child-items.result.now c.loop-child.child-index c.child-item.result c.loop-child-test.true c.loop-child.invariant.0 (lines_item _ _ _ _ _ _ c.child-item.is c.in_ok-put_node-in-Split.ensures.text),
  omega (arith, c.in_ok-put_node-in-Split.ensures.cause.later, c.loop-child.invariant.1),
)

pub returns-after-loop-child-clause-text : goal.returns-after-loop-child-clause-text
returns-after-loop-child-clause-text g t c =
    let children = c.as_slice-child-items.result.now in
    let whole = lines_of c.args.node.now c.in-Split.pair c.in-Split.children children c.args.depth c.in-Split.is c.as_slice-child-items.ensures in
    puts_last _ _ _ _ _ _ _ c.in_ok-put_split-in-Split.ensures.text.all
    (loop_all (lines_at (c.args.depth + 1)) _ _ _ children c.loop-child.child-index c.loop-child-test.false c.loop-child.invariant.0) whole

pub returns-after-loop-child-clause-cause : goal.returns-after-loop-child-clause-cause
returns-after-loop-child-clause-cause g t c = record { later = omega (arith, c.in_ok-put_split-in-Split.ensures.cause.later, c.loop-child.invariant.1); failed = tt }

pub returns-in-Closed-clause-text : goal.returns-in-Closed-clause-text
returns-in-Closed-clause-text g t c = puts_same _ _ _ _ _ c.put_closed.ensures.text (ap (λ (r : Refutation). node_lines r c.args.depth) c.in-Closed.is ∙ lines-closed c.in-Closed.claim c.args.depth)

pub returns-in-Open-clause-text : goal.returns-in-Open-clause-text
returns-in-Open-clause-text g t c = puts_same _ _ _ _ _ c.put_open.ensures.text (ap (λ (r : Refutation). node_lines r c.args.depth) c.in-Open.is ∙ lines-open c.in-Open.claim c.args.depth)
