use Rattle.std.proofs.Common.{◌≡◌, ◌∙◌, true≢false, sym, arith}
use Rattle.bp_metric.specs.Opening.{side_of}
use Rattle.bp_revise.proofs.Starts.{takes_old, takes_opening}
use Rattle.bp_revise.proofs.starting.start.Goals as goal

pub returns-then-will_do : goal.returns-then-will_do
returns-then-will_do c =
    let G = c.args.metric.now.sheet in
    let opening = c.in_ok-opening.opening in
    let side : c.side_of-side.result ≡ side_of G c.args.old = c.side_of-side.ensures ∙ (λ i. side_of (c.sheet.ensures.sheet i) (c.as_slice.ensures i)) in
    let taken = takes_old c.args.metric.now.tree G c.args.old opening c.in_ok-opening.ensures.opening c.in_ok-opening.ensures.side c.as_slice-2.result.now c.side_of-side.result c.as_slice-2.ensures side (c.will_do.ensures.0 c.if-will_do.true) in
    record {
      start = taken.0;
      valid = taken.1;
      small = omega (arith, taken.2, c.in_ok-opening.ensures.small.side);
    }

pub returns : goal.returns
returns c =
    record {
      start = takes_opening c.args.metric.now.tree c.args.metric.now.sheet c.args.old c.in_ok-opening.opening c.in_ok-opening.ensures.opening c.in_ok-opening.ensures.side c.as_slice-2.result.now c.as_slice-2.ensures
          (λ will. true≢false (sym (c.will_do.ensures.1 will) ∙ c.if-will_do.false));
      valid = c.in_ok-opening.ensures.valid;
      small = c.in_ok-opening.ensures.small.side;
    }
