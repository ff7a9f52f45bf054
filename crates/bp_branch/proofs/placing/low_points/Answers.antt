use Rattle.std.proofs.Common.{rules, get_or, ◌∙◌, sym, ap, arith, List, ◌∷◌, [], ◌++◌}
use Rattle.bp_base.specs.declared.point.Point.{Point}
use Rattle.bp_branch.proofs.Solved.{points_more}
use Rattle.bp_branch.proofs.placing.low_points.Goals as goal

pub loop-k-preserved : goal.loop-k-preserved
loop-k-preserved c =
    let inv = c.loop-k.invariant in
    record {
      room = search rules;
      count = search rules;
      same = inv.same;
      done =
          c.push_reserved.ensures.items
          ∙ ap (λ (P : List Point). P ++ (record { x = get_or c.as_slice-xs.result.now c.loop-k.k 0; y = get_or c.as_slice-ys.result.now c.loop-k.k 0 }) ∷ []) inv.done
          ∙ sym (points_more c.as_slice-xs.result.now c.as_slice-ys.result.now c.loop-k.k c.loop-k-test.true (omega (arith, c.loop-k-test.true, inv.same)));
    }
