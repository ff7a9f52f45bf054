use Rattle.bp_regions.specs.Cells.{Reach}
use Rattle.bp_contour.proofs.After.{after_back, one_after, some_after}
use Rattle.bp_contour.proofs.Known.{known_reach}
use Rattle.bp_contour.proofs.laws.law_of_after.Goals as goal

pub returns : goal.returns
returns c =
    let T = c.args.metric.now.tree in
    record {
      some = λ S P e. some_after (Reach T S P e) (known_reach T S P e) S S (λ x y r. r.cell);
      one = λ S P e. one_after (Reach T S P e);
      back = λ S P e. after_back (Reach T S P e) (known_reach T S P e) S S (λ x y r. r.cell);
    }
