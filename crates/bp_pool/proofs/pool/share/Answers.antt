use Rattle.std.proofs.Common.{◌≡◌, ◌+◌, drop, take, sym, ap, ◌∙◌, arith}
use Rattle.crossbeam_deque.specs.Handles.{worker_view}
use Rattle.bp_pool.specs.Shares.{untouched, rest_of}
use Rattle.bp_pool.specs.Kept.{each_of}
use Rattle.bp_pool.proofs.Opens.{cut_rest, cut_one}
use Rattle.bp_pool.proofs.pool.share.Goals as goal

pub returns-then-hands-gt1-clause-rights : goal.returns-then-hands-gt1-clause-rights
returns-then-hands-gt1-clause-rights c = λ n is more.
    let one : each_of c.args.hands ≡ 1 = omega (arith, c.if-hands-gt1.true) in
    let was : (worker_view c.args.owner.now).deeds ≡ untouched (n + 1) = is ∙ ap (λ e. untouched (n + e)) one in
    (ap (λ v. v.deeds) c.cut.ensures.rights.0 ∙ ap rest_of was ∙ cut_rest n more, ap (λ v. v.deeds) c.cut.ensures.rights.1 ∙ ap (λ ds. take 1 (drop 1 ds)) was ∙ cut_one n more ∙ ap untouched (sym one))
