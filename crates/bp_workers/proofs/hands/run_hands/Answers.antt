use Rattle.std.proofs.Common.{◌≡◌, ℕ, List, ◌++◌, length, take, drop, sym, ap, ◌∙◌, subst}
use Rattle.std.proofs.Math.Seq.{take-append_seam}
use Rattle.bp_core.proofs.Small.{opening_small}
use Rattle.bp_workers.specs.Teams.{AreHired, HaveWorked}
use Rattle.bp_workers.specs.declared.worker.Worker.{Worker}
use Rattle.bp_workers.proofs.hands.run_hands.Goals as goal

-- a slice of as many elements was written over a vector
written : (n : ℕ) (new old : List Worker) → n ≡ length old → length new ≡ length old → take n (new ++ drop (length new) old) ≡ new
written n new old long same =
    ap (λ (m : ℕ). take m (new ++ drop (length new) old)) (long ∙ sym same) ∙ take-append_seam new (drop (length new) old)

pub hire-requires-clause-side : goal.hire-requires-clause-side
hire-requires-clause-side g c =
    opening_small c.args.metric.now.tree c.leaves-leaves.ensures.metric.tree c.args.metric.now.sheet c.args.opening.side (record { opening = c.args.opening.points; is_opening = c.requires.opening; is_side = c.requires.side })

pub settle-requires-clause-team : goal.settle-requires-clause-team
settle-requires-clause-team g c =
    let T = c.args.metric.now.tree in
    let G = c.args.metric.now.sheet in
    let board = c.in_ok-board.board in
    let side = c.args.opening.side in
    let workers = c.in_ok-board.workers in
    let new = c.all_work.new.workers in
    let same : length new ≡ length workers.items = c.all_work.auto.workers ∙ ap (λ (l : List Worker). length l) c.as_mut_slice.ensures.value in
    let worked : HaveWorked T G board side new = c.all_work.ensures side (subst (λ (l : List Worker). AreHired T G board side l) (sym c.as_mut_slice.ensures.value) c.in_ok-board.ensures.workers) in
    c.in_ok-team.ensures side (subst (λ (l : List Worker). HaveWorked T G board side l) (sym (written workers.len new workers.items workers.ok.0 same)) worked)
