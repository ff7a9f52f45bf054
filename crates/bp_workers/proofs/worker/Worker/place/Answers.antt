use Rattle.std.proofs.Common.{◌≡◌, ℕ, ◌+◌, List, [], ◌∷◌, ◌++◌, length, All, sym, ap, ◌∙◌, subst, arith, append-nil}
use Rattle.std.proofs.lemmas.List.{length_push}
use Rattle.bp_base.specs.declared.record.Task.{Task}
use Rattle.bp_pool.specs.Shares.{IsTaskOf}
use Rattle.bp_workers.specs.Agrees.{Keeps}
use Rattle.bp_workers.proofs.Placing.{one_back, one_pushed}
use Rattle.bp_workers.proofs.Steps.{all_front}
use Rattle.bp_workers.proofs.worker.Worker.place.Goals as goal

-- the rest is of different pairs too
rest_good : (n m : ℕ) (cs children : List Task) (c : Task) → n ≡ m → children ≡ cs ++ c ∷ [] → All (IsTaskOf m) children → All (IsTaskOf n) cs
rest_good n m cs children c leaves is good =
    subst (λ (l : ℕ). All (IsTaskOf l) cs) (sym leaves) (all_front (IsTaskOf m) cs (c ∷ []) (subst (All (IsTaskOf m)) is good))

one_less : (cs children : List Task) (c : Task) → children ≡ cs ++ c ∷ [] → length children ≡ length cs + 1
one_less cs children c is = omega (arith, ap (λ (xs : List Task). length xs) is, length_push cs c)

pub loop-child-preserved-in-Err : goal.loop-child-preserved-in-Err
loop-child-preserved-in-Err c =
    let inv = c.loop-child.invariant in
    let w = c.loop-child.self in
    let children = c.loop-child.children in
    let rest = c.pop.new.self in
    let child = c.in-Some.child in
    let e = c.in-Err.ensures in
    let s = inv.same.0 in
    record {
      room = omega (arith, inv.room, one_less rest children child c.in-Some.ensures, c.push_reserved.ensures.len, c.push_reserved.ensures.capacity);
      pairs = rest_good c.push.new.self.pool.leaves w.hand.pool.leaves rest children child (ap (λ p. p.leaves) e.hand.0.0) c.in-Some.ensures inv.pairs;
      same = (record { number = s.number; hand = (e.hand.0.0 ∙ s.hand.0, e.hand.0.1 ∙ s.hand.1); board = s.board; pass = s.pass }, inv.same.1);
      keeps = λ T G board k. one_back T G board w.hand w.pass w.records.items w.best w.kept.items rest children child c.in-Some.ensures (inv.keeps T G board k) c.push.new.self c.in-Err.back c.push_reserved.new.self.items e.hand.0.0 e.pushed.1 e.hand.1 e.pushed.0 c.push_reserved.ensures.items;
    }

pub loop-child-preserved : goal.loop-child-preserved
loop-child-preserved c =
    let inv = c.loop-child.invariant in
    let w = c.loop-child.self in
    let children = c.loop-child.children in
    let rest = c.pop.new.self in
    let child = c.in-Some.child in
    let e = c.in_default-push.ensures in
    let s = inv.same.0 in
    record {
      room = omega (arith, inv.room, one_less rest children child c.in-Some.ensures);
      pairs = rest_good c.push.new.self.pool.leaves w.hand.pool.leaves rest children child (ap (λ p. p.leaves) e.hand.0.0) c.in-Some.ensures inv.pairs;
      same = (record { number = s.number; hand = (e.hand.0.0 ∙ s.hand.0, e.hand.0.1 ∙ s.hand.1); board = s.board; pass = s.pass }, inv.same.1);
      keeps = λ T G board k. one_pushed T G board w.hand w.pass w.records.items w.best w.kept.items rest children child c.in-Some.ensures (inv.keeps T G board k) c.push.new.self e.hand.0.0 e.pushed e.hand.1;
    }

pub returns-clause-agrees : goal.returns-clause-agrees
returns-clause-agrees c T G board k =
    let w = c.loop-child.self in
    subst (λ (xs : List Task). Keeps T G board w.hand w.pass w.records.items xs w.best) (ap (λ (ys : List Task). w.kept.items ++ ys) c.in_default.ensures.0 ∙ append-nil w.kept.items) (c.loop-child.invariant.keeps T G board k)
