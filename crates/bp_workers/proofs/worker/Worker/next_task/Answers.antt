use Rattle.std.proofs.Common.{◌≡◌, ◌⊎◌, inl, inr, ℕ, ◌+◌, ◌-◌, List, [], take, Option, None, Some, IfNone, MatchOption, refl, ap, ◌∙◌, arith}
use Rattle.std.specs.List.{sum_by}
use Rattle.bp_base.specs.declared.record.Task.{Task}
use Rattle.bp_base.specs.Bags.{AreSame}
use Rattle.bp_pool.specs.declared.tries.Take.{Take}
use Rattle.bp_pool.specs.declared.tries.Take.TheVariants.{Empty, Contended}
use Rattle.bp_pool.specs.Hands.{idle_after, of_take, one_more}
use Rattle.bp_pool.specs.Tries.{with_task}
use Rattle.bp_workers.proofs.Steps.{idle_keeps, took_keeps}
use Rattle.bp_workers.proofs.Taking.{popped}
use Rattle.bp_workers.proofs.worker.Worker.next_task.Goals as goal

abbrev GivesNone : Take → Type 0
GivesNone given = (given ≡ Empty) ⊎ (given ≡ Contended)

no_task : (given : Take) → GivesNone given → of_take given ≡ None
no_task given (inl is) = ap of_take is
no_task given (inr is) = ap of_take is

one_more_idle : (given : Take) (idle : ℕ) → GivesNone given → idle_after given idle ≡ one_more idle
one_more_idle given idle (inl is) = ap (λ (t : Take). idle_after t idle) is
one_more_idle given idle (inr is) = ap (λ (t : Take). idle_after t idle) is

none_kept : (last : Option Task) (ns ks : List Task) (l m : ℕ) → ns ≡ take (l - 1) ks → MatchOption last ((l ≡ 0) × (m ≡ 0)) (λ _. m + 1 ≡ l) → IfNone last (ns ≡ [])
none_kept None ns ks l m is (none, _) =
    let first : l - 1 ≡ 0 = omega (arith, none) in is ∙ ap (λ (n : ℕ). take n ks) first
none_kept (Some t) ns ks l m is _ = tt

with_idle : (last : Option Task) (ns : List Task) (idle more : ℕ) → idle ≡ more → IfNone last (ns ≡ []) → IfNone last ((ns ≡ []) × (idle ≡ more))
with_idle None ns idle more same none = (none, same)
with_idle (Some t) ns idle more same none = tt

pub returns-in-Task-clause-holds : goal.returns-in-Task-clause-holds
returns-in-Task-clause-holds c T G board agrees =
    let w = c.args.self.now in
    let e = c.in-Task.ensures in
    took_keeps T G board w.hand w.pass w.records.items w.best c.take.new.self w.kept.items c.in-Task.task agrees e.hand.0.0 e.hand.1 e.taken e.good

pub returns-in-Empty : goal.returns-in-Empty
returns-in-Empty c =
    let w = c.args.self.now in
    let e = c.take.ensures in
    let p = c.pop in
    let new = c.take.new.self in
    let taken : AreSame new.taken w.hand.taken = λ h. e.taken h ∙ ap (λ (o : Option Task). sum_by h (with_task w.hand.taken o)) (no_task c.take.result c.in-Empty.is) in
    record {
      same = (record { number = refl; hand = e.hand.0; board = refl; pass = refl }, refl);
      none = with_idle p.result p.new.self.items new.idle (one_more w.hand.idle) (e.hand.2 ∙ one_more_idle c.take.result w.hand.idle c.in-Empty.is) (none_kept p.result p.new.self.items w.kept.items w.kept.len p.new.self.len p.ensures.rest p.ensures.cases);
      holds = λ T G board agrees. popped T G board new w.pass w.records.items w.best w.kept.items p.new.self.items p.result p.ensures.items (idle_keeps T G board w.hand w.pass w.records.items w.best new w.kept.items agrees e.hand.0.0 e.hand.1 taken);
    }
