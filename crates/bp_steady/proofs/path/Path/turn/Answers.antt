use Rattle.std.proofs.Common.{◌≡◌, ℕ, ◌-◌, List, true, length, get_or, set, take, sym, ◌∙◌, ap, subst, arith}
use Rattle.bp_base.specs.declared.path.Step.{Step}
use Rattle.bp_steady.specs.Stack.{IsShut, IsTurned}
use Rattle.bp_steady.proofs.Children.{shut_end, shut_turn, shut_up}
use Rattle.bp_steady.proofs.path.Path.turn.Goals as goal

pub returns-in-Some-clause-turned : goal.returns-in-Some-clause-turned
returns-in-Some-clause-turned c = λ T b budget left t is.
    let now : IsShut T b budget c.loop-self.self.steps.items c.loop-self.self.rows.items left = c.loop-self.invariant.shut T b budget left t is in
    let long : c.len-last.result ≡ length c.loop-self.self.steps.items = omega (arith, c.len-last.ensures) in
    let last = sym (c.index-step.ensures ∙ ap (λ (n : ℕ). get_or c.loop-self.self.steps.items (n - 1) c.index-step.result.now) long) in
    subst (λ (n : ℕ). IsTurned T b budget (set c.loop-self.self.steps.items (n - 1) (record { pair = c.index-step.result.now.pair; choice = c.in-Some.choice })) c.loop-self.self.rows.items left true) (sym long)
    (shut_turn T t b budget c.loop-self.self.steps.items c.loop-self.self.rows.items left now (omega (arith, c.len.ensures, c.loop-self-test.true)) c.index-step.result.now last c.in-Some.choice (sym c.next_choice.ensures ∙ c.in-Some.is))

pub loop-self-preserved : goal.loop-self-preserved
loop-self-preserved c = record {
  led = c.loop-self.invariant.led;
  guide = c.loop-self.invariant.guide;
  shut = λ T b budget left t is.
      let now : IsShut T b budget c.loop-self.self.steps.items c.loop-self.self.rows.items left = c.loop-self.invariant.shut T b budget left t is in
      let long : c.len-last.result ≡ length c.loop-self.self.steps.items = omega (arith, c.len-last.ensures) in
      let last = sym (c.index-step.ensures ∙ ap (λ (n : ℕ). get_or c.loop-self.self.steps.items (n - 1) c.index-step.result.now) long) in
      let up = shut_up T t b budget c.loop-self.self.steps.items c.loop-self.self.rows.items left now (omega (arith, c.len.ensures, c.loop-self-test.true)) c.index-step.result.now last (sym c.next_choice.ensures ∙ c.in-None.is) in
      let steps : c.truncate.new.self.items ≡ take (length c.loop-self.self.steps.items - 1) c.loop-self.self.steps.items =
      c.truncate.ensures.items ∙ ap (λ (n : ℕ). take (n - 1) c.loop-self.self.steps.items) long in
      let rows : c.truncate-in-None.new.self.items ≡ take (length c.loop-self.self.steps.items - 1) c.loop-self.self.rows.items =
      c.truncate-in-None.ensures.items ∙ ap (λ (n : ℕ). take (n - 1) c.loop-self.self.rows.items) long in
      subst (λ (q : List Step). IsShut T b budget q c.truncate-in-None.new.self.items left) (sym steps)
      (subst (λ (r : List (List ℕ)). IsShut T b budget (take (length c.loop-self.self.steps.items - 1) c.loop-self.self.steps.items) r left) (sym rows) up);
}

pub returns-clause-turned : goal.returns-clause-turned
returns-clause-turned c = λ T b budget left t is.
    shut_end T t b budget c.loop-self.self.steps.items c.loop-self.self.rows.items left (c.loop-self.invariant.shut T b budget left t is) (omega (arith, c.len.ensures, c.loop-self-test.false))
