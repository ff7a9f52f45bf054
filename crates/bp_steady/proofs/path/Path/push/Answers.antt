use Rattle.std.proofs.Common.{◌≡◌, Bool, false, [], ◌∷◌, ◌++◌, ◌∙◌, ap}
use Rattle.bp_base.specs.declared.path.Step.{Step}
use Rattle.bp_steady.proofs.Guides.{first_stepped, guided_led, guided_stepped, no_both}
use Rattle.bp_steady.proofs.path.Path.push.Goals as goal
use Rattle.bp_steady.proofs.path.Path.push.Goals.{in-Some, in-None}

pub returns-clause-steps : goal.returns-clause-steps
returns-clause-steps c = elim c.match-guiding.branch [
  | in-Some w ↦
      guided_stepped c.args.self.now.led c.args.self.now.guide.items c.args.self.now.steps.items c.args.pair w.in-Some.step c.requires.led w.in-Some.ensures c.push.new.self.items
      (c.in_ok-push.ensures.items ∙ ap (λ (r : Step × Bool). c.args.self.now.steps.items ++ r.0 ∷ []) w.led-is)
  | in-None w ↦
      first_stepped c.args.self.now.guide.items c.args.self.now.steps.items c.push.new.self.items c.args.pair
      (c.in_ok-push.ensures.items ∙ ap (λ (r : Step × Bool). c.args.self.now.steps.items ++ r.0 ∷ []) w.led-is)
]

pub returns-clause-led : goal.returns-clause-led
returns-clause-led c = elim c.match-guiding.branch [
  | in-Some w ↦
      guided_led c.args.self.now.led c.args.self.now.guide.items c.args.self.now.steps.items c.args.pair w.in-Some.step c.requires.led w.in-Some.ensures c.push.new.self.items c.match-guiding.led.1
      (c.in_ok-push.ensures.items ∙ ap (λ (r : Step × Bool). c.args.self.now.steps.items ++ r.0 ∷ []) w.led-is)
  | in-None w ↦ λ told.
      let not_led : c.match-guiding.led.1 ≡ false = ap (λ (r : Step × Bool). r.1) w.led-is in
      absurd (no_both c.match-guiding.led.1 told not_led)
]
