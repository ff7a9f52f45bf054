use Rattle.std.proofs.Common.{◌≡◌, ◌++◌, ◌∷◌, [], List, ap, ◌∙◌, arith}
use Rattle.bp_machine.specs.State.{HandValue, fresh}
use Rattle.bp_machine.proofs.Begun.{hands_more}
use Rattle.bp_machine.proofs.state.fresh_hands.Goals as goal

pub loop-number-preserved : goal.loop-number-preserved
loop-number-preserved c =
    let before = c.loop-number.hands.items in
    let pushed : c.push-in-loop-number.new.self.items ≡ before ++ fresh c.args.side [] ∷ [] =
    c.in_ok-push-2.ensures.items ∙ ap (λ (h : HandValue). before ++ h ∷ []) c.open.ensures in
    record {
      some = omega arith;
      made = pushed ∙ ap (λ (hs : List HandValue). hs ++ fresh c.args.side [] ∷ []) c.loop-number.invariant.made ∙ hands_more c.args.side c.loop-number.number c.loop-number.invariant.some;
    }
