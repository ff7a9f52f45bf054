use Rattle.std.proofs.Common.{◌≡◌, ◌∙◌, sym, ap}
use Rattle.std.proofs.lemmas.Bool.{OnFalse_from, OnTrue_at, OnTrue_from}
use Rattle.bp_machine.specs.declared.place.Place.{Place}
use Rattle.bp_machine.specs.Lawful.{IsLawful, stands}
use Rattle.bp_machine.specs.State.{HandValue}
use Rattle.bp_machine.proofs.Standing.{hand_seen, lawful_at, unlawful_at}
use Rattle.bp_machine.proofs.state.State.is_lawful.Goals as goal

pub returns-then-stands-clause-yes : goal.returns-then-stands-clause-yes
returns-then-stands-clause-yes c =
    let S = c.args.self.now in
    let h = c.index-hand.result.now in
    let at = hand_seen S _ c.args.event c.hand_of-number.result h c.self.view_is c.hand_of-number.ensures c.if-not-has_hand.ensures.yes c.index-hand.ensures in
    let place : h.place ≡ c.hand.inside.place = sym (ap (λ (x : HandValue). x.place) c.hand.view_is) in
    OnTrue_from c.has_source.result (IsLawful S c.args.event) (λ is. lawful_at S c.args.event h at (ap (λ (p : Place). stands p c.args.event) place ∙ sym c.stands.ensures ∙ c.if-stands.true) (OnTrue_at is c.has_source.ensures.yes))

pub returns-else-stands-clause-no : goal.returns-else-stands-clause-no
returns-else-stands-clause-no c =
    let S = c.args.self.now in
    let h = c.index-hand.result.now in
    let at = hand_seen S _ c.args.event c.hand_of-number.result h c.self.view_is c.hand_of-number.ensures c.if-not-has_hand.ensures.yes c.index-hand.ensures in
    let place : h.place ≡ c.hand.inside.place = sym (ap (λ (x : HandValue). x.place) c.hand.view_is) in
    OnFalse_from c.stands.result (IsLawful S c.args.event → ⊥) (λ is. unlawful_at S c.args.event h at (ap (λ (p : Place). stands p c.args.event) place ∙ sym c.stands.ensures ∙ is))
