use Rattle.bp_engine.proofs.Drawings.{own_right, own_small, own_valid, own_wrong}
use Rattle.bp_engine.proofs.certified.own_drawn_on_square.Goals as goal

pub head_text-requires-clause-side : goal.head_text-requires-clause-side
head_text-requires-clause-side c = own_small c.requires.own.0 c.args.own c.requires.own.1

pub head_text-requires-clause-valid : goal.head_text-requires-clause-valid
head_text-requires-clause-valid c = own_valid c.requires.own.0 c.args.own c.requires.own.1 c.in-Yes.is c.requires.square

pub returns-in_ok-text-in-Yes-clause-answer : goal.returns-in_ok-text-in-Yes-clause-answer
returns-in_ok-text-in-Yes-clause-answer c = λ bytes is. own_right bytes c.args.own is c.args.drawing c.in_ok-text-in-Yes.text.items c.in-Yes.is c.requires.square c.in_ok-text-in-Yes.ensures

pub returns-in_ok-told-in-No-clause-answer : goal.returns-in_ok-told-in-No-clause-answer
returns-in_ok-told-in-No-clause-answer c = λ bytes is. own_wrong bytes c.args.own is c.args.drawing c.in-No.reason c.in_ok-told-in-No.told.items c.in-No.is c.requires.square c.in_ok-told-in-No.ensures
