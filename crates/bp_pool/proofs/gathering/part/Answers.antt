use Rattle.bp_pool.proofs.Parts.{parted_first, parted_more}
use Rattle.bp_pool.proofs.gathering.part.Goals as goal

pub loop-hand-init : goal.loop-hand-init
loop-hand-init c = record { parted = λ pool whole. parted_first pool _ _ _ c.new-owners.ensures.items c.new-thefts.ensures.items whole }

pub loop-hand-preserved : goal.loop-hand-preserved
loop-hand-preserved c = record { parted = λ pool whole. parted_more pool c.loop-hand.hands.items c.pop.new.self.items c.args.hands.items c.in-Some.hand c.loop-hand.owners.items _ c.loop-hand.thefts.items _ _ _ c.in-Some.ensures.items c.in_ok-insert.ensures.items c.in_ok-append.ensures.items c.into_parts-own.ensures whole (c.loop-hand.invariant.parted pool whole) }
