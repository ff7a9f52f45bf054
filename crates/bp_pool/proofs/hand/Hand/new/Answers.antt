use Rattle.std.proofs.Common.{refl}
use Rattle.bp_pool.proofs.Makes.{is_hand, is_new}
use Rattle.bp_pool.proofs.hand.Hand.new.Goals as goal

pub invariant_of-result : goal.invariant_of-result
invariant_of-result c = is_hand (record { number = c.args.number; idle = 0; pushes = 0; takes = 0; own = c.args.own; thefts = c.args.thefts; misses = c.in_ok-misses.misses; lost = c.in_ok-lost.lost }) c.args._leaves c.args.hands c.requires.own c.requires.row c.requires.facts c.requires.number c.requires.place refl refl c.in_ok-misses.ensures c.in_ok-lost.ensures

pub returns : goal.returns
returns c = is_new (record { number = c.args.number; idle = 0; pushes = 0; takes = 0; own = c.args.own; thefts = c.args.thefts; misses = c.in_ok-misses.misses; lost = c.in_ok-lost.lost }) c.args._leaves c.args.hands c.requires.own c.requires.row c.in_ok-misses.ensures c.in_ok-lost.ensures refl
