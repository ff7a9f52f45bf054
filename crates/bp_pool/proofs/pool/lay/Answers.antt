use Rattle.std.proofs.Common.{◌≡◌, ◌<◌, [], length, get_or, sym, subst, arith}
use Rattle.bp_pool.specs.Shares.{facts_of}
use Rattle.bp_pool.specs.Kept.{total_of}
use Rattle.bp_pool.specs.Opens.{IsTold}
use Rattle.bp_pool.proofs.Lays.{may_give, some_left}
use Rattle.bp_pool.proofs.pool.lay.Goals as goal

pub give-requires-clause-all : goal.give-requires-clause-all
give-requires-clause-all c =
    let ws = c.in_ok-owners.owners.items in
    let old = c.index_mut.result.now in
    let f = facts_of c.args.leaves (total_of c.args.hands) c.args.root [] in
    let at : get_or ws 0 old ≡ old = sym c.index_mut.ensures.value in
    let some : 0 < length ws = omega (arith, c.in_ok-owners.ensures.0, c.requires.hands) in
    may_give c.args.leaves (total_of c.args.hands) c.args.root old (some_left c.args.hands c.args.hands) (subst (IsTold f) at (c.in_ok-owners.ensures.1 0 old some))
