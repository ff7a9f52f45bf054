use Rattle.std.proofs.Common.{refl}
use Rattle.bp_pool.specs.Opens.{ids_of}
use Rattle.bp_pool.proofs.Lays.{is_laid, new_pool}
use Rattle.bp_pool.proofs.pool.open.Goals as goal

pub seat-requires-clause-pool : goal.seat-requires-clause-pool
seat-requires-clause-pool c = let own = c.in_ok-owners.ensures in let now = c.in_ok-rows.ensures.owners in
    (record { deques = ids_of c.rows.new.owners.items; leaves = c.args.leaves; root = c.args.root }, is_laid c.args.hands c.args.leaves c.args.root c.in_ok-owners.owners.items c.rows.new.owners.items now.2 now.1 own.count own.told, refl, c.requires.hands.1)

pub returns : goal.returns
returns c = let own = c.in_ok-owners.ensures in let now = c.in_ok-rows.ensures.owners in
    new_pool c.args.hands c.args.leaves c.args.root c.rows.new.owners.items c.in_ok-all.all.items
    (is_laid c.args.hands c.args.leaves c.args.root c.in_ok-owners.owners.items c.rows.new.owners.items now.2 now.1 own.count own.told) c.in_ok-all.ensures.count c.in_ok-all.ensures.hands
