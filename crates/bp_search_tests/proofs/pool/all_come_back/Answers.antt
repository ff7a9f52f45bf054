use Rattle.std.proofs.Common.{refl, arith}
use Rattle.bp_pool.proofs.Ordered.{whole_of_new}
use Rattle.bp_search_tests.proofs.pool.all_come_back.Goals as goal

pub gather-requires : goal.gather-requires
gather-requires g c =
    let new = c.in_ok-hands.ensures in
    (new.pool, whole_of_new 3 4 _ _ _ new (omega arith) (record { long = refl; each = λ k d less. (refl, refl) }))
