use Rattle.std.proofs.Common.{List, arith, subst, sym}
use Rattle.bp_pool.specs.Hands.{HandView}
use Rattle.bp_pool.specs.Rows.{AreKept, IsWhole}
use Rattle.bp_pool.proofs.Ordered.{whole_of_new, take_front}
use Rattle.bp_search_tests.proofs.pool.four_threads.Goals as goal

pub gather-requires : goal.gather-requires
gather-requires g c =
    let new = c.in_ok-hands.ensures in
    let later = c.four_turns.new.hands in
    let kept = subst (λ (l : List HandView). AreKept l later) c.as_mut_slice.ensures.value c.four_turns.ensures in
    let whole : IsWhole new.pool later = whole_of_new 4 4 _ _ later new (omega arith) kept in
    let written = take_front later _ c.in_ok-hands.hands.len (omega (arith, c.four_turns.ensures.long, c.as_mut_slice.ensures.len)) in
    (new.pool, subst (IsWhole new.pool) (sym written) whole)
