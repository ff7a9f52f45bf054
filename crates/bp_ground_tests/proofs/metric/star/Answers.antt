use Rattle.bp_metric.proofs.Stars.{star_read}
use Rattle.bp_ground_tests.proofs.metric.star.Goals as goal

pub of-requires : goal.of-requires
of-requires c = star_read c.in_ok-checked.field-0 c.in_ok-checked-2.field-0 c.in_ok-checked-3.field-0 c.in_ok-checked-4.field-0 c.in_ok-checked-5.field-0
    c.in_ok-checked.ensures c.in_ok-checked-2.ensures c.in_ok-checked-3.ensures c.in_ok-checked-4.ensures c.in_ok-checked-5.ensures
    c.in_ok-parents.parents.items c.in_ok-lengths.lengths.items c.in_ok-names.names.items
    c.in_ok-named.field-0 c.in_ok-named-2.field-0 c.in_ok-named-3.field-0 c.in_ok-named-4.field-0 c.in_ok-named-5.field-0 c.in_ok-named-6.field-0
    c.in_ok-parents.ensures.items c.in_ok-lengths.ensures.items c.in_ok-names.ensures.items
    c.in_ok-named.ensures c.in_ok-named-2.ensures c.in_ok-named-3.ensures c.in_ok-named-4.ensures c.in_ok-named-5.ensures c.in_ok-named-6.ensures
