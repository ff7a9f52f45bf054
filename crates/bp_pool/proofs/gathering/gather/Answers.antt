use Rattle.std.proofs.Common.{◌≡◌, min, arith, ap, ◌∙◌, List}
use Rattle.bp_pool.specs.Hands.{HandView, top}
use Rattle.bp_pool.specs.Rows.{count_pushed, count_taken, pushed_by_all, taken_by_all}
use Rattle.std.proofs.lemmas.List.Sums.{sum_by-cons, sum_by-append}
use Rattle.bp_pool.proofs.Ordered.{moved_same}
use Rattle.bp_pool.proofs.Parts.{are_owners, are_of_us, are_full, leaves_now, all_same, flat_length}
use Rattle.bp_pool.proofs.gathering.gather.Goals as goal

pub part-requires : goal.part-requires
part-requires c = (c.requires.0, c.arrange.ensures.order c.requires.0 c.requires.1)

pub absorb-requires : goal.absorb-requires
absorb-requires c =
    let pool = c.requires.0 in
    let hands = c.arrange.new.hands.items in
    let us = c.in_ok-owners.owners.items in
    let parted = c.in_ok-owners.ensures pool (c.arrange.ensures.order pool c.requires.1) in
    (are_owners pool hands us us c.in_ok-owners.thefts.items parted, are_of_us pool hands us us c.in_ok-owners.thefts.items parted)

pub drain_all-requires : goal.drain_all-requires
drain_all-requires c =
    let pool = c.requires.0 in
    let hands = c.arrange.new.hands.items in
    let us = c.in_ok-owners.owners.items in
    let ordered = c.arrange.ensures.order pool c.requires.1 in
    let parted = c.in_ok-owners.ensures pool ordered in
    are_full pool hands us c.absorb.new.owners.items c.in_ok-owners.thefts.items parted ordered c.absorb.ensures.owners c.absorb.ensures.rights

pub returns-clause-same : goal.returns-clause-same
returns-clause-same c = λ pool whole h.
    let old = c.args.hands.items in
    let hands = c.arrange.new.hands.items in
    let left = c.in_ok-left.left.items in
    let ordered = c.arrange.ensures.order pool whole in
    let same = all_same pool hands c.in_ok-owners.owners.items c.absorb.new.owners.items c.in_ok-owners.thefts.items (c.in_ok-owners.ensures pool ordered) ordered c.absorb.ensures.owners left c.absorb.ensures.pushed c.absorb.ensures.taken c.in_ok-left.ensures.same in
    omega (arith, same h, sum_by-cons h pool.root (pushed_by_all hands), sum_by-cons h pool.root (pushed_by_all old), sum_by-append h (taken_by_all hands) left, sum_by-append h (taken_by_all old) left, moved_same old hands (λ (v : HandView). v.pushed) c.arrange.ensures.same h, moved_same old hands (λ (v : HandView). v.taken) c.arrange.ensures.same h)

pub returns-clause-good : goal.returns-clause-good
returns-clause-good c = λ pool whole.
    let ordered = c.arrange.ensures.order pool whole in
    c.in_ok-left.ensures.good pool.leaves (leaves_now pool c.arrange.new.hands.items c.in_ok-owners.owners.items c.absorb.new.owners.items c.in_ok-owners.thefts.items (c.in_ok-owners.ensures pool ordered) ordered c.absorb.ensures.owners)

pub returns-clause-pushed : goal.returns-clause-pushed
returns-clause-pushed c =
    let all = c.args.hands.items in
    let counted : c.count_all-pushed.result.0 ≡ min (count_pushed all) top = c.count_all-pushed.ensures.pushed ∙ ap (λ (l : List HandView). min (count_pushed l) top) c.as_slice.ensures.value in
    omega (arith, counted, c.saturating_add.ensures, flat_length (λ (v : HandView). v.pushed) all)

pub returns-clause-taken : goal.returns-clause-taken
returns-clause-taken c =
    let all = c.args.hands.items in
    let counted : c.count_all-pushed.result.1 ≡ min (count_taken all) top = c.count_all-pushed.ensures.taken ∙ ap (λ (l : List HandView). min (count_taken l) top) c.as_slice.ensures.value in
    omega (arith, counted, flat_length (λ (v : HandView). v.taken) all)
