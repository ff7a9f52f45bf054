use Rattle.std.proofs.Common.{◌+◌, ◌≡◌, ◌∙◌, refl, length, ap, arith, subst, sym}
use Rattle.crossbeam_deque.specs.Handles.{view, IsPassOf}
use Rattle.bp_pool.specs.Rest.{DequeId}
use Rattle.bp_pool.specs.declared.deque.Facts.{Facts}
use Rattle.bp_pool.specs.Kept.{each_of}
use Rattle.bp_pool.proofs.Opens.{untouched_count, untouched_push}
use Rattle.bp_pool.proofs.pool.deal.Goals as goal

pub share-pass-requires : goal.share-pass-requires
share-pass-requires c = omega (arith, ap length c.requires.0.untouched_are, untouched_count (c.args._left + each_of c.args.hands), c.requires.1)

pub returns-clause-theft : goal.returns-clause-theft
returns-clause-theft c =
    let r = c.share-pass.ensures.rights c.args._left c.requires.0.untouched_are c.requires.1 in
    let deeds = r.1 in
    let count : length (view c.share-pass.result).deeds ≡ each_of c.args.hands = ap length deeds ∙ untouched_count (each_of c.args.hands) in
    let leaves : (view c.share-pass.result).facts.leaves ≡ c.args._leaves = ap (λ (f : Facts). f.leaves) c.share-pass.ensures.facts.1 ∙ c.requires.0.leaves_are in
    (refl, c.in_ok-thief.ensures.0, record { theft = record { of = subst (λ (id : DequeId). IsPassOf id c.share-pass.result) (sym c.in_ok-thief.ensures.0) c.share-pass.ensures.same.1; count = count; leaves_are = λ _. leaves; no_push = untouched_push (each_of c.args.hands) (view c.share-pass.result) deeds }; untouched_are = deeds })
