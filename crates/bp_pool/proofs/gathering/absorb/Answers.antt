use Rattle.std.proofs.Common.{◌≡◌, ◌<◌, List, length, get_or, slice_get, Some, refl, sym, ap, ◌∙◌, subst, arith}
use Rattle.std.specs.List.{sum_by}
use Rattle.std.proofs.lemmas.List.Sums.{sum_by_push}
use Rattle.std.proofs.Math.Seq.{map-set_same}
use Rattle.crossbeam_deque.specs.Handles.{worker_deque, worker_view, IsPassOf}
use Rattle.bp_pool.specs.declared.hand.Theft.{Theft}
use Rattle.bp_pool.specs.declared.deque.Rights.{Rights}
use Rattle.bp_pool.specs.Shares.{count_of}
use Rattle.bp_pool.specs.Rows.{IsOf, IsOwner, rights_at, pushed_in, taken_in}
use Rattle.bp_pool.specs.Rest.{DequeId}
use Rattle.bp_pool.specs.Kept.{Deque}
use Rattle.bp_pool.specs.Opens.{ids_of, facts_in}
use Rattle.bp_pool.proofs.Rows.{last_of, id_at, owners_set, counts_set, pushed_set, taken_set, within, count_more}
use Rattle.bp_pool.proofs.gathering.absorb.Goals as goal

pub take_back-requires : goal.take_back-requires
take_back-requires c =
    let old = c.index_mut.result.now in
    let i = c.in-Some.theft.place in
    let ws = c.loop-theft.owners.items in
    let mine = (last_of (IsOf (ids_of c.args.owners.now.items)) _ _ _ c.in-Some.ensures.items c.loop-theft.invariant.passes).1 in
    let got : slice_get (ids_of ws) i ≡ Some mine.0 = ap (λ (l : List DequeId). slice_get l i) c.loop-theft.invariant.ids ∙ mine.1 in
    let lt : i < length ws = within ws i mine.0 got in
    let at : get_or ws i old ≡ old = sym c.index_mut.ensures.value in
    let same = id_at ws i old mine.0 lt at got in
    (subst (λ (d : DequeId). IsPassOf d c.in-Some.theft.pass) (sym same) mine.2, subst (λ (w : Deque). 0 < count_of (worker_view w)) at (c.loop-theft.invariant.owners i old lt).1)

pub loop-theft-preserved : goal.loop-theft-preserved
loop-theft-preserved c =
    let inv = c.loop-theft.invariant in
    let old = c.index_mut.result.now in
    let new = c.take_back.new.owner in
    let i = c.in-Some.theft.place in
    let ws = c.loop-theft.owners.items in
    let rest = last_of (IsOf (ids_of c.args.owners.now.items)) _ _ _ c.in-Some.ensures.items inv.passes in
    let mine = rest.1 in
    let got : slice_get (ids_of ws) i ≡ Some mine.0 = ap (λ (l : List DequeId). slice_get l i) inv.ids ∙ mine.1 in
    let lt : i < length ws = within ws i mine.0 got in
    let at : get_or ws i old ≡ old = sym c.index_mut.ensures.value in
    let was : IsOwner old = subst IsOwner at (inv.owners i old lt) in
    let is = c.take_back.ensures.rights in
    let u : Theft = c.in-Some.theft in
    record {
      owners = owners_set ws i new inv.owners (c.take_back.ensures.same.1 ∙ was.0, count_more new old u is was.1);
      ids = map-set_same (λ (w : Deque). worker_deque w) ws i new old (c.take_back.ensures.same.0 ∙ ap worker_deque (sym at)) ∙ inv.ids;
      facts = map-set_same facts_in ws i new old (ap (λ (v : Rights). v.facts) is ∙ ap facts_in (sym at)) ∙ inv.facts;
      passes = rest.0;
      rights = λ j. omega (arith, counts_set ws i j old new u lt at refl is, inv.rights j, ap (sum_by (rights_at j)) c.in-Some.ensures.items, sum_by_push (rights_at j) c.pop.new.self.items u);
      pushed = λ h. omega (arith, pushed_set h ws i old new u lt at is, inv.pushed h, ap (sum_by (pushed_in h)) c.in-Some.ensures.items, sum_by_push (pushed_in h) c.pop.new.self.items u);
      taken = λ h. omega (arith, taken_set h ws i old new u lt at is, inv.taken h, ap (sum_by (taken_in h)) c.in-Some.ensures.items, sum_by_push (taken_in h) c.pop.new.self.items u);
    }
