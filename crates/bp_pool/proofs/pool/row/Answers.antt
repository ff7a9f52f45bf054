use Rattle.std.proofs.Common.{◌≡◌, ℕ, ◌+◌, ◌<◌, ◌∷◌, [], ◌++◌, List, length, get_or, map, All, sym, ap, ◌∙◌, subst, arith, length-append}
use Rattle.std.specs.List.{range_with_len}
use Rattle.std.proofs.lemmas.List.{length-set, length-map, map-append}
use Rattle.std.proofs.Math.Seq.{map-set_same}
use Rattle.crossbeam_deque.specs.Handles.{worker_deque}
use Rattle.bp_pool.specs.declared.hand.Theft.{Theft}
use Rattle.bp_pool.specs.Kept.{Deque, deque_of, deques_of, each_of}
use Rattle.bp_pool.specs.Rest.{DequeId}
use Rattle.bp_pool.specs.Opens.{ids_of, facts_in, IsLeft, IsNewTheft}
use Rattle.bp_pool.proofs.Opens.{done_more, todo_less, all_push, range_more, take_more, id_at}
use Rattle.bp_pool.proofs.pool.row.Goals as goal

pub loop-place-preserved : goal.loop-place-preserved
loop-place-preserved c =
    let was = c.loop-place.invariant in
    let ws = c.loop-place.owners.items in
    let j = c.loop-place.place in
    let old = c.index_mut.result.now in
    let new = c.deal.new.owner in
    let t = c.in_ok-theft.theft in
    let items = c.push_reserved.ensures.items in
    let at : get_or ws j old ≡ old = sym c.index_mut.ensures.value in
    let lt : j < length ws = omega (arith, was.owners_count, c.loop-place-test.true) in
    let same = c.in_ok-theft.ensures.same in
    let dealt = c.in_ok-theft.ensures.theft in
    let first = ids_of c.args.owners.now.items in
    let here : get_or first j (deque_of t) ≡ deque_of t = subst (λ (l : List DequeId). get_or l j (deque_of t) ≡ deque_of t) was.ids (subst (λ (d : DequeId). get_or (ids_of ws) j d ≡ d) (sym dealt.1) (id_at ws j old lt at)) in
    let in_first : j < length first = omega (arith, lt, ap length was.ids, length-map ws (λ (w : Deque). worker_deque w)) in
    record {
      room = omega (arith, c.push_reserved.ensures.capacity, was.room);
      count = omega (arith, ap length items, length-append c.loop-place.thefts.items (t ∷ []), was.count);
      owners_count = length-set ws j new ∙ was.owners_count;
      ids = map-set_same (λ (w : Deque). worker_deque w) ws j new old (same.0.0 ∙ ap (λ (w : Deque). worker_deque w) (sym at)) ∙ was.ids;
      facts = map-set_same facts_in ws j new old (same.1 ∙ ap facts_in (sym at)) ∙ was.facts;
      done = done_more (IsLeft c.args.leaves c.args.left) ws j new lt was.done same.2;
      todo = todo_less (IsLeft c.args.leaves (c.args.left + each_of c.args.hands)) ws j c.args.hands new was.todo;
      places = ap (map (λ (u : Theft). u.place)) items ∙ map-append (λ (u : Theft). u.place) c.loop-place.thefts.items (t ∷ []) ∙ ap (λ (l : List ℕ). l ++ t.place ∷ []) was.places ∙ ap (λ (n : ℕ). range_with_len 0 j ++ n ∷ []) dealt.0 ∙ sym (range_more j);
      deques = ap deques_of items ∙ map-append deque_of c.loop-place.thefts.items (t ∷ []) ∙ ap (λ (l : List DequeId). l ++ deque_of t ∷ []) was.deques ∙ sym (take_more first j (deque_of t) in_first here);
      thefts = subst (All (IsNewTheft (each_of c.args.hands) c.args.leaves)) (sym items) (all_push (IsNewTheft (each_of c.args.hands) c.args.leaves) c.loop-place.thefts.items t was.thefts dealt.2);
    }
