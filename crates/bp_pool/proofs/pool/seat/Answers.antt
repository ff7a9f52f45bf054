use Rattle.std.proofs.Common.{◌≡◌, ◌+◌, ◌-◌, ◌<◌, List, [], ◌∷◌, length, slice_get, All, ap, ◌∙◌, subst, arith, length-append}
use Rattle.std.specs.Prelude.{Vec}
use Rattle.std.specs.declared.alloc.Global.{Global}
use Rattle.bp_pool.specs.declared.hand.Theft.{Theft}
use Rattle.bp_pool.specs.Rest.{DequeId}
use Rattle.bp_pool.specs.Hands.{HandView}
use Rattle.bp_pool.specs.Kept.{deques_of}
use Rattle.bp_pool.specs.Opens.{ids_of, IsLeft, IsRow}
use Rattle.bp_pool.proofs.Lays.{last_all, shorter, found_id, own_facts, same_pool, one_more_hand}
use Rattle.bp_pool.proofs.pool.seat.Goals as goal

pub new-requires-clause-place : goal.new-requires-clause-place
new-requires-clause-place c =
    let inv = c.loop-own.invariant in
    let ws = c.args.owners.items in
    let vs = c.loop-own.owners.items in
    let us = c.pop.new.self.items in
    let own = c.in-Some.own in
    let is = c.in-Some.ensures.items in
    let thefts = c.in-Some-pop.thefts in
    let sh = shorter ws us vs own is inv.prefix in
    let lt : length us < length ws = omega (arith, inv.count, ap length is, length-append us (own ∷ [])) in
    let Row : Vec Theft Global → Type 0 = λ v. IsRow c.args.leaves c.args.hands (ids_of ws) v.items in
    let rows = last_all Row c.pop-in-Some.new.self.items thefts (subst (All Row) c.in-Some-pop.ensures.items inv.rows_are) in
    let row = rows.1 in
    let n : c.len.result + 1 - 1 ≡ length us = omega (arith, c.len.ensures) in
    ap (slice_get (deques_of thefts.items)) n ∙ ap (λ (l : List DequeId). slice_get l (length us)) row.deques ∙ found_id ws (length us) own lt (sh.1 own)

pub loop-own-preserved : goal.loop-own-preserved
loop-own-preserved c =
    let inv = c.loop-own.invariant in
    let ws = c.args.owners.items in
    let vs = c.loop-own.owners.items in
    let us = c.pop.new.self.items in
    let own = c.in-Some.own in
    let is = c.in-Some.ensures.items in
    let thefts = c.in-Some-pop.thefts in
    let sh = shorter ws us vs own is inv.prefix in
    let lt : length us < length ws = omega (arith, inv.count, ap length is, length-append us (own ∷ [])) in
    let Row : Vec Theft Global → Type 0 = λ v. IsRow c.args.leaves c.args.hands (ids_of ws) v.items in
    let rows = last_all Row c.pop-in-Some.new.self.items thefts (subst (All Row) c.in-Some-pop.ensures.items inv.rows_are) in
    let row = rows.1 in
    let all = c.in_ok-insert.ensures.items in
    let n : c.len.result + 1 ≡ length us + 1 = omega (arith, c.len.ensures) in
    let more : length vs ≡ length us + 1 = omega (arith, ap length is, length-append us (own ∷ [])) in
    record {
      count = omega (arith, inv.count, more, ap (λ (l : List HandView). length l) all);
      prefix = sh.0;
      left = (last_all (IsLeft c.args.leaves 1) us own (subst (All (IsLeft c.args.leaves 1)) is inv.left)).0;
      rows_count = omega (arith, inv.rows_count, more, ap length c.in-Some-pop.ensures.items, length-append c.pop-in-Some.new.self.items (thefts ∷ []));
      rows_are = rows.0;
      made = λ pool laid. one_more_hand pool (length us) (length vs) c.in_ok-hand.hand c.loop-own.all.items c.insert.new.self.items all more
          (same_pool pool c.args.hands (c.len.result + 1) (length us) (deques_of thefts.items) own c.in_ok-hand.hand (row.deques ∙ laid.ids) n (own_facts pool c.args.hands (length us) ws own laid lt (sh.1 own)) c.in_ok-hand.ensures)
          (inv.made pool laid);
    }
