-- What the seats of all passes tell of the passes.
use Rattle.std.proofs.Common.{◌≡◌, ℕ, zero, suc, ◌<◌, ◌≤◌, ◌==◌, Bool, true, false, List, [], ◌∷◌, ◌++◌, map, All, sym, refl, ap, ◌∙◌, subst, inl, inr, ⊎_elim, arith}
use Rattle.std.specs.List.{sum_by, flat_map, Any, range_with_len}
use Rattle.std.proofs.lemmas.Bool.Decides.{nat_tests}
use Rattle.std.proofs.lemmas.List.Concat.{flat_map-cons}
use Rattle.std.proofs.lemmas.List.Elements.{All-contains, All-contains_itself, Contains-append_left, Contains-append_right}
use Rattle.std.proofs.lemmas.List.Sums.{sum_by-cons}
use Rattle.bp_base.specs.Bags.{AreSame}
use Rattle.bp_base.proofs.Bags.{sum_by-flat_map, same-map, moved, all_moved}
use Rattle.bp_incumbent.specs.Entries.{flag}
use Rattle.bp_incumbent.specs.declared.seats.Seats.{Seats}
use Rattle.bp_incumbent.specs.declared.tickets.Ticket.{Ticket}
use Rattle.bp_incumbent.specs.Side.{offers_of, IsLeast, IsKnown}
use Rattle.bp_incumbent.specs.Tickets.{tickets_of}
use Rattle.bp_incumbent.specs.Halt.{halts_in, reads_in}
use Rattle.bp_incumbent.specs.Board.{PassView}
use Rattle.bp_incumbent.specs.Seats.{HasTaken}
use Rattle.bp_incumbent.proofs.Entries.{part_le}

-- Lists of the same numbers.

itself : (m : ℕ) → (m == m) ≡ true
itself m = grind (arith, nat_tests)

equal : (m n : ℕ) → (m == n) ≡ true → m ≡ n
equal m n e = grind (arith, nat_tests)

least_moved : (n o : ℕ) (xs ys : List ℕ) → AreSame xs ys → IsLeast n o xs → IsLeast n o ys
least_moved n o xs ys same least = record {
  below_opening = least.below_opening;
  below_offers = all_moved (λ x y. x == y) itself equal (λ y. n ≤ y) xs ys same least.below_offers;
  is_one = ⊎_elim inl (λ c. inr (moved (λ x y. x == y) itself equal xs ys n same c)) least.is_one;
}

known_moved : (o : ℕ) (xs ys seen shown : List ℕ) → AreSame xs ys → AreSame seen shown → All (IsKnown o xs) seen → All (IsKnown o ys) shown
known_moved o xs ys seen shown same same_seen known = all_moved (λ x y. x == y) itself equal (IsKnown o ys) seen shown same_seen
    (λ k d lt. ⊎_elim inl (λ c. inr (moved (λ x y. x == y) itself equal xs ys _ same c)) (known k d lt))

-- what holds of all sides that passes have seen holds of those of each pass
each_of : (P : ℕ → Type 0) (ps : List PassView) → All P (flat_map (λ (p : PassView). p.seen) ps) → All (λ (p : PassView). All P p.seen) ps
each_of P (p ∷ ps) every zero d lt = front P p.seen (flat_map (λ (p : PassView). p.seen) ps) (subst (All P) (flat_map-cons (λ (p : PassView). p.seen) p ps) every)
  where
    front : (P : ℕ → Type 0) (xs ys : List ℕ) → All P (xs ++ ys) → All P xs
    front P xs ys every i d lt = All-contains P (xs ++ ys) _ every (Contains-append_left xs ys _ (All-contains_itself xs i d lt))
each_of P (p ∷ ps) every (suc k) d lt = each_of P ps (back P p.seen (flat_map (λ (p : PassView). p.seen) ps) (subst (All P) (flat_map-cons (λ (p : PassView). p.seen) p ps) every)) k d (omega arith)
  where
    back : (P : ℕ → Type 0) (xs ys : List ℕ) → All P (xs ++ ys) → All P ys
    back P xs ys every i d lt = All-contains P (xs ++ ys) _ every (Contains-append_right xs ys _ (All-contains_itself ys i d lt))
each_of P [] every k d lt = absurd (omega arith)

-- no side that is known is below the least
pub lowest : (n o : ℕ) (offers : List ℕ) (ps : List PassView) → IsLeast n o offers → All (λ (p : PassView). All (IsKnown o offers) p.seen) ps → All (λ (p : PassView). All (λ y. n ≤ y) p.seen) ps
lowest n o offers ps least known k d lt i e less = ⊎_elim (λ is. omega (arith, least.below_opening, is)) (λ c. All-contains (λ y. n ≤ y) offers _ least.below_offers c) (known k d lt i e less)

-- an element that passes the test
found : {X : Type 0} (test : X → Bool) (xs : List X) → 0 < sum_by (λ x. flag (test x)) xs → Any (λ x. test x ≡ true) xs
found test [] more = absurd (omega arith)
found {X} test (x ∷ xs) more = go (test x) refl (found test xs)
  where
    go : (b : Bool) → test x ≡ b → (0 < sum_by (λ x. flag (test x)) xs → Any (λ x. test x ≡ true) xs) → Any (λ x. test x ≡ true) (x ∷ xs)
    go true e rest = (0, x, omega arith, refl, e)
    go false e rest = let a = rest (omega (arith, more, sum_by-cons (λ (x : X). flag (test x)) x xs, ap flag e)) in let lt = a.2 in (suc a.0, a.1, omega arith, a.3, a.4)

counted : {X : Type 0} (test : X → Bool) (xs : List X) → Any (λ x. test x ≡ true) xs → 0 < sum_by (λ x. flag (test x)) xs
counted test xs a = omega (arith, part_le (λ x. flag (test x)) xs a.0 a.1 a.2, ap (λ x. flag (test x)) a.3, ap flag a.4)

module _ (s : Seats) (all : List PassView) (had : HasTaken s [] all) where
  offers_same : AreSame (offers_of s.side.me.0) (flat_map (λ (p : PassView). p.offers) all)
  offers_same h = omega (arith, had.offers h, sum_by-flat_map h (λ (p : PassView). p.offers) all)

  seen_same : AreSame s.side.me.0.seen (flat_map (λ (p : PassView). p.seen) all)
  seen_same h = omega (arith, had.seen h, sum_by-flat_map h (λ (p : PassView). p.seen) all)

  tickets_same : AreSame (tickets_of s.tickets.me.0) (flat_map (λ (p : PassView). p.tickets) all)
  tickets_same h = omega (arith, had.tickets h, sum_by-flat_map h (λ (p : PassView). p.tickets) all)

  pub least : (side opening : ℕ) → IsLeast side opening (offers_of s.side.me.0) → IsLeast side opening (flat_map (λ (p : PassView). p.offers) all)
  least side opening is = least_moved side opening _ _ offers_same is

  pub known : (opening : ℕ) → All (IsKnown opening (offers_of s.side.me.0)) s.side.me.0.seen → All (λ (p : PassView). All (IsKnown opening (flat_map (λ (p : PassView). p.offers) all)) p.seen) all
  known opening is = each_of (IsKnown opening (flat_map (λ (p : PassView). p.offers) all)) all (known_moved opening _ _ _ _ offers_same seen_same is)

  pub once : (n : ℕ) → AreSame (map (λ (t : Ticket). t.number) (tickets_of s.tickets.me.0)) (range_with_len 0 n) → AreSame (map (λ (t : Ticket). t.number) (flat_map (λ (p : PassView). p.tickets) all)) (range_with_len 0 n)
  once n is h = let number : Ticket → ℕ = λ (t : Ticket). t.number in
      sym (same-map number (tickets_of s.tickets.me.0) (flat_map (λ (p : PassView). p.tickets) all) tickets_same h) ∙ is h

  pub halts : (0 < reads_in s.halt.me.0 → 0 < halts_in s.halt.me.0) → Any (λ (p : PassView). p.halt_read ≡ true) all → Any (λ (p : PassView). p.halted ≡ true) all
  halts is a =
      let read : 0 < reads_in s.halt.me.0 = omega (arith, had.reads, counted (λ (p : PassView). p.halt_read) all a) in
      found (λ (p : PassView). p.halted) all (omega (arith, is read, had.halts))
