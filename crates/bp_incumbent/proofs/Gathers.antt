-- How `open` deals passes out, and how `close` takes them in.
use Rattle.std.proofs.Common.{◌≡◌, ℕ, zero, suc, ◌+◌, ◌<◌, List, [], ◌∷◌, ◌++◌, length, get_or, All, sym, refl, ap, ◌∙◌, subst, arith, length-append}
use Rattle.std.specs.List.{sum_by}
use Rattle.std.proofs.lemmas.Grind.{flat_map-append}
use Rattle.std.proofs.lemmas.List.Sums.{sum_by-append, sum_by_push}
use Rattle.std.proofs.lemmas.List.Elements.{All-append}
use mathlib.Core.Logic.{dite}
use native.Mathlib.Decide.{ℕ_discrete}
use Rattle.bp_incumbent.specs.Entries.{flag}
use Rattle.bp_incumbent.specs.declared.pass.Pass.TheInside.{Inside}
use Rattle.bp_incumbent.specs.declared.seats.Seats.{Seats}
use Rattle.bp_incumbent.specs.declared.side.Offers.{Offers}
use Rattle.bp_incumbent.specs.declared.tickets.Drawn.{Drawn}
use Rattle.bp_incumbent.specs.declared.halt.Halts.{Halts}
use Rattle.bp_incumbent.specs.declared.halt.HaltView.{HaltView}
use Rattle.bp_incumbent.specs.Side as side
use Rattle.bp_incumbent.specs.Tickets as tickets
use Rattle.bp_incumbent.specs.Halt as halt
use Rattle.bp_incumbent.specs.Side.{offers_of, IsLeast, IsKnown}
use Rattle.bp_incumbent.specs.Tickets.{tickets_of}
use Rattle.bp_incumbent.specs.Halt.{halts_in, reads_in}
use Rattle.bp_incumbent.specs.Board.{PassView, BoardId, new_pass, IsCarried}
use Rattle.bp_incumbent.specs.Seats.{HasTaken}
use Rattle.bp_incumbent.specs.Passes.{IsPass, pass_view, first_halted, first_read}
use Rattle.bp_incumbent.proofs.Entries.{only}

-- The last pass is taken off.

sums : (f : PassView → ℕ) (all left : List PassView) (p : PassView) → all ≡ left ++ p ∷ [] → f p + sum_by f left ≡ sum_by f all
sums f all left p is = omega (arith, ap (sum_by f) is, sum_by_push f left p)

longer : (all left : List PassView) (p : PassView) → all ≡ left ++ p ∷ [] → length left + 1 ≡ length all
longer all left p is = omega (arith, ap length is, length-append left (p ∷ []))

one_all : {X : Type 0} (P : X → Type 0) (x : X) → P x → All P (x ∷ [])
one_all P x h zero d lt = h
one_all P x h (suc k) d lt = absurd (omega arith)

all_more : (P : PassView → Type 0) (all left : List PassView) (p : PassView) → all ≡ left ++ p ∷ [] → P p → All P left → All P all
all_more P all left p is here front = subst (All P) (sym is) (All-append P left (p ∷ []) front (one_all P p here))

pub all_less : (P : PassView → Type 0) (all left : List PassView) (p : PassView) → all ≡ left ++ p ∷ [] → All P all → All P left × P p
all_less P all left p is each = split P left p (subst (All P) is each)
  where
    split : (P : PassView → Type 0) (ys : List PassView) (p : PassView) → All P (ys ++ p ∷ []) → All P ys × P p
    split P [] p each = ((λ k d lt. absurd (omega arith)), each 0 p (omega arith))
    split P (y ∷ ys) p each = let rest = split P ys p (λ k d lt. each (suc k) d (omega arith)) in (more P y ys rest.0 (each 0 y (omega arith)), rest.1)
      where
        more : (P : PassView → Type 0) (y : PassView) (ys : List PassView) → All P ys → P y → All P (y ∷ ys)
        more P y ys back here zero d lt = here
        more P y ys back here (suc k) d lt = back k d (omega arith)

-- What the seats of one pass have.

halts_one : (v : HaltView) (h : Halts) → v.passes ≡ h ∷ [] → halts_in v ≡ flag (first_halted v.passes)
halts_one v h is = only (λ (p : Halts). flag p.halted) v.passes h is ∙ sym (ap (λ (ps : List Halts). flag (first_halted ps)) is)

reads_one : (v : HaltView) (h : Halts) → v.passes ≡ h ∷ [] → reads_in v ≡ flag (first_read v.passes)
reads_one v h is = only (λ (p : Halts). flag p.was_read) v.passes h is ∙ sym (ap (λ (ps : List Halts). flag (first_read ps)) is)

module _ (p : Inside) (was : IsPass p) (left all : List PassView) where
  pub starts : all ≡ left ++ pass_view p ∷ [] → HasTaken p.seats left all
  starts is = record {
    side_held = omega (arith, ap length was.one.1, longer all left (pass_view p) is);
    tickets_held = omega (arith, ap length was.one_drawn.1, longer all left (pass_view p) is);
    halt_held = omega (arith, ap length was.one_halts.1, longer all left (pass_view p) is);
    offers = λ h. sums (λ (q : PassView). sum_by h q.offers) all left (pass_view p) is;
    seen = λ h. sums (λ (q : PassView). sum_by h q.seen) all left (pass_view p) is;
    tickets = λ h. sums (λ (q : PassView). sum_by h q.tickets) all left (pass_view p) is;
    halts = omega (arith, halts_one p.seats.halt.me.0 was.one_halts.0 was.one_halts.1, sums (λ (q : PassView). flag q.halted) all left (pass_view p) is);
    reads = omega (arith, reads_one p.seats.halt.me.0 was.one_halts.0 was.one_halts.1, sums (λ (q : PassView). flag q.halt_read) all left (pass_view p) is);
    carried = all_more IsCarried all left (pass_view p) is was.carried;
  }

  -- the pass is the last of those that were left before
  pub takes : (s t : Seats) (before : List PassView) → before ≡ left ++ pass_view p ∷ [] → HasTaken s before all
      → t.side.me ≡ (side.both s.side.me.0 p.seats.side.me.0, s.side.me.1) → t.tickets.me ≡ (tickets.both s.tickets.me.0 p.seats.tickets.me.0, s.tickets.me.1) → t.halt.me ≡ (halt.both s.halt.me.0 p.seats.halt.me.0, s.halt.me.1)
      → HasTaken t left all
  takes s t before is had sides drawn halts =
      let v = s.side.me.0 in let w = p.seats.side.me.0 in
      let vt = s.tickets.me.0 in let wt = p.seats.tickets.me.0 in
      let vh = s.halt.me.0 in let wh = p.seats.halt.me.0 in
      let q = pass_view p in let less = longer before left q is in
      record {
        side_held = omega (arith, ap (λ m. length m.0.passes) sides, length-append v.passes w.passes, ap length was.one.1, less, had.side_held);
        tickets_held = omega (arith, ap (λ m. length m.0.passes) drawn, length-append vt.passes wt.passes, ap length was.one_drawn.1, less, had.tickets_held);
        halt_held = omega (arith, ap (λ m. length m.0.passes) halts, length-append vh.passes wh.passes, ap length was.one_halts.1, less, had.halt_held);
        offers = λ h. omega (arith, ap (λ m. sum_by h (offers_of m.0)) sides, ap (sum_by h) (flat_map-append (λ (o : Offers). o.sides) v.passes w.passes), sum_by-append h (offers_of v) (offers_of w), sums (λ (q : PassView). sum_by h q.offers) before left q is, had.offers h);
        seen = λ h. omega (arith, ap (λ m. sum_by h m.0.seen) sides, sum_by-append h v.seen w.seen, sums (λ (q : PassView). sum_by h q.seen) before left q is, had.seen h);
        tickets = λ h. omega (
          arith,
          ap (λ m. sum_by h (tickets_of m.0)) drawn,
          ap (sum_by h) (flat_map-append (λ (d : Drawn). d.tickets) vt.passes wt.passes),
          sum_by-append h (tickets_of vt) (tickets_of wt),
          sums (λ (q : PassView). sum_by h q.tickets) before left q is,
          had.tickets h,
        );
        halts = omega (arith, ap (λ m. halts_in m.0) halts, sum_by-append (λ (h : Halts). flag h.halted) vh.passes wh.passes, halts_one wh was.one_halts.0 was.one_halts.1, sums (λ (q : PassView). flag q.halted) before left q is, had.halts);
        reads = omega (arith, ap (λ m. reads_in m.0) halts, sum_by-append (λ (h : Halts). flag h.was_read) vh.passes wh.passes, reads_one wh was.one_halts.0 was.one_halts.1, sums (λ (q : PassView). flag q.halt_read) before left q is, had.reads);
        carried = λ front. had.carried (all_more IsCarried before left q is was.carried front);
      }

-- a pass that is dealt after k others
pub dealt_more : (board : BoardId) (o : ℕ) (ps : List PassView) (p : PassView) (k : ℕ) → length ps ≡ k → ((j : ℕ) (d : PassView) → j < k → get_or ps j d ≡ new_pass board (j + 1) o) → p ≡ new_pass board (k + 1) o
    → (j : ℕ) (d : PassView) → j < k + 1 → get_or (ps ++ p ∷ []) j d ≡ new_pass board (j + 1) o
dealt_more board o ps p k long before is j d lt = dite (ℕ_discrete j k)
    (λ (e : j ≡ k). subst (λ (n : ℕ). get_or (ps ++ p ∷ []) n d ≡ new_pass board (n + 1) o) (long ∙ sym e) (last_is ps p d ∙ is ∙ ap (λ (n : ℕ). new_pass board (n + 1) o) (sym long)))
    (λ ne. front_is ps p j d (omega arith) ∙ before j d (omega arith))
  where
    last_is : (ps : List PassView) (p d : PassView) → get_or (ps ++ p ∷ []) (length ps) d ≡ p
    last_is [] p d = refl
    last_is (q ∷ qs) p d = last_is qs p d

    front_is : (ps : List PassView) (p : PassView) (j : ℕ) (d : PassView) → j < length ps → get_or (ps ++ p ∷ []) j d ≡ get_or ps j d
    front_is [] p j d lt = absurd (omega arith)
    front_is (q ∷ qs) p zero d lt = refl
    front_is (q ∷ qs) p (suc j) d lt = front_is qs p j d (omega arith)
