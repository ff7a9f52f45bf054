-- One worker more comes back.
use Rattle.std.proofs.Common.{◌≡◌, ℕ, List, [], ◌∷◌, ◌++◌, Option, sym, ap, ◌∙◌, subst, append-nil}
use Rattle.std.specs.List.{flat_map}
use Rattle.std.proofs.lemmas.Grind.{flat_map-append}
use Rattle.std.proofs.lemmas.List.Concat.{flat_map-cons}
use Rattle.bp_base.specs.declared.point.Placement.{Placement}
use Rattle.bp_base.specs.declared.point.Sheet.{Sheet}
use Rattle.bp_base.specs.declared.record.Record.{Record}
use Rattle.bp_base.specs.declared.record.Task.{Task}
use Rattle.bp_base.specs.Tree.{TreeValue}
use Rattle.bp_incumbent.specs.declared.tickets.Ticket.{Ticket}
use Rattle.bp_incumbent.specs.Board.{BoardView, PassView}
use Rattle.bp_pool.specs.Hands.{HandView}
use Rattle.bp_pool.specs.Rows.{pushed_by_all, taken_by_all}
use Rattle.bp_workers.specs.Agrees.{Keeps}
use Rattle.bp_workers.specs.Worked.{IsBest, IsWorked, lesser}
use Rattle.bp_workers.proofs.Joined.{joined, lesser_best}

flat_last : {X A : Type 0} (f : X → List A) (xs : List X) (x : X) → flat_map f (xs ++ x ∷ []) ≡ flat_map f xs ++ f x
flat_last {X} {A} f xs x =
    flat_map-append f xs (x ∷ []) ∙ ap (λ (ys : List A). flat_map f xs ++ ys) (flat_map-cons f x [] ∙ append-nil (f x))

abbrev pub all_tickets : List PassView → List Ticket
all_tickets passes = flat_map (λ (p : PassView). p.tickets) passes

abbrev pub all_offers : List PassView → List ℕ
all_offers passes = flat_map (λ (p : PassView). p.offers) passes

module _ (T : TreeValue) (G : Sheet) (board : BoardView) (hands : List HandView) (passes : List PassView) (hand : HandView) (pass : PassView) (ks : List Task) (rs : List Record) (b : Option Placement) (keeps : Keeps T G board hand pass rs ks b) where
  pub merged : (records : List Record) (kept : List Task) → IsWorked T G board.limit (taken_by_all hands) (pushed_by_all hands) records kept (all_tickets passes) (all_offers passes) → IsWorked T G board.limit (taken_by_all (hands ++ hand ∷ [])) (pushed_by_all (hands ++ hand ∷ [])) (records ++ rs) (kept ++ ks) (all_tickets (passes ++ pass ∷ [])) (all_offers (passes ++ pass ∷ []))
  merged records kept worked =
      let R = records ++ rs in
      let K = kept ++ ks in
      let both = joined T G board.limit (taken_by_all hands) (pushed_by_all hands) records kept (all_tickets passes) (all_offers passes) hand.taken hand.pushed rs ks pass.tickets pass.offers worked keeps.worked in
      let pushed = pushed_by_all hands ++ hand.pushed in
      let tickets = all_tickets passes ++ pass.tickets in
      let offers = all_offers passes ++ pass.offers in
      subst (λ (xs : List Task). IsWorked T G board.limit xs (pushed_by_all (hands ++ hand ∷ [])) R K (all_tickets (passes ++ pass ∷ [])) (all_offers (passes ++ pass ∷ []))) (sym (flat_last (λ (v : HandView). v.taken) hands hand))
      (subst (λ (xs : List Task). IsWorked T G board.limit (taken_by_all hands ++ hand.taken) xs R K (all_tickets (passes ++ pass ∷ [])) (all_offers (passes ++ pass ∷ []))) (sym (flat_last (λ (v : HandView). v.pushed) hands hand))
      (subst (λ (ts : List Ticket). IsWorked T G board.limit (taken_by_all hands ++ hand.taken) pushed R K ts (all_offers (passes ++ pass ∷ []))) (sym (flat_last (λ (p : PassView). p.tickets) passes pass))
      (subst (λ (vs : List ℕ). IsWorked T G board.limit (taken_by_all hands ++ hand.taken) pushed R K tickets vs) (sym (flat_last (λ (p : PassView). p.offers) passes pass)) both)))

  pub best_merged : (best : Option Placement) → IsBest T G best (all_offers passes) → IsBest T G (lesser best b) (all_offers (passes ++ pass ∷ []))
  best_merged best is =
      subst (IsBest T G (lesser best b)) (sym (flat_last (λ (p : PassView). p.offers) passes pass)) (lesser_best T G best b (all_offers passes) pass.offers is keeps.best_is)
