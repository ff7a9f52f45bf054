-- Which vertices are joined, by their numbers.
use Rattle.std.proofs.Common.{◌≡◌, ◌⊎◌, ◌↔◌, ℕ, ◌+◌, ◌<◌, ◌≤◌, List, [], ◌∷◌, ◌++◌, Option, None, Some, length, refl, sym, ◌∙◌, ap, subst, arith, inl, inr}
use Rattle.std.specs.List.{AllPairs, Contains}
use Rattle.std.proofs.lemmas.Bool.{cases_eq, cases_order}
use Rattle.std.proofs.lemmas.List.{append-nil}
use Rattle.std.proofs.lemmas.List.Elements.{Contains-get_or}
use Rattle.bp_base.specs.declared.point.Point.{Point}
use Rattle.bp_base.specs.Point.{origin}
use Rattle.bp_regions.specs.Regions.{RegionsValue}
use Rattle.bp_fold.specs.declared.drawing.Edge.{Edge}
use Rattle.bp_fold.specs.Edges.{AreJoined, IsEdgeOf, RunsRight, RunsUp, vertex_at}
use Rattle.bp_fold.specs.Numbering.{AreEdgesBefore, Leads, edge_to}
use Rattle.bp_regions.specs.Contours.{ComesBefore}
use Rattle.bp_fold.specs.Vertices.{IsVertex}
use Rattle.bp_fold.proofs.Listing.{asymmetric, lists_push, lists_skip, number_order, one_number}

-- the list of all vertices, in order
pub record AreVertices (R : RegionsValue) (V : List Point) : Type 0 where
  pub rising : AllPairs ComesBefore V
  pub each : (p : Point) → (Contains V p ↔ IsVertex R p)

pub same_point : (p q : Point) → p.x ≡ q.x → p.y ≡ q.y → p ≡ q
same_point p q x y = ap (λ (k : ℕ). let r : Point = record { x = k; y = p.y } in r) x ∙ ap (λ (k : ℕ). let r : Point = record { x = q.x; y = k } in r) y

pub points_asym : (p q : Point) → ComesBefore p q → ComesBefore q p → ⊥
points_asym p q = asymmetric p.y p.x q.y q.x

-- the number is the one that is led to
abbrev LeadsTo : Option ℕ → ℕ → Type 0
LeadsTo None t = ⊥
LeadsTo (Some a) t = t ≡ a

module _ (R : RegionsValue) (V : List Point) (h : AreVertices R V) where
  vertex : (k : ℕ) → k < length V → IsVertex R (vertex_at V k)
  vertex k less = (h.each (vertex_at V k)).0 (Contains-get_or V k origin less)

  right_order : (a b : ℕ) → a < length V → b < length V → RunsRight R (vertex_at V a) (vertex_at V b) → a < b
  right_order a b in_a in_b run = number_order ComesBefore points_asym V a b origin h.rising in_a in_b (inr (run.level, run.order))

  up_order : (a b : ℕ) → a < length V → b < length V → RunsUp R (vertex_at V a) (vertex_at V b) → a < b
  up_order a b in_a in_b run = number_order ComesBefore points_asym V a b origin h.rising in_a in_b (inl run.order)

  -- from the smaller number a run goes right or up
  goes : (a b : ℕ) → a < b → b < length V → AreJoined R (vertex_at V a) (vertex_at V b) → RunsRight R (vertex_at V a) (vertex_at V b) ⊎ RunsUp R (vertex_at V a) (vertex_at V b)
  goes a b less within (inl run) = inl run
  goes a b less within (inr (inl run)) = absurd (omega (arith, less, right_order b a within (omega (arith, less, within)) run))
  goes a b less within (inr (inr (inl run))) = inr run
  goes a b less within (inr (inr (inr run))) = absurd (omega (arith, less, up_order b a within (omega (arith, less, within)) run))

  right_first : (f a b : ℕ) → a < length V → b < length V → RunsRight R (vertex_at V f) (vertex_at V a) → RunsRight R (vertex_at V f) (vertex_at V b) → (vertex_at V a).x < (vertex_at V b).x → ⊥
  right_first f a b in_a in_b one other less =
      other.free (vertex_at V a).x one.order less (subst (IsVertex R) (same_point (vertex_at V a) (record { x = (vertex_at V a).x; y = (vertex_at V f).y }) refl (sym one.level)) (vertex a in_a))

  one_right : (f a b : ℕ) → a < length V → b < length V → RunsRight R (vertex_at V f) (vertex_at V a) → RunsRight R (vertex_at V f) (vertex_at V b) → a ≡ b
  one_right f a b in_a in_b one other = elim (cases_order (vertex_at V a).x (vertex_at V b).x) [
    | inl same ↦ one_number ComesBefore points_asym V a b origin h.rising in_a in_b (same_point (vertex_at V a) (vertex_at V b) same (sym one.level ∙ other.level))
    | inr (inl less) ↦ absurd (right_first f a b in_a in_b one other less)
    | inr (inr more) ↦ absurd (right_first f b a in_b in_a other one more)
  ]

  up_first : (f a b : ℕ) → a < length V → b < length V → RunsUp R (vertex_at V f) (vertex_at V a) → RunsUp R (vertex_at V f) (vertex_at V b) → (vertex_at V a).y < (vertex_at V b).y → ⊥
  up_first f a b in_a in_b one other less =
      other.free (vertex_at V a).y one.order less (subst (IsVertex R) (same_point (vertex_at V a) (record { x = (vertex_at V f).x; y = (vertex_at V a).y }) (sym one.upright) refl) (vertex a in_a))

  one_up : (f a b : ℕ) → a < length V → b < length V → RunsUp R (vertex_at V f) (vertex_at V a) → RunsUp R (vertex_at V f) (vertex_at V b) → a ≡ b
  one_up f a b in_a in_b one other = elim (cases_order (vertex_at V a).y (vertex_at V b).y) [
    | inl same ↦ one_number ComesBefore points_asym V a b origin h.rising in_a in_b (same_point (vertex_at V a) (vertex_at V b) (sym one.upright ∙ other.upright) same)
    | inr (inl less) ↦ absurd (up_first f a b in_a in_b one other less)
    | inr (inr more) ↦ absurd (up_first f b a in_b in_a other one more)
  ]

  -- the vertex on the right comes before the one above
  right_then_up : (f a b : ℕ) → a < length V → b < length V → RunsRight R (vertex_at V f) (vertex_at V a) → RunsUp R (vertex_at V f) (vertex_at V b) → a < b
  right_then_up f a b in_a in_b right up = number_order ComesBefore points_asym V a b origin h.rising in_a in_b (inl (omega (arith, right.level, up.order)))

  by_right : (f t : ℕ) (r : Option ℕ) → t < length V → Leads (RunsRight R) V f r → RunsRight R (vertex_at V f) (vertex_at V t) → LeadsTo r t
  by_right f t None within none run = none t within run
  by_right f t (Some a) within lead run = one_right f t a within lead.0 run lead.1

  by_up : (f t : ℕ) (u : Option ℕ) → t < length V → Leads (RunsUp R) V f u → RunsUp R (vertex_at V f) (vertex_at V t) → LeadsTo u t
  by_up f t None within none run = none t within run
  by_up f t (Some b) within lead run = one_up f t b within lead.0 run lead.1

  module _ (f : ℕ) (in_f : f < length V) where
    -- the edges of this number lead to these two
    target : (r u : Option ℕ) → Leads (RunsRight R) V f r → Leads (RunsUp R) V f u → (e : Edge) → IsEdgeOf R V e → e.from ≡ f → LeadsTo r e.to ⊎ LeadsTo u e.to
    target r u right up e is at =
        let joined : AreJoined R (vertex_at V f) (vertex_at V e.to) = subst (λ (k : ℕ). AreJoined R (vertex_at V k) (vertex_at V e.to)) at is.2 in
        elim (goes f e.to (omega (arith, at, is.0)) is.1 joined) [
          | inl run ↦ inl (by_right f e.to r is.1 right run)
          | inr run ↦ inr (by_up f e.to u is.1 up run)
        ]

    skip_to : (b d : ℕ) (E : List Edge) → b ≤ d → ((e : Edge) → IsEdgeOf R V e → e.from ≡ f → b ≤ e.to → e.to < d → ⊥) → AreEdgesBefore R V f b E → AreEdgesBefore R V f d E
    skip_to b d E order none = lists_skip (λ (e : Edge). e.from) (λ (e : Edge). e.to) (IsEdgeOf R V) f b f d E
        (λ e before. elim before [ inl l ↦ inl l | inr l ↦ inr (l.0, omega (arith, l.1, order)) ])
        (λ e is before. elim before [
          | inl l ↦ inl l
          | inr l ↦ inr (l.0, omega (arith, λ (from : b ≤ e.to). none e is l.0 from l.1))
        ])

    finish : (b : ℕ) (E : List Edge) → ((e : Edge) → IsEdgeOf R V e → e.from ≡ f → b ≤ e.to → ⊥) → AreEdgesBefore R V f b E → AreEdgesBefore R V (f + 1) 0 E
    finish b E none = lists_skip (λ (e : Edge). e.from) (λ (e : Edge). e.to) (IsEdgeOf R V) f b (f + 1) 0 E
        (λ e before. elim before [ inl l ↦ inl (omega (arith, l)) | inr l ↦ inl (omega (arith, l.0)) ])
        (λ e is before. elim before [
          | inl l ↦ elim (cases_eq e.from f) [
            | inl same ↦ inr (same, omega (arith, λ (from : b ≤ e.to). none e is same from))
            | inr apart ↦ inl (omega (arith, l, apart))
          ]
          | inr l ↦ absurd (omega (arith, l.1))
        ])

    same_edge : (e g : Edge) → e.from ≡ g.from → e.to ≡ g.to → e ≡ g
    same_edge e g from to = ap (λ (k : ℕ). let d : Edge = record { from = k; to = e.to } in d) from ∙ ap (λ (k : ℕ). let d : Edge = record { from = g.from; to = k } in d) to

    put : (b : ℕ) (E : List Edge) → b < length V → AreJoined R (vertex_at V f) (vertex_at V b) → f < b → AreEdgesBefore R V f b E → AreEdgesBefore R V f (b + 1) (E ++ record { from = f; to = b } ∷ [])
    put b E within joined order =
        let e : Edge = record { from = f; to = b } in
        lists_push (λ (e : Edge). e.from) (λ (e : Edge). e.to) (IsEdgeOf R V) f b E e refl refl (order, within, joined) (λ y from to. same_edge y e from to)

    -- the edges of this number, after those of all lesser ones
    pub fan : (r u : Option ℕ) (E : List Edge) → Leads (RunsRight R) V f r → Leads (RunsUp R) V f u → AreEdgesBefore R V f 0 E → AreEdgesBefore R V (f + 1) 0 ((E ++ edge_to f r) ++ edge_to f u)
    fan None None E right up before =
        rw (append-nil E, append-nil E) (finish 0 E (λ e is at from. elim (target None None right up e is at) [ inl t ↦ t | inr t ↦ t ]) before)
    fan (Some a) None E right up before =
        let E1 = E ++ record { from = f; to = a } ∷ [] in
        let start = skip_to 0 a E (omega arith) (λ e is at from to. elim (target (Some a) None right up e is at) [ inl t ↦ omega (arith, t, to) | inr t ↦ t ]) before in
        let next = put a E right.0 (inl right.1) (right_order f a in_f right.0 right.1) start in
        rw (append-nil E1) (finish (a + 1) E1 (λ e is at from. elim (target (Some a) None right up e is at) [ inl t ↦ omega (arith, t, from) | inr t ↦ t ]) next)
    fan None (Some b) E right up before =
        let start = skip_to 0 b E (omega arith) (λ e is at from to. elim (target None (Some b) right up e is at) [ inl t ↦ t | inr t ↦ omega (arith, t, to) ]) before in
        let next = put b E up.0 (inr (inr (inl up.1))) (up_order f b in_f up.0 up.1) start in
        rw (append-nil E) (finish (b + 1) (E ++ record { from = f; to = b } ∷ []) (λ e is at from. elim (target None (Some b) right up e is at) [ inl t ↦ t | inr t ↦ omega (arith, t, from) ]) next)
    fan (Some a) (Some b) E right up before =
        let less : a < b = right_then_up f a b right.0 up.0 right.1 up.1 in
        let E1 = E ++ record { from = f; to = a } ∷ [] in
        let start = skip_to 0 a E (omega arith) (λ e is at from to. elim (target (Some a) (Some b) right up e is at) [ inl t ↦ omega (arith, t, to) | inr t ↦ omega (arith, t, to, less) ]) before in
        let middle = put a E right.0 (inl right.1) (right_order f a in_f right.0 right.1) start in
        let on = skip_to (a + 1) b E1 (omega (arith, less)) (λ e is at from to. elim (target (Some a) (Some b) right up e is at) [ inl t ↦ omega (arith, t, from) | inr t ↦ omega (arith, t, to) ]) middle in
        let next = put b E1 up.0 (inr (inr (inl up.1))) (up_order f b in_f up.0 up.1) on in
        finish (b + 1) (E1 ++ record { from = f; to = b } ∷ []) (λ e is at from. elim (target (Some a) (Some b) right up e is at) [ inl t ↦ omega (arith, t, from, less) | inr t ↦ omega (arith, t, from) ]) next
