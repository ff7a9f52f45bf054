-- A node line and the line `end` lead on, or have their first fault.
use Rattle.std.proofs.Common.{◌≡◌, ℕ, ◌-◌, ◌<◌, true, List, [], ◌∷◌, ◌++◌, Bool, Option, None, Some, Ok, Err, refl, sym, ◌∙◌, ap, subst, arith, append_assoc, length-append}
use Rattle.std.specs.Prelude.{codes, nat_lt, if◌then◌else◌}
use Rattle.std.specs.List.{flat_map}
use Rattle.std.proofs.lemmas.Bool.{lt-ltb, le-ltb}
use Rattle.std.proofs.lemmas.Grind.{flat_map-append}
use Rattle.std.proofs.lemmas.List.{append-nil, append_cancel_right}
use Rattle.bp_document.specs.declared.fault.DocKind.{DocKind}
use Rattle.bp_document.specs.declared.fault.DocKind.TheVariants.{BadForm}
use Rattle.bp_document.specs.declared.head.Head.{Head}
use Rattle.bp_document.specs.declared.node_line.NodeLine.{NodeLine}
use Rattle.bp_document.specs.declared.stage.Stage.{Stage}
use Rattle.bp_document.specs.Lines.{line}
use Rattle.bp_document.specs.Forms.{IsLine, proof_line, end_line}
use Rattle.bp_document.specs.Nodes.{IsKindOfNumbers, node_text}
use Rattle.bp_document.specs.Places.{Place, AtNode, AtEnd, DepthFits, Follow, deepest, deepest_behind, floor_part, nodes_part}
use Rattle.bp_document.specs.Feeding.{FeedsNode}
use Rattle.bp_document.specs.Faults.{HasForm, IsFirstKind}
use Rattle.bp_document.specs.Stages.{Steps, GivesNode}
use Rattle.bp_document.proofs.EdgeSteps.{bad_form}
use Rattle.bp_document.proofs.BodySteps.{extended}

-- one node more
pub follow_more : (most : Option ℕ) (ns : List NodeLine) (l : NodeLine) → Follow most ns → IsKindOfNumbers l.kind → DepthFits (deepest_behind most ns) l.depth → Follow most (ns ++ l ∷ [])
follow_more most [] l follow kind fits = (kind, fits, tt)
follow_more most (n ∷ ns) l follow kind fits = (follow.0, follow.1, follow_more (Some (deepest n.kind n.depth)) ns l follow.2 kind fits)

pub deepest_more : (most : Option ℕ) (ns : List NodeLine) (l : NodeLine) → deepest_behind most (ns ++ l ∷ []) ≡ Some (deepest l.kind l.depth)
deepest_more most [] l = refl
deepest_more most (n ∷ ns) l = deepest_more (Some (deepest n.kind n.depth)) ns l

pub nodes_more : (H : Head) (ns : List NodeLine) (l : NodeLine) → nodes_part H ns ++ node_text l ≡ nodes_part H (ns ++ l ∷ [])
nodes_more H ns l =
    append_assoc (floor_part H ++ proof_line H.proof) (flat_map node_text ns) (node_text l)
    ∙ ap (λ (t : List ℕ). (floor_part H ++ proof_line H.proof) ++ t)
    (ap (λ (t : List ℕ). flat_map node_text ns ++ t) (sym (append-nil (node_text l))) ∙ sym (flat_map-append node_text ns (l ∷ [])))

pub end_text : codes "end" ++ 10 ∷ [] ≡ end_line
unfolding line
end_text = refl

module _ (H : Head) (left : ℕ) (most : Option ℕ) (bytes : List ℕ) where
  abbrev place_if : Bool → Place
  place_if b = if b then AtNode most else AtEnd

  at_node : 0 < left → place_if (nat_lt 0 left) ≡ AtNode most
  at_node more = ap place_if (lt-ltb 0 left more)

  at_end : left ≡ 0 → place_if (nat_lt 0 left) ≡ AtEnd
  at_end none = ap place_if (le-ltb 0 left (omega (arith, none)))

  pub node_refused : 0 < left → (kind : DocKind) → FeedsNode most bytes (Err kind) → Steps (Stage.Nodes H left most) bytes true (Err (record { head = Some H; kind = kind }))
  node_refused more kind fault = (refl, λ text es ns stands none. subst (λ (place : Place). IsFirstKind place bytes true kind) (sym (at_node more)) fault)

  pub node_fed : 0 < left → (l : NodeLine) (d : ℕ) → d ≡ deepest l.kind l.depth → FeedsNode most bytes (Ok l) → Steps (Stage.Nodes H left most) bytes true (Ok (record { stage = Stage.Nodes H (left - 1) (Some d); node = Some l }))
  node_fed more l d deep fed = (
    refl,
    record {
      whole = tt;
      before = λ h. absurd h;
      within = λ lines within. omega (arith, within, more);
      on = λ text es ns stands none.
          let start = stands.0 in
          let here : text ++ (bytes ++ 10 ∷ []) ≡ start.0 ++ nodes_part H (ns ++ l ∷ []) =
          extended text start.0 (nodes_part H ns) (bytes ++ 10 ∷ []) (node_text l) start.2 fed.0.text ∙ ap (λ (t : List ℕ). start.0 ++ t) (nodes_more H ns l) in
          let fits : DepthFits (deepest_behind None ns) l.depth = subst (λ (m : Option ℕ). DepthFits m l.depth) stands.4 fed.1 in (
            [],
            subst (λ (place : Place). HasForm place bytes) (sym (at_node more)) (l, fed.0),
            subst (λ (place : Place). GivesNode place bytes (Some l)) (sym (at_node more)) fed,
            (
              (start.0, start.1, here),
              stands.1,
              follow_more None ns l stands.2 fed.0.kind fits,
              omega (arith, more, stands.3, length-append ns (l ∷ [])),
              ap Some deep ∙ sym (deepest_more None ns l),
            ),
          );
    },
  )

  pub end_fed : left ≡ 0 → bytes ≡ codes "end" → Steps (Stage.Nodes H left most) bytes true (Ok (record { stage = Stage.Behind H; node = None }))
  end_fed none is = (
    refl,
    record {
      whole = tt;
      before = λ h. absurd h;
      within = λ lines within. omega (arith, within);
      on = λ text es ns stands empty.
          let start = stands.0 in
          let form : IsLine bytes end_line = ap (λ (t : List ℕ). t ++ 10 ∷ []) is ∙ end_text in (
            [],
            subst (λ (place : Place). HasForm place bytes) (sym (at_end none)) form,
            subst (λ (place : Place). GivesNode place bytes None) (sym (at_end none)) tt,
            (
              (start.0, start.1, extended text start.0 (nodes_part H ns) (bytes ++ 10 ∷ []) end_line start.2 form),
              stands.1,
              stands.2,
              omega (arith, none, stands.3),
            ),
          );
    },
  )

  pub no_end : left ≡ 0 → (bytes ≡ codes "end" → ⊥) → Steps (Stage.Nodes H left most) bytes true (Err (record { head = Some H; kind = BadForm }))
  no_end none other = (
    refl,
    λ text es ns stands empty. subst (λ (place : Place). IsFirstKind place bytes true BadForm) (sym (at_end none))
        (bad_form AtEnd bytes (λ h. h) (λ form. other (append_cancel_right bytes (codes "end") (10 ∷ []) (form ∙ sym end_text)))),
  )
