-- Lines that are read one after another.
use Rattle.std.proofs.Common.{◌≡◌, inl, inr, ℕ, ◌+◌, ◌-◌, ◌<◌, ◌≤◌, List, [], ◌∷◌, ◌++◌, length, get_or, take, drop, map, Ok, Err, refl, sym, ◌∙◌, ap, subst, arith}
use Rattle.std.proofs.lemmas.List.{length-drop, get_or-drop, drop-drop, drop_all, take_all, map_push, append-nil}
use Rattle.bp_base.specs.declared.point.Line.{Line}
use Rattle.bp_base.specs.Tree.{TreeValue}
use Rattle.bp_text.specs.Lines.{IsLineAt}
use Rattle.bp_tree.specs.declared.fault.TreeKind.{TreeKind}
use Rattle.bp_tree.specs.Lines.{lines_of, words_of, rows}
use Rattle.bp_tree.specs.Edges.{HasEdges, IsGrowing, edge_words}
use Rattle.bp_tree.specs.Faults.{IsKind, IsFirstFault, names_in, names_before, line_at}
use Rattle.bp_tree.specs.Calls.{AddsLine, GrewFrom}
use Rattle.bp_tree.specs.Growing.{no_nodes}
use Rattle.bp_tree.proofs.LineLists.{line_cut, lines_none}
use Rattle.bp_tree.proofs.Rows.{rows_more, rows_skipped, rows_cons, names_edges}
use Rattle.bp_tree.proofs.Faultless.{no_fault}

-- so many lines, up to a place, gave the edges of T
pub record ReadSoFar (bytes : List ℕ) (at number : ℕ) (T : TreeValue) : Type 0 where
  pub rest : drop number (lines_of bytes) ≡ lines_of (drop at bytes)
  pub counted : number ≤ length (lines_of bytes)
  pub grew : GrewFrom (take number (lines_of bytes)) T

pub read_none : (bytes : List ℕ) (T : TreeValue) → T ≡ no_nodes → ReadSoFar bytes 0 0 T
read_none bytes T none = record {
  rest = refl;
  counted = omega arith;
  grew = ([], refl, subst (λ (S : TreeValue). HasEdges S []) (sym none) (record { names = refl; uppers = refl; lengths = refl }));
}

module _ (bytes : List ℕ) (at number : ℕ) (T : TreeValue) (so_far : ReadSoFar bytes at number T) where
  pub read_end : at ≡ length bytes → GrewFrom (lines_of bytes) T
  read_end end =
      let none : drop number (lines_of bytes) ≡ [] = so_far.rest ∙ ap lines_of (drop_all at bytes (omega arith)) ∙ lines_none in
      let all : take number (lines_of bytes) ≡ lines_of bytes = take_all number (lines_of bytes) (omega (arith, ap length none, length-drop number (lines_of bytes))) in
      subst (λ (ls : List (List ℕ)). GrewFrom ls T) all so_far.grew

  module _ (l : Line) (is : IsLineAt bytes at l) (piece : List ℕ) (piece_is : piece ≡ take (l.to - l.from) (drop l.from bytes)) where
    cut : drop number (lines_of bytes) ≡ piece ∷ lines_of (drop l.next bytes)
    cut = so_far.rest ∙ line_cut bytes at l is ∙ ap (λ (x : List ℕ). x ∷ lines_of (drop l.next bytes)) (sym piece_is)

    there : number < length (lines_of bytes)
    there = omega (arith, ap length cut, length-drop number (lines_of bytes))

    line_is : get_or (lines_of bytes) number [] ≡ piece
    line_is =
        let e : number + 0 ≡ number = omega arith in
        ap (λ (k : ℕ). get_or (lines_of bytes) k []) (sym e) ∙ sym (get_or-drop number (lines_of bytes) 0 []) ∙ ap (λ (ls : List (List ℕ)). get_or ls 0 []) cut

    more : rows (take (number + 1) (lines_of bytes)) ≡ rows (take number (lines_of bytes)) ++ rows (piece ∷ [])
    more = rows_more (lines_of bytes) number there ∙ ap (λ (x : List ℕ). rows (take number (lines_of bytes)) ++ rows (x ∷ [])) line_is

    pub read_more : (T' : TreeValue) (u : Unit) → AddsLine T piece T' (Ok u) → ReadSoFar bytes l.next (number + 1) T'
    read_more T' u adds = record {
      rest = sym (drop-drop 1 number (lines_of bytes)) ∙ ap (drop 1) cut;
      counted = omega (arith, there);
      grew = go so_far.grew adds;
    }
      where
        go : GrewFrom (take number (lines_of bytes)) T → AddsLine T piece T' (Ok u) → GrewFrom (take (number + 1) (lines_of bytes)) T'
        go (es, given, has) (inl (none, same)) =
            (es, more ∙ ap (λ (r : List (List (List ℕ))). rows (take number (lines_of bytes)) ++ r) (rows_skipped piece none) ∙ append-nil (rows (take number (lines_of bytes))) ∙ given, subst (λ (S : TreeValue). HasEdges S es) (sym same) has)
        go (es, given, has) (inr (e, words, grows)) =
            let row : rows (piece ∷ []) ≡ edge_words e ∷ [] = rows_cons piece [] (λ none. omega (arith, ap length (sym words ∙ none))) ∙ ap (λ (w : List (List ℕ)). w ∷ []) words in
            (es ++ e ∷ [], more ∙ ap (λ (r : List (List (List ℕ))). r ++ rows (piece ∷ [])) given ∙ ap (λ (r : List (List (List ℕ))). map edge_words es ++ r) row ∙ sym (map_push edge_words es e), grows es has)

    pub read_fault : IsGrowing T → (T' : TreeValue) (n : ℕ) (kind : TreeKind) → n ≡ number + 1 → AddsLine T piece T' (Err kind) → IsFirstFault (lines_of bytes) n kind
    read_fault t T' n kind count (some, fault) =
        let back : n - 1 ≡ number = omega arith in
        let here : line_at (lines_of bytes) n ≡ piece = ap (λ (k : ℕ). get_or (lines_of bytes) k []) back ∙ line_is in
        let names : names_before (lines_of bytes) n ≡ T.names = ap (λ (k : ℕ). names_in (rows (take k (lines_of bytes)))) back ∙ names_are so_far.grew in
        record {
          row = record { from = omega arith; to = omega (arith, there); worded = λ none. some (ap words_of (sym here) ∙ none) };
          has = subst (λ (x : List ℕ). IsKind (names_before (lines_of bytes) n) x kind) (sym here) (subst (λ (ns : List (List ℕ)). IsKind ns piece kind) (sym names) fault);
          before = λ m other earlier had. no_fault (lines_of bytes) number T t so_far.counted so_far.grew m other (omega arith) had;
        }
      where
        names_are : GrewFrom (take number (lines_of bytes)) T → names_in (rows (take number (lines_of bytes))) ≡ T.names
        names_are (es, given, has) = ap names_in given ∙ names_edges es ∙ sym has.names
