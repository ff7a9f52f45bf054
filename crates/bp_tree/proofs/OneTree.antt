-- Edges are those of one tree.
use Rattle.std.proofs.Common.{◌≡◌, ◌≢◌, inl, inr, ℕ, suc, ◌+◌, ◌^◌, ◌<◌, ◌≤◌, List, [], ◌∷◌, ◌++◌, length, get_or, take, drop, map, All, AllPairs, refl, sym, ◌∙◌, ap, arith}
use Rattle.std.proofs.lemmas.Bool.{cases_order}
use Rattle.std.proofs.lemmas.List.{append_cancel_left, get_or-drop, length-drop, get_or-map}
use Rattle.bp_base.specs.Tree.{TreeValue, name_of}
use Rattle.bp_tree.specs.declared.edge.Edge.{Edge}
use Rattle.bp_tree.specs.Edges.{HasEdges, IsGrowing, edge_words, uppers, lowers, lengths}
use Rattle.bp_tree.proofs.Growth.{edge_count, parents_in}
use Rattle.bp_tree.proofs.Rows.{one_list}

-- names that differ have one place each
same_place : (names : List (List ℕ)) → AllPairs (λ a b. a ≢ b) names → (p q : ℕ) → p < length names → q < length names → get_or names p [] ≡ get_or names q [] → p ≡ q
same_place names differ p q p_in q_in same = elim (cases_order p q) [
  | inl is ↦ is
  | inr (inl less) ↦ absurd (differ p q [] less q_in same)
  | inr (inr more) ↦ absurd (differ q p [] more p_in (sym same))
]

same_places : (names : List (List ℕ)) → AllPairs (λ a b. a ≢ b) names → (ps qs : List ℕ) → ((k : ℕ) → k < length ps → get_or ps k 0 < length names) → ((k : ℕ) → k < length qs → get_or qs k 0 < length names) → map (λ p. get_or names p []) ps ≡ map (λ p. get_or names p []) qs → ps ≡ qs
same_places names differ [] [] ps_in qs_in same = refl
same_places names differ [] (q ∷ qs) ps_in qs_in same = absurd (omega (arith, ap length same))
same_places names differ (p ∷ ps) [] ps_in qs_in same = absurd (omega (arith, ap length same))
same_places names differ (p ∷ ps) (q ∷ qs) ps_in qs_in same =
    let head : get_or names p [] ≡ get_or names q [] = ap (λ (l : List (List ℕ)). get_or l 0 []) same in
    let tail : map (λ r. get_or names r []) ps ≡ map (λ r. get_or names r []) qs = ap (λ (l : List (List ℕ)). drop 1 l) same in
    let first = same_place names differ p q (ps_in 0 (omega arith)) (qs_in 0 (omega arith)) head in
    let rest = same_places names differ ps qs (λ k less. ps_in (suc k) (omega arith)) (λ k less. qs_in (suc k) (omega arith)) tail in
    λ i. first i ∷ rest i

behind : (xs : List ℕ) → 0 < length xs → get_or xs 0 0 ≡ 0 → xs ≡ 0 ∷ drop 1 xs
behind [] some is = absurd (omega arith)
behind (x ∷ xs) some is = ap (λ (y : ℕ). y ∷ xs) is

small_lengths : (T : TreeValue) → IsGrowing T → (es : List Edge) → HasEdges T es → All (λ (e : Edge). e.length < 2 ^ 64) es
small_lengths T t es has k d less =
    let at : get_or (lengths es) k 0 ≡ (get_or es k d).length = get_or-map (λ (e : Edge). e.length) es k d 0 less in
    omega (arith, at, ap (λ (l : List ℕ). get_or l k 0) has.lengths, get_or-drop 1 T.lengths k 0, t.lengths_small (1 + k))

-- two growing trees with the same rows have the same edges
pub same_edges : (S T : TreeValue) → IsGrowing S → IsGrowing T → (es fs : List Edge) → HasEdges S es → HasEdges T fs → map edge_words es ≡ map edge_words fs → es ≡ fs
same_edges S T s t es fs has_s has_t same = one_list es fs (small_lengths S s es has_s) (small_lengths T t fs has_t) same

pub same_tree : (S T : TreeValue) → IsGrowing S → IsGrowing T → (es : List Edge) → HasEdges S es → HasEdges T es → 1 ≤ length es → S ≡ T
same_tree S T s t es has_s has_t some =
    let names : S.names ≡ T.names = has_s.names ∙ sym has_t.names in
    let mine : map (name_of T) (drop 1 S.parents) ≡ map (name_of T) (drop 1 T.parents) =
    ap (λ (ns : List (List ℕ)). map (λ p. get_or ns p []) (drop 1 S.parents)) (sym names) ∙ has_s.uppers ∙ sym has_t.uppers in
    let within : (k : ℕ) → k < length (drop 1 S.parents) → get_or (drop 1 S.parents) k 0 < length T.names = λ k less. omega (arith, parents_in S s k less, ap length names) in
    let rest : drop 1 S.parents ≡ drop 1 T.parents = same_places T.names t.names_differ (drop 1 S.parents) (drop 1 T.parents) within (parents_in T t) mine in
    let s_some : 0 < length S.parents = omega (arith, edge_count S s es has_s, length-drop 1 S.parents) in
    let t_some : 0 < length T.parents = omega (arith, edge_count T t es has_t, length-drop 1 T.parents) in
    let parents : S.parents ≡ T.parents = behind S.parents s_some s.root_parent ∙ ap (λ (ps : List ℕ). 0 ∷ ps) rest ∙ sym (behind T.parents t_some t.root_parent) in
    let longs : S.lengths ≡ T.lengths =
    behind S.lengths (omega (arith, s_some, s.lengths_as_parents)) s.root_length ∙ ap (λ (ls : List ℕ). 0 ∷ ls) (has_s.lengths ∙ sym has_t.lengths) ∙ sym (behind T.lengths (omega (arith, t_some, t.lengths_as_parents)) t.root_length) in
    λ i. record { parents = parents i; lengths = longs i; names = names i }

-- edges are told by their three lists
by_parts : (es fs : List Edge) → uppers es ≡ uppers fs → lowers es ≡ lowers fs → lengths es ≡ lengths fs → es ≡ fs
by_parts [] [] us ls ns = refl
by_parts [] (f ∷ fs) us ls ns = absurd (omega (arith, ap length ns))
by_parts (e ∷ es) [] us ls ns = absurd (omega (arith, ap length ns))
by_parts (e ∷ es) (f ∷ fs) us ls ns =
    let upper : e.upper ≡ f.upper = cc in
    let lower : e.lower ≡ f.lower = cc in
    let long : e.length ≡ f.length = cc in
    let us' : uppers es ≡ uppers fs = cc in
    let ls' : lowers es ≡ lowers fs = cc in
    let ns' : lengths es ≡ lengths fs = cc in
    let rest = by_parts es fs us' ls' ns' in
    λ i. record { upper = upper i; lower = lower i; length = long i } ∷ rest i

-- a tree has one list of edges
pub one_edges : (T : TreeValue) (es fs : List Edge) → HasEdges T es → HasEdges T fs → es ≡ fs
one_edges T es fs has_e has_f =
    let us : uppers es ≡ uppers fs = sym has_e.uppers ∙ has_f.uppers in
    let same : take 1 (uppers fs) ++ lowers es ≡ take 1 (uppers fs) ++ lowers fs = ap (λ (l : List (List ℕ)). take 1 l ++ lowers es) (sym us) ∙ sym has_e.names ∙ has_f.names in
    by_parts es fs us (append_cancel_left (take 1 (uppers fs)) (lowers es) (lowers fs) same) (sym has_e.lengths ∙ has_f.lengths)
