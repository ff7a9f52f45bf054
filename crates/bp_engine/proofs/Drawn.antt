-- A text of all edges, edge after edge.
use Rattle.std.proofs.Common.{◌≡◌, ℕ, suc, ◌+◌, ◌==◌, ◌≤◌, drop, List, [], ◌∷◌, ◌++◌, length, codes, refl, sym, ap, subst, ◌∙◌, arith, length-append}
use Rattle.std.proofs.lemmas.List.{append-nil, append_assoc, length-drop}
use Rattle.std.proofs.lemmas.List.Sums.{count_by-le-length}
use Rattle.bp_base.specs.declared.point.Sheet.{Sheet}
use Rattle.bp_base.specs.declared.point.Sheet.TheVariants.{Square, Strip}
use Rattle.bp_document.specs.declared.document.Document.{Document}
use Rattle.bp_check.specs.declared.verdict.Reason.{Reason}
use Rattle.bp_check.specs.declared.verdict.Reason.TheVariants.{StripSheet}
use Rattle.bp_check.specs.Reasons.{IsFirstReason}
use Rattle.bp_base.specs.Tree.{TreeValue, IsTree, name_of, node_count}
use Rattle.bp_engine.specs.Documents.{AreOfEdges, IsEdgesText, IsReasonOn, edge_texts}

pub some_nodes : (T : TreeValue) → IsTree T → 1 ≤ node_count T
some_nodes T t = omega (arith, t.root_children, count_by-le-length (λ p. p == 0) (drop 1 T.parents), length-drop 1 T.parents)

module _ {X : Type 0} (Line : List ℕ → X → List ℕ) (T : TreeValue) (Is : ℕ → X → Type 0) where
  texts_more : (e : ℕ) (listed : List X) (x : X) → edge_texts Line T e (listed ++ x ∷ []) ≡ edge_texts Line T e listed ++ Line (name_of T (e + length listed)) x
  texts_more e [] x =
      let here : e ≡ e + 0 = omega arith in
      append-nil (Line (name_of T e) x) ∙ ap (λ (k : ℕ). Line (name_of T k) x) here
  texts_more e (l ∷ listed) x =
      let here : e + 1 + length listed ≡ e + suc (length listed) = omega arith in
      ap (λ (t : List ℕ). Line (name_of T e) l ++ t) (texts_more (e + 1) listed x ∙ ap (λ (k : ℕ). edge_texts Line T (e + 1) listed ++ Line (name_of T k) x) here)
      ∙ sym (append_assoc (Line (name_of T e) l) (edge_texts Line T (e + 1) listed) (Line (name_of T (e + suc (length listed))) x))

  edges_more : (e : ℕ) (listed : List X) (x : X) → AreOfEdges Is e listed → Is (e + length listed) x → AreOfEdges Is e (listed ++ x ∷ [])
  edges_more e [] x so_far more =
      let here : e + 0 ≡ e = omega arith in
      (subst (λ (k : ℕ). Is k x) here more, tt)
  edges_more e (l ∷ listed) x so_far more =
      let here : e + suc (length listed) ≡ e + 1 + length listed = omega arith in
      (so_far.0, edges_more (e + 1) listed x so_far.1 (subst (λ (k : ℕ). Is k x) here more))

  -- the text has the first n edges
  pub record HasEdges (head : List ℕ) (n : ℕ) (text : List ℕ) : Type 0 where
    pub listed : List X
    pub each : length listed ≡ n
    pub so : AreOfEdges Is 1 listed
    pub text_is : text ≡ head ++ edge_texts Line T 1 listed

  pub no_edges : (head : List ℕ) (n : ℕ) (text : List ℕ) → n ≡ 0 → text ≡ head → HasEdges head n text
  no_edges head n text none is =
      record { listed = []; each = sym none; so = tt; text_is = is ∙ sym (append-nil head) }

  pub more_edges : (head : List ℕ) (n m e : ℕ) (text new : List ℕ) (x : X) → HasEdges head n text → e ≡ n + 1 → m ≡ n + 1 → Is e x → new ≡ text ++ Line (name_of T e) x → HasEdges head m new
  more_edges head n m e text new x h here after more is =
      let place : e ≡ 1 + length h.listed = omega (arith, here, h.each) in
      record {
        listed = h.listed ++ x ∷ [];
        each = omega (arith, length-append h.listed (x ∷ []), h.each, after);
        so = edges_more 1 h.listed x h.so (subst (λ (k : ℕ). Is k x) place more);
        text_is =
            is ∙ ap (λ (t : List ℕ). t ++ Line (name_of T e) x) h.text_is
            ∙ append_assoc head (edge_texts Line T 1 h.listed) (Line (name_of T e) x)
            ∙ ap (λ (t : List ℕ). head ++ t) (ap (λ (k : ℕ). edge_texts Line T 1 h.listed ++ Line (name_of T k) x) place ∙ sym (texts_more 1 h.listed x));
      }

  pub all_edges : (head : List ℕ) (n : ℕ) (text new : List ℕ) → HasEdges head n text → n + 1 ≡ node_count T → new ≡ text ++ codes "end\n" → IsEdgesText head Line T Is new
  all_edges head n text new h each is =
      record {
        listed = h.listed;
        each = omega (arith, h.each, each);
        so = h.so;
        text_is = is ∙ ap (λ (t : List ℕ). t ++ codes "end\n") h.text_is;
      }

pub on_strip : (G : Sheet) (D : Document) → (G ≡ Square → ⊥) → IsReasonOn G D StripSheet
on_strip Square D other = absurd (other refl)
on_strip (Strip width) D other = refl

pub on_square : (D : Document) (reason : Reason) → D.sheet ≡ Square → IsFirstReason D.tree D reason → IsReasonOn D.sheet D reason
on_square D reason is first = subst (λ (G : Sheet). IsReasonOn G D reason) (sym is) first
