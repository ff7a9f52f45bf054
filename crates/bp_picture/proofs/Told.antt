-- A tip by its parts.
use Rattle.std.proofs.Common.{◌≡◌, ℕ, List, length, slice_index, sym, ap, ◌∙◌}
use Rattle.bp_base.specs.declared.point.Point.{Point}
use Rattle.bp_base.specs.Point.{point_at}
use Rattle.bp_base.specs.Tree.{TreeValue, leaf_node, length_of, name_of}
use Rattle.bp_picture.specs.declared.label.Label.{Label}
use Rattle.bp_picture.specs.Labels.{label_of}
use Rattle.bp_picture.specs.PictureText.{label_text, tip_text}

pub tip_is : (T U : TreeValue) (S : ℕ) (P : List Point) (i n : ℕ) (ls : List ℕ) (name : List ℕ) (p : Point) (l : Label) → U ≡ T → n ≡ leaf_node T i → name ≡ name_of U n → ls ≡ U.lengths → p ≡ point_at P i → l ≡ label_of S (slice_index ls n) (length name) p → tip_text T S P i ≡ label_text l name
unfolding tip_text
tip_is T U S P i n ls name p l tree node named lengths point labelled =
    let node_name : name ≡ name_of T (leaf_node T i) = named ∙ ap (λ (V : TreeValue). name_of V n) tree ∙ ap (λ (m : ℕ). name_of T m) node in
    let long : slice_index ls n ≡ length_of T (leaf_node T i) = ap (λ (k : List ℕ). slice_index k n) (lengths ∙ ap (λ (V : TreeValue). V.lengths) tree) ∙ ap (λ (m : ℕ). length_of T m) node in
    let label : l ≡ label_of S (length_of T (leaf_node T i)) (length (name_of T (leaf_node T i))) (point_at P i) =
    labelled ∙ ap (λ (r : ℕ). label_of S r (length name) p) long ∙ ap (λ (m : List ℕ). label_of S (length_of T (leaf_node T i)) (length m) p) node_name ∙ ap (λ (q : Point). label_of S (length_of T (leaf_node T i)) (length (name_of T (leaf_node T i))) q) point in
    ap (λ (k : Label). label_text k (name_of T (leaf_node T i))) (sym label) ∙ ap (λ (m : List ℕ). label_text l m) (sym node_name)
