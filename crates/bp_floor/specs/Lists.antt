-- Lists of leaves that come from outside.
use Rattle.std.specs.Prelude.{ℕ, ◌<◌, ◌≤◌, List, length, slice_index}
use Rattle.bp_base.specs.Tree.{TreeValue, IsLeaf}
use Rattle.bp_metric.specs.Distance.{leaf_dist}

-- each number is a leaf, and each is less than the later ones
pub record AreRisingLeaves (T : TreeValue) (leaves : List ℕ) : Type 0 where
  pub leaf : (k : ℕ) → k < length leaves → IsLeaf T (slice_index leaves k)
  pub rising : (k l : ℕ) → k < l → l < length leaves → slice_index leaves k < slice_index leaves l

-- the leaves are pairwise at least m apart
abbrev pub AreFar : TreeValue → ℕ → List ℕ → Type 0
AreFar T m leaves =
    (k l : ℕ) → k < l → l < length leaves → m ≤ leaf_dist T (slice_index leaves k) (slice_index leaves l)
