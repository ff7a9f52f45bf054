-- Lists of leaf numbers as they are kept.
use Rattle.std.specs.Prelude.{◌≡◌, ℕ, ◌≤◌, List, length, All, Option, None, Some}
use Rattle.bp_base.specs.Limits.{most_leaves, most_number}

-- 1 to 32 numbers, none above 999,999,999
pub record IsChainList (leaves : List ℕ) : Type 0 where
  pub some : 1 ≤ length leaves
  pub short : length leaves ≤ most_leaves
  pub small : All (λ k. k ≤ most_number) leaves

-- A chain is answered exactly where the numbers can be kept, and it is these numbers.
abbrev pub ChainsExactly : List ℕ → Option (List ℕ) → Type 0
ChainsExactly leaves None = IsChainList leaves → ⊥
ChainsExactly leaves (Some chain) = IsChainList leaves × (chain ≡ leaves)
