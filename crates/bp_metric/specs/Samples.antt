-- Trees that are written out: a test of their lists that computes.
use Rattle.std.specs.Prelude.{ℕ, ◌-◌, ◌==◌, ◌&&◌, Bool, List, [], ◌∷◌, length, map, drop, count_by, nat_le, nat_lt, slice_index}
use Rattle.std.specs.List.{list_all, range_with_len}
use Rattle.bp_base.specs.Limits.{most_leaves, most_length}
use Rattle.bp_base.specs.Tree.{TreeValue, leaf_count}

-- the names a, b, c, ..
abbrev pub letters : ℕ → List (List ℕ)
letters n = map (λ k. k ∷ []) (range_with_len 97 n)

abbrev pub sample : List ℕ → List ℕ → TreeValue
sample parents lengths = record { parents = parents; lengths = lengths; names = letters (length parents) }

-- the lists make a tree of at most 26 nodes
abbrev pub is_sample : List ℕ → List ℕ → Bool
is_sample parents lengths =
    (length lengths == length parents)
    && nat_le (length parents) 26
    && (slice_index parents 0 == 0)
    && (slice_index lengths 0 == 0)
    && list_all (λ k. nat_lt (slice_index parents k) k) (range_with_len 1 (length parents - 1))
    && list_all (λ k. nat_le 1 (slice_index lengths k)) (range_with_len 1 (length parents - 1))
    && list_all (λ n. nat_le n most_length) lengths
    && nat_le 2 (count_by (λ p. p == 0) (drop 1 parents))
    && nat_le 2 (leaf_count (sample parents lengths))
    && nat_le (leaf_count (sample parents lengths)) most_leaves
