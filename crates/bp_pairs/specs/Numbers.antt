-- Numbers of pairs: from 0 on, in the order (1,2), (1,3), .., (1,n), (2,3), .., (n-1,n).
use Rattle.std.specs.Prelude.{ℕ, ◌+◌, ◌-◌, ◌*◌, ◌/◌}
use Rattle.bp_base.specs.declared.path.Pair.{Pair}

-- how many pairs of n leaves begin with a leaf before i: those of leaf k are n - k
abbrev pub pairs_before : ℕ → ℕ → ℕ
pairs_before n i = (i - 1) * (2 * n - i) / 2

-- how many pairs of n leaves stand before p
abbrev pub pair_number : ℕ → Pair → ℕ
pair_number n p = pairs_before n p.i + (p.j - p.i - 1)

-- how many pairs n leaves have
abbrev pub pair_count : ℕ → ℕ
pair_count n = n * (n - 1) / 2
