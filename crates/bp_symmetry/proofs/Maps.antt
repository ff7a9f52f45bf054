-- A loop that changes each point by a function.
use Rattle.std.proofs.Common.{◌≡◌, ℕ, ◌+◌, ◌<◌, List, ◌++◌, length, map, set, take, drop, get_or, arith}
use Rattle.std.proofs.lemmas.List.{get_or_default}
use Rattle.std.proofs.lemmas.List.Edits.{map_over_more}
use Rattle.bp_base.specs.declared.point.Point.{Point}
use Rattle.bp_base.specs.Point.{origin}

pub map_next : (f : Point → Point) (xs ys : List Point) (i : ℕ) → i < length ys → length ys ≡ length xs → ys ≡ map f (take i xs) ++ drop i xs → set ys i (f (get_or ys i origin)) ≡ map f (take (i + 1) xs) ++ drop (i + 1) xs
map_next f xs ys i less long so_far =
    map_over_more f xs ys i (get_or ys i origin) (omega (arith, long)) so_far (get_or_default ys i origin (get_or ys i origin) less)
