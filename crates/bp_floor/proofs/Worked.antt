-- Floors of worked trees, by computation.
use Rattle.std.proofs.Common.{◌≡◌, ℕ, List, [], ◌∷◌, refl}
use Rattle.bp_base.specs.declared.point.Sheet.TheVariants.{Square, Strip}
use Rattle.bp_base.specs.Tree.{TreeValue}
use Rattle.bp_metric.specs.Distance.{is_below, share, dist}
use Rattle.bp_metric.specs.Floor.{floor_at, rows_for, taken}

-- names have no part in a floor
abbrev tree : List ℕ → List ℕ → TreeValue
tree parents lengths = record { parents = parents; lengths = lengths; names = [] }

abbrev star_of_four : TreeValue
star_of_four = tree (0 ∷ 0 ∷ 0 ∷ 0 ∷ 0 ∷ []) (0 ∷ 1 ∷ 1 ∷ 1 ∷ 1 ∷ [])

abbrev star_of_five : TreeValue
star_of_five = tree (0 ∷ 0 ∷ 0 ∷ 0 ∷ 0 ∷ 0 ∷ []) (0 ∷ 1 ∷ 1 ∷ 1 ∷ 1 ∷ 1 ∷ [])

abbrev two_twigs : TreeValue
two_twigs = tree (0 ∷ 0 ∷ 0 ∷ 1 ∷ 1 ∷ 2 ∷ 2 ∷ []) (0 ∷ 2 ∷ 2 ∷ 1 ∷ 1 ∷ 1 ∷ 1 ∷ [])

abbrev uneven_star : TreeValue
uneven_star = tree (0 ∷ 0 ∷ 0 ∷ 0 ∷ 0 ∷ 0 ∷ []) (0 ∷ 2 ∷ 2 ∷ 2 ∷ 1 ∷ 1 ∷ [])

abbrev beetle : TreeValue
beetle =
    tree (0 ∷ 0 ∷ 1 ∷ 1 ∷ 1 ∷ 0 ∷ 0 ∷ 0 ∷ 0 ∷ 0 ∷ 0 ∷ 0 ∷ []) (0 ∷ 3 ∷ 4 ∷ 4 ∷ 2 ∷ 6 ∷ 6 ∷ 6 ∷ 6 ∷ 6 ∷ 6 ∷ 5 ∷ [])

floor_star_of_four : floor_at star_of_four Square 2 ≡ record { m = 2; leaves = 1 ∷ 2 ∷ 3 ∷ 4 ∷ []; side = 2 }
unfolding taken rows_for dist share is_below
floor_star_of_four = refl

floor_star_of_five : floor_at star_of_five Square 2 ≡ record { m = 2; leaves = 1 ∷ 2 ∷ 3 ∷ 4 ∷ 5 ∷ []; side = 4 }
unfolding taken rows_for dist share is_below
floor_star_of_five = refl

floor_two_twigs : floor_at two_twigs Square 6 ≡ record { m = 6; leaves = 1 ∷ 3 ∷ []; side = 6 }
unfolding taken rows_for dist share is_below
floor_two_twigs = refl

floor_uneven_star : floor_at uneven_star Square 2 ≡ record { m = 2; leaves = 1 ∷ 2 ∷ 3 ∷ 4 ∷ 5 ∷ []; side = 4 }
unfolding taken rows_for dist share is_below
floor_uneven_star = refl

floor_beetle : floor_at beetle Square 12 ≡ record { m = 12; leaves = 1 ∷ 4 ∷ 5 ∷ 6 ∷ 7 ∷ 8 ∷ 9 ∷ []; side = 24 }
unfolding taken rows_for dist share is_below
floor_beetle = refl

floor_no_width : floor_at star_of_four (Strip 0) 2 ≡ record { m = 2; leaves = 1 ∷ 2 ∷ 3 ∷ 4 ∷ []; side = 6 }
unfolding taken rows_for dist share is_below
floor_no_width = refl

floor_narrow : floor_at uneven_star (Strip 5) 4 ≡ record { m = 4; leaves = 1 ∷ 2 ∷ 3 ∷ []; side = 4 }
unfolding taken rows_for dist share is_below
floor_narrow = refl
