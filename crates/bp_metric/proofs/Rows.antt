-- Worked rows, by computation: that the definitions mean what they should.
use Rattle.std.proofs.Common.{◌≡◌, ℕ, true, false, [], ◌∷◌, refl}
use Rattle.bp_base.specs.declared.path.Choice.TheVariants.{Left, Right, Below, Above}
use Rattle.bp_base.specs.declared.path.Pair.{Pair}
use Rattle.bp_base.specs.declared.point.Sheet.TheVariants.{Square, Strip}
use Rattle.bp_base.specs.Tree.{TreeValue, leaf_nodes}
use Rattle.bp_metric.specs.Choices.{allowed, are_twins}
use Rattle.bp_metric.specs.Distance.{is_below, share, dist, leaf_dist, leaf_below, radius}
use Rattle.bp_metric.specs.Floor.{box_side, floor_at, rows_for, taken}

-- r a 2/r b 2/a a1 1/a a2 1/b b1 1/b b2 1/
abbrev two_twigs : TreeValue
two_twigs = record { parents = 0 ∷ 0 ∷ 0 ∷ 1 ∷ 1 ∷ 2 ∷ 2 ∷ []; lengths = 0 ∷ 2 ∷ 2 ∷ 1 ∷ 1 ∷ 1 ∷ 1 ∷ []; names = [] }

two_twigs-leaves : leaf_nodes two_twigs ≡ 3 ∷ 4 ∷ 5 ∷ 6 ∷ []
two_twigs-leaves = refl

two_twigs-same_twig : leaf_dist two_twigs 1 2 ≡ 2
unfolding dist share is_below
two_twigs-same_twig = refl

two_twigs-other_twig : leaf_dist two_twigs 1 3 ≡ 6
unfolding dist share is_below
two_twigs-other_twig = refl

two_twigs-radius : radius two_twigs 1 1 ≡ 3
unfolding dist share is_below
two_twigs-radius = refl

two_twigs-below : leaf_below two_twigs 1 1 ≡ true
unfolding is_below
two_twigs-below = refl

two_twigs-not_below : leaf_below two_twigs 1 2 ≡ false
unfolding is_below
two_twigs-not_below = refl

two_twigs-twins : are_twins two_twigs 1 2 ≡ true
unfolding are_twins
two_twigs-twins = refl

-- one length and two parents
two_twigs-no_twins : are_twins two_twigs 1 3 ≡ false
unfolding are_twins
two_twigs-no_twins = refl

-- c p 2/c q 2/c r 2/c s 1/c t 1/
abbrev star : TreeValue
star = record { parents = 0 ∷ 0 ∷ 0 ∷ 0 ∷ 0 ∷ 0 ∷ []; lengths = 0 ∷ 2 ∷ 2 ∷ 2 ∷ 1 ∷ 1 ∷ []; names = [] }

abbrev pair : ℕ → ℕ → Pair
pair i j = record { i = i; j = j }

-- one parent and two lengths
star-no_twins : are_twins star 3 4 ≡ false
unfolding are_twins
star-no_twins = refl

square-first : allowed star Square (pair 1 2) ≡ Left ∷ []
unfolding allowed
square-first = refl

square-second : allowed star Square (pair 1 3) ≡ Left ∷ Right ∷ Below ∷ []
unfolding allowed
square-second = refl

-- twins, of which one is numbered less than 4
square-early : allowed star Square (pair 2 3) ≡ Left ∷ Right ∷ Below ∷ Above ∷ []
unfolding allowed are_twins
square-early = refl

square-late : allowed star Square (pair 4 5) ≡ Left ∷ Below ∷ []
unfolding allowed are_twins
square-late = refl

strip-first : allowed star (Strip 4) (pair 1 2) ≡ Left ∷ Below ∷ []
unfolding allowed
strip-first = refl

strip-second : allowed star (Strip 4) (pair 1 3) ≡ Left ∷ Right ∷ Below ∷ Above ∷ []
unfolding allowed are_twins
strip-second = refl

strip-late : allowed star (Strip 4) (pair 4 5) ≡ Left ∷ Below ∷ []
unfolding allowed are_twins
strip-late = refl

-- five points in rows of three at most: three rows, four apart from the first to the last
square-side : box_side Square 2 5 ≡ 4
unfolding rows_for
square-side = refl

strip-side : box_side (Strip 5) 4 3 ≡ 4
unfolding rows_for
strip-side = refl

-- a strip of width 0 has one point a row
narrow-side : box_side (Strip 0) 2 4 ≡ 6
unfolding rows_for
narrow-side = refl

star-taken_all : taken star 2 ≡ 1 ∷ 2 ∷ 3 ∷ 4 ∷ 5 ∷ []
unfolding taken dist share is_below
star-taken_all = refl

star-taken_far : taken star 4 ≡ 1 ∷ 2 ∷ 3 ∷ []
unfolding taken dist share is_below
star-taken_far = refl

star-floor : floor_at star Square 2 ≡ record { m = 2; leaves = 1 ∷ 2 ∷ 3 ∷ 4 ∷ 5 ∷ []; side = 4 }
unfolding taken dist share is_below rows_for
star-floor = refl

star-floor_far : floor_at star Square 4 ≡ record { m = 4; leaves = 1 ∷ 2 ∷ 3 ∷ []; side = 4 }
unfolding taken dist share is_below rows_for
star-floor_far = refl

star-floor_strip : floor_at star (Strip 5) 4 ≡ record { m = 4; leaves = 1 ∷ 2 ∷ 3 ∷ []; side = 4 }
unfolding taken dist share is_below rows_for
star-floor_strip = refl
