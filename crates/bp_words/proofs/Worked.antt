-- Ranges and defaults, and worked command lines.
use Rattle.std.proofs.Common.{◌≡◌, [], ◌∷◌, codes, refl, inl, inr}
use Rattle.bp_base.specs.Limits.{most_budget, most_hands, most_width}
use Rattle.bp_words.specs.declared.words.Words.TheVariants.{Contours, Help}
use Rattle.bp_words.specs.Words.{IsWords, least_made, most_made, most_seed, most_solve_budget, most_steady, usual_budget, usual_hands, usual_solve_budget}

defaults : (usual_hands ≡ 4) × (usual_budget ≡ 50000) × (usual_solve_budget ≡ 100000)
defaults = (refl, refl, refl)

greatest : (most_hands ≡ 16) × (most_budget ≡ 200000) × (most_seed ≡ 4294967295) × (most_width ≡ 999999) × (most_steady ≡ 10000000) × (most_solve_budget ≡ 1000000)
greatest = (refl, refl, refl, refl, refl, refl)

made : (least_made ≡ 2) × (most_made ≡ 16)
made = (refl, refl)

contours : IsWords (codes "contours" ∷ []) Contours
contours = refl

help : IsWords (codes "help" ∷ []) Help × IsWords (codes "--help" ∷ []) Help
help = (inl refl, inr refl)
