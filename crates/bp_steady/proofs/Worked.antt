-- Worked questions: two leaves 7 apart on a square of side 7, whose steady points are (0,0) and (0,7).
use Rattle.std.proofs.Common.{◌≡◌, ℕ, List, [], ◌∷◌, length, refl}
use Rattle.bp_base.specs.declared.point.Point.{Point}
use Rattle.bp_base.specs.declared.point.Sheet.TheVariants.{Square, Strip}
use Rattle.bp_base.specs.Tree.{TreeValue}
use Rattle.bp_metric.specs.Samples.{sample}
use Rattle.bp_steady.specs.Questions.{asked, coordinates, ends, question, questions}

abbrev two : TreeValue
two = sample (0 ∷ 0 ∷ 0 ∷ []) (0 ∷ 3 ∷ 4 ∷ [])

abbrev points : List Point
points = (record { x = 0; y = 0 }) ∷ (record { x = 0; y = 7 }) ∷ []

abbrev a : List ℕ
a = 0 ∷ 0 ∷ 0 ∷ 7 ∷ []

abbrev e : List ℕ
e = 7 ∷ 7 ∷ 7 ∷ 7 ∷ []

coordinates_are : coordinates points ≡ a
coordinates_are = refl

ends_are : ends Square 7 2 ≡ e
ends_are = refl

ends_of_a_strip : ends (Strip 4) 9 2 ≡ 4 ∷ 9 ∷ 4 ∷ 9 ∷ []
ends_of_a_strip = refl

-- the third coordinate is fixed by those before it, the fourth may go up to 5
question_is : question a e 3 5 ≡ record { low = 0 ∷ 0 ∷ 0 ∷ 0 ∷ []; high = 0 ∷ 0 ∷ 0 ∷ 5 ∷ [] }
question_is = refl

first_question : question a e 0 3 ≡ record { low = 0 ∷ 0 ∷ 0 ∷ 0 ∷ []; high = 3 ∷ 7 ∷ 7 ∷ 7 ∷ [] }
first_question = refl

asked_low : asked a e 0 0 7 ≡ question a e 0 3 ∷ question a e 0 1 ∷ question a e 0 0 ∷ []
asked_low = refl

asked_high : asked a e 3 0 7 ≡ question a e 3 3 ∷ question a e 3 5 ∷ question a e 3 6 ∷ []
asked_high = refl

asked_in_all : length (questions two Square 7 points) ≡ 12
asked_in_all = refl
