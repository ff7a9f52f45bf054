-- A list that is found from its front on: it holds exactly what has a property and comes before a place, in order by two numbers of its elements.
use Rattle.std.specs.Prelude.{◌↔◌, ℕ, List}
use Rattle.std.specs.List.{AllPairs, Contains}
use Rattle.bp_fold.specs.Vertices.{IsPairBefore}

pub record ListsBefore {X : Type 0} (first second : X → ℕ) (P : X → Type 0) (a b : ℕ) (xs : List X) : Type 0 where
  pub rising : AllPairs (λ (x y : X). IsPairBefore (first x) (second x) (first y) (second y)) xs
  pub each : (x : X) → (Contains xs x ↔ (P x × IsPairBefore (first x) (second x) a b))
