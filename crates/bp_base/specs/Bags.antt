-- Lists taken up to order, and tests of equality for what is collected in them.
use Rattle.std.specs.Prelude.{◌≡◌, ℕ, Bool, true, false, ◌&&◌, ◌==◌, List, [], ◌∷◌}
use Rattle.std.specs.List.{sum_by}
use Rattle.bp_base.specs.declared.path.Choice.{Choice}
use Rattle.bp_base.specs.declared.path.Choice.TheVariants.{Left, Right, Below, Above}
use Rattle.bp_base.specs.declared.path.Step.{Step}
use Rattle.bp_base.specs.declared.record.Task.{Task}

-- the same values, each as often, in whatever order: they weigh the same, however values are weighed
abbrev pub AreSame : {X : Type 0} → List X → List X → Type 0
AreSame {X} xs ys = (h : X → ℕ) → sum_by h xs ≡ sum_by h ys

abbrev pub choice_number : Choice → ℕ
choice_number Left = 0
choice_number Right = 1
choice_number Below = 2
choice_number Above = 3

abbrev pub same_step : Step → Step → Bool
same_step s t = (s.pair.i == t.pair.i) && (s.pair.j == t.pair.j) && (choice_number s.choice == choice_number t.choice)

abbrev pub same_path : List Step → List Step → Bool
same_path [] [] = true
same_path [] (t ∷ ts) = false
same_path (s ∷ ss) [] = false
same_path (s ∷ ss) (t ∷ ts) = same_step s t && same_path ss ts

abbrev pub same_task : Task → Task → Bool
same_task t u = (t.bound == u.bound) && same_path t.path u.path
