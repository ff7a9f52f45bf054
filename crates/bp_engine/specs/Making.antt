-- What `made` writes: the text of the tree that the generator makes.
use Rattle.std.specs.Prelude.{◌≡◌, ◌⊎◌, ℕ, List}
use Rattle.std.specs.declared.option.Option.{Option}
use Rattle.bp_base.specs.Causes.{Appends, AppendsFront}
use Rattle.bp_base.specs.Tree.{TreeValue}
use Rattle.bp_tree.specs.Text.{tree_text}
use Rattle.bp_made.specs.Made.{IsMade}
use Rattle.bp_engine.specs.declared.status.Status.{Status}
use Rattle.bp_engine.specs.declared.status.Status.TheVariants.{Done, WriteFault, NoMemory}

-- the whole text, or a front of it and a fault of writing, or nothing for want of memory
abbrev pub Makes : ℕ → ℕ → Option (List ℕ) → Option (List ℕ) → Status → Type 0
Makes leaves seed held now status =
    (
    (T : TreeValue) × IsMade leaves seed T
    × (((status ≡ Done) × Appends held now (tree_text T)) ⊎ ((status ≡ WriteFault) × AppendsFront held now (tree_text T)))
    )
    ⊎ ((status ≡ NoMemory) × (now ≡ held))
