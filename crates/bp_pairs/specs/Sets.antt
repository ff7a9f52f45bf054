-- What a set of choices holds, as a list.
use Rattle.std.specs.Prelude.{Bool, List, [], ◌∷◌, ◌++◌, if◌then◌else◌}
use Rattle.bp_base.specs.declared.path.Choice.{Choice}
use Rattle.bp_base.specs.declared.path.Choice.TheVariants.{Left, Right, Below, Above}
use Rattle.bp_pairs.specs.declared.choices.ChoiceSet.{ChoiceSet}

abbrev pub where_held : Bool → Choice → List Choice
where_held held c = if held then c ∷ [] else []

-- the choices of the set, in the order of a split's children
abbrev pub choices_of : ChoiceSet → List Choice
choices_of s =
    where_held s.left Left ++ where_held s.right Right ++ where_held s.below Below ++ where_held s.above Above
