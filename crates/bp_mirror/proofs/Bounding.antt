-- The law of lemmas for symmetric placements.
use Rattle.std.proofs.Common.{ℕ, ◌*◌, List, map}
use Rattle.bp_base.specs.declared.path.Pair.{Pair}
use Rattle.bp_base.specs.Tree.{TreeValue, IsTree}
use Rattle.bp_arrangement.specs.Swaps.{head}
use Rattle.bp_lemmas.specs.Standing.{Lemma}
use Rattle.bp_lemmas.specs.Trees.{coordinates}
use Rattle.bp_lemmas.proofs.Law.{systems_law}
use Rattle.bp_mirror.specs.declared.kind.MirrorKind.{MirrorKind}
use Rattle.bp_mirror.specs.Mirrored.{units, NoneBelowMirrored}
use Rattle.bp_mirror.specs.Proves.{ProvesMirrored}
use Rattle.bp_mirror.specs.Systems.{mirror_system}
use Rattle.bp_mirror.proofs.Symmetric.{mirror_meets}
use Rattle.bp_mirror.proofs.Exchanging.{arranging_mirrored}

pub mirrored_law : (T : TreeValue) → IsTree T → (kind : MirrorKind) (mirror : List Pair) (bound : ℕ) (swaps : List (List Pair)) (lemmas : List Lemma) → ProvesMirrored T kind mirror bound swaps lemmas → NoneBelowMirrored T kind mirror bound
unfolding mirror_system
mirrored_law T t kind mirror bound swaps lemmas proves q s P finer low m =
    let turned = arranging_mirrored T t kind mirror proves.is_mirror (q * units kind) s swaps P proves.admissible m in
    systems_law (mirror_system T kind mirror bound (map head swaps)) lemmas proves.stand proves.ends q s (coordinates turned.0) finer low
    (mirror_meets T t kind mirror q s finer turned.0 turned.1.0 bound swaps proves.admissible low turned.1.1)
