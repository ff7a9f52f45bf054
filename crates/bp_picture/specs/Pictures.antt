-- The picture of a placement with a bound.
use Rattle.std.specs.Prelude.{◌≡◌, ℕ, List}
use Rattle.bp_regions.specs.Regions.{RegionsValue}
use Rattle.bp_picture.specs.declared.outline.Outline.{Outline}
use Rattle.bp_picture.specs.Outlines.{AreOutlines}
use Rattle.bp_picture.specs.PictureText.{picture_text}

abbrev pub IsPicture : RegionsValue → ℕ → List ℕ → Type 0
IsPicture R bound text =
    (outlines : List Outline) × AreOutlines R outlines × (text ≡ picture_text R.tree R.side bound R.points outlines)
