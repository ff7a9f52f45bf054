-- Round a point whose four cells are alike no run begins.
use Rattle.std.proofs.Common.{◌≡◌, ℕ, ◌-◌, ◌≤◌, ◌↔◌, Bool, IsTrue, sym, ◌∙◌}
use Rattle.bp_base.specs.declared.point.Point.{Point}
use Rattle.bp_contour.specs.declared.way.Way.TheVariants.{East, North, West, South}
use Rattle.bp_contour.specs.Ways.{BeginsNone}
use Rattle.bp_regions.specs.Runs.{Below, Beside}

pub none_begins : (In : ℕ → ℕ → Type 0) (p : Point) (here beside below across : Bool) → (IsTrue here ↔ In p.x p.y) → (IsTrue beside ↔ Beside In p.x p.y) → (IsTrue below ↔ Below In p.x p.y) → (IsTrue across ↔ ((1 ≤ p.x) × Below In (p.x - 1) p.y)) → (here ≡ beside) × (here ≡ below) × (here ≡ across) → BeginsNone In p
none_begins In p here beside below across h l u a same East b = b.0.1 (u.0 (sym same.1 ∙ h.1 b.0.0))
none_begins In p here beside below across h l u a same North b = b.0.1 (h.0 (same.0 ∙ l.1 b.0.0))
none_begins In p here beside below across h l u a same West b =
    b.0.1.1 (l.0 (sym same.0 ∙ same.2 ∙ a.1 (b.0.0, b.0.1.0))).1
none_begins In p here beside below across h l u a same South b =
    let c = a.0 (sym same.2 ∙ same.1 ∙ u.1 (b.0.0, b.0.1.0)) in b.0.1.1 (c.0, c.1.1)
