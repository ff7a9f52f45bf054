-- Lines that are too long for any form have the same fault.
use Rattle.std.proofs.Common.{ℕ, true, false, Bool, List, arith}
use Rattle.bp_document.specs.declared.fault.DocKind.{DocKind}
use Rattle.bp_document.specs.declared.fault.DocKind.TheVariants.{TooLong, Trailing, Cut, BadForm, BadTree, BadPoint, BadDepth}
use Rattle.bp_document.specs.Places.{Place, AtVersion, AtSheet, AtEdges, AtEdge, AtSide, AtBound, AtPoint, AtFloor, AtProof, AtNode, AtEnd, Behind}
use Rattle.bp_document.specs.Faults.{HasForm, HasKind}
use Rattle.bp_document.specs.Scanning.{IsTooLongForAll, HasSameFault}
use Rattle.bp_document.proofs.Spelling.{form_short}

pub too_long : (line : List ℕ) → IsTooLongForAll line
too_long line long place form = let short = form_short place line form in omega (arith, short.1, long)

-- a fault that one line has where no form is that of either
module _ (line other : List ℕ) (none : (place : Place) → HasForm place line → ⊥) (none' : (place : Place) → HasForm place other → ⊥) where
  same_trailing : (place : Place) (ended : Bool) → HasKind place line ended Trailing → HasKind place other ended Trailing
  same_trailing AtVersion ended h = h
  same_trailing AtSheet ended h = h
  same_trailing AtEdges ended h = h
  same_trailing (AtEdge E es) ended h = h
  same_trailing AtSide ended h = h
  same_trailing AtBound ended h = h
  same_trailing (AtPoint name) ended h = h
  same_trailing AtFloor ended h = h
  same_trailing AtProof ended h = h
  same_trailing (AtNode most) ended h = h
  same_trailing AtEnd ended h = h
  same_trailing Behind ended h = h

  same_cut : (place : Place) (ended : Bool) → HasKind place line ended Cut → HasKind place other ended Cut
  same_cut place true h = h
  same_cut place false h = h

  same_tree : (place : Place) (ended : Bool) → HasKind place line ended BadTree → HasKind place other ended BadTree
  same_tree AtVersion ended h = h
  same_tree AtSheet ended h = h
  same_tree AtEdges ended h = h
  same_tree (AtEdge E es) ended h = absurd (none (AtEdge E es) (h.0, h.1))
  same_tree AtSide ended h = h
  same_tree AtBound ended h = h
  same_tree (AtPoint name) ended h = h
  same_tree AtFloor ended h = h
  same_tree AtProof ended h = h
  same_tree (AtNode most) ended h = h
  same_tree AtEnd ended h = h
  same_tree Behind ended h = h

  same_point : (place : Place) (ended : Bool) → HasKind place line ended BadPoint → HasKind place other ended BadPoint
  same_point AtVersion ended h = h
  same_point AtSheet ended h = h
  same_point AtEdges ended h = h
  same_point (AtEdge E es) ended h = h
  same_point AtSide ended h = h
  same_point AtBound ended h = h
  same_point (AtPoint name) ended h = absurd (none (AtPoint name) (h.0, h.1, h.2))
  same_point AtFloor ended h = h
  same_point AtProof ended h = h
  same_point (AtNode most) ended h = h
  same_point AtEnd ended h = h
  same_point Behind ended h = h

  same_depth : (place : Place) (ended : Bool) → HasKind place line ended BadDepth → HasKind place other ended BadDepth
  same_depth AtVersion ended h = h
  same_depth AtSheet ended h = h
  same_depth AtEdges ended h = h
  same_depth (AtEdge E es) ended h = h
  same_depth AtSide ended h = h
  same_depth AtBound ended h = h
  same_depth (AtPoint name) ended h = h
  same_depth AtFloor ended h = h
  same_depth AtProof ended h = h
  same_depth (AtNode most) ended h = absurd (none (AtNode most) (h.0, h.1))
  same_depth AtEnd ended h = h
  same_depth Behind ended h = h

  pub same_kind : (place : Place) (ended : Bool) (kind : DocKind) → HasKind place line ended kind → HasKind place other ended kind
  same_kind place ended TooLong h = h
  same_kind place ended Trailing h = same_trailing place ended h
  same_kind place ended Cut h = same_cut place ended h
  same_kind place ended BadForm h = none' place
  same_kind place ended BadTree h = same_tree place ended h
  same_kind place ended BadPoint h = same_point place ended h
  same_kind place ended BadDepth h = same_depth place ended h

pub same_fault : (line other : List ℕ) → HasSameFault line other
same_fault line other long long' place ended kind first =
    record {
      has = same_kind line other (too_long line long) (too_long other long') place ended kind first.has;
      first = λ k less h. first.first k less (same_kind other line (too_long other long') (too_long line long) place ended k h);
    }
