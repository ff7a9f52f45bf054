-- The first fault of a line at a place of its own form, and behind the end.
use Rattle.std.proofs.Common.{ℕ, ◌<◌, true, false, List, Bool, refl, ap, arith}
use Rattle.bp_document.specs.declared.fault.DocKind.{DocKind}
use Rattle.bp_document.specs.declared.fault.DocKind.TheVariants.{TooLong, Trailing, Cut, BadForm, BadTree, BadPoint, BadDepth}
use Rattle.bp_document.specs.Faults.{IsFirstKind as IsFirstDocKind, order}
use Rattle.bp_document.specs.Places.{Place as DocPlace}
use Rattle.bp_certificate.specs.Places.{Place, AtVersion, AtSheet, AtMirror, InBody, AtCount, AtCorner, AtSwapCount, AtSwap, AtLemma, AtEnd, Behind}
use Rattle.bp_certificate.specs.Faults.{HasForm, HasKind, HasOwnKind, IsFirstKind}

-- a place of a form that no document has there
abbrev pub IsOwnPlace : Place → Type 0
IsOwnPlace (InBody place) = ⊥
IsOwnPlace Behind = ⊥
IsOwnPlace place = Unit {0}

module _ (bytes : List ℕ) (ended : Bool) (kind : DocKind) where
  pub to_own : (place : Place) → IsOwnPlace place → HasKind place bytes ended kind → HasOwnKind (HasForm place bytes) kind ended
  to_own AtVersion own h = h
  to_own AtSheet own h = h
  to_own AtMirror own h = h
  to_own (InBody place) own h = absurd own
  to_own AtCount own h = h
  to_own AtCorner own h = h
  to_own AtSwapCount own h = h
  to_own AtSwap own h = h
  to_own AtLemma own h = h
  to_own AtEnd own h = h
  to_own Behind own h = absurd own

  pub of_own : (place : Place) → IsOwnPlace place → HasOwnKind (HasForm place bytes) kind ended → HasKind place bytes ended kind
  of_own AtVersion own h = h
  of_own AtSheet own h = h
  of_own AtMirror own h = h
  of_own (InBody place) own h = absurd own
  of_own AtCount own h = h
  of_own AtCorner own h = h
  of_own AtSwapCount own h = h
  of_own AtSwap own h = h
  of_own AtLemma own h = h
  of_own AtEnd own h = h
  of_own Behind own h = absurd own

module _ (Form : Type 0) where
  none_before_form : (other : DocKind) → order other < 3 → HasOwnKind Form other true → ⊥
  none_before_form TooLong less h = h
  none_before_form Trailing less h = h
  none_before_form Cut less h = h
  none_before_form BadForm less h = omega (arith, less)
  none_before_form BadTree less h = h
  none_before_form BadPoint less h = h
  none_before_form BadDepth less h = h

  none_before_cut : (ended : Bool) (other : DocKind) → order other < 2 → HasOwnKind Form other ended → ⊥
  none_before_cut ended TooLong less h = h
  none_before_cut ended Trailing less h = h
  none_before_cut ended Cut less h = omega (arith, less)
  none_before_cut ended BadForm less h = omega (arith, less)
  none_before_cut ended BadTree less h = h
  none_before_cut ended BadPoint less h = h
  none_before_cut ended BadDepth less h = h

pub bad_form : (place : Place) → IsOwnPlace place → (bytes : List ℕ) → (HasForm place bytes → ⊥) → IsFirstKind place bytes true BadForm
bad_form place own bytes none = record {
  has = of_own bytes true BadForm place own none;
  first = λ other less h. none_before_form (HasForm place bytes) other less (to_own bytes true other place own h);
}

pub cut_at : (place : Place) → IsOwnPlace place → (bytes : List ℕ) → IsFirstKind place bytes false Cut
cut_at place own bytes = record {
  has = of_own bytes false Cut place own tt;
  first = λ other less h. none_before_cut (HasForm place bytes) false other less (to_own bytes false other place own h);
}

pub trailing_at : (bytes : List ℕ) (ended : Bool) → IsFirstKind Behind bytes ended Trailing
trailing_at bytes ended = record { has = refl; first = λ other less is. omega (arith, less, ap order is) }

-- a fault of a document's line is one of the body's
pub in_body : (place : DocPlace) (bytes : List ℕ) (ended : Bool) (kind : DocKind) → IsFirstDocKind place bytes ended kind → IsFirstKind (InBody place) bytes ended kind
in_body place bytes ended kind first = record { has = first.has; first = first.first }
