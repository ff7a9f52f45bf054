-- What a pop and a steal change of deques in memory.
use Rattle.std.proofs.Common.{◌≡◌, ℕ, zero, suc, ◌<◌, List, [], ◌∷◌, ◌++◌, None, Some, length, set, get_or, map, sym, ap, ◌∙◌, arith}
use Rattle.std.specs.Prelude.{Vec, slice_index_or}
use Rattle.std.specs.declared.alloc.Global.{Global}
use Rattle.std.proofs.lemmas.List.{map-set}
use Rattle.std.proofs.Math.Seq.{map-set_same}
use Rattle.bp_base.specs.declared.record.Task.{Task}
use Rattle.bp_pool.specs.declared.tries.Stolen.TheVariants as stolen
use Rattle.bp_pool.specs.Tries.{PopsOwn, StealsFirst}

abbrev pub Tasks : Type 0
Tasks = Vec Task Global

abbrev pub items_of : List Tasks → List (List Task)
items_of vs = map (λ (v : Tasks). v.items) vs

at_place : (vs : List Tasks) (i : ℕ) (old : Tasks) → i < length vs → get_or vs i old ≡ old → slice_index_or (items_of vs) i [] ≡ old.items
at_place [] i old lt at = absurd (omega arith)
at_place (v ∷ vs) zero old lt at = ap (λ (u : Tasks). u.items) at
at_place (v ∷ vs) (suc i) old lt at = at_place vs i old (omega arith) at

unchanged : (vs : List Tasks) (i : ℕ) (old new : Tasks) → i < length vs → get_or vs i old ≡ old → old.items ≡ [] → new.items ≡ [] → (Some (items_of (set vs i new)) ≡ Some (items_of vs)) × (slice_index_or (items_of vs) i [] ≡ [])
unchanged vs i old new lt at was is = (ap Some (map-set_same (λ (v : Tasks). v.items) vs i new old (is ∙ sym was ∙ ap (λ (v : Tasks). v.items) (sym at))), at_place vs i old lt at ∙ was)

pub popped : (vs : List Tasks) (i : ℕ) (old new : Tasks) (t : Task) → i < length vs → get_or vs i old ≡ old → old.items ≡ new.items ++ t ∷ [] → PopsOwn (Some (items_of vs)) i (Some t) (Some (items_of (set vs i new)))
popped vs i old new t lt at is = (new.items, at_place vs i old lt at ∙ is, ap Some (map-set (λ (v : Tasks). v.items) vs i new))

pub popped_none : (vs : List Tasks) (i : ℕ) (old new : Tasks) → i < length vs → get_or vs i old ≡ old → (old.items ≡ []) × (new.items ≡ []) → PopsOwn (Some (items_of vs)) i None (Some (items_of (set vs i new)))
popped_none vs i old new lt at e = unchanged vs i old new lt at e.0 e.1

pub stole : (vs : List Tasks) (i : ℕ) (old new : Tasks) (t : Task) → i < length vs → get_or vs i old ≡ old → old.items ≡ t ∷ new.items → StealsFirst (Some (items_of vs)) i (stolen.Task t) (Some (items_of (set vs i new)))
stole vs i old new t lt at is = (new.items, at_place vs i old lt at ∙ is, ap Some (map-set (λ (v : Tasks). v.items) vs i new))

pub stole_none : (vs : List Tasks) (i : ℕ) (old new : Tasks) → i < length vs → get_or vs i old ≡ old → (old.items ≡ []) × (new.items ≡ []) → StealsFirst (Some (items_of vs)) i stolen.Empty (Some (items_of (set vs i new)))
stole_none vs i old new lt at e = unchanged vs i old new lt at e.0 e.1
