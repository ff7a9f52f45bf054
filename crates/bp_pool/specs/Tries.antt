-- What tries say of their counts, tasks and deques.
use Rattle.std.specs.Prelude.{◌≡◌, ℕ, ◌+◌, ◌-◌, ◌^◌, ◌<◌, ◌≤◌, ◌⊎◌, List, [], ◌∷◌, ◌++◌, Option, None, Some, length, slice_index, slice_index_or, slice_set, cond, leb}
use Rattle.bp_base.specs.declared.record.Task.{Task}
use Rattle.bp_base.specs.Bags.{AreSame}
use Rattle.bp_pool.specs.declared.tries.Stolen.{Stolen}
use Rattle.bp_pool.specs.declared.tries.Stolen.TheVariants as stolen
use Rattle.bp_pool.specs.declared.tries.Take.{Take}
use Rattle.bp_pool.specs.declared.tries.Take.TheVariants as took
use Rattle.bp_pool.specs.Rest.{RestView}

-- the count is greater, or stands at the most
abbrev pub IsMore : ℕ → ℕ → Type 0
IsMore a b = (a < b) ⊎ ((a ≡ 2 ^ 64 - 1) × (b ≡ 2 ^ 64 - 1))

abbrev pub Rose : List ℕ → List ℕ → ℕ → Type 0
Rose old new k = IsMore (slice_index old k) (slice_index new k)

abbrev pub NoneFell : List ℕ → List ℕ → Type 0
NoneFell old new = (k : ℕ) → (slice_index old k ≤ slice_index new k) × (slice_index new k < 2 ^ 64)

-- a count for each hand, none above the most
abbrev pub AreCounts : List ℕ → ℕ → Type 0
AreCounts counts hands = (length counts ≡ hands) × ((k : ℕ) → slice_index counts k < 2 ^ 64)

abbrev pub Stays : ℕ → ℕ → RestView → ℕ → ℕ → RestView → Type 0
Stays number hands r number' hands' r' = (number' ≡ number) × (hands' ≡ hands) × (r' ≡ r)

abbrev pub with_task : List Task → Option Task → List Task
with_task xs None = xs
with_task xs (Some t) = xs ++ t ∷ []

-- the tasks taken, where told, grow by exactly the task that is given
abbrev pub Grew : Option (List Task) → Option Task → Option (List Task) → Type 0
Grew None given new = new ≡ None
Grew (Some xs) given new = (ys : List Task) × (new ≡ Some ys) × AreSame ys (with_task xs given)

abbrev pub of_stolen : Stolen → Option Task
of_stolen (stolen.Task t) = Some t
of_stolen stolen.Empty = None
of_stolen stolen.Lost = None

abbrev pub MatchStolen : Stolen → (Task → Type 0) → Type 0 → Type 0 → Type 0
MatchStolen (stolen.Task t) P Q R = P t
MatchStolen stolen.Empty P Q R = Q
MatchStolen stolen.Lost P Q R = R

abbrev pub MatchTake : Take → (Task → Type 0) → Type 0 → Type 0 → Type 0
MatchTake (took.Task t) P Q R = P t
MatchTake took.Empty P Q R = Q
MatchTake took.Contended P Q R = R

-- where the deques are told, the last task of the k-th is given, or it is empty
abbrev pub PopsOwn : Option (List (List Task)) → ℕ → Option Task → Option (List (List Task)) → Type 0
PopsOwn None k given new = new ≡ None
PopsOwn (Some ds) k None new = (new ≡ Some ds) × (slice_index_or ds k [] ≡ [])
PopsOwn (Some ds) k (Some t) new = (ts : List Task) × (slice_index_or ds k [] ≡ ts ++ t ∷ []) × (new ≡ Some (slice_set ds k ts))

-- the same of the first task, and no steal is lost
abbrev pub StealsFirst : Option (List (List Task)) → ℕ → Stolen → Option (List (List Task)) → Type 0
StealsFirst None k given new = new ≡ None
StealsFirst (Some ds) k (stolen.Task t) new = (ts : List Task) × (slice_index_or ds k [] ≡ t ∷ ts) × (new ≡ Some (slice_set ds k ts))
StealsFirst (Some ds) k stolen.Empty new = (new ≡ Some ds) × (slice_index_or ds k [] ≡ [])
StealsFirst (Some ds) k stolen.Lost new = ⊥

abbrev pub EachRose : List ℕ → List ℕ → ℕ → Type 0
EachRose old new hands = (k : ℕ) → k < hands → Rose old new k

abbrev pub EachTried : List ℕ → List ℕ → List ℕ → List ℕ → ℕ → Type 0
EachTried misses misses' lost lost' hands = (k : ℕ) → k < hands → Rose misses misses' k ⊎ Rose lost lost' k

-- there are several hands, and for one of them the count rose
abbrev pub SomeLost : List ℕ → List ℕ → ℕ → Type 0
SomeLost old new hands = (1 < hands) × (k : ℕ) × (k < hands) × Rose old new k

-- the place of the k-th other hand, in order and round
abbrev pub place : ℕ → ℕ → ℕ → ℕ
place number hands k = cond (leb (number + k) hands) (number + k - 1) (number + k - hands - 1)

-- the deque at the place i is empty
abbrev pub IsBare : List (List Task) → ℕ → Type 0
IsBare ds i = slice_index_or ds i [] ≡ []

-- where the deques are told, the own last task is taken, else the first task of the first other hand in order whose deque isn't empty, and nothing exactly where all are empty
abbrev pub TakesFirst : Option (List (List Task)) → ℕ → ℕ → Take → Option (List (List Task)) → Type 0
TakesFirst None number hands given new = new ≡ None
TakesFirst (Some ds) number hands (took.Task t) new =
    PopsOwn (Some ds) (number - 1) (Some t) new ⊎ ((k : ℕ) × (1 ≤ k) × (k < hands) × IsBare ds (number - 1) × ((j : ℕ) → 1 ≤ j → j < k → IsBare ds (place number hands j)) × StealsFirst (Some ds) (place number hands k) (stolen.Task t) new)
TakesFirst (Some ds) number hands took.Empty new = (new ≡ Some ds) × ((i : ℕ) → i < hands → IsBare ds i)
TakesFirst (Some ds) number hands took.Contended new = ⊥
