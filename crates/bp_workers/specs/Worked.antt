-- What a worker has done, as lists: the tasks that it took, pushed and keeps, its records, the tickets that its pass drew and the sides that it offered.
use Rattle.std.specs.Prelude.{◌≡◌, ◌⊎◌, ℕ, ◌≤◌, min, cond, leb, List, [], ◌∷◌, ◌++◌, map, All, Any, Option, None, Some}
use Rattle.std.specs.List.{Contains, flat_map}
use Rattle.bp_base.specs.declared.path.Step.{Step}
use Rattle.bp_base.specs.declared.point.Placement.{Placement}
use Rattle.bp_base.specs.declared.point.Sheet.{Sheet}
use Rattle.bp_base.specs.declared.record.Outcome.TheVariants.{Closed, Cyclic, Solved, Split}
use Rattle.bp_base.specs.declared.record.Record.{Record}
use Rattle.bp_base.specs.declared.record.RecordKind.{RecordKind}
use Rattle.bp_base.specs.declared.record.RecordKind.TheVariants as kind
use Rattle.bp_base.specs.declared.record.Task.{Task}
use Rattle.bp_base.specs.Bags.{AreSame}
use Rattle.bp_base.specs.Tree.{TreeValue, leaf_count}
use Rattle.bp_metric.specs.Chains.{HasCycle}
use Rattle.bp_metric.specs.Valid.{Valid}
use Rattle.bp_branch.specs.Outcomes.{IsOutcome, IsSolved}
use Rattle.bp_turn.specs.Turns.{tasks_of}
use Rattle.bp_incumbent.specs.declared.tickets.Ticket.{Ticket}

-- a record's task is its path with its given bound
abbrev pub task_of : Record → Task
task_of r = record { path = r.path; bound = r.given }

-- the children of a split record, each with the record's bound
abbrev pub born_of : TreeValue → Sheet → Record → List Task
born_of T G r = tasks_of T G r.path r.bound r.kind

-- the kind of a record is what judging its path against its bound gives: split at its pair, or else closed by the claim that is shown
abbrev pub IsKind : TreeValue → Sheet → List Step → ℕ → RecordKind → Type 0
IsKind T G path bound (kind.Split p) = IsOutcome T G path bound (Split p)
IsKind T G path bound (kind.Closed claim) =
    IsOutcome T G path bound (Cyclic claim) ⊎ (IsOutcome T G path bound (Closed claim) ⊎ ((side : ℕ) × IsOutcome T G path bound (Solved side claim)))

abbrev pub HasKind : TreeValue → Sheet → Record → Type 0
HasKind T G r = IsKind T G r.path r.bound r.kind

abbrev pub ticket_of : Record → ℕ
ticket_of r = r.ticket

-- the numbers of the tickets that lie below the limit
abbrev pub below : ℕ → List Ticket → List ℕ
below limit [] = []
below limit (t ∷ ts) = cond (leb limit t.number) (below limit ts) (t.number ∷ below limit ts)

-- a record's bound is the lesser of its given bound and the side that stands beside its ticket
abbrev pub HasBound : List Ticket → Record → Type 0
HasBound tickets r = Any (λ (t : Ticket). (t.number ≡ r.ticket) × (r.bound ≡ min t.side r.given)) tickets

-- the record's path has no cycle and no next pair, and forces this side, which is below the record's bound
pub record Forces (T : TreeValue) (G : Sheet) (r : Record) (side : ℕ) : Type 0 where
  pub no_cycle : HasCycle (leaf_count T) r.path → ⊥
  pub solved : IsSolved T G r.path r.bound side

-- what a record makes its worker offer
abbrev pub IsOffer : TreeValue → Sheet → Record → Option ℕ → Type 0
IsOffer T G r None = (side : ℕ) → Forces T G r side → ⊥
IsOffer T G r (Some side) = Forces T G r side

abbrev pub with_offer : Option ℕ → List ℕ → List ℕ
with_offer None sides = sides
with_offer (Some side) sides = side ∷ sides

-- the offers are, in order, those of the records
abbrev pub AreOffers : TreeValue → Sheet → List Record → List ℕ → Type 0
AreOffers T G [] offers = offers ≡ []
AreOffers T G (r ∷ rs) offers = (first : Option ℕ) × (more : List ℕ) × IsOffer T G r first × (offers ≡ with_offer first more) × AreOffers T G rs more

-- there is no best placement where nothing was offered; else it is valid at its own side, which is the least of the offers
abbrev pub IsBest : TreeValue → Sheet → Option Placement → List ℕ → Type 0
IsBest T G None offers = offers ≡ []
IsBest T G (Some p) offers = Valid T G 1 p.side p.points × Contains offers p.side × All (λ side. p.side ≤ side) offers

-- What was taken and the children of splits are together the tasks of the records, what was pushed and what is kept, as whole tasks. Each record's
-- kind is that of judging. The tickets of the records are those below the limit, each once. Bounds and offers are as above.
pub record IsWorked (T : TreeValue) (G : Sheet) (limit : ℕ) (taken pushed : List Task) (records : List Record) (kept : List Task) (tickets : List Ticket) (offers : List ℕ) : Type 0 where
  pub tasks : AreSame (taken ++ flat_map (born_of T G) records) (map task_of records ++ (pushed ++ kept))
  pub judged : All (HasKind T G) records
  pub tickets_are : AreSame (map ticket_of records) (below limit tickets)
  pub bounds : All (HasBound tickets) records
  pub offers_are : AreOffers T G records offers

-- of two best placements the one of the lesser side, and the second where both sides are equal
abbrev pub lesser : Option Placement → Option Placement → Option Placement
lesser None q = q
lesser (Some p) None = Some p
lesser (Some p) (Some q) = cond (leb q.side p.side) (Some q) (Some p)

-- the best placement, or else the opening, also where that is no worse
abbrev pub chosen : Option Placement → Placement → Placement
chosen None opening = opening
chosen (Some p) opening = cond (leb opening.side p.side) opening p
