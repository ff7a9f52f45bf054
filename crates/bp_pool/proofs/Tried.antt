-- What tries one after another add up to.
use Rattle.std.proofs.Common.{◌≡◌, ◌≢◌, ℕ, suc, ◌+◌, ◌-◌, ◌^◌, ◌<◌, ◌≤◌, Option, Some, None, List, [], ◌∷◌, sym, refl, ◌∙◌, subst, inl, inr, ⊎_elim, arith, true, false, Bool, le_trans}
use Rattle.std.proofs.lemmas.List.Sums.{sum_by-append}
use Rattle.std.proofs.lemmas.Bool.Decides.{nat_tests}
use mathlib.Core.Logic.{dite}
use native.Mathlib.Decide.{ℕ_discrete, dec_le}
use Rattle.bp_base.specs.declared.record.Task.{Task}
use Rattle.bp_base.specs.Bags.{AreSame}
use Rattle.bp_pool.specs.Rounds.{Idle}
use Rattle.bp_pool.specs.Tries.{IsMore, Rose, NoneFell, Grew, with_task, place, PopsOwn, StealsFirst, IsBare, TakesFirst}
use Rattle.std.proofs.Common.{true≢false}
use Rattle.bp_pool.specs.declared.tries.Stolen.TheVariants as stolen
use Rattle.bp_pool.specs.declared.tries.Take.TheVariants as took

more_after : (a b c : ℕ) → IsMore a b → b ≤ c → c < 2 ^ 64 → IsMore a c
more_after a b c more le lt = ⊎_elim (λ (l : a < b). inl (omega arith)) (λ (e : (a ≡ 2 ^ 64 - 1) × (b ≡ 2 ^ 64 - 1)). inr (e.0, top e.1)) more
  where
    top : b ≡ 2 ^ 64 - 1 → c ≡ 2 ^ 64 - 1
    top e = omega arith

more_before : (a b c : ℕ) → a ≤ b → IsMore b c → IsMore a c
more_before a b c le more = ⊎_elim (λ (l : b < c). inl (omega arith))
    (λ (e : (b ≡ 2 ^ 64 - 1) × (c ≡ 2 ^ 64 - 1)). dite (ℕ_discrete a b) (λ same. inr (same ∙ e.0, e.1)) (λ other. inl (less e.0 e.1 other)))
    more
  where
    less : b ≡ 2 ^ 64 - 1 → c ≡ 2 ^ 64 - 1 → a ≢ b → a < c
    less p q ne = omega arith

pub rose_after : (o m n : List ℕ) (k : ℕ) → Rose o m k → NoneFell m n → Rose o n k
rose_after o m n k rose fell = more_after _ _ _ rose (fell k).0 (fell k).1

pub rose_before : (o m n : List ℕ) (k : ℕ) → NoneFell o m → Rose m n k → Rose o n k
rose_before o m n k fell rose = more_before _ _ _ (fell k).0 rose

pub fell_on : (o m n : List ℕ) → NoneFell o m → NoneFell m n → NoneFell o n
fell_on o m n a b k = (le_trans (a k).0 (b k).0, (b k).1)

with_same : (xs ys : List Task) (t : Option Task) → AreSame xs ys → AreSame (with_task xs t) (with_task ys t)
with_same xs ys None same h = same h
with_same xs ys (Some t) same h = omega (arith, sum_by-append h xs (t ∷ []), sum_by-append h ys (t ∷ []), same h)

grew_from : (xs : List Task) (b c : Option (List Task)) (t : Option Task) → Grew (Some xs) None b → Grew b t c → Grew (Some xs) t c
grew_from xs b c t first then =
    let now = subst (λ (o : Option (List Task)). Grew o t c) first.1 then in
    (now.0, now.1, λ h. now.2 h ∙ with_same first.0 xs t first.2 h)

pub grew_on : (a b c : Option (List Task)) (t : Option Task) → Grew a None b → Grew b t c → Grew a t c
grew_on None b c t first then = subst (λ (o : Option (List Task)). Grew o t c) first then
grew_on (Some xs) b c t first then = grew_from xs b c t first then

-- each place is the own one or that of another hand
found_above : (number hands i : ℕ) → number ≤ i → i < hands → place number hands (i + 1 - number) ≡ i
found_above number hands i le lt = grind (arith, nat_tests)

found_below : (number hands i : ℕ) → 1 ≤ number → number ≤ hands → suc i < number → place number hands (i + 1 + hands - number) ≡ i
found_below number hands i one le lt = grind (arith, nat_tests)

pub each : (P : ℕ → Type 0) (number hands : ℕ) → 1 ≤ number → number ≤ hands → P (number - 1) → ((j : ℕ) → 1 ≤ j → j < hands → P (place number hands j)) → (i : ℕ) → i < hands → P i
each P number hands one le own tried i lt = dite (dec_le number i)
    (λ ge. subst P (found_above number hands i ge lt) (tried (i + 1 - number) (omega arith) (omega arith)))
    (λ below. dite (ℕ_discrete (suc i) number)
    (λ e. let same : number - 1 ≡ i = omega arith in subst P same own)
    (λ other. subst P (found_below number hands i one le (omega arith)) (tried (i + 1 + hands - number) (omega arith) (omega arith))))

-- one more try, at the place from - 1
pub one_more : (P Q : ℕ → Type 0) (number hands k from : ℕ) → from ≡ place number hands k + 1 → ((j : ℕ) → 1 ≤ j → j < k → P (place number hands j)) → ((i : ℕ) → P i → Q i) → Q (from - 1) → (j : ℕ) → 1 ≤ j → j < k + 1 → Q (place number hands j)
one_more P Q number hands k from is before keeps here j one lt = dite (ℕ_discrete j k)
    (λ (e : j ≡ k). let at : from - 1 ≡ place number hands k = omega arith in subst (λ (n : ℕ). Q (place number hands n)) (sym e) (subst Q at here))
    (λ other. keeps (place number hands j) (before j one (omega arith)))

abbrev Deques : Type 0
Deques = Option (List (List Task))

bare_at : (ds : List (List Task)) (number hands k from : ℕ) → from ≡ place number hands k + 1 → IsBare ds (from - 1) → IsBare ds (place number hands k)
bare_at ds number hands k from is bare = let at : from - 1 ≡ place number hands k = omega arith in subst (IsBare ds) at bare

pub idle_start : (a b : Deques) (number hands : ℕ) → PopsOwn a (number - 1) None b → Idle a number hands 1 false b
idle_start None b number hands none = none
idle_start (Some ds) b number hands none = (none.0, none.1, (λ j one lt. absurd (omega arith)), refl)

idle_some : (ds : List (List Task)) (mid new : Deques) (number hands k from : ℕ) (lost lost' : Bool) → Idle (Some ds) number hands k lost mid → lost' ≡ lost → from ≡ place number hands k + 1 → StealsFirst mid (from - 1) stolen.Empty new → Idle (Some ds) number hands (k + 1) lost' new
idle_some ds mid new number hands k from lost lost' idle same is then =
    let now = subst (λ (o : Deques). StealsFirst o (from - 1) stolen.Empty new) idle.0 then in
    (now.0, idle.1, (λ j one lt. dite (ℕ_discrete j k) (λ (e : j ≡ k). subst (λ (n : ℕ). IsBare ds (place number hands n)) (sym e) (bare_at ds number hands k from is now.1)) (λ other. idle.2 j one (omega arith))), same ∙ idle.3)

pub idle_on : (a mid new : Deques) (number hands k from : ℕ) (lost lost' : Bool) → Idle a number hands k lost mid → lost' ≡ lost → from ≡ place number hands k + 1 → StealsFirst mid (from - 1) stolen.Empty new → Idle a number hands (k + 1) lost' new
idle_on None mid new number hands k from lost lost' idle same is then = subst (λ (o : Deques). StealsFirst o (from - 1) stolen.Empty new) idle then
idle_on (Some ds) mid new number hands k from lost lost' idle same is then = idle_some ds mid new number hands k from lost lost' idle same is then

pub idle_lost : (a mid new : Deques) (number hands k from : ℕ) (lost lost' : Bool) → Idle a number hands k lost mid → StealsFirst mid (from - 1) stolen.Lost new → Idle a number hands (k + 1) lost' new
idle_lost None mid new number hands k from lost lost' idle then = subst (λ (o : Deques). StealsFirst o (from - 1) stolen.Lost new) idle then
idle_lost (Some ds) mid new number hands k from lost lost' idle then = absurd (subst (λ (o : Deques). StealsFirst o (from - 1) stolen.Lost new) idle.0 then)

pub takes_own : (a b : Deques) (number hands : ℕ) (t : Task) → PopsOwn a (number - 1) (Some t) b → TakesFirst a number hands (took.Task t) b
takes_own None b number hands t own = own
takes_own (Some ds) b number hands t own = inl own

pub takes_first : (a mid new : Deques) (number hands k from : ℕ) (lost : Bool) (t : Task) → 1 ≤ k → k < hands → Idle a number hands k lost mid → from ≡ place number hands k + 1 → StealsFirst mid (from - 1) (stolen.Task t) new → TakesFirst a number hands (took.Task t) new
takes_first None mid new number hands k from lost t one lt idle is then = subst (λ (o : Deques). StealsFirst o (from - 1) (stolen.Task t) new) idle then
takes_first (Some ds) mid new number hands k from lost t one lt idle is then =
    let at : from - 1 ≡ place number hands k = omega arith in
    let now = subst (λ (o : Deques). StealsFirst o (from - 1) (stolen.Task t) new) idle.0 then in
    inr (k, one, lt, idle.1, idle.2, subst (λ (n : ℕ). StealsFirst (Some ds) n (stolen.Task t) new) at now)

pub takes_none : (a now : Deques) (number hands k : ℕ) (lost : Bool) → 1 ≤ number → number ≤ hands → hands ≤ k → Idle a number hands k lost now → TakesFirst a number hands took.Empty now
takes_none None now number hands k lost one le done idle = idle
takes_none (Some ds) now number hands k lost one le done idle = (idle.0, each (IsBare ds) number hands one le idle.1 (λ j l lt. idle.2 j l (omega arith)))

pub takes_lost : (a now : Deques) (number hands k : ℕ) (lost : Bool) → lost ≡ true → Idle a number hands k lost now → TakesFirst a number hands took.Contended now
takes_lost None now number hands k lost is idle = idle
takes_lost (Some ds) now number hands k lost is idle = true≢false (sym is ∙ idle.3)
