-- A tree's nodes are its root and the nodes of its children's trees, one tree after another.
use Rattle.std.proofs.Common.{◌≡◌, ◌⊎◌, inl, inr, ℕ, zero, suc, ◌+◌, ◌<◌, ◌≤◌, Bool, true, false, true≢false, ◌==◌, cond, List, [], ◌∷◌, ◌++◌, map, length, refl, sym, ◌∙◌, ap, subst, arith, length-append}
use Rattle.std.specs.List.{sum_by, flat_map, AllByRecursion}
use Rattle.std.specs.Ordering.{is_lt}
use Rattle.std.proofs.lemmas.Bool.Decides.{nat_tests}
use Rattle.std.proofs.lemmas.List.{map-append, append_assoc}
use Rattle.std.proofs.lemmas.List.Sums.{sum_by-cons, sum_by-append}
use Rattle.bp_base.specs.declared.path.Choice.{Choice}
use Rattle.bp_base.specs.declared.path.Pair.{Pair}
use Rattle.bp_base.specs.declared.path.Step.{Step}
use Rattle.bp_base.specs.declared.point.Sheet.{Sheet}
use Rattle.bp_base.specs.Bags.{AreSame, choice_number}
use Rattle.bp_base.specs.Tree.{TreeValue}
use Rattle.bp_base.proofs.Bags.{sum_by-map}
use Rattle.bp_metric.specs.Choices.{allowed}
use Rattle.bp_metric.specs.Nodes.{Node, Part, SplitOf, ClosedBy, OpenBy}
use Rattle.bp_metric.specs.Refutation.{extended}
use Rattle.bp_join.specs.Trees.{AreInOrder, path_cmp, paths_below, child_paths, paths_at, HavePairs, IsPartOf, IsTree, IsForest, IsAmong, BeginsBy, AreRising, under}
use Rattle.bp_join.proofs.Sums.{sum_agree, sum_none, each-append, each_front, each_back, each_mapped, each-flat_map, each_weaker, each_always, each_kept}
use Rattle.bp_join.proofs.Orders.{cmp_less, in_order_front, in_order_back, in_order_under, rising_allowed}

-- Paths that begin by a choice.

begins_more : (p : Pair) (cs : List Choice) (q more : List Step) → BeginsBy p cs q → BeginsBy p cs (q ++ more)
begins_more p cs [] more by = absurd by
begins_more p cs (s ∷ q) more by = by

pub none_begins : (p : Pair) (q : List Step) → BeginsBy p [] q → ⊥
none_begins p [] by = by
none_begins p (s ∷ q) by = by.1

begin_all : (p : Pair) (all cs : List Choice) → AllByRecursion (λ c. IsAmong c all) cs → AllByRecursion (BeginsBy p all) (map (extended [] p) cs)
begin_all p all [] among = tt
begin_all p all (c ∷ cs) among = ((refl, among.0), begin_all p all cs among.1)

among_itself : (front cs : List Choice) → ((c : Choice) → IsAmong c cs → IsAmong c front) → AllByRecursion (λ c. IsAmong c front) cs
among_itself front [] within = tt
among_itself front (c ∷ cs) within = (within c (inl refl), among_itself front cs (λ d later. within d (inr later)))

-- a number above the length of each path
abbrev longest : List Node → ℕ
longest [] = 0
longest (n ∷ more) = length n.path + 1 + longest more

module _ (T : TreeValue) (G : Sheet) where
  -- the children of a node at a path of at least this length begin as it does
  child_short : (p : Pair) (cs : List Choice) (k : ℕ) (n : Node) → (length n.path < k → BeginsBy p cs n.path) → AllByRecursion (λ q. length q < suc k → BeginsBy p cs q) (child_paths T G n)
  child_short p cs k n before = go n.part
    where
      each : (r : Pair) (ds : List Choice) → AllByRecursion (λ q. length q < suc k → BeginsBy p cs q) (map (extended n.path r) ds)
      each r [] = tt
      each r (d ∷ ds) = (
        (λ less. begins_more p cs n.path ((record { pair = r; choice = d }) ∷ []) (before (omega (arith, less, length-append n.path ((record { pair = r; choice = d }) ∷ []))))),
        each r ds,
      )

      go : (part : Part) → AllByRecursion (λ q. length q < suc k → BeginsBy p cs q) (paths_below T G n.path part)
      go (SplitOf r m) = each r (allowed T G r)
      go (ClosedBy claim) = tt
      go (OpenBy claim) = tt

  module _ (p : Pair) (cs : List Choice) (ns : List Node) (same : AreSame (map (extended [] p) cs ++ flat_map (child_paths T G) ns) (paths_at ns)) where
    begin_short : (k : ℕ) → AllByRecursion (λ q. length q < k → BeginsBy p cs q) (paths_at ns)
    begin_short zero = each_always (λ q. length q < zero → BeginsBy p cs q) (paths_at ns) (λ q less. absurd (omega arith))
    begin_short (suc k) =
        let Q : List Step → Type 0 = λ q. length q < suc k → BeginsBy p cs q in
        let firsts = each_weaker (BeginsBy p cs) Q (map (extended [] p) cs) (λ q by less. by) (begin_all p cs cs (among_itself cs cs (λ c among. among))) in
        let before = each_mapped (λ q. length q < k → BeginsBy p cs q) (λ (n : Node). n.path) ns (begin_short k) in
        let rest = each-flat_map Q (child_paths T G) ns (each_weaker (λ (n : Node). length n.path < k → BeginsBy p cs n.path) (λ (n : Node). AllByRecursion Q (child_paths T G n)) ns (λ n by. child_short p cs k n by) before) in
        each_kept Q (map (extended [] p) cs ++ flat_map (child_paths T G) ns) (paths_at ns) same (each-append Q (map (extended [] p) cs) (flat_map (child_paths T G) ns) firsts rest)

    begin_each : (ms : List Node) (k : ℕ) → longest ms ≤ k → AllByRecursion (λ (n : Node). length n.path < k → BeginsBy p cs n.path) ms → AllByRecursion (λ (n : Node). BeginsBy p cs n.path) ms
    begin_each [] k most by = tt
    begin_each (n ∷ more) k most by = (by.0 (omega (arith, most)), begin_each more k (omega (arith, most)) by.1)

    pub begin_by : AllByRecursion (λ (n : Node). BeginsBy p cs n.path) ns
    begin_by = begin_each ns (longest ns) (omega arith) (each_mapped (λ q. length q < longest ns → BeginsBy p cs q) (λ (n : Node). n.path) ns (begin_short (longest ns)))

-- The root.

abbrev is_empty : List Step → ℕ
is_empty [] = 1
is_empty (s ∷ q) = 0

not_before : (q : List Step) (s : Step) (rest : List Step) → is_lt (path_cmp q (s ∷ rest)) ≡ false → is_empty q ≡ 0
not_before [] s rest later = absurd (true≢false later)
not_before (t ∷ q) s rest later = refl

none_empty : (ms : List Node) (s : Step) (rest : List Step) → AllByRecursion (λ (m : Node). is_lt (path_cmp m.path (s ∷ rest)) ≡ false) ms → AllByRecursion (λ q. is_empty q ≡ 0) (paths_at ms)
none_empty [] s rest later = tt
none_empty (m ∷ ms) s rest later = (not_before m.path s rest later.0, none_empty ms s rest later.1)

-- what stands behind a root: the trees of its children, or nothing
abbrev pub IsBehind : TreeValue → Sheet → Part → List Node → Type 0
IsBehind T G (SplitOf p k) others = IsForest T G p (allowed T G p) others
IsBehind T G (ClosedBy claim) others = others ≡ []
IsBehind T G (OpenBy claim) others = others ≡ []

module _ (T : TreeValue) (G : Sheet) where
  some_root : IsTree T G [] → ⊥
  some_root t = absurd (omega (arith, t.balanced (λ q. 1), sum_by-cons (λ (q : List Step). 1) [] []))

  nothing_behind : (others : List Node) → AreSame (flat_map (child_paths T G) others) (paths_at others) → others ≡ []
  nothing_behind others same = go others (begin_by T G some_pair [] others same)
    where
      some_pair : Pair
      some_pair = record { i = 1; j = 2 }

      go : (ns : List Node) → AllByRecursion (λ (n : Node). BeginsBy some_pair [] n.path) ns → ns ≡ []
      go [] by = refl
      go (n ∷ ns) by = absurd (none_begins some_pair n.path by.0)

  root_first : (path : List Step) (part : Part) (others : List Node) → IsTree T G ((record { path = path; part = part }) ∷ others) → path ≡ []
  root_first [] part others t = refl
  root_first (s ∷ rest) part others t =
      let here : List Node = (record { path = s ∷ rest; part = part }) ∷ others in
      let one = t.balanced is_empty in
      let first = sum_by-cons is_empty [] (flat_map (child_paths T G) here) in
      let last = sum_by-cons is_empty (s ∷ rest) (paths_at others) in
      let none = sum_none is_empty (paths_at others) (none_empty others s rest t.in_order.0) in
      absurd (omega (arith, one, first, last, none))

  behind : (part : Part) (others : List Node) → IsTree T G ((record { path = []; part = part }) ∷ others) → IsBehind T G part others
  behind part others t = go part (λ h. less h) (λ pairs. t.pairs.1)
    where
      less : (h : List Step → ℕ) → sum_by h (paths_below T G [] part ++ flat_map (child_paths T G) others) ≡ sum_by h (paths_at others)
      less h = omega (arith, t.balanced h, sum_by-cons h [] (paths_below T G [] part ++ flat_map (child_paths T G) others), sum_by-cons h [] (paths_at others))

      go : (part : Part) → AreSame (paths_below T G [] part ++ flat_map (child_paths T G) others) (paths_at others) → (Unit {0} → HavePairs T others) → IsBehind T G part others
      go (SplitOf p k) same pairs = record {
        balanced = same;
        begin = begin_by T G p (allowed T G p) others same;
        in_order = t.in_order.1;
        pairs = pairs tt;
        rising = rising_allowed T G p;
      }
      go (ClosedBy claim) same pairs = nothing_behind others same
      go (OpenBy claim) same pairs = nothing_behind others same

  -- a tree is its root and what stands behind it
  pub record HasRoot (ns : List Node) : Type 0 where
    pub part : Part
    pub others : List Node
    pub is : ns ≡ (record { path = []; part = part }) ∷ others
    pub pair : IsPartOf T part
    pub behind : IsBehind T G part others

  pub root : (ns : List Node) → IsTree T G ns → HasRoot ns
  root [] t = absurd (some_root t)
  root (n ∷ others) t =
      let e : n.path ≡ [] = root_first n.path n.part others t in
      let same : n ≡ record { path = []; part = n.part } = λ i. record { path = e i; part = n.part } in
      record {
        part = n.part;
        others = others;
        is = ap (λ (m : Node). m ∷ others) same;
        pair = t.pairs.0;
        behind = behind n.part others (subst (λ (m : Node). IsTree T G (m ∷ others)) same t);
      }

-- The trees of the children, one after another.

abbrev is_choice : Choice → Choice → Bool
is_choice c d = choice_number d == choice_number c

itself : (c : Choice) → is_choice c c ≡ true
itself c = grind (arith, nat_tests)

other : (c d : Choice) → choice_number c < choice_number d → is_choice c d ≡ false
other c d less = grind (arith, nat_tests)

greater : (c : Choice) (cs : List Choice) (d : Choice) → AllByRecursion (λ (e : Choice). choice_number c < choice_number e) cs → IsAmong d cs → choice_number c < choice_number d
greater c [] d less among = absurd among
greater c (e ∷ cs) d less (inl here) = subst (λ (f : Choice). choice_number c < choice_number f) (sym here) less.0
greater c (e ∷ cs) d less (inr later) = greater c cs d less.1 later

-- weights of the paths that begin with the choice, by what follows it, and of the others
abbrev of_first : Choice → (List Step → ℕ) → List Step → ℕ
of_first c h [] = 0
of_first c h (s ∷ q) = cond (is_choice c s.choice) (h q) 0

abbrev of_later : Choice → (List Step → ℕ) → List Step → ℕ
of_later c h [] = 0
of_later c h (s ∷ q) = cond (is_choice c s.choice) 0 (h (s ∷ q))

module _ (p : Pair) (c : Choice) (cs : List Choice) (less : AllByRecursion (λ (d : Choice). choice_number c < choice_number d) cs) where
  abbrev step : Step
  step = record { pair = p; choice = c }

  not_first : (h : List Step → ℕ) (q : List Step) → BeginsBy p cs q → of_first c h q ≡ 0
  not_first h [] by = refl
  not_first h (s ∷ q) by = ap (λ (b : Bool). cond b (h q) 0) (other c s.choice (greater c cs s.choice less by.1))

  is_later : (h : List Step → ℕ) (q : List Step) → BeginsBy p cs q → of_later c h q ≡ h q
  is_later h [] by = absurd by
  is_later h (s ∷ q) by = ap (λ (b : Bool). cond b 0 (h (s ∷ q))) (other c s.choice (greater c cs s.choice less by.1))

  is_first : (h : List Step → ℕ) (q : List Step) → of_first c h (step ∷ q) ≡ h q
  is_first h q = ap (λ (b : Bool). cond b (h q) 0) (itself c)

  not_later : (h : List Step → ℕ) (q : List Step) → of_later c h (step ∷ q) ≡ 0
  not_later h q = ap (λ (b : Bool). cond b 0 (h (step ∷ q))) (itself c)

  -- the nodes of the first child's tree stand in front
  record Split (ns : List Node) : Type 0 where
    front : List Node
    back : List Node
    is : ns ≡ map (under (step ∷ [])) front ++ back
    begin : AllByRecursion (λ (n : Node). BeginsBy p cs n.path) back

  which : (path : List Step) (part : Part) → BeginsBy p (c ∷ cs) path → ((q : List Step) × (path ≡ step ∷ q)) ⊎ BeginsBy p cs path
  which [] part by = absurd by
  which (s ∷ q) part (same, inl here) = inl (q, λ i. (record { pair = same i; choice = here i }) ∷ q)
  which (s ∷ q) part (same, inr later) = inr (same, later)

  -- a later child's node has none of the first child's behind it
  later_first : (path : List Step) (q : List Step) → BeginsBy p cs path → is_lt (path_cmp (step ∷ q) path) ≡ false → ⊥
  later_first [] q by later = by
  later_first (s ∷ rest) q by later = true≢false (sym (cmp_less step s q rest (greater c cs s.choice less by.1)) ∙ later)

  split : (ns : List Node) → AllByRecursion (λ (n : Node). BeginsBy p (c ∷ cs) n.path) ns → AreInOrder ns → Split ns
  split [] by order = record { front = []; back = []; is = refl; begin = tt }
  split (n ∷ ns) by order =
      let rest = split ns by.1 order.1 in
      elim (which n.path n.part by.0) [
        | inl first ↦
            record {
              front = (record { path = first.0; part = n.part }) ∷ rest.front;
              back = rest.back;
              is = λ i. (record { path = first.1 i; part = n.part }) ∷ rest.is i;
              begin = rest.begin;
            }
        | inr later ↦ go rest.front rest.back rest.is rest.begin later
      ]
    where
      go : (front back : List Node) → ns ≡ map (under (step ∷ [])) front ++ back → AllByRecursion (λ (m : Node). BeginsBy p cs m.path) back → BeginsBy p cs n.path → Split (n ∷ ns)
      go [] back is begin later = record { front = []; back = n ∷ back; is = ap (λ (ms : List Node). n ∷ ms) is; begin = (later, begin) }
      go (f ∷ front) back is begin later =
          let behind = subst (λ (ms : List Node). AllByRecursion (λ (m : Node). is_lt (path_cmp m.path n.path) ≡ false) ms) is order.0 in
          absurd (later_first n.path f.path later behind.0)

  module _ (T : TreeValue) (G : Sheet) where
    -- the children of a node under a step are those of the node, under the step
    under_children : (n : Node) → child_paths T G (under (step ∷ []) n) ≡ map (λ (q : List Step). step ∷ q) (child_paths T G n)
    under_children n = go n.part
      where
        each : (r : Pair) (ds : List Choice) → map (extended (step ∷ n.path) r) ds ≡ map (λ (q : List Step). step ∷ q) (map (extended n.path r) ds)
        each r [] = refl
        each r (d ∷ ds) = ap (λ (qs : List (List Step)). (extended (step ∷ n.path) r d) ∷ qs) (each r ds)

        go : (part : Part) → paths_below T G (step ∷ n.path) part ≡ map (λ (q : List Step). step ∷ q) (paths_below T G n.path part)
        go (SplitOf r k) = each r (allowed T G r)
        go (ClosedBy claim) = refl
        go (OpenBy claim) = refl

    under_all : (ns : List Node) → flat_map (child_paths T G) (map (under (step ∷ [])) ns) ≡ map (λ (q : List Step). step ∷ q) (flat_map (child_paths T G) ns)
    under_all [] = refl
    under_all (n ∷ ns) =
        (λ i. under_children n i ++ under_all ns i)
        ∙ sym (map-append (λ (q : List Step). step ∷ q) (child_paths T G n) (flat_map (child_paths T G) ns))

    under_paths : (ns : List Node) → paths_at (map (under (step ∷ [])) ns) ≡ map (λ (q : List Step). step ∷ q) (paths_at ns)
    under_paths [] = refl
    under_paths (n ∷ ns) = ap (λ (qs : List (List Step)). (step ∷ n.path) ∷ qs) (under_paths ns)

    -- the children of nodes that begin by a later choice begin so too
    children_begin : (ns : List Node) → AllByRecursion (λ (n : Node). BeginsBy p cs n.path) ns → AllByRecursion (BeginsBy p cs) (flat_map (child_paths T G) ns)
    children_begin ns by = each-flat_map (BeginsBy p cs) (child_paths T G) ns (each_weaker (λ (n : Node). BeginsBy p cs n.path) (λ (n : Node). AllByRecursion (BeginsBy p cs) (child_paths T G n)) ns (λ n one. go n one n.part) by)
      where
        each : (n : Node) → BeginsBy p cs n.path → (r : Pair) (ds : List Choice) → AllByRecursion (BeginsBy p cs) (map (extended n.path r) ds)
        each n one r [] = tt
        each n one r (d ∷ ds) = (begins_more p cs n.path ((record { pair = r; choice = d }) ∷ []) one, each n one r ds)

        go : (n : Node) → BeginsBy p cs n.path → (part : Part) → AllByRecursion (BeginsBy p cs) (paths_below T G n.path part)
        go n one (SplitOf r k) = each n one r (allowed T G r)
        go n one (ClosedBy claim) = tt
        go n one (OpenBy claim) = tt

    paths_begin : (ns : List Node) → AllByRecursion (λ (n : Node). BeginsBy p cs n.path) ns → AllByRecursion (BeginsBy p cs) (paths_at ns)
    paths_begin [] by = tt
    paths_begin (n ∷ ns) by = (by.0, paths_begin ns by.1)

    firsts_begin : AllByRecursion (BeginsBy p cs) (map (extended [] p) cs)
    firsts_begin = begin_all p cs cs (among_itself cs cs (λ d among. among))

    -- a weight of the whole, by its parts
    module _ (w : List Step → ℕ) (front back : List Node) (same : AreSame (map (extended [] p) (c ∷ cs) ++ flat_map (child_paths T G) (map (under (step ∷ [])) front ++ back)) (paths_at (map (under (step ∷ [])) front ++ back))) where
      weighed : w (step ∷ []) + sum_by w (map (extended [] p) cs) + (sum_by (λ q. w (step ∷ q)) (flat_map (child_paths T G) front) + sum_by w (flat_map (child_paths T G) back)) ≡ sum_by (λ q. w (step ∷ q)) (paths_at front) + sum_by w (paths_at back)
      weighed =
          let F = map (under (step ∷ [])) front in
          let kids = child_paths T G in
          let whole = same w in
          let a = sum_by-append w (map (extended [] p) (c ∷ cs)) (flat_map kids (F ++ back)) in
          let b = sum_by-cons w (step ∷ []) (map (extended [] p) cs) in
          let d = ap (sum_by w) (flat_map-append kids F back) ∙ sum_by-append w (flat_map kids F) (flat_map kids back) in
          let e = ap (sum_by w) (under_all front) ∙ sum_by-map w (λ (q : List Step). step ∷ q) (flat_map kids front) in
          let f = ap (sum_by w) (map-append (λ (n : Node). n.path) F back) ∙ sum_by-append w (paths_at F) (paths_at back) in
          let g = ap (sum_by w) (under_paths front) ∙ sum_by-map w (λ (q : List Step). step ∷ q) (paths_at front) in
          omega (arith, whole, a, b, d, e, f, g)
        where
          flat_map-append : (k : Node → List (List Step)) (xs ys : List Node) → flat_map k (xs ++ ys) ≡ flat_map k xs ++ flat_map k ys
          flat_map-append k [] ys = refl
          flat_map-append k (x ∷ xs) ys = ap (λ (l : List (List Step)). k x ++ l) (flat_map-append k xs ys) ∙ sym (append_assoc (k x) (flat_map k xs) (flat_map k ys))

    -- the first child's tree, and those of the later children
    pub record Peeled (ns : List Node) : Type 0 where
      pub front : List Node
      pub back : List Node
      pub is : ns ≡ map (under (step ∷ [])) front ++ back
      pub tree : IsTree T G front
      pub forest : IsForest T G p cs back

    peeled_at : (rising : AreRising cs) (front back : List Node) → AllByRecursion (λ (n : Node). BeginsBy p cs n.path) back → IsForest T G p (c ∷ cs) (map (under (step ∷ [])) front ++ back) → IsTree T G front × IsForest T G p cs back
    peeled_at rising front back begin f = (
      record {
        balanced = λ h. first h;
        in_order = in_order_under step front (in_order_front (map (under (step ∷ [])) front) back f.in_order);
        pairs = each_mapped (λ (n : Node). IsPartOf T n.part) (under (step ∷ [])) front (each_front (λ (n : Node). IsPartOf T n.part) (map (under (step ∷ [])) front) back f.pairs);
      },
      record {
        balanced = λ h. later h;
        begin = begin;
        in_order = in_order_back (map (under (step ∷ [])) front) back f.in_order;
        pairs = each_back (λ (n : Node). IsPartOf T n.part) (map (under (step ∷ [])) front) back f.pairs;
        rising = rising;
      },
    )
      where
        first : (h : List Step → ℕ) → sum_by h ([] ∷ flat_map (child_paths T G) front) ≡ sum_by h (paths_at front)
        first h =
            let w = of_first c h in
            let none = λ (qs : List (List Step)) (by : AllByRecursion (BeginsBy p cs) qs). sum_none w qs (each_weaker (BeginsBy p cs) (λ q. w q ≡ 0) qs (not_first h) by) in
            let same = λ (qs : List (List Step)). sum_agree (λ q. w (step ∷ q)) h qs (each_always (λ q. w (step ∷ q) ≡ h q) qs (is_first h)) in
            omega (arith, weighed w front back f.balanced, is_first h [], none (map (extended [] p) cs) firsts_begin, same (flat_map (child_paths T G) front), none (flat_map (child_paths T G) back) (children_begin back begin), same (paths_at front), none (paths_at back) (paths_begin back begin), sum_by-cons h [] (flat_map (child_paths T G) front))

        later : (h : List Step → ℕ) → sum_by h (map (extended [] p) cs ++ flat_map (child_paths T G) back) ≡ sum_by h (paths_at back)
        later h =
            let w = of_later c h in
            let same = λ (qs : List (List Step)) (by : AllByRecursion (BeginsBy p cs) qs). sum_agree w h qs (each_weaker (BeginsBy p cs) (λ q. w q ≡ h q) qs (is_later h) by) in
            let none = λ (qs : List (List Step)). sum_none (λ q. w (step ∷ q)) qs (each_always (λ q. w (step ∷ q) ≡ 0) qs (not_later h)) in
            omega (arith, weighed w front back f.balanced, not_later h [], same (map (extended [] p) cs) firsts_begin, none (flat_map (child_paths T G) front), same (flat_map (child_paths T G) back) (children_begin back begin), none (paths_at front), same (paths_at back) (paths_begin back begin), sum_by-append h (map (extended [] p) cs) (flat_map (child_paths T G) back))

    peel_as : (rising : AreRising cs) (ns : List Node) → IsForest T G p (c ∷ cs) ns → Peeled ns
    peel_as rising ns f =
        let s = split ns f.begin f.in_order in
        let both = peeled_at rising s.front s.back s.begin (subst (IsForest T G p (c ∷ cs)) s.is f) in
        record { front = s.front; back = s.back; is = s.is; tree = both.0; forest = both.1 }

-- the first child's tree stands in front
pub peel : (T : TreeValue) (G : Sheet) (p : Pair) (c : Choice) (cs : List Choice) (ns : List Node) (f : IsForest T G p (c ∷ cs) ns) → Peeled p c cs f.rising.0 T G ns
peel T G p c cs ns f = peel_as p c cs f.rising.0 T G f.rising.1 ns f

-- no child, no node
pub none_left : (T : TreeValue) (G : Sheet) (p : Pair) (ns : List Node) → IsForest T G p [] ns → ns ≡ []
none_left T G p [] f = refl
none_left T G p (n ∷ ns) f = absurd (none_begins p n.path f.begin.0)
