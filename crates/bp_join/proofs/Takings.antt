-- What a stack of entries gives: a tree's nodes, one tree after another.
use Rattle.std.proofs.Common.{◌≡◌, ◌<◌, ◌≤◌, List, [], ◌∷◌, ◌++◌, map, length, reverse, refl, sym, ◌∙◌, ap, subst, arith, length-append}
use Rattle.std.proofs.lemmas.List.{map-append, append_assoc, append-nil, length-map, reverse-append}
use Rattle.bp_base.specs.declared.chain.Claim.{Claim}
use Rattle.bp_base.specs.declared.path.Choice.{Choice}
use Rattle.bp_base.specs.declared.path.Pair.{Pair}
use Rattle.bp_base.specs.declared.path.Step.{Step}
use Rattle.bp_base.specs.declared.point.Sheet.{Sheet}
use Rattle.bp_base.specs.declared.record.Record.{Record}
use Rattle.bp_base.specs.declared.record.Task.{Task}
use Rattle.bp_base.specs.declared.refutation.Refutation.{Refutation, fold-roll-Refutation}
use Rattle.bp_base.specs.declared.refutation.Refutation.TheOpen.{Refutation-F}
use Rattle.bp_base.specs.declared.refutation.Refutation.TheVariants.{Split, Closed, Open, rolls-Split, rolls-Closed, rolls-Open}
use Rattle.bp_base.specs.Path.{IsPairOf}
use Rattle.bp_base.specs.Tree.{TreeValue, leaf_count}
use Rattle.bp_metric.specs.Choices.{allowed}
use Rattle.bp_metric.specs.Nodes.{Node, Part, SplitOf, ClosedBy, OpenBy, child_nodes, nodes_at, nodes_of}
use Rattle.bp_metric.specs.Refutation.{extended, EachFits, Fits}
use Rattle.bp_metric.proofs.Refutations.{fits-split, fits-closed, fits-open}
use Rattle.bp_join.specs.declared.entry.Entry.{Entry}
use Rattle.bp_join.specs.declared.entry.Found.{Found}
use Rattle.bp_join.specs.declared.entry.Opened.{Opened}
use Rattle.bp_join.specs.Entries.{entry_node, part_found, opened_node, stacked}
use Rattle.bp_join.specs.Joined.{AreOpenNodes, IsOpenNode, node_of}
use Rattle.bp_join.specs.Trees.{IsTree, IsForest, IsPartOf, under, nodes_from, AllFit, HasChildNodes, BeginsWithTree, BeginsWithForest, TakesTree, TakesForest}
use Rattle.bp_join.proofs.Sums.{each_front, each_back}
use Rattle.bp_join.proofs.Orders.{stacked_push}
use Rattle.bp_join.proofs.Parted.{IsBehind, root, peel, none_left}

-- Open nodes for the tasks left.

opens_push : (T : TreeValue) (G : Sheet) (ts : List Task) (ns : List Node) (t : Task) (n : Node) → AreOpenNodes T G ts ns → IsOpenNode T G t n → AreOpenNodes T G (ts ++ t ∷ []) (ns ++ n ∷ [])
opens_push T G [] [] t n all one = (one, tt)
opens_push T G [] (m ∷ ns) t n all one = absurd all
opens_push T G (s ∷ ts) [] t n all one = absurd all
opens_push T G (s ∷ ts) (m ∷ ns) t n all one = (all.0, opens_push T G ts ns t n all.1 one)

pub opens_more : (T : TreeValue) (G : Sheet) (ts : List Task) (t : Task) (now : List Opened) (o : Opened) (after : List Opened) → AreOpenNodes T G ts (map opened_node now) → IsOpenNode T G t (opened_node o) → after ≡ now ++ o ∷ [] → AreOpenNodes T G (ts ++ t ∷ []) (map opened_node after)
opens_more T G ts t now o after all one is =
    subst (AreOpenNodes T G (ts ++ t ∷ [])) (sym (ap (map opened_node) is ∙ map-append opened_node now (o ∷ []))) (opens_push T G ts (map opened_node now) t (opened_node o) all one)

-- Records' entries, from the last one on.

pub back_more : (T : TreeValue) (G : Sheet) (entries after : List Entry) (e : Entry) (rest before : List Record) (last : Record) (all : List Node) → map (entry_node T G) entries ++ map (node_of T G) (reverse rest) ≡ all → after ≡ entries ++ e ∷ [] → entry_node T G e ≡ node_of T G last → rest ≡ before ++ last ∷ [] → map (entry_node T G) after ++ map (node_of T G) (reverse before) ≡ all
back_more T G entries after e rest before last all so_far is same parts =
    ap (λ (ns : List Node). ns ++ map (node_of T G) (reverse before)) (ap (map (entry_node T G)) is ∙ map-append (entry_node T G) entries (e ∷ []))
    ∙ append_assoc (map (entry_node T G) entries) (entry_node T G e ∷ []) (map (node_of T G) (reverse before))
    ∙ ap (λ (n : Node). map (entry_node T G) entries ++ n ∷ map (node_of T G) (reverse before)) same
    ∙ ap (λ (rs : List Record). map (entry_node T G) entries ++ map (node_of T G) rs) (sym (ap reverse parts ∙ reverse-append before (last ∷ [])))
    ∙ so_far

-- Nodes of a refutation at a path.

module _ (T : TreeValue) (G : Sheet) where
  pub nodes-split : (p : Pair) (rs : List Refutation) (path : List Step) → nodes_from T G (Split p rs) path ≡ (record { path = path; part = SplitOf p (length rs) }) ∷ child_nodes path p (allowed T G p) (map (nodes_from T G) rs)
  unfolding nodes_from
  nodes-split p rs path =
      let e = fold-roll-Refutation (List Step → List Node) (nodes_at T G) (Refutation-F.Split p rs) in
      ap (λ r. nodes_from T G r path) (sym (rolls-Split p rs)) ∙ (λ i. e i path)
      ∙ (λ i. (record { path = path; part = SplitOf p (length-map rs (nodes_from T G) i) }) ∷ child_nodes path p (allowed T G p) (map (nodes_from T G) rs))

  nodes-closed : (claim : Claim) (path : List Step) → nodes_from T G (Closed claim) path ≡ (record { path = path; part = ClosedBy claim }) ∷ []
  unfolding nodes_from
  nodes-closed claim path =
      let e = fold-roll-Refutation (List Step → List Node) (nodes_at T G) (Refutation-F.Closed claim) in
      ap (λ r. nodes_from T G r path) (sym (rolls-Closed claim)) ∙ (λ i. e i path)

  pub nodes-open : (claim : Claim) (path : List Step) → nodes_from T G (Open claim) path ≡ (record { path = path; part = OpenBy claim }) ∷ []
  unfolding nodes_from
  nodes-open claim path =
      let e = fold-roll-Refutation (List Step → List Node) (nodes_at T G) (Refutation-F.Open claim) in
      ap (λ r. nodes_from T G r path) (sym (rolls-Open claim)) ∙ (λ i. e i path)

  pub nodes-root : (r : Refutation) → nodes_of T G r ≡ nodes_from T G r []
  unfolding nodes_from nodes_of
  nodes-root r = refl

  -- Taking one node off.

  record Uncovered (n : Node) (after : List Node) (path : List Step) (front rest : List Node) : Type 0 where
    others : List Node
    here : n.path ≡ path
    nodes : map (under path) front ≡ (record { path = path; part = n.part }) ∷ map (under path) others
    left : after ≡ map (under path) others ++ rest
    pair : IsPartOf T n.part
    behind : IsBehind T G n.part others

  same_cons : (n m : Node) (ns ms : List Node) → n ∷ ns ≡ m ∷ ms → (n ≡ m) × (ns ≡ ms)
  same_cons n m ns ms is = (cc is, cc is)

  opened : (n : Node) (after : List Node) (path : List Step) (front rest : List Node) → n ∷ after ≡ map (under path) front ++ rest → IsTree T G front → Uncovered n after path front rest
  opened n after path front rest is tree =
      let r = root T G front tree in
      let at_path : (record { path = path ++ []; part = r.part }) ≡ (record { path = path; part = r.part }) = λ i. record { path = append-nil path i; part = r.part } in
      let nodes : map (under path) front ≡ (record { path = path; part = r.part }) ∷ map (under path) r.others =
      ap (map (under path)) r.is ∙ ap (λ (m : Node). m ∷ map (under path) r.others) at_path in
      let whole : n ∷ after ≡ (record { path = path; part = r.part }) ∷ (map (under path) r.others ++ rest) = is ∙ ap (λ (ns : List Node). ns ++ rest) nodes in
      let first = (same_cons n (record { path = path; part = r.part }) after (map (under path) r.others ++ rest) whole).0 in
      let last = (same_cons n (record { path = path; part = r.part }) after (map (under path) r.others ++ rest) whole).1 in
      let same : r.part ≡ n.part = sym (λ i. (first i).part) in
      record {
        others = r.others;
        here = λ i. (first i).path;
        nodes = nodes ∙ (λ i. (record { path = path; part = same i }) ∷ map (under path) r.others);
        left = last;
        pair = subst (IsPartOf T) same r.pair;
        behind = subst (λ (part : Part). IsBehind T G part r.others) same r.behind;
      }

  pub none_taken : BeginsWithTree T G [] → ⊥
  none_taken b = let r = root T G b.front b.tree in let e : [] ≡ map (under b.path) ((record { path = []; part = r.part }) ∷ r.others) ++ b.rest = b.is ∙ ap (λ (ns : List Node). map (under b.path) ns ++ b.rest) r.is in absurd (cc e)

  closed_taken : (before after : List Node) (at : List Step) (claim : Claim) → before ≡ (record { path = at; part = ClosedBy claim }) ∷ after → TakesTree T G before after (Closed claim)
  closed_taken before after at claim first path front rest is tree =
      let o = opened (record { path = at; part = ClosedBy claim }) after path front rest (sym first ∙ is) tree in
      let none : map (under path) o.others ≡ [] = ap (map (under path)) o.behind in
      let nodes : map (under path) front ≡ (record { path = path; part = ClosedBy claim }) ∷ [] = o.nodes ∙ ap (λ (ns : List Node). (record { path = path; part = ClosedBy claim }) ∷ ns) none in (
        o.left ∙ ap (λ (ns : List Node). ns ++ rest) none,
        record {
          nodes = nodes-closed claim path ∙ sym nodes;
          fits = λ fit. subst (λ (X : Type 0). X) (sym (fits-closed T G claim path)) (subst (AllFit T G) nodes fit).0;
        },
      )

  open_taken : (before after : List Node) (at : List Step) (claim : Claim) → before ≡ (record { path = at; part = OpenBy claim }) ∷ after → TakesTree T G before after (Open claim)
  open_taken before after at claim first path front rest is tree =
      let o = opened (record { path = at; part = OpenBy claim }) after path front rest (sym first ∙ is) tree in
      let none : map (under path) o.others ≡ [] = ap (map (under path)) o.behind in
      let nodes : map (under path) front ≡ (record { path = path; part = OpenBy claim }) ∷ [] = o.nodes ∙ ap (λ (ns : List Node). (record { path = path; part = OpenBy claim }) ∷ ns) none in (
        o.left ∙ ap (λ (ns : List Node). ns ++ rest) none,
        record {
          nodes = nodes-open claim path ∙ sym nodes;
          fits = λ fit. subst (λ (X : Type 0). X) (sym (fits-open T G claim path)) (subst (AllFit T G) nodes fit).0;
        },
      )

  -- the same by a copy of the claim

  pub closed_copied : (before after : List Node) (at : List Step) (claim given : Claim) → given ≡ claim → before ≡ (record { path = at; part = ClosedBy claim }) ∷ after → TakesTree T G before after (Closed given)
  closed_copied before after at claim given same first = closed_taken before after at given (first ∙ (λ i. (record { path = at; part = ClosedBy (sym same i) }) ∷ after))

  pub open_copied : (before after : List Node) (at : List Step) (claim given : Claim) → given ≡ claim → before ≡ (record { path = at; part = OpenBy claim }) ∷ after → TakesTree T G before after (Open given)
  open_copied before after at claim given same first = open_taken before after at given (first ∙ (λ i. (record { path = at; part = OpenBy (sym same i) }) ∷ after))

  -- a split's node is followed by the trees of its children
  pub split_next : (before after : List Node) (at : List Step) (p : Pair) → before ≡ (record { path = at; part = SplitOf p (length (allowed T G p)) }) ∷ after → BeginsWithTree T G before → IsPairOf (leaf_count T) p × BeginsWithForest T G p (allowed T G p) after
  split_next before after at p first b =
      let o = opened (record { path = at; part = SplitOf p (length (allowed T G p)) }) after b.path b.front b.rest (sym first ∙ b.is) b.tree in
      (o.pair, record { path = b.path; front = o.others; rest = b.rest; is = o.left; forest = o.behind })

  pub split_taken : (before middle after : List Node) (at : List Step) (p : Pair) (rs : List Refutation) → before ≡ (record { path = at; part = SplitOf p (length (allowed T G p)) }) ∷ middle → TakesForest T G p (allowed T G p) middle after rs → TakesTree T G before after (Split p rs)
  split_taken before middle after at p rs first takes path front rest is tree =
      let many = length (allowed T G p) in
      let o = opened (record { path = at; part = SplitOf p many }) middle path front rest (sym first ∙ is) tree in
      let t = takes path o.others rest o.left o.behind in
      let made = t.1 in (
        t.0,
        record {
          nodes =
              nodes-split p rs path
              ∙ (λ i. (record { path = path; part = SplitOf p (made.many i) }) ∷ made.nodes i)
              ∙ sym o.nodes;
          fits = λ fit. let all = subst (AllFit T G) o.nodes fit in subst (λ (X : Type 0). X) (sym (fits-split T G p rs path)) (all.0, made.fits all.1);
        },
      )

  -- The children, one after another.

  under_under : (path : List Step) (s : Step) (ns : List Node) → map (under path) (map (under (s ∷ [])) ns) ≡ map (under (path ++ s ∷ [])) ns
  under_under path s [] = refl
  under_under path s (n ∷ ns) = λ i. (record { path = sym (append_assoc path (s ∷ []) n.path) i; part = n.part }) ∷ under_under path s ns i

  child_push : (path : List Step) (p : Pair) (cs : List Choice) (c : Choice) (rs : List Refutation) (r : Refutation) → length rs ≡ length cs → child_nodes path p (cs ++ c ∷ []) (map (nodes_from T G) (rs ++ r ∷ [])) ≡ child_nodes path p cs (map (nodes_from T G) rs) ++ nodes_from T G r (extended path p c)
  child_push path p [] c [] r same = append-nil (nodes_from T G r (extended path p c))
  child_push path p [] c (q ∷ rs) r same = absurd (omega (arith, same))
  child_push path p (d ∷ cs) c [] r same = absurd (omega (arith, same))
  child_push path p (d ∷ cs) c (q ∷ rs) r same =
      ap (λ (ns : List Node). nodes_from T G q (extended path p d) ++ ns) (child_push path p cs c rs r (omega (arith, same)))
      ∙ sym (append_assoc (nodes_from T G q (extended path p d)) (child_nodes path p cs (map (nodes_from T G) rs)) (nodes_from T G r (extended path p c)))

  fits_push : (path : List Step) (p : Pair) (cs : List Choice) (c : Choice) (rs : List Refutation) (r : Refutation) → EachFits (Fits T G) path p cs rs → Fits T G r (extended path p c) → EachFits (Fits T G) path p (cs ++ c ∷ []) (rs ++ r ∷ [])
  fits_push path p [] c [] r all one = (one, tt)
  fits_push path p [] c (q ∷ rs) r all one = absurd all
  fits_push path p (d ∷ cs) c [] r all one = absurd all
  fits_push path p (d ∷ cs) c (q ∷ rs) r all one = (all.0, fits_push path p cs c rs r all.1 one)

  -- some children are made, and the trees of the others are next
  pub record Taken (p : Pair) (choices : List Choice) (path : List Step) (front rest now : List Node) (rs : List Refutation) : Type 0 where
    pub done : List Choice
    pub left : List Choice
    pub first : List Node
    pub last : List Node
    pub choices_are : choices ≡ done ++ left
    pub nodes_are : front ≡ first ++ last
    pub now_is : now ≡ map (under path) last ++ rest
    pub forest : IsForest T G p left last
    pub made : HasChildNodes T G path p done rs (map (under path) first)

  abbrev pub TakenSoFar : Pair → List Choice → List Node → List Node → List Refutation → Type 0
  TakenSoFar p choices before now rs =
      (path : List Step) (front rest : List Node)
      → before ≡ map (under path) front ++ rest
      → IsForest T G p choices front
      → Taken p choices path front rest now rs

  pub taken_none : (p : Pair) (choices : List Choice) (before : List Node) → TakenSoFar p choices before before []
  taken_none p choices before path front rest is forest = record {
    done = [];
    left = choices;
    first = [];
    last = front;
    choices_are = refl;
    nodes_are = refl;
    now_is = is;
    forest = forest;
    made = record { many = refl; nodes = refl; fits = λ fit. tt };
  }

  record Next (p : Pair) (path : List Step) (left : List Choice) (last rest now : List Node) : Type 0 where
    c : Choice
    more : List Choice
    tree_nodes : List Node
    back : List Node
    left_is : left ≡ c ∷ more
    last_is : last ≡ map (under ((record { pair = p; choice = c }) ∷ [])) tree_nodes ++ back
    now_is : now ≡ map (under (extended path p c)) tree_nodes ++ (map (under path) back ++ rest)
    tree : IsTree T G tree_nodes
    forest : IsForest T G p more back

  next : (p : Pair) (path : List Step) (left : List Choice) (last rest now : List Node) → 0 < length left → IsForest T G p left last → now ≡ map (under path) last ++ rest → Next p path left last rest now
  next p path [] last rest now some forest is = absurd (omega arith)
  next p path (c ∷ more) last rest now some forest is =
      let s : Step = record { pair = p; choice = c } in
      let e = peel T G p c more last forest in
      let parts : map (under path) last ≡ map (under (extended path p c)) e.front ++ map (under path) e.back =
      ap (map (under path)) e.is
      ∙ map-append (under path) (map (under (s ∷ [])) e.front) e.back
      ∙ ap (λ (ns : List Node). ns ++ map (under path) e.back) (under_under path s e.front) in
      record {
        c = c;
        more = more;
        tree_nodes = e.front;
        back = e.back;
        left_is = refl;
        last_is = e.is;
        now_is = is ∙ ap (λ (ns : List Node). ns ++ rest) parts ∙ append_assoc (map (under (extended path p c)) e.front) (map (under path) e.back) rest;
        tree = e.tree;
        forest = e.forest;
      }

  some_left : (choices done left : List Choice) (rs : List Refutation) → choices ≡ done ++ left → length rs ≡ length done → length rs < length choices → 0 < length left
  some_left choices done left rs is many less = omega (arith, ap length is, length-append done left, many, less)

  -- where fewer children are made than there are choices a tree is next
  pub next_taken : (p : Pair) (choices : List Choice) (before now : List Node) (rs : List Refutation) → BeginsWithForest T G p choices before → TakenSoFar p choices before now rs → length rs < length choices → BeginsWithTree T G now
  next_taken p choices before now rs b taken less =
      let t = taken b.path b.front b.rest b.is b.forest in
      let n = next p b.path t.left t.last b.rest now (some_left choices t.done t.left rs t.choices_are t.made.many less) t.forest t.now_is in
      record { path = extended b.path p n.c; front = n.tree_nodes; rest = map (under b.path) n.back ++ b.rest; is = n.now_is; tree = n.tree }

  pub taken_more : (p : Pair) (choices : List Choice) (before now after : List Node) (rs : List Refutation) (r : Refutation) → TakenSoFar p choices before now rs → length rs < length choices → TakesTree T G now after r → TakenSoFar p choices before after (rs ++ r ∷ [])
  taken_more p choices before now after rs r taken less takes path front rest is forest =
      let t = taken path front rest is forest in
      let n = next p path t.left t.last rest now (some_left choices t.done t.left rs t.choices_are t.made.many less) t.forest t.now_is in
      let s : Step = record { pair = p; choice = n.c } in
      let made = takes (extended path p n.c) n.tree_nodes (map (under path) n.back ++ rest) n.now_is n.tree in
      let added : map (under path) (t.first ++ map (under (s ∷ [])) n.tree_nodes) ≡ map (under path) t.first ++ map (under (extended path p n.c)) n.tree_nodes =
      map-append (under path) t.first (map (under (s ∷ [])) n.tree_nodes) ∙ ap (λ (ns : List Node). map (under path) t.first ++ ns) (under_under path s n.tree_nodes) in
      record {
        done = t.done ++ n.c ∷ [];
        left = n.more;
        first = t.first ++ map (under (s ∷ [])) n.tree_nodes;
        last = n.back;
        choices_are = t.choices_are ∙ ap (λ (cs : List Choice). t.done ++ cs) n.left_is ∙ sym (append_assoc t.done (n.c ∷ []) n.more);
        nodes_are = t.nodes_are ∙ ap (λ (ns : List Node). t.first ++ ns) n.last_is ∙ sym (append_assoc t.first (map (under (s ∷ [])) n.tree_nodes) n.back);
        now_is = made.0;
        forest = n.forest;
        made = record {
          many = omega (arith, length-append rs (r ∷ []), length-append t.done (n.c ∷ []), t.made.many);
          nodes = child_push path p t.done n.c rs r t.made.many ∙ (λ i. t.made.nodes i ++ made.1.nodes i) ∙ sym added;
          fits = λ fit.
              let all = subst (AllFit T G) added fit in
              let old = t.made.fits (each_front _ (map (under path) t.first) (map (under (extended path p n.c)) n.tree_nodes) all) in
              let one = made.1.fits (each_back _ (map (under path) t.first) (map (under (extended path p n.c)) n.tree_nodes) all) in
              fits_push path p t.done n.c rs r old one;
        };
      }

  -- where all are made
  pub taken_all : (p : Pair) (choices : List Choice) (before now : List Node) (rs : List Refutation) → TakenSoFar p choices before now rs → length choices ≤ length rs → TakesForest T G p choices before now rs
  taken_all p choices before now rs taken all path front rest is forest =
      let t = taken path front rest is forest in
      let none = no_choice t.left (omega (arith, ap length t.choices_are, length-append t.done t.left, t.made.many, all)) in
      let empty = none_left T G p t.last (subst (λ (cs : List Choice). IsForest T G p cs t.last) none t.forest) in
      let done : t.done ≡ choices = sym (t.choices_are ∙ ap (λ (cs : List Choice). t.done ++ cs) none ∙ append-nil t.done) in
      let first : t.first ≡ front = sym (t.nodes_are ∙ ap (λ (ns : List Node). t.first ++ ns) empty ∙ append-nil t.first) in (
        t.now_is ∙ ap (λ (ns : List Node). map (under path) ns ++ rest) empty,
        subst (λ (cs : List Choice). HasChildNodes T G path p cs rs (map (under path) front)) done (subst (λ (ns : List Node). HasChildNodes T G path p t.done rs (map (under path) ns)) first t.made),
      )
    where
      no_choice : (cs : List Choice) → length cs ≡ 0 → cs ≡ []
      no_choice [] e = refl
      no_choice (c ∷ cs) e = absurd (omega (arith, e))

-- The same of a stack.

module _ (T : TreeValue) (G : Sheet) where
  pub some_there : (entries : List Entry) → BeginsWithTree T G (stacked T G entries) → 0 < length entries
  some_there [] b = absurd (none_taken T G b)
  some_there (e ∷ entries) b = omega arith

  -- the top of a stack is what was taken off
  pub top_is : (old new : List Entry) (e : Entry) (kind : Found) → old ≡ new ++ e ∷ [] → e.found ≡ kind → stacked T G old ≡ (record { path = e.path.now; part = part_found T G kind }) ∷ stacked T G new
  top_is old new e kind is same =
      ap (stacked T G) is
      ∙ stacked_push T G new e
      ∙ (λ i. (record { path = e.path.now; part = part_found T G (same i) }) ∷ stacked T G new)
