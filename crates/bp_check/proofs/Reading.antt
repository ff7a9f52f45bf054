-- What the stack finds of a refutation's lines is what is found of its nodes, each at its path.
use Rattle.std.proofs.Common.{◌≡◌, ◌==◌, ◌&&◌, inl, inr, ℕ, zero, suc, ◌+◌, ◌-◌, ◌≤◌, Bool, true, false, cond, not, List, [], ◌∷◌, ◌++◌, length, get_or, map, drop, None, refl, sym, ap, ◌∙◌, subst, arith, length-append}
use Rattle.std.specs.List.{flat_map}
use Rattle.std.proofs.lemmas.Bool.{true≢false}
use Rattle.std.proofs.lemmas.List.{length-map, map-append}
use Rattle.bp_base.specs.declared.path.Choice.{Choice}
use Rattle.bp_base.specs.declared.path.Choice.TheVariants.{Left}
use Rattle.bp_base.specs.declared.path.Pair.{Pair}
use Rattle.bp_base.specs.declared.path.Step.{Step}
use Rattle.bp_base.specs.declared.point.Sheet.{Sheet}
use Rattle.bp_base.specs.declared.chain.Claim.{Claim}
use Rattle.bp_base.specs.declared.refutation.Refutation.{Refutation, roll-Refutation, ind-Refutation, fold-Refutation, fold-roll-Refutation}
use Rattle.bp_base.specs.declared.refutation.Refutation.TheOpen.{Refutation-F}
use Rattle.bp_base.specs.declared.refutation.Refutation.TheVariants.{Split, Closed, Open, rolls-Split, rolls-Closed, rolls-Open}
use Rattle.bp_base.specs.declared.refutation.Refutation.TheFolds.{map-Refutation}
use Rattle.bp_base.specs.Tree.{TreeValue, leaf_count}
use Rattle.bp_metric.specs.Choices.{allowed}
use Rattle.bp_metric.specs.Refutation.{extended}
use Rattle.bp_metric.specs.Nodes.{Node, SplitOf, ClosedBy, OpenBy, child_nodes, nodes_at, nodes_of}
use Rattle.bp_document.specs.declared.node_line.NodeKind.TheVariants as kind
use Rattle.bp_document.specs.declared.node_line.NodeLine.{NodeLine}
use Rattle.bp_check.specs.declared.found.Found.{Found}
use Rattle.bp_check.specs.declared.found.Found.TheVariants.{Sound, WrongChain, WrongSplit}
use Rattle.bp_check.specs.declared.stack.OpenSplit.{OpenSplit}
use Rattle.bp_check.specs.declared.stack.Stack.{Stack}
use Rattle.bp_check.specs.Tests.{may_split}
use Rattle.bp_check.specs.Found.{joined, found_claim, judged, found_of}
use Rattle.bp_document.specs.Told.{node_list_at, node_list}
use Rattle.bp_check.specs.Stack.{step_of, path_of, stack_of, empty_stack, found_count, closed, entered, splits_entered, with_child, opened, is_wrong, with_split, joined_claim, with_claim, fed, run}
use Rattle.bp_check.proofs.Joined.{joined_none, none_joined, joined_comm, joined_assoc, split_stays, IsFrom, joined_from, from_less, judged_from, found_from, found_append, IsBefore, joined_before, before_more, sound_first, wrong_second, found_before}
use Rattle.bp_check.proofs.Kept.{cases_bool, eqb-is, eqb-not, child_last, child_length, closed_closed, closed_done, closed_last, split_opened, split_not}

-- the lines of a child, from this depth on
abbrev pub lines_from : ℕ → Refutation → List NodeLine
lines_from depth r = node_list r depth

flat-map : (rs : List Refutation) (depth : ℕ) → flat_map (λ (lines : ℕ → List NodeLine). lines depth) (map node_list rs) ≡ flat_map (lines_from depth) rs
flat-map [] depth = refl
flat-map (r ∷ rs) depth = λ i. node_list r depth ++ flat-map rs depth i

pub lines-split : (p : Pair) (rs : List Refutation) (depth : ℕ) → node_list (Split p rs) depth ≡ (record { depth = depth; kind = kind.Split p }) ∷ flat_map (lines_from (depth + 1)) rs
unfolding node_list
lines-split p rs depth =
    ap (λ r. node_list r depth) (sym (rolls-Split p rs)) ∙ (λ i. fold-roll-Refutation (ℕ → List NodeLine) node_list_at (Refutation-F.Split p rs) i depth)
    ∙ ap (λ (t : List NodeLine). (record { depth = depth; kind = kind.Split p }) ∷ t) (flat-map rs (depth + 1))

pub lines-closed : (claim : Claim) (depth : ℕ) → node_list (Closed claim) depth ≡ (record { depth = depth; kind = kind.Closed claim }) ∷ []
unfolding node_list
lines-closed claim depth =
    ap (λ r. node_list r depth) (sym (rolls-Closed claim)) ∙ (λ i. fold-roll-Refutation (ℕ → List NodeLine) node_list_at (Refutation-F.Closed claim) i depth)

pub lines-open : (claim : Claim) (depth : ℕ) → node_list (Open claim) depth ≡ (record { depth = depth; kind = kind.Open claim }) ∷ []
unfolding node_list
lines-open claim depth =
    ap (λ r. node_list r depth) (sym (rolls-Open claim)) ∙ (λ i. fold-roll-Refutation (ℕ → List NodeLine) node_list_at (Refutation-F.Open claim) i depth)

next_child : (path : List Step) (p : Pair) (cs : List Choice) (k : ℕ) (n : List Step → List Node) (ns : List (List Step → List Node)) → child_nodes path p (drop k cs) (n ∷ ns) ≡ n (extended path p (get_or cs k Left)) ++ child_nodes path p (drop (suc k) cs) ns
next_child path p [] zero n ns = refl
next_child path p [] (suc k) n ns = refl
next_child path p (c ∷ cs) zero n ns = refl
next_child path p (c ∷ cs) (suc k) n ns = next_child path p cs k n ns

pub next_nodes : (path : List Step) (p : Pair) (cs : List Choice) (k : ℕ) (n : List Step → List Node) (ns : List (List Step → List Node)) → child_nodes path p (drop k cs) (n ∷ ns) ≡ n (extended path p (get_or cs k Left)) ++ child_nodes path p (drop (k + 1) cs) ns
next_nodes path p cs k n ns =
    let one : suc k ≡ k + 1 = omega arith in
    next_child path p cs k n ns ∙ ap (λ (m : ℕ). n (extended path p (get_or cs k Left)) ++ child_nodes path p (drop m cs) ns) one

module _ (T : TreeValue) (G : Sheet) where
  -- the nodes of a refutation at the end of a path
  abbrev pub nodes_from : Refutation → List Step → List Node
  nodes_from r = fold-Refutation (List Step → List Node) (nodes_at T G) r

  pub nodes-whole : (r : Refutation) → nodes_of T G r ≡ nodes_from r []
  unfolding nodes_of
  nodes-whole r = refl

  pub nodes-split : (p : Pair) (rs : List Refutation) (path : List Step) → nodes_from (Split p rs) path ≡ (record { path = path; part = SplitOf p (length rs) }) ∷ child_nodes path p (allowed T G p) (map nodes_from rs)
  nodes-split p rs path =
      ap (λ r. nodes_from r path) (sym (rolls-Split p rs)) ∙ (λ i. fold-roll-Refutation (List Step → List Node) (nodes_at T G) (Refutation-F.Split p rs) i path)
      ∙ (λ i. (record { path = path; part = SplitOf p (length-map rs nodes_from i) }) ∷ child_nodes path p (allowed T G p) (map nodes_from rs))

  pub nodes-closed : (claim : Claim) (path : List Step) → nodes_from (Closed claim) path ≡ (record { path = path; part = ClosedBy claim }) ∷ []
  nodes-closed claim path =
      ap (λ r. nodes_from r path) (sym (rolls-Closed claim)) ∙ (λ i. fold-roll-Refutation (List Step → List Node) (nodes_at T G) (Refutation-F.Closed claim) i path)

  pub nodes-open : (claim : Claim) (path : List Step) → nodes_from (Open claim) path ≡ (record { path = path; part = OpenBy claim }) ∷ []
  nodes-open claim path =
      ap (λ r. nodes_from r path) (sym (rolls-Open claim)) ∙ (λ i. fold-roll-Refutation (List Step → List Node) (nodes_at T G) (Refutation-F.Open claim) i path)

  run_append : (S : Stack) (xs ys : List NodeLine) → run T G S (xs ++ ys) ≡ run T G (run T G S xs) ys
  run_append S [] ys = refl
  run_append S (x ∷ xs) ys = run_append (fed T G S x) xs ys

  -- the stack once these nodes are read below it
  abbrev after : ℕ → Stack → List Node → Stack
  after depth S nodes =
      stack_of T G (splits_entered depth S.splits) (S.count + length nodes) (joined S.found (found_of T G S.count nodes))

  -- a node of this depth may come, and its path is this one where no split is bad
  record IsReady (S : Stack) (depth : ℕ) (path : List Step) : Type 0 where
    before : IsBefore S.count S.found
    few : length S.splits ≤ depth
    leads : is_wrong S.found ≡ false → (length S.splits ≡ depth) × (path_of T G (splits_entered depth S.splits) ≡ path)

  abbrev IsRead : Refutation → Type 0
  IsRead r = (S : Stack) (depth : ℕ) (path : List Step) → IsReady (closed T G depth S) depth path → closed T G depth (run T G S (node_list r depth)) ≡ after depth (closed T G depth S) (nodes_from r path)

  entered_long : (splits : List OpenSplit) (depth : ℕ) → length (splits_entered depth splits) ≡ length splits
  entered_long splits depth = elim (length splits == depth) as (λ b. length (cond b (with_child splits) splits) ≡ length splits) [ true ↦ child_length splits | false ↦ refl ]

  entered_is : (S : Stack) (depth : ℕ) → entered T G depth S ≡ stack_of T G (splits_entered depth S.splits) S.count S.found
  unfolding entered
  entered_is S depth = refl

  with_claim_is : (S : Stack) (claim : Claim) → with_claim T G claim S ≡ stack_of T G S.splits (S.count + 1) (joined_claim T G S.found S.count S.path claim)
  unfolding with_claim
  with_claim_is S claim = refl

  same_claim : (found : Found) (k : ℕ) (here path : List Step) (claim : Claim) (node : Node) → IsBefore k found → (is_wrong found ≡ false → here ≡ path) → found_of T G k (node ∷ []) ≡ joined (found_claim T G k path claim) (Sound None) → joined_claim T G found k here claim ≡ joined found (found_of T G k (node ∷ []))
  same_claim (Sound w) k here path claim node before leads is =
      ap (λ (l : List Step). joined (Sound w) (found_claim T G k l claim)) (leads refl) ∙ ap (joined (Sound w)) (sym (is ∙ joined_none (found_claim T G k path claim)))
  same_claim (WrongChain a) k here path claim node before leads is =
      ap (λ (l : List Step). joined (WrongChain a) (found_claim T G k l claim)) (leads refl) ∙ ap (joined (WrongChain a)) (sym (is ∙ joined_none (found_claim T G k path claim)))
  same_claim (WrongSplit a) k here path claim node before leads is =
      sym (split_stays a k (found_of T G k (node ∷ [])) before (found_from T G k (node ∷ [])))

  -- a proof leaf
  leaf_read : (S : Stack) (depth : ℕ) (path : List Step) (claim : Claim) (node : Node) → found_of T G (closed T G depth S).count (node ∷ []) ≡ joined (found_claim T G (closed T G depth S).count path claim) (Sound None) → IsReady (closed T G depth S) depth path → closed T G depth (with_claim T G claim (entered T G depth (closed T G depth S))) ≡ after depth (closed T G depth S) (node ∷ [])
  leaf_read S depth path claim node is ready =
      let S0 = closed T G depth S in
      let splits = splits_entered depth S0.splits in
      let N : Stack = stack_of T G splits (S0.count + 1) (joined_claim T G S0.found S0.count (path_of T G splits) claim) in
      let made : with_claim T G claim (entered T G depth S0) ≡ N = ap (with_claim T G claim) (entered_is S0 depth) ∙ with_claim_is (stack_of T G splits S0.count S0.found) claim in
      let found = same_claim S0.found S0.count (path_of T G splits) path claim node ready.before (λ sound. (ready.leads sound).1) is in
      ap (closed T G depth) made ∙ closed_done T G N depth refl (omega (arith, entered_long S0.splits depth, ready.few))
      ∙ (λ i. stack_of T G splits (S0.count + 1) (found i))

  closed_read : (claim : Claim) → IsRead (Closed claim)
  closed_read claim S depth path ready =
      ap (λ (l : List NodeLine). closed T G depth (run T G S l)) (lines-closed claim depth)
      ∙ leaf_read S depth path claim (record { path = path; part = ClosedBy claim }) refl ready
      ∙ ap (after depth (closed T G depth S)) (sym (nodes-closed claim path))

  open_read : (claim : Claim) → IsRead (Open claim)
  open_read claim S depth path ready =
      ap (λ (l : List NodeLine). closed T G depth (run T G S l)) (lines-open claim depth)
      ∙ leaf_read S depth path claim (record { path = path; part = OpenBy claim }) refl ready
      ∙ ap (after depth (closed T G depth S)) (sym (nodes-open claim path))

  abbrev Known : Type 0
  Known = (r : Refutation) × IsRead r

  abbrev known : List Known → List Refutation
  known rs = map (λ (r : Known). r.0) rs

  -- The children of a split, from number k on. `over k` are the open splits once k children are read.
  module _ (depth : ℕ) (path : List Step) (p : Pair) (over : ℕ → List OpenSplit) (grows : (k : ℕ) → splits_entered (depth + 1) (over k) ≡ over (k + 1)) (few : (k : ℕ) → length (over k) ≤ depth + 1) where
    abbrev below : ℕ → List Known → List Node
    below k rs = child_nodes path p (drop k (allowed T G p)) (map nodes_from (known rs))

    abbrev Leads : Type 0
    Leads = (k : ℕ) → (length (over k) ≡ depth + 1) × (path_of T G (over (k + 1)) ≡ extended path p (get_or (allowed T G p) k Left))

    children_read : (rs : List Known) (k count : ℕ) (found : Found) (S : Stack) → closed T G (depth + 1) S ≡ stack_of T G (over k) count found → IsBefore count found → (is_wrong found ≡ false → Leads) → closed T G (depth + 1) (run T G S (flat_map (lines_from (depth + 1)) (known rs))) ≡ stack_of T G (over (k + length rs)) (count + length (below k rs)) (joined found (found_of T G count (below k rs)))
    children_read [] k count found S is before leads =
        let none : below k [] ≡ [] = no_children (drop k (allowed T G p)) in
        is
        ∙ (λ i. stack_of T G (over (plain k i)) (plain count i) (sym (joined_none found) i))
        ∙ ap (λ (ns : List Node). stack_of T G (over (k + 0)) (count + length ns) (joined found (found_of T G count ns))) (sym none)
      where
        plain : (n : ℕ) → n ≡ n + 0
        plain n = omega arith

        no_children : (cs : List Choice) → child_nodes path p cs [] ≡ []
        no_children [] = refl
        no_children (c ∷ cs) = refl
    children_read (r ∷ rs) k count found S is before leads =
        let here = extended path p (get_or (allowed T G p) k Left) in
        let first = nodes_from r.0 here in
        let rest = below (k + 1) rs in
        let more = flat_map (lines_from (depth + 1)) (known rs) in
        let N = run T G S (node_list r.0 (depth + 1)) in
        let ready : IsReady (stack_of T G (over k) count found) (depth + 1) here = record {
          before = before;
          few = few k;
          leads = λ sound. (let lead = leads sound k in (lead.0, ap (path_of T G) (grows k) ∙ lead.1));
        } in
        let one : closed T G (depth + 1) N ≡ after (depth + 1) (stack_of T G (over k) count found) first = r.1 S (depth + 1) here (subst (λ (Z : Stack). IsReady Z (depth + 1) here) (sym is) ready) ∙ ap (λ (Z : Stack). after (depth + 1) Z first) is in
        let now : Found = joined found (found_of T G count first) in
        let read : closed T G (depth + 1) N ≡ stack_of T G (over (k + 1)) (count + length first) now = one ∙ ap (λ (l : List OpenSplit). stack_of T G l (count + length first) now) (grows k) in
        let still = joined_before (count + length first) found (found_of T G count first) (before_more count (count + length first) found (omega arith) before) (found_before T G count first) in
        let all = children_read rs (k + 1) (count + length first) now N read still (λ sound. leads (sound_first found (found_of T G count first) sound)) in
        let nodes : below k (r ∷ rs) ≡ first ++ rest = next_nodes path p (allowed T G p) k (nodes_from r.0) (map nodes_from (known rs)) in
        let same_found : joined now (found_of T G (count + length first) rest) ≡ joined found (found_of T G count (below k (r ∷ rs))) = joined_assoc found (found_of T G count first) (found_of T G (count + length first) rest) ∙ ap (joined found) (sym (found_append T G count (count + length first) first rest refl) ∙ ap (found_of T G count) (sym nodes)) in
        let same_count : count + length first + length rest ≡ count + length (below k (r ∷ rs)) = omega (arith, ap length nodes, length-append first rest) in
        let same_splits : over (k + 1 + length rs) ≡ over (k + length (r ∷ rs)) = ap over (omega arith) in
        ap (closed T G (depth + 1)) (run_append S (node_list r.0 (depth + 1)) more) ∙ all ∙ (λ i. stack_of T G (same_splits i) (same_count i) (same_found i))

  entered_same : (splits : List OpenSplit) (depth : ℕ) → length splits ≡ depth → splits_entered depth splits ≡ with_child splits
  entered_same splits depth is = ap (λ (b : Bool). cond b (with_child splits) splits) (eqb-is (length splits) depth is)

  entered_not : (splits : List OpenSplit) (depth : ℕ) → (length splits ≡ depth → ⊥) → splits_entered depth splits ≡ splits
  entered_not splits depth other = ap (λ (b : Bool). cond b (with_child splits) splits) (eqb-not (length splits) depth other)

  abbrev seen_by : Pair → ℕ → ℕ → OpenSplit
  seen_by p node k = record { pair = p; node = node; seen = k }

  -- a split that was opened is judged as its node is, once its children are counted
  count_judged : (path : List Step) (p : Pair) (node k : ℕ) → may_split (leaf_count T) path p ≡ true → found_count T G (seen_by p node k) ≡ judged T G node path (SplitOf p k)
  unfolding found_count
  count_judged path p node k may = ap (λ (b : Bool). cond (b && (k == length (allowed T G p))) (Sound None) (WrongSplit node)) (sym may)

  refused_judged : (path : List Step) (p : Pair) (node k : ℕ) → may_split (leaf_count T) path p ≡ false → judged T G node path (SplitOf p k) ≡ WrongSplit node
  refused_judged path p node k may = ap (λ (b : Bool). cond (b && (k == length (allowed T G p))) (Sound None) (WrongSplit node)) may

  step_is : (p : Pair) (node k : ℕ) → step_of T G (seen_by p node (k + 1)) ≡ record { pair = p; choice = get_or (allowed T G p) k Left }
  unfolding step_of
  step_is p node k = λ i. record { pair = p; choice = get_or (allowed T G p) (back i) Left }
    where
      back : k + 1 - 1 ≡ k
      back = omega arith

  both_true : (a b : Bool) → (a && b) ≡ true → (a ≡ true) × (b ≡ true)
  both_true true b is = (refl, is)
  both_true false b is = absurd (true≢false (sym is))

  not_true : (a : Bool) → not a ≡ true → a ≡ false
  not_true true is = absurd (true≢false (sym is))
  not_true false is = refl

  -- the lines of a split, once its own is fed
  module _ (p : Pair) (rs : List Known) (S : Stack) (depth : ℕ) (path : List Step) (ready : IsReady (closed T G depth S) depth path) where
    abbrev S0 : Stack
    S0 = closed T G depth S

    abbrev splits : List OpenSplit
    splits = splits_entered depth S0.splits

    abbrev within : Stack
    within = stack_of T G splits S0.count S0.found

    abbrev children : List Node
    children = child_nodes path p (allowed T G p) (map nodes_from (known rs))

    abbrev later : Found
    later = found_of T G (S0.count + 1) children

    abbrev own : Found
    own = judged T G S0.count path (SplitOf p (length rs))

    abbrev goal : Stack → Type 0
    goal N = closed T G depth (run T G N (flat_map (lines_from (depth + 1)) (known rs))) ≡ stack_of T G splits (S0.count + suc (length children)) (joined S0.found (joined own later))

    more_count : S0.count + 1 + length children ≡ S0.count + suc (length children)
    more_count = omega arith

    splits_few : length splits ≤ depth
    splits_few = omega (arith, entered_long S0.splits depth, ready.few)

    opened_read : is_wrong S0.found ≡ false → may_split (leaf_count T) (path_of T G splits) p ≡ true → goal (stack_of T G (splits ++ opened S0.count p ∷ []) (S0.count + 1) S0.found)
    opened_read sound may =
        let lead = ready.leads sound in
        let over : ℕ → List OpenSplit = λ k. splits ++ seen_by p S0.count k ∷ [] in
        let deep : length splits ≡ depth = omega (arith, entered_long S0.splits depth, lead.0) in
        let long : (k : ℕ) → length (over k) ≡ depth + 1 = λ k. omega (arith, length-append splits (seen_by p S0.count k ∷ []), deep) in
        let grows : (k : ℕ) → splits_entered (depth + 1) (over k) ≡ over (k + 1) = λ k. entered_same (over k) (depth + 1) (long k) ∙ child_last splits (seen_by p S0.count k) in
        let few : (k : ℕ) → length (over k) ≤ depth + 1 = λ k. omega (arith, long k) in
        let steps : (k : ℕ) → path_of T G (over (k + 1)) ≡ extended path p (get_or (allowed T G p) k Left) = λ k. map-append (step_of T G) splits (seen_by p S0.count (k + 1) ∷ []) ∙ (λ i. lead.1 i ++ step_is p S0.count k i ∷ []) in
        let N : Stack = stack_of T G (over 0) (S0.count + 1) S0.found in
        let all = children_read depth path p over grows few rs 0 (S0.count + 1) S0.found N (closed_done T G N (depth + 1) refl (few 0)) (before_more S0.count (S0.count + 1) S0.found (omega arith) ready.before) (λ u k. (long k, steps k)) in
        let none : 0 + length rs ≡ length rs = omega arith in
        let last : Stack = stack_of T G (over (0 + length rs)) (S0.count + 1 + length children) (joined S0.found later) in
        let judged_is : found_count T G (seen_by p S0.count (0 + length rs)) ≡ own = ap (λ (n : ℕ). found_count T G (seen_by p S0.count n)) none ∙ count_judged path p S0.count (length rs) (ap (λ (l : List Step). may_split (leaf_count T) l p) (sym lead.1) ∙ may) in
        let found : joined (joined S0.found later) (found_count T G (seen_by p S0.count (0 + length rs))) ≡ joined S0.found (joined own later) = ap (joined (joined S0.found later)) judged_is ∙ joined_assoc S0.found later own ∙ ap (joined S0.found) (joined_comm later own) in
        sym (closed_closed T G (run T G N (flat_map (lines_from (depth + 1)) (known rs))) depth (depth + 1) (omega arith))
        ∙ ap (closed T G depth) all ∙ closed_last T G last splits (seen_by p S0.count (0 + length rs)) depth refl (sym deep)
        ∙ (λ i. stack_of T G splits (more_count i) (found i))

    refused_found : (found : Found) (node : ℕ) → IsBefore node found → (is_wrong found ≡ false → own ≡ WrongSplit node) → IsFrom node own → IsFrom node later → joined (joined found (WrongSplit node)) later ≡ joined found (joined own later)
    refused_found (Sound w) node before is own_from later_from = joined_assoc (Sound w) (WrongSplit node) later ∙ ap (λ (f : Found). joined (Sound w) (joined f later)) (sym (is refl))
    refused_found (WrongChain a) node before is own_from later_from = joined_assoc (WrongChain a) (WrongSplit node) later ∙ ap (λ (f : Found). joined (WrongChain a) (joined f later)) (sym (is refl))
    refused_found (WrongSplit a) node before is own_from later_from =
        joined_assoc (WrongSplit a) (WrongSplit node) later
        ∙ split_stays a node (joined (WrongSplit node) later) before (joined_from node (WrongSplit node) later (omega arith) later_from)
        ∙ sym (split_stays a node (joined own later) before (joined_from node own later own_from later_from))

    refused_read : (is_wrong S0.found ≡ false → may_split (leaf_count T) (path_of T G splits) p ≡ false) → goal (stack_of T G splits (S0.count + 1) (joined S0.found (WrongSplit S0.count)))
    refused_read refused =
        let now : Found = joined S0.found (WrongSplit S0.count) in
        let N : Stack = stack_of T G splits (S0.count + 1) now in
        let grows : (k : ℕ) → splits_entered (depth + 1) splits ≡ splits = λ k. entered_not splits (depth + 1) (λ is. omega (arith, is, splits_few)) in
        let few : (k : ℕ) → length splits ≤ depth + 1 = λ k. omega (arith, splits_few) in
        let before = joined_before (S0.count + 1) S0.found (WrongSplit S0.count) (before_more S0.count (S0.count + 1) S0.found (omega arith) ready.before) (omega arith) in
        let all = children_read depth path p (λ k. splits) grows few rs 0 (S0.count + 1) now N (closed_done T G N (depth + 1) refl (few 0)) before (λ sound. absurd (true≢false (sym (wrong_second S0.found S0.count) ∙ sound))) in
        let last : Stack = stack_of T G splits (S0.count + 1 + length children) (joined now later) in
        let own_is : is_wrong S0.found ≡ false → own ≡ WrongSplit S0.count = λ sound. refused_judged path p S0.count (length rs) (ap (λ (l : List Step). may_split (leaf_count T) l p) (sym (ready.leads sound).1) ∙ refused sound) in
        let found = refused_found S0.found S0.count ready.before own_is (judged_from T G S0.count path (SplitOf p (length rs))) (from_less S0.count (S0.count + 1) later (omega arith) (found_from T G (S0.count + 1) children)) in
        sym (closed_closed T G (run T G N (flat_map (lines_from (depth + 1)) (known rs))) depth (depth + 1) (omega arith))
        ∙ ap (closed T G depth) all ∙ closed_done T G last depth refl splits_few
        ∙ (λ i. stack_of T G splits (more_count i) (found i))

    own_read : goal (with_split T G p (entered T G depth S0))
    own_read = subst goal (ap (with_split T G p) (sym (entered_is S0 depth))) (elim (cases_bool (not (is_wrong S0.found) && may_split (leaf_count T) (path_of T G splits) p)) [
      | inl may ↦ let both = both_true (not (is_wrong S0.found)) (may_split (leaf_count T) (path_of T G splits) p) may in subst goal (sym (split_opened T G within p may)) (opened_read (not_true (is_wrong S0.found) both.0) both.1)
      | inr may ↦ subst goal (sym (split_not T G within p may)) (refused_read (λ sound. ap (λ (b : Bool). not b && may_split (leaf_count T) (path_of T G splits) p) (sym sound) ∙ may))
    ])

  split_read : (p : Pair) (rs : List Known) → IsRead (Split p (known rs))
  split_read p rs S depth path ready =
      let count : length (known rs) ≡ length rs = length-map rs (λ (r : Known). r.0) in
      ap (λ (l : List NodeLine). closed T G depth (run T G S l)) (lines-split p (known rs) depth)
      ∙ own_read p rs S depth path ready
      ∙ ap (λ (n : ℕ). after depth (closed T G depth S) ((record { path = path; part = SplitOf p n }) ∷ child_nodes path p (allowed T G p) (map nodes_from (known rs)))) (sym count)
      ∙ ap (after depth (closed T G depth S)) (sym (nodes-split p (known rs) path))

  node_read : (x : Refutation-F Refutation) (y : Refutation-F Known) → map-Refutation Known Refutation (λ (r : Known). r.0) y ≡ x → IsRead (roll-Refutation x)
  node_read x (Refutation-F.Split p rs) is = subst (λ z. IsRead (roll-Refutation z)) is (subst IsRead (sym (rolls-Split p (known rs))) (split_read p rs))
  node_read x (Refutation-F.Closed claim) is = subst (λ z. IsRead (roll-Refutation z)) is (subst IsRead (sym (rolls-Closed claim)) (closed_read claim))
  node_read x (Refutation-F.Open claim) is = subst (λ z. IsRead (roll-Refutation z)) is (subst IsRead (sym (rolls-Open claim)) (open_read claim))

  each_read : (r : Refutation) → IsRead r
  each_read = ind-Refutation IsRead node_read

  -- what the stack finds of all lines is what is found of the nodes
  pub whole_read : (r : Refutation) → (closed T G 0 (run T G empty_stack (node_list r 0))).found ≡ found_of T G 0 (nodes_of T G r)
  whole_read r =
      let start : closed T G 0 empty_stack ≡ empty_stack = closed_done T G empty_stack 0 refl (omega arith) in
      let ready : IsReady empty_stack 0 [] = record { before = tt; few = omega arith; leads = λ sound. (refl, refl) } in
      let read = each_read r empty_stack 0 [] (subst (λ (Z : Stack). IsReady Z 0 []) (sym start) ready) ∙ ap (λ (Z : Stack). after 0 Z (nodes_from r [])) start in
      ap (λ (Z : Stack). Z.found) read ∙ none_joined (found_of T G 0 (nodes_from r [])) ∙ ap (found_of T G 0) (sym (nodes-whole r))
