-- A refutation is taken apart node by node.
use Rattle.std.proofs.Common.{◌≡◌, ℕ, zero, suc, ◌+◌, ◌<◌, ◌≤◌, List, [], ◌∷◌, ◌++◌, length, get_or, map, drop, refl, sym, ap, ◌∙◌, subst, arith, append_assoc, Some}
use Rattle.std.specs.List.{filter}
use Rattle.std.proofs.lemmas.List.{append-nil, drop_all, drop_more, map-append}
use Rattle.std.proofs.lemmas.List.Elements.{filter-append}
use Rattle.std.proofs.lemmas.Option.{get_or_from_slice_get}
use Rattle.std.specs.Prelude.{slice_get}
use Rattle.bp_base.specs.declared.path.Choice.{Choice}
use Rattle.bp_base.specs.declared.path.Choice.TheVariants.{Left}
use Rattle.bp_base.specs.declared.path.Pair.{Pair}
use Rattle.bp_base.specs.declared.path.Step.{Step}
use Rattle.bp_base.specs.declared.point.Sheet.{Sheet}
use Rattle.bp_base.specs.declared.chain.Claim.{Claim}
use Rattle.bp_base.specs.declared.record.Record.{Record}
use Rattle.bp_base.specs.declared.record.Task.{Task}
use Rattle.bp_base.specs.declared.refutation.Refutation.{Refutation}
use Rattle.bp_base.specs.declared.refutation.Refutation.TheVariants.{Split, Closed, Open}
use Rattle.bp_base.specs.Tree.{TreeValue}
use Rattle.bp_metric.specs.Choices.{allowed}
use Rattle.bp_metric.specs.Nodes.{Node, SplitOf, ClosedBy, child_nodes}
use Rattle.bp_metric.specs.Records.{paths_left}
use Rattle.bp_metric.specs.Refutation.{CanSplit, EachFits, Fits, extended}
use Rattle.bp_metric.proofs.Refutations.{fits-split}
use Rattle.bp_check.specs.Written.{is_examined, is_open}
use Rattle.bp_check.proofs.Reading.{next_nodes, nodes-split, nodes-closed, nodes-open}
use Rattle.bp_join.specs.Joined.{node_of}
use Rattle.bp_revise.specs.Apart.{examined, nodes_below, open_paths}
use Rattle.bp_revise.proofs.GoodNodes.{children_many}

pub examined_append : (xs ys : List Node) → examined (xs ++ ys) ≡ examined xs ++ examined ys
examined_append xs ys = filter-append (λ (n : Node). is_examined n.part) xs ys

pub opens_append : (xs ys : List Node) → open_paths (xs ++ ys) ≡ open_paths xs ++ open_paths ys
opens_append xs ys =
    ap (map (λ (n : Node). n.path)) (filter-append (λ (n : Node). is_open n.part) xs ys)
    ∙ map-append (λ (n : Node). n.path) (filter (λ (n : Node). is_open n.part) xs) (filter (λ (n : Node). is_open n.part) ys)

module _ (T : TreeValue) (G : Sheet) where
  abbrev rest : List Step → Pair → List Choice → List Refutation → ℕ → List Node
  rest path p cs rs k = child_nodes path p (drop k cs) (map (nodes_below T G) (drop k rs))

  -- what is still to be taken of a split's children
  abbrev pub IsTaken : List Step → Pair → List Refutation → Refutation → ℕ → List Node → List Node → List (List Step) → List (List Step) → Type 0
  IsTaken path p rs r k before after left_before left_after =
      (after ++ examined (rest path p (allowed T G p) rs k) ≡ before ++ examined (nodes_below T G r path))
      × (left_after ++ open_paths (rest path p (allowed T G p) rs k) ≡ left_before ++ open_paths (nodes_below T G r path))

  both_of : (path : List Step) (p : Pair) (rs items : List Refutation) (r : Refutation) → r ≡ Split p rs → items ≡ rs → Fits T G r path → CanSplit T path p × EachFits (Fits T G) path p (allowed T G p) items
  both_of path p rs items r is same fits =
      let both : CanSplit T path p × EachFits (Fits T G) path p (allowed T G p) rs = coe 0 1 (i. fits-split T G p rs path i) (subst (λ (x : Refutation). Fits T G x path) is fits) in
      (both.0, subst (EachFits (Fits T G) path p (allowed T G p)) (sym same) both.1)

  pub can_split : (path : List Step) (p : Pair) (rs : List Refutation) (r : Refutation) → r ≡ Split p rs → Fits T G r path → CanSplit T path p
  can_split path p rs r is fits = (both_of path p rs rs r is refl fits).0

  pub many_children : (path : List Step) (p : Pair) (rs items : List Refutation) (r : Refutation) → r ≡ Split p rs → items ≡ rs → Fits T G r path → length items ≡ length (allowed T G p)
  many_children path p rs items r is same fits = children_many T G path p (allowed T G p) items (both_of path p rs items r is same fits).1

  each_at : (path : List Step) (p : Pair) (cs : List Choice) (rs : List Refutation) (k : ℕ) (d : Refutation) (c : Choice) → k < length rs → EachFits (Fits T G) path p cs rs → Fits T G (get_or rs k d) (extended path p (get_or cs k c))
  each_at path p cs [] k d c less each = absurd (omega (arith, less))
  each_at path p [] (r ∷ rs) k d c less each = absurd each
  each_at path p (x ∷ cs) (r ∷ rs) zero d c less each = each.0
  each_at path p (x ∷ cs) (r ∷ rs) (suc k) d c less each = each_at path p cs rs k d c (omega (arith, less)) each.1

  pub child_fits : (path below : List Step) (p : Pair) (rs items : List Refutation) (r : Refutation) (k : ℕ) (child : Refutation) (choice : Choice) → r ≡ Split p rs → items ≡ rs → Fits T G r path → k < length items → child ≡ get_or items k child → slice_get (allowed T G p) k ≡ Some choice → below ≡ extended path p choice → Fits T G child below
  child_fits path below p rs items r k child choice is same fits less here chosen grown =
      let each = each_at path p (allowed T G p) items k child choice less (both_of path p rs items r is same fits).1 in
      let c : get_or (allowed T G p) k choice ≡ choice = get_or_from_slice_get (allowed T G p) k choice choice chosen in
      subst (Fits T G child) (sym grown) (subst (λ (x : Refutation). Fits T G x (extended path p choice)) (sym here) (subst (λ (d : Choice). Fits T G (get_or items k child) (extended path p d)) c each))

  -- the split itself is taken first
  pub taken_none : (path : List Step) (p : Pair) (rs items : List Refutation) (r : Refutation) (old new : List Record) (x : Record) (left now : List Task) → r ≡ Split p rs → items ≡ rs → Fits T G r path → new ≡ old ++ x ∷ [] → node_of T G x ≡ record { path = path; part = SplitOf p (length (allowed T G p)) } → now ≡ left → IsTaken path p items r 0 (map (node_of T G) old) (map (node_of T G) new) (paths_left left) (paths_left now)
  taken_none path p rs items r old new x left now is same fits pushed made stays =
      let n : Node = record { path = path; part = SplitOf p (length rs) } in
      let more = child_nodes path p (allowed T G p) (map (nodes_below T G) rs) in
      let whole : nodes_below T G r path ≡ n ∷ more = ap (λ (y : Refutation). nodes_below T G y path) is ∙ nodes-split T G p rs path in
      let here : rest path p (allowed T G p) items 0 ≡ more = ap (λ (l : List Refutation). child_nodes path p (allowed T G p) (map (nodes_below T G) l)) same in
      let many : length (allowed T G p) ≡ length rs = sym (many_children path p rs rs r is refl fits) in
      let node : node_of T G x ≡ n = made ∙ (λ i. record { path = path; part = SplitOf p (many i) }) in (
        (λ i. (ap (map (node_of T G)) pushed ∙ map-append (node_of T G) old (x ∷ [])) i ++ examined (here i))
            ∙ append_assoc (map (node_of T G) old) (node_of T G x ∷ []) (examined more)
            ∙ (λ i. map (node_of T G) old ++ node i ∷ examined more)
            ∙ ap (λ (l : List Node). map (node_of T G) old ++ examined l) (sym whole),
        (λ i. paths_left (stays i) ++ open_paths (here i)) ∙ ap (λ (l : List Node). paths_left left ++ open_paths l) (sym whole),
      )

  -- one child more
  pub taken_more : (path below : List Step) (p : Pair) (items : List Refutation) (r child : Refutation) (k : ℕ) (choice : Choice) (before after next : List Node) (left_before left_after left_next : List (List Step)) → k < length items → child ≡ get_or items k child → slice_get (allowed T G p) k ≡ Some choice → below ≡ extended path p choice → IsTaken path p items r k before after left_before left_after → next ≡ after ++ examined (nodes_below T G child below) → left_next ≡ left_after ++ open_paths (nodes_below T G child below) → IsTaken path p items r (k + 1) before next left_before left_next
  taken_more path below p items r child k choice before after next left_before left_after left_next less here chosen grown taken pushed left =
      let cs = allowed T G p in
      let c : get_or cs k Left ≡ choice = get_or_from_slice_get cs k choice Left chosen in
      let own = nodes_below T G child below in
      let own_is : own ≡ nodes_below T G (get_or items k child) (extended path p (get_or cs k Left)) = λ i. nodes_below T G (here i) ((grown ∙ ap (extended path p) (sym c)) i) in
      let more = rest path p cs items (k + 1) in
      let first : rest path p cs items k ≡ own ++ more =
      ap (λ (l : List Refutation). child_nodes path p (drop k cs) (map (nodes_below T G) l)) (drop_more items k child less)
      ∙ next_nodes path p cs k (nodes_below T G (get_or items k child)) (map (nodes_below T G) (drop (k + 1) items))
      ∙ ap (λ (l : List Node). l ++ more) (sym own_is) in (
        ap (λ (l : List Node). l ++ examined more) pushed
            ∙ append_assoc after (examined own) (examined more)
            ∙ ap (λ (l : List Node). after ++ l) (sym (ap examined first ∙ examined_append own more))
            ∙ taken.0,
        ap (λ (l : List (List Step)). l ++ open_paths more) left
            ∙ append_assoc left_after (open_paths own) (open_paths more)
            ∙ ap (λ (l : List (List Step)). left_after ++ l) (sym (ap open_paths first ∙ opens_append own more))
            ∙ taken.1,
      )

  none_below : (path : List Step) (p : Pair) (cs : List Choice) → child_nodes path p cs [] ≡ []
  none_below path p [] = refl
  none_below path p (c ∷ cs) = refl

  -- all of them
  pub taken_all : (path : List Step) (p : Pair) (items : List Refutation) (r : Refutation) (k : ℕ) (before after : List Node) (left_before left_after : List (List Step)) → length items ≤ k → IsTaken path p items r k before after left_before left_after → (after ≡ before ++ examined (nodes_below T G r path)) × (left_after ≡ left_before ++ open_paths (nodes_below T G r path))
  taken_all path p items r k before after left_before left_after done taken =
      let cs = allowed T G p in
      let empty : rest path p cs items k ≡ [] =
      ap (λ (l : List Refutation). child_nodes path p (drop k cs) (map (nodes_below T G) l)) (drop_all k items done) ∙ none_below path p (drop k cs) in (
        sym (append-nil after) ∙ ap (λ (l : List Node). after ++ examined l) (sym empty) ∙ taken.0,
        sym (append-nil left_after) ∙ ap (λ (l : List Node). left_after ++ open_paths l) (sym empty) ∙ taken.1,
      )

  -- Leaves.

  pub closed_taken : (path : List Step) (claim : Claim) (r : Refutation) (old new : List Record) (x : Record) (left now : List Task) → r ≡ Closed claim → new ≡ old ++ x ∷ [] → node_of T G x ≡ record { path = path; part = ClosedBy claim } → now ≡ left → (map (node_of T G) new ≡ map (node_of T G) old ++ examined (nodes_below T G r path)) × (paths_left now ≡ paths_left left ++ open_paths (nodes_below T G r path))
  closed_taken path claim r old new x left now is pushed made stays =
      let whole = ap (λ (y : Refutation). nodes_below T G y path) is ∙ nodes-closed T G claim path in (
        ap (map (node_of T G)) pushed ∙ map-append (node_of T G) old (x ∷ []) ∙ (λ i. map (node_of T G) old ++ made i ∷ []) ∙ ap (λ (l : List Node). map (node_of T G) old ++ examined l) (sym whole),
        ap paths_left stays ∙ sym (append-nil (paths_left left)) ∙ ap (λ (l : List Node). paths_left left ++ open_paths l) (sym whole),
      )

  pub open_taken : (path : List Step) (claim : Claim) (r : Refutation) (old : List Record) (left now : List Task) (t : Task) → r ≡ Open claim → now ≡ left ++ t ∷ [] → t.path ≡ path → (map (node_of T G) old ≡ map (node_of T G) old ++ examined (nodes_below T G r path)) × (paths_left now ≡ paths_left left ++ open_paths (nodes_below T G r path))
  open_taken path claim r old left now t is pushed made =
      let whole = ap (λ (y : Refutation). nodes_below T G y path) is ∙ nodes-open T G claim path in (
        sym (append-nil (map (node_of T G) old)) ∙ ap (λ (l : List Node). map (node_of T G) old ++ examined l) (sym whole),
        ap paths_left pushed ∙ map-append (λ (u : Task). u.path) left (t ∷ []) ∙ (λ i. paths_left left ++ made i ∷ []) ∙ ap (λ (l : List Node). paths_left left ++ open_paths l) (sym whole),
      )
