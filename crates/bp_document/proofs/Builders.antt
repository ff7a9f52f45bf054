-- Building a refutation keeps its nodes.
use Rattle.std.proofs.Common.{◌≡◌, ℕ, ◌+◌, ◌≤◌, min, List, [], ◌∷◌, ◌++◌, length, Option, None, Some, Result, Ok, Err, refl, sym, ◌∙◌, ap, subst, arith, length-append}
use Rattle.bp_base.specs.declared.memory.NoMemory.{NoMemory}
use Rattle.bp_base.specs.declared.path.Pair.{Pair}
use Rattle.bp_base.specs.declared.refutation.Refutation.{Refutation}
use Rattle.bp_base.specs.declared.refutation.Refutation.TheVariants.{Split, Closed, Open}
use Rattle.bp_base.specs.declared.chain.Claim.{Claim}
use Rattle.bp_document.specs.declared.builder.Branch.{Branch}
use Rattle.bp_document.specs.declared.builder.Builder.{Builder}
use Rattle.bp_document.specs.declared.node_line.NodeKind.{NodeKind}
use Rattle.bp_document.specs.declared.node_line.NodeLine.{NodeLine}
use Rattle.bp_document.specs.Places.{DepthFits, deepest}
use Rattle.bp_document.specs.Told.{node_at, node_list}
use Rattle.bp_document.specs.Built.{told, HasNodes, IsBuilt, Adds, Puts, KeepsNodes, ClosesLast, Closes, Finishes}
use Rattle.bp_document.proofs.NodeLists.{list-closed, list-open, told_last, told_closed, told_new, with_child, new_branch}

-- a child is put behind those of the last open split
pub put_last : (old front items : List Branch) (last : Branch) (r : Refutation) (children : List Refutation) (root : Option Refutation) → old ≡ front ++ last ∷ [] → children ≡ last.children ++ r ∷ [] → items ≡ front ++ (record { pair = last.pair; children = children }) ∷ [] → (length items ≡ length old) × ((ns : List NodeLine) → root ≡ None → told 0 old ≡ ns → HasNodes root items (ns ++ node_list r (length old)))
put_last old front items last r children root was more now =
    let child : items ≡ front ++ with_child last r ∷ [] = now ∙ ap (λ (cs : List Refutation). front ++ (record { pair = last.pair; children = cs }) ∷ []) more in
    let long : length front + 1 ≡ length old = omega (arith, ap length was, length-append front (last ∷ [])) in (
      omega (arith, ap length child, length-append front (with_child last r ∷ []), long),
      λ ns none is.
          let here : told 0 items ≡ ns ++ node_list r (length old) =
          ap (told 0) child ∙ told_last front last r ∙ ap (λ (bs : List Branch). told 0 bs ++ node_list r (length front + 1)) (sym was) ∙ ap (λ (t : List NodeLine). t ++ node_list r (length front + 1)) is ∙ ap (λ (d : ℕ). ns ++ node_list r d) long in
          subst (λ (x : Option Refutation). HasNodes x items (ns ++ node_list r (length old))) (sym none) here,
    )

-- closing the last open split
module _ (b m b' : Builder) (last : Branch) (was : b.branches.items ≡ m.branches.items ++ last ∷ []) (same : m.root ≡ b.root) where
  long : length m.branches.items + 1 ≡ length b.branches.items
  long = omega (arith, ap length was, length-append m.branches.items (last ∷ []))

  keeps : Puts m (Split last.pair last.children) b' (Ok tt) → KeepsNodes b b'
  keeps puts ns has = go b.root refl has
    where
      go : (root : Option Refutation) → b.root ≡ root → HasNodes root b.branches.items ns → HasNodes b'.root b'.branches.items ns
      go None none is =
          let text : told 0 m.branches.items ++ node_list (Split last.pair last.children) (length m.branches.items) ≡ ns =
          sym (told_closed m.branches.items last) ∙ ap (told 0) (sym was) ∙ is in
          subst (HasNodes b'.root b'.branches.items) text (puts.2 (told 0 m.branches.items) (same ∙ none) refl)
      go (Some r) some is = absurd (omega (arith, ap length is.0, long))

  pub closes_last : (r : Result Unit NoMemory) → Puts m (Split last.pair last.children) b' r → ClosesLast b b' r
  closes_last (Ok done) puts =
      (keeps puts, λ some. omega (arith, puts.0, long), λ some. puts.1 (omega (arith, long, some)) ∙ same)
  closes_last (Err e) puts = tt

-- closing one more
pub closes_more : (start b b' : Builder) → KeepsNodes start b → ClosesLast b b' (Ok tt) → KeepsNodes start b'
closes_more start b b' first one ns has = one.0 ns (first ns has)

pub closes_all : (start b : Builder) (depth : ℕ) → KeepsNodes start b → min depth (length start.branches.items) ≤ length b.branches.items → length b.branches.items ≤ length start.branches.items → length b.branches.items ≤ depth → (1 ≤ depth → b.root ≡ start.root) → (length start.branches.items ≤ depth → b.root ≡ start.root) → Closes start depth b (Ok tt)
closes_all start b depth keeps least most low root whole = (keeps, omega (arith, least, most, low), root, whole)

-- what is built where a node may be added
module _ (b b' : Builder) (depth : ℕ) (closed : Closes b depth b' (Ok tt)) (ns : List NodeLine) where
  pub ready : (most : Option ℕ) → IsBuilt b ns most → DepthFits most depth → (b'.root ≡ None) × (told 0 b'.branches.items ≡ ns) × (length b'.branches.items ≡ depth)
  ready None built fits =
      let none : length b.branches.items ≡ 0 = ap length built.allows.1 in
      let root : b'.root ≡ None = closed.3 (omega (arith, none)) ∙ built.allows.0 in
      (root, subst (λ (x : Option Refutation). HasNodes x b'.branches.items ns) root (closed.0 ns built.nodes), omega (arith, closed.1, none, fits))
  ready (Some most) built fits =
      let root : b'.root ≡ None = closed.2 fits.0 ∙ go b.root refl built.nodes in
      (root, subst (λ (x : Option Refutation). HasNodes x b'.branches.items ns) root (closed.0 ns built.nodes), omega (arith, closed.1, built.allows, fits.1))
    where
      go : (root : Option Refutation) → b.root ≡ root → HasNodes root b.branches.items ns → b.root ≡ None
      go None none is = none
      go (Some r) some is = absurd (omega (arith, ap length is.0, built.allows, fits.0, fits.1))

-- a new open split
pub adds_split : (b b' : Builder) (depth : ℕ) (p : Pair) (items : List Branch) (b'' : Builder) → Closes b depth b' (Ok tt) → b''.root ≡ b'.root → b''.branches.items ≡ b'.branches.items ++ new_branch p ∷ [] → Adds b (node_at depth (NodeKind.Split p)) b'' (Ok tt)
adds_split b b' depth p items b'' closed same now ns most built fits =
    let at = ready b b' depth closed ns most built fits in
    let told_is : told 0 b''.branches.items ≡ ns ++ node_at depth (NodeKind.Split p) ∷ [] =
    ap (told 0) now ∙ told_new b'.branches.items p ∙ ap (λ (t : List NodeLine). t ++ node_at (length b'.branches.items) (NodeKind.Split p) ∷ []) at.1 ∙ ap (λ (d : ℕ). ns ++ node_at d (NodeKind.Split p) ∷ []) at.2 in
    record {
      nodes = subst (λ (x : Option Refutation). HasNodes x b''.branches.items (ns ++ node_at depth (NodeKind.Split p) ∷ [])) (sym (same ∙ at.0)) told_is;
      allows = omega (arith, ap length now, length-append b'.branches.items (new_branch p ∷ []), at.2);
    }

-- a proof leaf
leaf_put : (b b' b'' : Builder) (depth : ℕ) (kind : NodeKind) (r : Refutation) → node_list r depth ≡ node_at depth kind ∷ [] → deepest kind depth ≡ depth → Closes b depth b' (Ok tt) → Puts b' r b'' (Ok tt) → Adds b (node_at depth kind) b'' (Ok tt)
leaf_put b b' b'' depth kind r list deep closed puts ns most built fits =
    let at = ready b b' depth closed ns most built fits in
    let nodes_are : ns ++ node_list r (length b'.branches.items) ≡ ns ++ node_at depth kind ∷ [] =
    ap (λ (d : ℕ). ns ++ node_list r d) at.2 ∙ ap (λ (t : List NodeLine). ns ++ t) list in
    record {
      nodes = subst (HasNodes b''.root b''.branches.items) nodes_are (puts.2 ns at.0 at.1);
      allows = omega (arith, deep, puts.0, at.2);
    }

pub adds_closed : (b b' b'' : Builder) (depth : ℕ) (claim : Claim) (r : Result Unit NoMemory) → Closes b depth b' (Ok tt) → Puts b' (Closed claim) b'' r → Adds b (node_at depth (NodeKind.Closed claim)) b'' r
adds_closed b b' b'' depth claim (Ok done) closed puts = leaf_put b b' b'' depth (NodeKind.Closed claim) (Closed claim) (list-closed claim depth) refl closed puts
adds_closed b b' b'' depth claim (Err e) closed puts = tt

pub adds_open : (b b' b'' : Builder) (depth : ℕ) (claim : Claim) (r : Result Unit NoMemory) → Closes b depth b' (Ok tt) → Puts b' (Open claim) b'' r → Adds b (node_at depth (NodeKind.Open claim)) b'' r
adds_open b b' b'' depth claim (Ok done) closed puts = leaf_put b b' b'' depth (NodeKind.Open claim) (Open claim) (list-open claim depth) refl closed puts
adds_open b b' b'' depth claim (Err e) closed puts = tt

pub finishes : (b b' : Builder) → Closes b 0 b' (Ok tt) → Finishes b (Ok b'.root)
finishes b b' closed = go b'.root refl
  where
    empty : (bs : List Branch) → length bs ≡ 0 → bs ≡ []
    empty [] none = refl
    empty (c ∷ cs) none = absurd (omega (arith, none))

    go : (root : Option Refutation) → b'.root ≡ root → Finishes b (Ok root)
    go None none = λ ns most built.
        let has : HasNodes None b'.branches.items ns = subst (λ (x : Option Refutation). HasNodes x b'.branches.items ns) none (closed.0 ns built.nodes) in
        sym has ∙ ap (told 0) (empty b'.branches.items (omega (arith, closed.1)))
    go (Some r) some = λ ns most built.
        let has : HasNodes (Some r) b'.branches.items ns = subst (λ (x : Option Refutation). HasNodes x b'.branches.items ns) some (closed.0 ns built.nodes) in
        has.1
