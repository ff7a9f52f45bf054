use Rattle.std.proofs.Common.{◌≡◌, ℕ, ◌+◌, ◌-◌, ◌<◌, List, [], length, get_or, refl, sym, ap, ◌∙◌, arith}
use Rattle.std.proofs.lemmas.List.{get_or_default}
use Rattle.bp_base.specs.Tree.{TreeValue, node_count}
use Rattle.bp_contour.specs.declared.loops.Loop.{Loop}
use Rattle.bp_text.proofs.Puts.{puts_same, range_more, range_exit, range_all}
use Rattle.bp_picture.specs.declared.outline.Outline.{Outline}
use Rattle.bp_picture.specs.Outlines.{outline_at}
use Rattle.bp_picture.specs.PictureText.{region_text}
use Rattle.bp_picture.proofs.region.put_regions.Goals as goal

-- the text of the next region, by its outline as it was found
next_text : (T : TreeValue) (S k : ℕ) (outlines : List Outline) (o : Outline) (loops : List Loop) → k < length outlines → o ≡ get_or outlines k o → loops ≡ o.loops → region_text T S (k + 1) (outline_at outlines (k + 1)).loops ≡ region_text T S (k + 1) loops
next_text T S k outlines o loops less is same =
    let here : k + 1 - 1 ≡ k = omega arith in
    let found : outline_at outlines (k + 1) ≡ o = ap (λ (j : ℕ). get_or outlines j (record { loops = [] })) here ∙ get_or_default outlines k (record { loops = [] }) o less ∙ sym is in
    ap (λ (q : Outline). region_text T S (k + 1) q.loops) found ∙ ap (λ (ls : List Loop). region_text T S (k + 1) ls) (sym same)

pub loop-k-preserved : goal.loop-k-preserved
loop-k-preserved g c =
    let k = c.loop-k.k in
    let f = λ (e : ℕ). region_text c.args.tree.now c.args.side e (outline_at c.args.outlines.now e).loops in
    let place : k + 1 ≡ 1 + k = omega arith in (
      range_more f 1 _ _ _ c.in_ok-put_region.field-0 k (k + 1) (k + 1) place refl c.loop-k.invariant.0
          (puts_same _ _ _ _ _ c.in_ok-put_region.ensures.text (next_text c.args.tree.now c.args.side k c.args.outlines.now c.index-outlines-k.result c.as_slice.result.now c.loop-k-test.true c.index-outlines-k.is c.as_slice.ensures)),
      omega (arith, c.in_ok-put_region.ensures.cause.later, c.loop-k.invariant.1),
    )

pub returns-in_err-put_region-clause-text : goal.returns-in_err-put_region-clause-text
returns-in_err-put_region-clause-text g c =
    let k = c.loop-k.k in
    let n = node_count c.args.tree.now in
    let f = λ (e : ℕ). region_text c.args.tree.now c.args.side e (outline_at c.args.outlines.now e).loops in
    let place : k + 1 ≡ 1 + k = omega arith in
    let less : k < n - 1 = omega (arith, c.loop-k-test.true, c.requires) in
    range_exit f 1 _ _ _ _ _ k (k + 1) (n - 1) place less c.from_residual.ensures.0 c.loop-k.invariant.0
    (puts_same _ _ _ _ _ c.in_err-put_region.ensures.text (next_text c.args.tree.now c.args.side k c.args.outlines.now c.index-outlines-k.result c.as_slice.result.now c.loop-k-test.true c.index-outlines-k.is c.as_slice.ensures))

pub returns-clause-text : goal.returns-clause-text
returns-clause-text g c =
    let f = λ (e : ℕ). region_text c.args.tree.now c.args.side e (outline_at c.args.outlines.now e).loops in
    range_all f 1 _ _ _ c.loop-k.k (node_count c.args.tree.now - 1) (omega (arith, c.loop-k-test.false, c.requires)) c.loop-k.invariant.0
