use Rattle.std.proofs.Common.{◌≡◌, ◌+◌, ◌≤◌, ◌<◌, List, ℕ, length, take, ◌++◌, ◌∷◌, [], ◌∙◌, ap, sym, arith}
use Rattle.std.proofs.lemmas.List.{take_more}
use Rattle.std.proofs.lemmas.Option.{get_or_from_slice_get}
use Rattle.bp_samples.proofs.paths.leaves_of.Goals as goal

pub loop-k-preserved : goal.loop-k-preserved
loop-k-preserved c =
    let xs = c.args.chain.now in
    let k = c.loop-k.k in
    let less : k < length xs = omega (arith, c.loop-k-test.true, c.len-k-end.ensures.length) in
    record {
      within = omega (arith, less);
      so_far =
          c.in_ok-push.ensures.items
          ∙ ap (λ (l : List ℕ). l ++ c.at.result ∷ []) c.loop-k.invariant.so_far
          ∙ sym (take_more xs k c.at.result less ∙ ap (λ (x : ℕ). take k xs ++ x ∷ []) (get_or_from_slice_get xs k c.at.result c.at.result c.at.ensures));
    }
