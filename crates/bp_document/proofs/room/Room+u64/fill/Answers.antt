use Rattle.std.proofs.Common.{◌≡◌, ◌<◌, ◌∙◌, ◌++◌, ◌∷◌, [], List, ℕ, length, get_or, take, ap, sym, arith}
use Rattle.std.proofs.lemmas.List.{take_more}
use Rattle.std.proofs.lemmas.Option.{get_or_from_slice_get}
use Rattle.bp_document.proofs.room.Room+u64.fill.Goals as goal

pub loop-k-preserved : goal.loop-k-preserved
loop-k-preserved c =
    let within : c.loop-k.k < length c.args.chain.now = omega (arith, c.loop-k-test.true, c.len-k-end.ensures.length) in
    let here : get_or c.args.chain.now c.loop-k.k 0 ≡ c.at.result = get_or_from_slice_get c.args.chain.now c.loop-k.k c.at.result 0 c.at.ensures in (
      c.push_reserved.ensures.items ∙ ap (λ (l : List ℕ). l ++ c.at.result ∷ []) c.loop-k.invariant.0
          ∙ ap (λ (n : ℕ). take c.loop-k.k c.args.chain.now ++ n ∷ []) (sym here) ∙ sym (take_more c.args.chain.now c.loop-k.k 0 within),
      omega (arith, c.loop-k.invariant.1, c.push_reserved.ensures.capacity),
    )
