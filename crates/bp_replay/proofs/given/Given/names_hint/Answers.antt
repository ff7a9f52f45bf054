use Rattle.std.proofs.Common.{◌≡◌, ◌∙◌, sym, subst}
use Rattle.bp_lemmas.specs.Standing.{IsHint}
use Rattle.bp_replay.specs.Tasks.{system_of}
use Rattle.bp_replay.proofs.Tied.{has_pair_is}
use Rattle.bp_replay.proofs.given.Given.names_hint.Goals as goal

pub returns-in-Pair : goal.returns-in-Pair
returns-in-Pair c =
    let t = c.args.self.now in
    let same : c.is_pair.result ≡ (system_of t).has_pair c.in-Pair.pair.i c.in-Pair.pair.j = c.is_pair.ensures ∙ sym (has_pair_is t.ties t.tree t.sheet t.bound t.heads c.in-Pair.pair.i c.in-Pair.pair.j) in (
      λ is. subst (IsHint (system_of t) c.args.count) (sym c.in-Pair.is) (sym same ∙ is),
      λ named. same ∙ subst (IsHint (system_of t) c.args.count) c.in-Pair.is named,
    )
