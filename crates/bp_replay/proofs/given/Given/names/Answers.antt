use Rattle.std.proofs.Common.{◌≡◌, ◌∙◌, sym, subst}
use Rattle.bp_lemmas.specs.Standing.{IsNamed}
use Rattle.bp_replay.specs.Tasks.{system_of}
use Rattle.bp_replay.proofs.Tied.{has_order_is}
use Rattle.bp_replay.proofs.given.Given.names.Goals as goal

pub returns-in-Before : goal.returns-in-Before
returns-in-Before c =
    let t = c.args.self.now in
    let f = c.in-Before in
    let same : c.are_two.result ≡ (system_of t).has_order f.axis f.first f.second = c.are_two.ensures ∙ sym (has_order_is t.ties t.tree t.sheet t.bound t.heads f.axis f.first f.second) in (
      λ is. subst (IsNamed (system_of t)) (sym f.is) (sym same ∙ is),
      λ named. same ∙ subst (IsNamed (system_of t)) f.is named,
    )

pub returns-in-NotBefore : goal.returns-in-NotBefore
returns-in-NotBefore c =
    let t = c.args.self.now in
    let f = c.in-NotBefore in
    let same : c.are_two-in-NotBefore.result ≡ (system_of t).has_order f.axis f.first f.second = c.are_two-in-NotBefore.ensures ∙ sym (has_order_is t.ties t.tree t.sheet t.bound t.heads f.axis f.first f.second) in (
      λ is. subst (IsNamed (system_of t)) (sym f.is) (sym same ∙ is),
      λ named. same ∙ subst (IsNamed (system_of t)) f.is named,
    )
