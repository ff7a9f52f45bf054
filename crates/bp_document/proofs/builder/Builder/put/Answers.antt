use Rattle.std.proofs.Common.{◌≡◌, ◌++◌, ◌∷◌, [], List, ◌∙◌, ap, refl, Option}
use Rattle.std.specs.Option.{option_to_list}
use Rattle.bp_document.specs.declared.builder.Branch.{Branch}
use Rattle.bp_document.proofs.Builders.{put_last}
use Rattle.bp_document.proofs.builder.Builder.put.Goals as goal

pub returns-in_ok-push-in-Some-2 : goal.returns-in_ok-push-in-Some-2
returns-in_ok-push-in-Some-2 c =
    let old : List Branch = c.args.self.now.branches.items in
    let was : old ≡ c.pop.new.self.items ++ c.in-Some.last ∷ [] = c.pop.ensures.items ∙ ap (λ (r : Option Branch). c.pop.new.self.items ++ option_to_list r) c.in-Some.is in
    let p = put_last old c.pop.new.self.items c.push-in-Some.new.self.items c.in-Some.last c.args.child c.push.new.self c.args.self.now.root was c.in_ok-push-in-Some.ensures.ok c.in_ok-push-in-Some-2.ensures.items in
    (p.0, λ some. refl, p.1)
