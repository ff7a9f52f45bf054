use Rattle.std.proofs.Common.{◌≡◌, ◌++◌, ◌∷◌, [], ◌∙◌, ap, refl, Option}
use Rattle.std.specs.Option.{option_to_list}
use Rattle.bp_document.specs.declared.builder.Branch.{Branch}
use Rattle.bp_document.proofs.Builders.{closes_last}
use Rattle.bp_document.proofs.builder.Builder.close.Goals as goal

pub returns : goal.returns
returns c =
    let was : c.args.self.now.branches.items ≡ c.pop.new.self.items ++ c.in-Some.last ∷ [] = c.pop.ensures.items ∙ ap (λ (r : Option Branch). c.pop.new.self.items ++ option_to_list r) c.in-Some.is in
    closes_last c.args.self.now (record { branches = c.pop.new.self; root = c.args.self.now.root }) c.put.new.self c.in-Some.last was refl c.put.result c.put.ensures
