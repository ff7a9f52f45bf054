use Rattle.std.proofs.Common.{ℕ, List, [], ◌∷◌, ◌++◌, ◌∙◌, ap, arith}
use Rattle.bp_warm.specs.Links.{LinksValue}
use Rattle.bp_warm.proofs.Rows.{row_is, value_set}
use Rattle.bp_warm.proofs.links.Links.add.Goals as goal

pub returns : goal.returns
returns c =
    let view = ap (λ (l : LinksValue). l.rows) c.self.view_is in
    let row = row_is (λ v. v.items) c.self.inside.rows.items c.args.self.now.rows c.args.at _ view (omega (arith, c.self.invariant.0, c.requires.at)) c.index_mut.ensures.value in
    value_set (λ v. v.items) c.self.inside.rows.items c.args.self.now.rows c.args.at c.push.new.self _ c.self.inside.room c.args.self.now.room view (ap (λ (l : LinksValue). l.room) c.self.view_is) (c.in-Ok.ensures.items ∙ ap (λ (r : List ℕ). r ++ c.args.leaf ∷ []) row)
