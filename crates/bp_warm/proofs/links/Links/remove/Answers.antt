use Rattle.std.proofs.Common.{◌≡◌, ◌-◌, [], length, take, slice_index_or, ◌∙◌, ap, arith}
use Rattle.bp_warm.specs.Links.{LinksValue}
use Rattle.bp_warm.proofs.Rows.{row_is, value_set}
use Rattle.bp_warm.proofs.links.Links.remove.Goals as goal

pub returns : goal.returns
returns c =
    let view = ap (λ (l : LinksValue). l.rows) c.self.view_is in
    let row = row_is (λ v. v.items) c.self.inside.rows.items c.args.self.now.rows c.args.at _ view (omega (arith, c.self.invariant.0, c.requires)) c.index_mut.ensures.value in
    let long : c.index_mut.result.now.len ≡ length (slice_index_or c.args.self.now.rows c.args.at []) = omega (arith, c.index_mut.result.now.ok.0, ap length row) in
    value_set (λ v. v.items) c.self.inside.rows.items c.args.self.now.rows c.args.at c.pop-last.new.self _ c.self.inside.room c.args.self.now.room view (ap (λ (l : LinksValue). l.room) c.self.view_is) (c.pop-last.ensures.rest ∙ (λ k. take (long k - 1) (row k)))
