use Rattle.std.proofs.Common.{◌≡◌, ◌∷◌, [], ◌++◌, ap, sym, ◌∙◌}
use Rattle.bp_incumbent.specs.Board.{PassView}
use Rattle.bp_incumbent.proofs.Gathers.{starts, takes, all_less}
use Rattle.bp_incumbent.proofs.board.gather.Goals as goal

pub loop-pass-init : goal.loop-pass-init
loop-pass-init c =
    let left = c.pop.new.self.items in
    let items = c.in-Some.ensures.items in
    let rest = all_less (λ (p : PassView). p.board ≡ c.args.board.now.id) _ left _ items c.requires.0 in
    record {
      board = ap (λ (p : PassView). p.board) c.first.view_is ∙ rest.1;
      belong = rest.0;
      taken = starts c.first.inside c.first.invariant left _ (items ∙ sym (ap (λ (p : PassView). left ++ p ∷ []) c.first.view_is));
    }

pub loop-pass-preserved : goal.loop-pass-preserved
loop-pass-preserved c =
    let was = c.loop-pass.invariant in
    let left = c.pop-in-loop-pass.new.self.items in
    let items = c.in-Some-pop.ensures.items in
    let rest = all_less (λ (p : PassView). p.board ≡ c.args.board.now.id) _ left _ items was.belong in
    let done = c.join.ensures in
    record {
      board = done.board ∙ was.board;
      belong = rest.0;
      taken = takes c.pass.inside c.pass.invariant left _ c.loop-pass.seats _ _ (items ∙ sym (ap (λ (p : PassView). left ++ p ∷ []) c.pass.view_is)) was.taken done.side done.tickets done.halt;
    }
