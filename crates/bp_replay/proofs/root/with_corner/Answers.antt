use Rattle.std.proofs.Common.{sym, ◌∙◌, subst}
use Rattle.bp_base.specs.declared.point.Axis.TheVariants.{Y}
use Rattle.bp_lemmas.specs.Knowledge.{Knowledge, without_order}
use Rattle.bp_replay.specs.Kept.{Keeps}
use Rattle.bp_replay.specs.Roots.{with_heads}
use Rattle.bp_replay.specs.Tasks.{system_of}
use Rattle.bp_replay.proofs.Tied.{two_back}
use Rattle.bp_replay.proofs.Roots.{first_square, first_strip}
use Rattle.bp_replay.proofs.root.with_corner.Goals as goal

pub set_known_not-requires-clause-two : goal.set_known_not-requires-clause-two
set_known_not-requires-clause-two c = two_back c.args.given.now.tree c.args.corner.i c.args.corner.j c.requires.two

pub set_known_not-requires-in-Strip-clause-two : goal.set_known_not-requires-in-Strip-clause-two
set_known_not-requires-in-Strip-clause-two c = two_back c.args.given.now.tree c.args.corner.i c.args.corner.j c.requires.two

pub returns-in-Square : goal.returns-in-Square
returns-in-Square c =
    let t = c.args.given.now in
    subst (λ (K : Knowledge). Keeps t c.set_known.new.self K) (first_square t c.args.corner c.requires.corner (sym c.sheet.ensures ∙ c.in-Square.is))
    (c.set_known.ensures (with_heads t t.heads) c.requires.kept)

pub returns-in-Strip : goal.returns-in-Strip
returns-in-Strip c =
    let t = c.args.given.now in
    let p = c.args.corner in
    let K = with_heads t t.heads in
    subst (λ (M : Knowledge). Keeps t c.set_known_not-in-Strip.new.self M) (first_strip t p c.in-Strip.width c.requires.corner (sym c.sheet.ensures ∙ c.in-Strip.is))
    (c.set_known_not-in-Strip.ensures (without_order K ((system_of t).order Y p.j p.i)) (c.set_known_not.ensures K c.requires.kept))
