use Rattle.std.proofs.Common.{ap, ◌∙◌}
use Rattle.bp_replay.specs.Kept.{has_at}
use Rattle.bp_replay.proofs.Shown.{kept_shows}
use Rattle.bp_replay.proofs.known.Known.is_known_not.Goals as goal

pub returns : goal.returns
returns c = λ K keeps whole.
    let S = c.args.self.now in
    c.has.ensures ∙ ap (has_at S.fails) c.cell-cell.ensures.value ∙ (kept_shows c.args.given.now S K whole keeps).0.fails c.args.axis c.args.first c.args.second c.requires.two
