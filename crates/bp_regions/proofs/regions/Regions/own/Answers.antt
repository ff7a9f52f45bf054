use Rattle.bp_regions.proofs.Rows.{own_is}
use Rattle.bp_regions.proofs.regions.Regions.own.Goals as goal

pub returns : goal.returns
returns c =
    let R = c.args.self.now in
    record {
      own = own_is R.tree R.points R.side c.args.x c.args.y c.args.edge c.owner.result c.eq.result c.requires.edge c.eq.ensures c.owner.ensures.owner c.owner.ensures.only;
    }
