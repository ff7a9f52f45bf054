use Rattle.bp_base.proofs.Steps.{apart_seen, common_seen}
use Rattle.bp_base.proofs.path.Path.common.Goals as goal

pub returns-clause-same : goal.returns-clause-same
returns-clause-same c =
    common_seen _ _ _ _ _ _ c.in_common.result c.self.view_is c.other.view_is c.as_slice.ensures c.as_slice-2.ensures c.in_common.ensures.same

pub returns-clause-most : goal.returns-clause-most
returns-clause-most c =
    apart_seen _ _ _ _ _ _ c.in_common.result c.self.view_is c.other.view_is c.as_slice.ensures c.as_slice-2.ensures c.in_common.ensures.most
