use Rattle.bp_base.specs.declared.reading.Collected.{Collected}
use Rattle.bp_base.proofs.Pieces.{whole_appended}
use Rattle.bp_base.proofs.reading.read_whole.Goals as goal

pub returns-clause-bytes : goal.returns-clause-bytes
returns-clause-bytes g c =
    whole_appended (λ (k : Collected). k.bytes.items) c.args.most c.in_ok-read_into.field-0 _ _ (g.S.Source.left c.args.source.now) (g.S.Source.left c.read_into.new.source) c.new.ensures.items c.in_ok-read_into.ensures.taken
