use Rattle.boxpleat_batch.proofs.Answering.{told_more}
use Rattle.boxpleat_batch.proofs.slot.text_of_all.Goals as goal

pub loop-k-preserved : goal.loop-k-preserved
loop-k-preserved c =
    told_more c.args.slots.now c.loop-k.k c.index-slots-k.result c.in-Some.told c.loop-k.text.bytes.items c.add_reply.new.text.bytes.items c.loop-k-test.true c.index-slots-k.is c.in-Some.is c.loop-k.invariant c.in_ok-add_reply.ensures
