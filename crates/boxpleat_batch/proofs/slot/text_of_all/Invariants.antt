use Rattle.boxpleat_batch.proofs.Answering.{HasText}
use Rattle.boxpleat_batch.proofs.slot.text_of_all.Given as goal

abbrev pub invariant-loop-k : goal.invariant-loop-k
invariant-loop-k l = HasText l.slots l.k l.text.bytes.items
