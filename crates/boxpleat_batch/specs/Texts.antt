-- What each status of a batch tells on the error output, and its number.
use Rattle.std.specs.Prelude.{ℕ, List, [], codes}
use Rattle.boxpleat_batch.specs.declared.status.BatchFault.TheVariants.{TooLong, TooManyPieces}
use Rattle.boxpleat_batch.specs.declared.status.BatchStatus.{BatchStatus}
use Rattle.boxpleat_batch.specs.declared.status.BatchStatus.TheVariants.{Done, Refused, Usage, ReadFault, WriteFault, NoMemory}

unfoldable pub text_of : BatchStatus → List ℕ
text_of Done = []
text_of (Refused TooLong) = codes "batch: TooLong\n"
text_of (Refused TooManyPieces) = codes "batch: TooManyPieces\n"
text_of Usage = codes "usage: boxpleat_batch [--workers W] [--budget B]\n"
text_of ReadFault = codes "read fault\n"
text_of WriteFault = codes "write fault\n"
text_of NoMemory = codes "no memory\n"

abbrev pub number_of : BatchStatus → ℕ
number_of Done = 0
number_of (Refused fault) = 1
number_of Usage = 2
number_of ReadFault = 4
number_of WriteFault = 5
number_of NoMemory = 6
