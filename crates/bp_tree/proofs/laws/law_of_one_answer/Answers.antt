use Rattle.bp_tree.proofs.EitherWay.{not_neither}
use Rattle.bp_tree.proofs.OneFault.{one_fault}
use Rattle.bp_tree.proofs.Whole.{no_tree, one_tree}
use Rattle.bp_tree.proofs.laws.law_of_one_answer.Goals as goal

pub returns : goal.returns
returns c bytes = record {
  tree = λ T U first second. one_tree bytes U T second first;
  either = λ T f text fault. no_tree bytes f fault T text;
  fault = λ f g first second. one_fault bytes g f second first;
  some = not_neither bytes;
}
