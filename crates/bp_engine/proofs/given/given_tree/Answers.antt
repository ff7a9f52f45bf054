use Rattle.std.proofs.Common.{List, ℕ, sym, ◌∙◌, subst}
use Rattle.bp_base.specs.Tree.{TreeValue}
use Rattle.bp_tree.specs.Faults.{IsTreeFault}
use Rattle.bp_tree.specs.Text.{TreeOf}
use Rattle.bp_engine.proofs.BytesRead.{reads_tree, refuses_tree, same_bytes}
use Rattle.bp_engine.proofs.given.given_tree.Goals as goal

pub returns-in-Ok-read_tree-clause-reads : goal.returns-in-Ok-read_tree-clause-reads
returns-in-Ok-read_tree-clause-reads g c =
    reads_tree _ _ c.in-Ok.bytes.items c.in-Ok-read_tree.tree c.in-Ok.ensures.bytes
    (subst (λ (b : List ℕ). TreeOf b c.in-Ok-read_tree.tree) c.deref.ensures.value c.in-Ok-read_tree.ensures.reads)

pub returns-in-Err-Fault-clause-none : goal.returns-in-Err-Fault-clause-none
returns-in-Err-Fault-clause-none g c =
    let h : IsTreeFault c.deref.result.now c.in-Err-Fault.fault × ((T : TreeValue) → TreeOf c.deref.result.now T → ⊥) = rw c.in-Err-Fault.field-0-is at c.in-Err-Fault.ensures.reads in
    let k : IsTreeFault c.in-Ok.bytes.items c.in-Err-Fault.fault × ((T : TreeValue) → TreeOf c.in-Ok.bytes.items T → ⊥) = rw c.deref.ensures.value at h in
    refuses_tree _ _ c.in-Ok.bytes.items c.in-Err-Fault.fault c.in-Ok.ensures.bytes (record { is_fault = k.0; no_tree = k.1 })

pub returns-in-Ok-read_tree-clause-only : goal.returns-in-Ok-read_tree-clause-only
returns-in-Ok-read_tree-clause-only g c = λ b U some text.
    let same = same_bytes _ _ c.in-Ok.bytes.items b U c.in-Ok.ensures.bytes some text in
    c.in-Ok-read_tree.ensures.only.0 U (subst (λ (d : List ℕ). TreeOf d U) (sym (c.deref.ensures.value ∙ same)) text)
