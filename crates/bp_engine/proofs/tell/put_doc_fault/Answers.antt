use Rattle.std.proofs.Common.{List, ℕ, ◌++◌, ◌∷◌, [], codes, decimal, subst}
use Rattle.bp_text.specs.Puts.{Puts}
use Rattle.bp_engine.proofs.tell.put_doc_fault.Goals as goal

pub returns-clause-text : goal.returns-clause-text
returns-clause-text g c =
    subst (λ (k : List ℕ). Puts (g.E.Sink.held c.args.err.now) (g.E.Sink.held c.put_fault_words.new.err) c.put_fault_words.result (codes "document: line " ++ decimal c.args.fault.line ++ codes ": " ++ k ++ 10 ∷ [])) c.doc_kind_word.ensures c.put_fault_words.ensures.text
