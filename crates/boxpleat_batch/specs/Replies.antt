-- What answers a piece, and the text of all answers.
use Rattle.std.specs.Prelude.{ℕ, ◌+◌, ◌==◌, List, [], ◌∷◌, ◌++◌, codes, decimal, if◌then◌else◌}
use Rattle.std.specs.List.{AllZip}
use Rattle.bp_document.specs.declared.document.Document.{Document}
use Rattle.bp_document.specs.Text.{doc_text}
use Rattle.bp_tree.specs.declared.fault.TreeFault.{TreeFault}
use Rattle.bp_tree.specs.Text.{TreeOf}
use Rattle.bp_catalogue.specs.Entries.{IsRight}
use Rattle.bp_engine.specs.declared.status.Status.TheVariants.{TreeRefused}
use Rattle.bp_engine.specs.Reading.{IsRefused}
use Rattle.bp_engine.specs.Texts.{text_of}

-- the first fault of bytes that are no tree, or a design of their tree
pub data Reply : Type 0 where
  Refused : TreeFault → Reply
  Designed : Document → Reply

-- This answers a piece: its first fault, where it is no tree, or a design of its tree on the square, as `design` writes it with this budget.
abbrev pub IsReplyTo : ℕ → List ℕ → Reply → Type 0
IsReplyTo B piece (Refused fault) = IsRefused piece fault
IsReplyTo B piece (Designed D) = TreeOf piece D.tree × IsRight B D

-- each piece has its answer, in order
abbrev pub AreReplies : ℕ → List (List ℕ) → List Reply → Type 0
AreReplies B pieces replies = AllZip (IsReplyTo B) pieces replies

-- 1 for a fault; 0 for a design whose bound is its side, and else 3
abbrev pub reply_number : Reply → ℕ
reply_number (Refused fault) = 1
reply_number (Designed D) = if D.bound == D.side then 0 else 3

abbrev pub reply_body : Reply → List ℕ
reply_body (Refused fault) = text_of (TreeRefused fault)
reply_body (Designed D) = doc_text D

abbrev pub reply_head : ℕ → ℕ → List ℕ
reply_head k how = codes "reply " ++ decimal k ++ 32 ∷ decimal how ++ 10 ∷ []

-- the reply to piece k, counted from 1
unfoldable pub reply_text : ℕ → Reply → List ℕ
reply_text k r = reply_head k (reply_number r) ++ reply_body r

-- the replies, of which the first is that to piece k
abbrev pub replies_from : ℕ → List Reply → List ℕ
replies_from k [] = []
replies_from k (r ∷ replies) = reply_text k r ++ replies_from (k + 1) replies

-- the whole output
abbrev pub batch_text : List Reply → List ℕ
batch_text replies = replies_from 1 replies ++ codes "batch end\n"
