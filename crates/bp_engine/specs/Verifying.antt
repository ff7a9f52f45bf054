-- What `verify` reads and writes.
use Rattle.std.specs.Prelude.{◌≡◌, ◌⊎◌, ℕ, List, [], ◌∷◌, ◌++◌, take, drop, codes, decimal}
use Rattle.std.specs.declared.option.Option.{Option}
use Rattle.std.specs.declared.option.Option.TheVariants.{Some}
use Rattle.bp_base.specs.Tree.{TreeValue}
use Rattle.bp_base.specs.Reading.{Told}
use Rattle.bp_check.specs.Streams.{most_read}
use Rattle.bp_certificate.specs.declared.certificate.Certificate.{Certificate}
use Rattle.bp_certificate.specs.Faults.{IsTextOf}
use Rattle.bp_verify.specs.declared.verdict.Reason.{Reason}
use Rattle.bp_verify.specs.declared.verdict.Reason.TheVariants.{TreeDiffers, Outside, TooNear, BadFloor, BadCorner, BadSwap, BadLemma, BoundNotShown}
use Rattle.bp_verify.specs.Certifies.{Certifies}
use Rattle.bp_verify.specs.Reasons.{IsFirstReason}
use Rattle.bp_verify.specs.Streams.{IsRefused}
use Rattle.bp_engine.specs.declared.status.Status.{Status}
use Rattle.bp_engine.specs.declared.status.Status.TheVariants.{Done, DocRefused, ReadFault, NoMemory, NoCertificate}
use Rattle.bp_engine.specs.Checking.{yes_text}
use Rattle.bp_engine.specs.Documents.{Writes}
use Rattle.bp_engine.specs.Reading.{ReadsNoTree, ReadsTree}

abbrev pub flaw_text : Reason → List ℕ
flaw_text TreeDiffers = codes "TreeDiffers"
flaw_text (Outside i) = codes "Outside " ++ decimal i
flaw_text (TooNear i j) = codes "TooNear " ++ decimal i ++ 32 ∷ decimal j
flaw_text BadFloor = codes "BadFloor"
flaw_text BadCorner = codes "BadCorner"
flaw_text (BadSwap number) = codes "BadSwap " ++ decimal number
flaw_text (BadLemma number) = codes "BadLemma " ++ decimal number
flaw_text BoundNotShown = codes "BoundNotShown"

unfoldable pub uncertified_text : Reason → List ℕ
uncertified_text reason = codes "no " ++ flaw_text reason ++ 10 ∷ []

-- `verify` answers a certificate that is right of the tree by yes, and each other by the first reason
abbrev pub IsVerified : TreeValue → Certificate → Status → List ℕ → Type 0
IsVerified T C Done text = Certifies T C × (text ≡ yes_text C.side C.bound)
IsVerified T C (NoCertificate reason) text = IsFirstReason T C reason × (text ≡ uncertified_text reason)
IsVerified T C status text = ⊥

-- The source was read to its end, and its bytes are the text of C, where it tells them.
abbrev pub ReadsCertificate : Option (List ℕ) → Option (List ℕ) → Certificate → Type 0
ReadsCertificate left after C = Told left (λ b. IsTextOf b C × (after ≡ Some []))

-- Why no certificate came of a source. A refused one is judged by its bytes, read to the end or to one byte past the limit.
abbrev pub ReadsNoCertificate : Option (List ℕ) → Option (List ℕ) → Status → Type 0
ReadsNoCertificate left after (DocRefused fault) = Told left (λ b. IsRefused (take most_read b) fault × (after ≡ Some (drop most_read b)))
ReadsNoCertificate left after ReadFault = Unit {0}
ReadsNoCertificate left after NoMemory = Unit {0}
ReadsNoCertificate left after status = ⊥

-- What `verify` has read behind the tree and written: either no certificate came, or it was answered.
abbrev pub VerifiesAgainst : TreeValue → Option (List ℕ) → Option (List ℕ) → Option (List ℕ) → Option (List ℕ) → Status → Type 0
VerifiesAgainst T left after held now status =
    (ReadsNoCertificate left after status × (now ≡ held))
    ⊎ ((C : Certificate) × ReadsCertificate left after C × Writes (IsVerified T C) held now status)

-- What `verify` has read and written: what was left of `tree` and of `doc` before and after, what the sink held before and after. Either no tree
-- came, or the certificate was read behind it.
abbrev pub VerifiesBoth : Option (List ℕ) → Option (List ℕ) → Option (List ℕ) → Option (List ℕ) → Option (List ℕ) → Option (List ℕ) → Status → Type 0
VerifiesBoth tree tree_after doc doc_after held now status =
    (ReadsNoTree tree tree_after status × (now ≡ held))
    ⊎ ((T : TreeValue) × ReadsTree tree tree_after T × VerifiesAgainst T doc doc_after held now status)
