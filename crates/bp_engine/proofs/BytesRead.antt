-- A tree or a document of the bytes that were read.
use Rattle.std.proofs.Common.{min, inl, inr, ◌⊎◌, ◌≡◌, ◌≤◌, ◌+◌, ℕ, [], List, length, take, drop, ap, subst, sym, ◌∙◌, arith}
use Rattle.std.specs.declared.option.Option.{Option}
use Rattle.std.specs.declared.option.Option.TheVariants.{None, Some}
use Rattle.std.proofs.lemmas.List.{take_all, length-take}
use Rattle.std.proofs.lemmas.Bool.{cases_lt}
use Rattle.std.proofs.Math.ListN.{drop_of_length-le}
use Rattle.std.proofs.Math.Seq.{drop-length}
use Rattle.bp_base.specs.Tree.{TreeValue}
use Rattle.bp_tree.specs.declared.fault.TreeFault.{TreeFault}
use Rattle.bp_tree.specs.Text.{TreeOf}
use Rattle.bp_document.specs.declared.document.Document.{Document}
use Rattle.bp_document.specs.declared.fault.DocFault.{DocFault}
use Rattle.bp_document.specs.Faults.{IsTextOf}
use Rattle.bp_base.specs.Reading.{HasRead, IsReadTo, Told}
use Rattle.bp_check.specs.Streams.{IsRefused as IsRefusedDoc, most_read as most_doc_read}
use Rattle.bp_engine.specs.declared.status.Status.{Status}
use Rattle.bp_engine.specs.declared.status.Status.TheVariants.{Done, TreeRefused, DocRefused, Usage, GaveUp, ReadFault, WriteFault, NoMemory, No, NoCertificate, NotBuilt}
use Rattle.bp_certificate.specs.declared.certificate.Certificate.{Certificate}
use Rattle.bp_certificate.specs.Faults.{IsTextOf as IsCertificateText}
use Rattle.bp_engine.specs.Drawings.{IsRefusedAsOpened, ReadsNothing, Refuses}
use Rattle.bp_engine.specs.Verifying.{ReadsCertificate}
use Rattle.bp_engine.specs.Reading.{IsRefused, ReadsDoc, ReadsNoDoc, ReadsNoTree, ReadsTree, most_read}
use Rattle.bp_engine.specs.Run.{IsSilent}
use Rattle.bp_engine.specs.Texts.{MayWrite}

-- the bytes are all that was left, or its first `most` bytes
abbrev pub IsRead : ℕ → Option (List ℕ) → List ℕ → Type 0
IsRead most None bytes = Unit {0}
IsRead most (Some left) bytes = bytes ≡ take most left

first_bytes : (most : ℕ) (l bytes : List ℕ) → bytes ≡ take (length bytes) l → (length bytes ≡ most) ⊎ ((length bytes ≤ most) × (length l ≡ length bytes)) → bytes ≡ take most l
first_bytes most l bytes front (inl full) = front ∙ ap (λ (n : ℕ). take n l) full
first_bytes most l bytes front (inr all) = front ∙ take_all (length bytes) l (omega (arith, all.1)) ∙ sym (take_all most l (omega (arith, all.0, all.1)))

is_read : (most : ℕ) (left after : Option (List ℕ)) (bytes : List ℕ) → IsReadTo most left after bytes → IsRead most left bytes
is_read most None after bytes read = tt
is_read most (Some l) after bytes read = first_bytes most l bytes read.0.1 read.1

-- where the first `most` bytes are fewer than that, they are all
whole : (most : ℕ) (l bytes : List ℕ) → bytes ≡ take most l → length bytes + 1 ≤ most → bytes ≡ l
whole most l bytes is short = is ∙ take_all most l (omega (arith, ap length is, short, length-take most l))

pub read_whole : (most : ℕ) (left after : Option (List ℕ)) (bytes : List ℕ) (P : List ℕ → Type 0) → IsRead most left bytes → HasRead left after bytes → length bytes + 1 ≤ most → P bytes → Told left (λ b. P b × (after ≡ Some []))
read_whole most None after bytes P is has short p = tt
read_whole most (Some l) after bytes P is has short p =
    let same = whole most l bytes is short in (
      subst P same p,
      has.0 ∙ ap (λ (t : List ℕ). Some t) (ap (λ (b : List ℕ). drop (length b) l) same ∙ drop-length l),
    )

-- what is left after the bytes that were read, or after as many as may be read
same_rest : (most : ℕ) (l : List ℕ) (k : ℕ) → k ≡ min most (length l) → drop k l ≡ drop most l
same_rest most l k is = elim (cases_lt most (length l)) [
  | inl less ↦
      let same : k ≡ most = omega (arith, is, less) in
      ap (λ (n : ℕ). drop n l) same
  | inr within ↦
      let past : length l ≤ k = omega (arith, is, within) in
      drop_of_length-le l past ∙ sym (drop_of_length-le l within)
]

pub refused : (most : ℕ) (left after : Option (List ℕ)) (bytes : List ℕ) (P : List ℕ → Type 0) → IsRead most left bytes → HasRead left after bytes → P bytes → Told left (λ b. P (take most b) × (after ≡ Some (drop most b)))
refused most None after bytes P is has p = tt
refused most (Some l) after bytes P is has p =
    let long : length bytes ≡ min most (length l) = ap length is ∙ length-take most l in
    (subst P is p, has.0 ∙ ap (λ (t : List ℕ). Some t) (same_rest most l (length bytes) long))

pub reads_tree : (left after : Option (List ℕ)) (bytes : List ℕ) (T : TreeValue) → IsReadTo most_read left after bytes → TreeOf bytes T → ReadsTree left after T
reads_tree left after bytes T read tree =
    read_whole most_read left after bytes (λ (b : List ℕ). TreeOf b T) (is_read most_read left after bytes read) read.0 (omega (arith, tree.short)) tree

pub refuses_tree : (left after : Option (List ℕ)) (bytes : List ℕ) (f : TreeFault) → IsReadTo most_read left after bytes → IsRefused bytes f → ReadsNoTree left after (TreeRefused f)
refuses_tree left after bytes f read r = refused most_read left after bytes (λ (b : List ℕ). IsRefused b f) (is_read most_read left after bytes read) read.0 r

pub reads_doc : (left after : Option (List ℕ)) (bytes : List ℕ) (D : Document) → IsReadTo most_doc_read left after bytes → IsTextOf bytes D → ReadsDoc left after D
reads_doc left after bytes D read text =
    read_whole most_doc_read left after bytes (λ (b : List ℕ). IsTextOf b D) (is_read most_doc_read left after bytes read) read.0 (omega (arith, text.short)) text

pub refuses_doc : (left after : Option (List ℕ)) (bytes : List ℕ) (fault : DocFault) → IsReadTo most_doc_read left after bytes → IsRefusedDoc bytes fault → ReadsNoDoc left after (DocRefused fault)
refuses_doc left after bytes fault read r =
    refused most_doc_read left after bytes (λ (b : List ℕ). IsRefusedDoc b fault) (is_read most_doc_read left after bytes read) read.0 r

-- a certificate's text, and what is neither that nor a document's
pub reads_certificate : (left after : Option (List ℕ)) (bytes : List ℕ) (C : Certificate) → IsReadTo most_doc_read left after bytes → IsCertificateText bytes C → ReadsCertificate left after C
reads_certificate left after bytes C read text =
    read_whole most_doc_read left after bytes (λ (b : List ℕ). IsCertificateText b C) (is_read most_doc_read left after bytes read) read.0 (omega (arith, text.short)) text

pub refuses_both : (left after : Option (List ℕ)) (bytes : List ℕ) (status : Status) → IsReadTo most_doc_read left after bytes → Refuses IsRefusedAsOpened bytes status → ReadsNothing left after status
refuses_both left after bytes (DocRefused fault) read r = refused most_doc_read left after bytes (λ (b : List ℕ). IsRefusedAsOpened b fault) (is_read most_doc_read left after bytes read) read.0 r
refuses_both left after bytes ReadFault read r = tt
refuses_both left after bytes NoMemory read r = tt
refuses_both left after bytes status read r = absurd r

-- bytes that were read are all that was left, where these make a tree
pub same_bytes : (left after : Option (List ℕ)) (bytes b : List ℕ) (T : TreeValue) → IsReadTo most_read left after bytes → left ≡ Some b → TreeOf b T → bytes ≡ b
same_bytes left after bytes b T read some tree =
    let h : bytes ≡ take most_read b = subst (λ (l : Option (List ℕ)). IsRead most_read l bytes) some (is_read most_read left after bytes read) in
    h ∙ take_all most_read b (omega (arith, tree.short))

-- Where nothing came, the status is no silent one, and nothing is written.

pub no_tree_quiet : (left after : Option (List ℕ)) (status : Status) → ReadsNoTree left after status → IsSilent status → ⊥
no_tree_quiet left after Usage r silent = r
no_tree_quiet left after NotBuilt r silent = r
no_tree_quiet left after status r silent = silent

pub no_doc_quiet : (left after : Option (List ℕ)) (status : Status) → ReadsNoDoc left after status → IsSilent status → ⊥
no_doc_quiet left after Usage r silent = r
no_doc_quiet left after NotBuilt r silent = r
no_doc_quiet left after status r silent = silent

pub nothing_quiet : (left after : Option (List ℕ)) (status : Status) → ReadsNothing left after status → IsSilent status → ⊥
nothing_quiet left after Usage r silent = r
nothing_quiet left after NotBuilt r silent = r
nothing_quiet left after status r silent = silent

pub nothing_written : (left after : Option (List ℕ)) (status : Status) → ReadsNothing left after status → MayWrite status → ⊥
nothing_written left after Done r writes = r
nothing_written left after (GaveUp side bound) r writes = r
nothing_written left after WriteFault r writes = r
nothing_written left after (No reason) r writes = r
nothing_written left after (NoCertificate reason) r writes = r
nothing_written left after status r writes = writes

pub no_doc_written : (left after : Option (List ℕ)) (status : Status) → ReadsNoDoc left after status → MayWrite status → ⊥
no_doc_written left after Done r writes = r
no_doc_written left after (GaveUp side bound) r writes = r
no_doc_written left after WriteFault r writes = r
no_doc_written left after (No reason) r writes = r
no_doc_written left after (NoCertificate reason) r writes = r
no_doc_written left after status r writes = writes

pub no_doc_tree : (left after : Option (List ℕ)) (status : Status) → ReadsNoDoc left after status → (f : TreeFault) → status ≡ TreeRefused f → ⊥
no_doc_tree left after status r f is = let h = subst (λ (s : Status). ReadsNoDoc left after s) is r in h
