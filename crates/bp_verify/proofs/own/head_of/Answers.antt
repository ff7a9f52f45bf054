use Rattle.std.proofs.Common.{sym, ◌∙◌, subst}
use Rattle.bp_certificate.specs.Stages.{told_head}
use Rattle.bp_verify.specs.Own.{ScansAll}
use Rattle.bp_verify.proofs.OwnText.{head_told, head_text}
use Rattle.bp_verify.proofs.own.head_of.Goals as goal

pub unreachable-requires : goal.unreachable-requires
unreachable-requires c =
    let s = c.requires.scans in
    let bytes = c.args._bytes.now in
    let fed = subst (ScansAll bytes s.0) c.in-Ok.is s.1 in
    head_told bytes fed.0 (told_head s.0.stage) fed.1 (sym s.2 ∙ c.in-None.is)

pub returns-in-Some : goal.returns-in-Some
returns-in-Some c =
    let s = c.requires.scans in
    let bytes = c.args._bytes.now in
    let fed = subst (ScansAll bytes s.0) c.in-Ok.is s.1 in
    (fed.0, head_text bytes fed.0 (told_head s.0.stage) c.in-Some.head c.requires.short fed.1 (sym s.2 ∙ c.in-Some.is))

pub refused-requires : goal.refused-requires
refused-requires c =
    let s = c.requires.scans in
    (s.0, subst (ScansAll c.args._bytes.now s.0) c.in-Err.is s.1)
