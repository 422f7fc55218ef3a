use Rattle.std.proofs.Common.{◌≡◌, sym, true≢false, true, false, ◌∙◌}
use Rattle.clap.specs.declared.error.kind.ErrorKind.TheVariants as kind
use Rattle.psi_words.proofs.Exact.{are_texts, accepted_by, refused_said, found_said}
use Rattle.psi_words.proofs.parsed.Parsed.read.Goals as goal

pub invariant_of-result : goal.invariant_of-result
invariant_of-result c =
    (found_said _ _ _ _ c.in_ok-command.ensures c.requires
    (accepted_by _ _ _ c.in_ok-command.ensures c.requires (are_texts c.args.words.now)
    c.in-Ok.ensures.kinds)
    c.in-Ok.ensures.matches).1

pub returns-in-Ok : goal.returns-in-Ok
returns-in-Ok c =
    (found_said _ _ _ _ c.in_ok-command.ensures c.requires
    (accepted_by _ _ _ c.in_ok-command.ensures c.requires (are_texts c.args.words.now)
    c.in-Ok.ensures.kinds)
    c.in-Ok.ensures.matches).0

pub returns : goal.returns
returns c =
    refused_said _ _ _ c.in-Err.error c.in_ok-command.ensures c.requires
    (are_texts c.args.words.now) c.in-Err.ensures.kinds
    (λ e. let same : c.kind.result ≡ kind.OutOfMemory = c.kind.ensures ∙ e in
    let differ : false ≡ true = rw same at c.if-eq.ensures in true≢false (sym differ))
