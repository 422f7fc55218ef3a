use Rattle.psi_words.proofs.Adding.{option_added, positional_added}
use Rattle.psi_words.proofs.parsed.command.Goals as goal

pub options-preserved : goal.options-preserved
options-preserved c =
    option_added _ _ _ c.args.names.now c.options.name-index _ c.options-test.true
    c.in_ok-command.ensures c.option.ensures.local c.option.ensures.rule c.options.invariant

pub returns : goal.returns
returns c =
    positional_added _ _ _ c.args.names.now c.options.name-index c.options-test.false c.arg-2.ensures
    c.positional.ensures.local c.positional.ensures.rule c.options.invariant
