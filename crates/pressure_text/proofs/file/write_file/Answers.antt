use Rattle.outside.proofs.Grows.{PutsAll-failed}
use Rattle.pressure_spec.specs.File.{file_text}
use Rattle.pressure_text.proofs.Puts.{prefix_of_both, puts_then}
use Rattle.pressure_text.proofs.file.write_file.Goals as goal

pub returns-in_err-put_state-clause-bytes : goal.returns-in_err-put_state-clause-bytes
unfolding file_text
returns-in_err-put_state-clause-bytes g c =
    PutsAll-failed _ _ _ _ c.from_residual.ensures.0 (prefix_of_both _ _ _ _ c.in_err-put_state.ensures.bytes)

pub returns-clause-bytes : goal.returns-clause-bytes
unfolding file_text
returns-clause-bytes g c = puts_then _ _ _ _ _ _ c.in_ok-put_state.ensures.bytes c.put_full.ensures.bytes
