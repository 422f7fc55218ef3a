use Rattle.pressure_text.proofs.Puts.{puts_then}
use Rattle.pressure_text.proofs.file.write_report.Goals as goal

pub returns-clause-bytes : goal.returns-clause-bytes
returns-clause-bytes g c = puts_then _ _ _ _ _ _ c.in_ok-write_report_head.ensures.bytes c.write_file.ensures.bytes
