use Rattle.run_laws.proofs.ByOrder.{reports_by_order}
use Rattle.run_laws.proofs.laws.law_reports.Goals as goal

pub returns : goal.returns
returns c = reports_by_order
