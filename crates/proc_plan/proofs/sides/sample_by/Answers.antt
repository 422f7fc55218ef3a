use Rattle.proc_plan.proofs.sides.sample_by.Goals as goal

pub returns-in-Mem-clause-small : goal.returns-in-Mem-clause-small
returns-in-Mem-clause-small c = let fits = rw c.in-Mem.is at c.requires in (fits.1.0, fits.1.1.0, fits.1.1.1.0)

pub returns-in-Host-clause-small : goal.returns-in-Host-clause-small
returns-in-Host-clause-small c = let fits = rw c.in-Host.is at c.requires in (fits.0, fits.1.0, fits.1.1.0)
