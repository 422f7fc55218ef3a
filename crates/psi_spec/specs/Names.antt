-- Defines which groups, tasks and processors each kind of event names.
use Rattle.std.specs.Prelude.{ℕ, List, Bool, Option, None, Some}
use Rattle.psi_base.specs.declared.event.Pid.{Pid}
use Rattle.psi_base.specs.declared.event.Act.{Act}
use Rattle.psi_base.specs.declared.event.Act.TheVariants as act

-- What an event names. Groups are named by their paths: a group that must be live, a new group, a
-- group that is removed, and a group whose accounting is switched (and whether it is switched on).
-- Tasks are named by their pids: a task that must be live, and a new task. A processor, which must
-- exist, is named by its number.
pub record Names : Type 0 where
  pub live_path : Option (List ℕ)
  pub new_path : Option (List ℕ)
  pub removed_path : Option (List ℕ)
  pub switched : Option (List ℕ × Bool)
  pub live_task : Option Pid
  pub new_task : Option Pid
  pub cpu : Option ℕ

-- The value for an event that names no group, task or processor.
abbrev pub no_names : Names
no_names = record { live_path = None; new_path = None; removed_path = None; switched = None; live_task = None; new_task = None; cpu = None }

-- The groups, the tasks and the processor that an event names.
abbrev pub names : Act → Names
names (act.Group path) = record no_names { new_path = Some path }
names (act.Remove path) = record no_names { live_path = Some path; removed_path = Some path }
names (act.Prefer path preference) = record no_names { live_path = Some path }
names (act.Fork pid path cpu) = record no_names { live_path = Some path; new_task = Some pid; cpu = Some cpu.0 }
names (act.Wake pid cpu) = record no_names { live_task = Some pid; cpu = Some cpu.0 }
names (act.Switch cpu next how) = record no_names { live_task = next; cpu = Some cpu.0 }
names (act.Stall pid) = record no_names { live_task = Some pid }
names (act.Unstall pid) = record no_names { live_task = Some pid }
names (act.Migrate pid cpu) = record no_names { live_task = Some pid; cpu = Some cpu.0 }
names (act.Move pid path) = record no_names { live_path = Some path; live_task = Some pid }
names (act.Mem path current swap scan) = record no_names { live_path = Some path }
names (act.Host mem_total swap_total swap_free) = no_names
names (act.Trigger path res level threshold_us window_us) = record no_names { live_path = Some path }
names (act.Irq cpu ns) = record no_names { cpu = Some cpu.0 }
names (act.Pressure path on) = record no_names { live_path = Some path; switched = Some (path, on) }
names act.End = no_names
