-- Defines the traces that the commands `gen` and `stress` generate. A trace depends only on its
-- `Shape`: the seed of the random numbers, and the numbers of processors, groups and events.
use Rattle.std.specs.Prelude.{ℕ, zero, suc, ◌+◌, ◌-◌, ◌*◌, ◌/◌, ◌%◌, ◌^◌, ◌==◌}
use Rattle.std.specs.Prelude.{List, [], ◌∷◌, ◌++◌, map, codes, decimal, is_some}
use Rattle.std.specs.Prelude.{Option, None, Some, if◌then◌else◌}
use Rattle.std.specs.List.{range_with_len}
use Rattle.psi_base.specs.declared.event.Act.{Act}
use Rattle.psi_base.specs.declared.event.Act.TheVariants as act
use Rattle.psi_base.specs.declared.event.Event.{Event}
use Rattle.psi_base.specs.declared.event.How.{How}
use Rattle.psi_base.specs.declared.event.How.TheVariants.{Idle, IoWait, Preempt, Sleep}
use Rattle.psi_spec.specs.declared.machine.Mode.{Mode}
use Rattle.psi_spec.specs.declared.machine.Mode.TheVariants.{Blocked, Ready, Running, Waiting}
use Rattle.psi_spec.specs.declared.machine.Task.{Task}
use Rattle.psi_spec.specs.World.{Tasks, World, after, after_event, running_on, task_of}
use Rattle.psi_spec.specs.Grammar.{One}
use Rattle.psi_spec.specs.Trace.{Trace, text_of}
use Rattle.run_spec.specs.declared.command.Shape.{Shape}

-- ---- random numbers

-- `next_state state`: the next state of the random number generator. This is a 64-bit linear
-- congruential generator with the constants of Knuth's MMIX.
abbrev pub next_state : ℕ → ℕ
next_state state = (state * 6364136223846793005 + 1442695040888963407) % 2 ^ 64

-- `random_event state bound`: a random number below `bound`, computed from the 31 high bits of
-- `state`.
abbrev pub random_event : ℕ → ℕ → ℕ
random_event state bound = (state / 2 ^ 33) % bound

-- ---- the groups and tasks of a generated trace

-- The number of tasks of a generated trace: four for each processor. Their pids start at 1.
abbrev pub task_count : Shape → ℕ
task_count shape = 4 * shape.cpus

-- The path of the group with the number `number` (from 0).
abbrev pub numbered_path : ℕ → List ℕ
numbered_path number = codes "/g" ++ decimal number

-- `home_of shape pid`: the path of the group of task `pid`. Tasks are assigned to the groups in
-- turn, or to the root if the shape has no groups.
abbrev pub home_of : Shape → ℕ → List ℕ
home_of shape pid =
    if shape.groups == 0 then codes "/" else numbered_path ((pid - 1) % shape.groups)

-- The act (what an event does) that creates the group with number `number`.
abbrev pub made_group : ℕ → Act
made_group number = act.Group (numbered_path number)

-- `made_task shape pid`: the act (what an event does) that creates task `pid`. Tasks 1 to 4 are on
-- processor 0, tasks 5 to 8 on processor 1, and so on.
abbrev pub made_task : Shape → ℕ → Act
made_task shape pid =
    act.Fork (record { 0 = pid }) (home_of shape pid) (record { 0 = (pid - 1) / 4 })

-- The event at time 0 that does `what`.
abbrev pub at_start : Act → Event
at_start what = record { at = 0; act = what }

-- The events at time 0 that create all groups and then all tasks of a shape.
abbrev pub first_events : Shape → List Event
first_events shape =
    map (λ number. at_start (made_group number)) (range_with_len 0 shape.groups)
    ++ map (λ pid. at_start (made_task shape pid)) (range_with_len 1 (task_count shape))

-- ---- random events

-- What a random event does (`act`), and the state of the random number generator after the event
-- was drawn (`state`).
pub record RandomEvent : Type 0 where
  pub act : Act
  pub state : ℕ

-- `woken shape state pid`: wakes the blocked task `pid` on a random processor. `state` is the state
-- of the random number generator.
abbrev pub woken : Shape → ℕ → ℕ → RandomEvent
woken shape state pid = record {
  act = act.Wake (record { 0 = pid }) (record { 0 = random_event (next_state state) shape.cpus });
  state = next_state state;
}

-- `way_of number`: how the running task leaves its processor, for a random number below 4. The
-- number 0 means preemption, 1 means sleeping, and 2 and 3 mean waiting for IO.
abbrev pub way_of : ℕ → How
way_of zero = Preempt
way_of (suc zero) = Sleep
way_of (suc (suc more)) = IoWait

-- `started tasks state pid task`: switches the processor of the ready task `pid` to this task.
-- `state` is the state of the random number generator. A random number is drawn only if another
-- task is running on that processor.
abbrev pub started : Tasks → ℕ → ℕ → Task → RandomEvent
started tasks state pid task =
    if is_some (running_on tasks task.cpu.0)
    then record {
      act = act.Switch task.cpu (Some (record { 0 = pid })) (way_of (random_event (next_state state) 4));
      state = next_state state;
    }
    else record { act = act.Switch task.cpu (Some (record { 0 = pid })) Idle; state = state }

-- `stall_turn pid task`: ends the memory stall of task `pid`, or begins one if the task isn't in a
-- memory stall.
abbrev pub stall_turn : ℕ → Task → Act
stall_turn pid task =
    if task.stalled then act.Unstall (record { 0 = pid }) else act.Stall (record { 0 = pid })

-- `running_act pid task number`: what the running task `pid` does, for a random number below 4. The
-- number 0 means that it sleeps, 1 that it waits for IO, and 2 and 3 that it begins or ends a
-- memory stall.
abbrev pub running_act : ℕ → Task → ℕ → Act
running_act pid task zero = act.Switch task.cpu None Sleep
running_act pid task (suc zero) = act.Switch task.cpu None IoWait
running_act pid task (suc (suc more)) = stall_turn pid task

-- `next_of shape tasks state pid task mode`: what task `pid` does next. This depends on whether the
-- task is blocked, ready or running (`mode`). `state` is the state of the random number generator.
abbrev pub next_of : Shape → Tasks → ℕ → ℕ → Task → Mode → RandomEvent
next_of shape tasks state pid task Blocked = woken shape state pid
next_of shape tasks state pid task Waiting = woken shape state pid
next_of shape tasks state pid task Ready = started tasks state pid task
next_of shape tasks state pid task Running = record {
  act = running_act pid task (random_event (next_state state) 4);
  state = next_state state;
}

-- `next_if shape tasks state pid task`: what task `pid` does next. The case `None` never occurs,
-- because no generated task exits. It only makes the function total.
abbrev pub next_if : Shape → Tasks → ℕ → ℕ → Option Task → RandomEvent
next_if shape tasks state pid None = woken shape state pid
next_if shape tasks state pid (Some task) = next_of shape tasks state pid task task.mode

-- `chosen shape state`: the pid of the task that acts next, computed from the state of the random
-- number generator.
abbrev pub chosen : Shape → ℕ → ℕ
chosen shape state = 1 + random_event state (task_count shape)

-- `next_random shape tasks state`: chooses a task at random, and what it does next. `state` is the
-- state of the random number generator. The first random number after `state` determines the time
-- of the event (`next_event`), and the second determines the task.
unfoldable pub next_random : Shape → Tasks → ℕ → RandomEvent
next_random shape tasks state =
    next_if shape tasks (next_state (next_state state)) (chosen shape (next_state (next_state state)))
    (task_of tasks (chosen shape (next_state (next_state state))))

-- `next_event shape w state`: the next random event, less than 2 ms after the last event. `w` is
-- the world (the tasks and groups) before the event, and `state` is the state of the random number
-- generator.
abbrev pub next_event : Shape → World → ℕ → Event
next_event shape w state = record {
  at = w.last + random_event (next_state state) 2000000;
  act = (next_random shape w.tasks state).act;
}

-- `random_events shape left w state`: `left` random events, followed by an `end` event at the time
-- of the last of them. `w` is the world (the tasks and groups) before these events, and `state` is
-- the state of the random number generator.
unfoldable pub random_events : Shape → ℕ → World → ℕ → List Event
random_events shape zero w state = record { at = w.last; act = act.End } ∷ []
random_events shape (suc left) w state =
    next_event shape w state
    ∷ random_events shape left (after_event w (next_event shape w state))
    (next_random shape w.tasks state).state

-- ---- the generated trace

-- The generated trace of a shape: events that create the groups and tasks, followed by random
-- events.
abbrev pub generated : Shape → Trace
generated shape = record {
  version = One;
  cpus = shape.cpus;
  events = first_events shape
      ++ random_events shape shape.events (after (first_events shape)) shape.seed;
}

-- The output of `gen` for a shape: the text of the generated trace.
abbrev pub gen_text : Shape → List ℕ
gen_text shape = text_of (generated shape)
