-- Laws of the commands `gen` and `stress`: the events of a generated trace, its replay, and the
-- status of a run.
use Rattle.std.proofs.Common.{◌≡◌, ◌⊎◌, inl, inr, ℕ, ◌<◌, ◌-◌, List, [], ◌∷◌, ◌++◌, refl, sym, ap, ◌∙◌, subst, arith, true≢false}
use Rattle.std.proofs.Common.{append_assoc, Option, None, Bool, true, false, ◌==◌, if◌then◌else◌}
use Rattle.std.specs.Prelude.{IsSome}
use Rattle.psi_base.specs.Memory.{no_memory}
use Rattle.outside.specs.Outside.{Files, Increased}
use Rattle.psi_base.specs.declared.event.Event.{Event}
use Rattle.psi_spec.specs.Fields.{IsAmong}
use Rattle.psi_spec.specs.Grammar.{Fits, One}
use Rattle.psi_spec.specs.Refusal.{AreLegal, cause_of}
use Rattle.psi_spec.specs.Trace.{AllFit, IsAccepted, Trace, limits_of}
use Rattle.psi_spec.specs.World.{Limits, World, after, after_event, after_from, first_world}
use Rattle.proc_plan.specs.Plans.{HasTaken, PlannerView, PlansView, RepresentTaken}
use Rattle.ruleset_json.specs.declared.types.Rule.{Rule}
use Rattle.run_spec.specs.declared.command.Command.{Command}
use Rattle.run_spec.specs.declared.command.Command.TheVariants as words
use Rattle.run_spec.specs.declared.command.Shape.{Shape}
use Rattle.run_spec.specs.declared.status.Status.{Status}
use Rattle.run_spec.specs.declared.status.Status.TheVariants as status
use Rattle.run_spec.specs.declared.status.Which.{Which}
use Rattle.run_spec.specs.declared.status.Which.TheVariants.{DropInFile, ImportFile, RulesFile, TraceFile}
use Rattle.run_spec.specs.Generated.{generated}
use Rattle.kill_spec.specs.Detectors.{of_seconds}
use Rattle.run_spec.specs.Outputs.{IsOutput, drop_in_name, file_of, outcome_of, timing_of, rules_name, source_name, source_of, stress_options, tick_length, versions_of}
use Rattle.run_spec.specs.Run.{IsThere, ReadsFiles, RunCounts, Runs, TakesTrace}
use Rattle.run_spec.specs.LegalCommand.{IsShape, IsWithin}
use Rattle.replay_rules.specs.Planned.{IsPlanned}
use Rattle.trace_gen.proofs.Accepting.{generated_is_trace}
use Rattle.run_spec.specs.Replay.{Timing, group_report, last_line, root_group, stress_text, tick_count, with_rules}
use Rattle.replay_ticks.specs.Replays.{IsReplay, Passes, ReplayView}
use Rattle.run_outcomes.specs.Writes.{WritesText}
use Rattle.run_outcomes.proofs.Planned.{planned}
use Rattle.run_outcomes.proofs.RunLaws.{counts_written, is_named, no_events, stays, takes_events}

-- ---- the events of a generated trace, one by one

-- Each event of a list whose events can all be written as lines can be written as a line.
pub next_fits : (played : List Event) (event : Event) (left : List Event)
    → AllFit (played ++ event ∷ left) → Fits event
next_fits [] event left fit = fit.0
next_fits (first ∷ played) event left fit = next_fits played event left fit.1

-- Each event of a legal trace is legal after the events before it.
pub next_legal : (limits : Limits) (w : World) (played : List Event) (event : Event) (left : List Event)
    → AreLegal limits w (played ++ event ∷ left) → cause_of limits (after_from w played) event ≡ None
next_legal limits w [] event left legal = legal.0
next_legal limits w (first ∷ played) event left legal =
    next_legal limits (after_event w first) played event left legal.1

-- Moving an event from the remaining events to the played events doesn't change the whole list.
pub one_more : (played left rest all : List Event) (event : Event) → played ++ left ≡ all
    → left ≡ event ∷ rest → (played ++ event ∷ []) ++ rest ≡ all
one_more played left rest all event split is =
    append_assoc played (event ∷ []) rest ∙ ap (λ xs. played ++ xs) (sym is) ∙ split

-- The planner has taken the events of the generated trace except `left`, the remaining events.
pub record HasPlayed (shape : Shape) (planner : PlannerView) (left : List Event) : Type 0 where
  pub played : List Event
  pub taken : HasTaken planner (limits_of (of_seconds 2) shape.cpus) played
  pub split : played ++ left ≡ (generated shape).events

-- The events of a generated trace are the played events, the next event and the rest.
whole : (shape : Shape) (planner : PlannerView) (left rest : List Event) (event : Event)
    → (so : HasPlayed shape planner left) → left ≡ event ∷ rest
    → (generated shape).events ≡ so.played ++ event ∷ rest
whole shape planner left rest event so split = sym so.split ∙ ap (λ xs. so.played ++ xs) split

-- The next event of a generated trace can be written as a line.
pub next_can : (shape : Shape) (planner : PlannerView) (left rest : List Event) (event : Event)
    → IsShape shape → HasPlayed shape planner left → left ≡ event ∷ rest → Fits event
next_can shape planner left rest event is so split =
    next_fits so.played event rest
    (subst AllFit (whole shape planner left rest event so split) (generated_is_trace shape is).accepted.fit)

-- The next event of a generated trace is legal after the events that the planner has taken.
pub next_may : (shape : Shape) (planner : PlannerView) (left rest : List Event) (event : Event)
    → IsShape shape → HasPlayed shape planner left → left ≡ event ∷ rest
    → (limits : Limits) × (events : List Event) × HasTaken planner limits events
    × (cause_of limits (after events) event ≡ None)
next_may shape planner left rest event is so split =
    let limits = limits_of (of_seconds 2) shape.cpus in (
      limits,
      so.played,
      so.taken,
      next_legal limits first_world so.played event rest
          (subst (AreLegal limits first_world) (whole shape planner left rest event so split)
          (generated_is_trace shape is).accepted.legal),
    )

-- After the planner takes the next event, it has taken all events except the rest.
pub next_taken : (shape : Shape) (old new : PlannerView) (left rest : List Event) (event : Event)
    → HasPlayed shape old left → left ≡ event ∷ rest
    → ((limits : Limits) (events : List Event) → HasTaken old limits events
    → HasTaken new limits (events ++ event ∷ []))
    → HasPlayed shape new rest
next_taken shape old new left rest event played split takes = record {
  played = played.played ++ event ∷ [];
  taken = takes (limits_of (of_seconds 2) shape.cpus) played.played played.taken;
  split = one_more played.played left rest (generated shape).events event played.split split;
}

-- ---- a replay that writes only its end

-- A replay without rules has made some ticks. `ticked` says whether it has made at least one.
pub record HasPassed (replay : ReplayView) (trace : Trace) (timing : Timing) (ticked : Bool) : Type 0 where
  pub is : IsReplay replay trace timing [] replay.made
  pub some : ticked ≡ true → 0 < replay.made
  pub none : ticked ≡ false → replay.made ≡ 0

-- A replay before its first tick has made no tick.
pub none_passed : (replay : ReplayView) (trace : Trace) (timing : Timing)
    → IsReplay replay trace timing [] 0 → HasPassed replay trace timing false
none_passed replay trace timing is = record {
  is = subst (IsReplay replay trace timing []) (sym is.made) is;
  some = λ other. absurd (true≢false (sym other));
  none = λ _. is.made;
}

-- After one more tick, the replay has made at least one tick.
pub passed_more : (old new : ReplayView) (trace : Trace) (timing : Timing) (ticked : Bool)
    → HasPassed old trace timing ticked → Passes trace timing [] old.made old new true
    → HasPassed new trace timing true
passed_more old new trace timing ticked so maybe_rules = record {
  is = subst (IsReplay new trace timing []) (sym maybe_rules.1.made) maybe_rules.1;
  some = λ _. omega (arith, maybe_rules.1.made);
  none = λ other. absurd (true≢false other);
}

-- After one more tick, fewer ticks remain.
pub fewer_to_pass : (old new : ReplayView) (trace : Trace) (timing : Timing) (ticked : Bool)
    → HasPassed old trace timing ticked → Passes trace timing [] old.made old new true
    → new.run_timing.last - new.made < old.run_timing.last - old.made
fewer_to_pass old new trace timing ticked so maybe_rules =
    omega (arith, maybe_rules.0, maybe_rules.1.made, maybe_rules.1.paced.last, so.is.paced.last)

if_some : {A : Type 0} (n : ℕ) (x y : A) → 0 < n → (if n == 0 then x else y) ≡ y
if_some n x y some =
    let not : (n == 0) ≡ false = grind (arith, some) in
    rw not refl

if_none : {A : Type 0} (n : ℕ) (x y : A) → n ≡ 0 → (if n == 0 then x else y) ≡ x
if_none n x y none = rw none refl

-- If the trace has a tick, the output of `stress` is the report on the root at the last tick and
-- the last line.
pub stress_some : (trace : Trace) (timing : Timing) → 0 < tick_count trace timing
    → stress_text trace timing
    ≡ group_report trace timing (tick_count trace timing) root_group ++ last_line trace timing (with_rules [])
stress_some trace timing some =
    ap (λ xs. xs ++ last_line trace timing (with_rules []))
    (if_some (tick_count trace timing) [] (group_report trace timing (tick_count trace timing) root_group) some)

-- If the trace has no tick, the output of `stress` is the last line.
pub stress_none : (trace : Trace) (timing : Timing) → tick_count trace timing ≡ 0
    → stress_text trace timing ≡ last_line trace timing (with_rules [])
stress_none trace timing none =
    ap (λ xs. xs ++ last_line trace timing (with_rules []))
    (if_none (tick_count trace timing) [] (group_report trace timing (tick_count trace timing) root_group) none)

-- If no tick remains, the replay has made all ticks.
pub all_passed : (old new : ReplayView) (trace : Trace) (timing : Timing) (ticked : Bool)
    → HasPassed old trace timing ticked → Passes trace timing [] old.made old new false
    → IsReplay new trace timing [] (tick_count trace timing) × (new.made ≡ tick_count trace timing)
all_passed old new trace timing ticked so maybe_rules = (
  subst (IsReplay new trace timing []) maybe_rules.0
      (subst (λ r. IsReplay r trace timing [] old.made) (sym maybe_rules.1) so.is),
  ap (λ (r : ReplayView). r.made) maybe_rules.1 ∙ maybe_rules.0,
)

-- If no tick remains and at least one was made, the replay has made all ticks, and the trace has a
-- tick.
pub end_made : (old new : ReplayView) (trace : Trace) (timing : Timing) (ticked left : Bool)
    → HasPassed old trace timing ticked → ticked ≡ true → left ≡ false
    → Passes trace timing [] old.made old new left
    → IsReplay new trace timing [] (tick_count trace timing) × (0 < tick_count trace timing)
end_made old new trace timing false left so some over maybe_rules = absurd (true≢false (sym some))
end_made old new trace timing true true so some over maybe_rules = absurd (true≢false over)
end_made old new trace timing true false so some over maybe_rules =
    let all = all_passed old new trace timing true so maybe_rules in
    (all.0, omega (arith, so.some refl, maybe_rules.0))

-- If no tick remains and none was made, the trace has no tick.
pub none_made : (old new : ReplayView) (trace : Trace) (timing : Timing) (ticked left : Bool)
    → HasPassed old trace timing ticked → ticked ≡ false → left ≡ false
    → Passes trace timing [] old.made old new left
    → IsReplay new trace timing [] (tick_count trace timing) × (tick_count trace timing ≡ 0)
none_made old new trace timing true left so none over maybe_rules = absurd (true≢false none)
none_made old new trace timing false true so none over maybe_rules = absurd (true≢false over)
none_made old new trace timing false false so none over maybe_rules =
    let all = all_passed old new trace timing false so maybe_rules in
    (all.0, sym maybe_rules.0 ∙ so.none refl)

-- The plans of a generated trace may be replayed with the options of `stress`.
pub planned_generated : (planner : PlannerView) (plans : PlansView) (shape : Shape) (workers : ℕ)
    → IsShape shape → IsWithin 1 64 workers
    → HasTaken planner (limits_of (of_seconds 2) shape.cpus) (generated shape).events
    → RepresentTaken planner plans
    → IsPlanned plans (generated shape) (timing_of (stress_options workers))
planned_generated planner plans shape workers is within taken represents =
    planned One planner plans (stress_options workers) (limits_of (of_seconds 2) shape.cpus) (generated shape).events
    (record {
      taken = taken;
      ended = (generated_is_trace shape is).accepted;
      latest = refl;
      some = omega arith;
      short = omega arith;
      interval = omega arith;
      often = omega arith;
      workers = within;
    })
    represents

-- ---- a command that reads no file

-- A command that reads no trace takes the trace that is generated.
pub takes_generated : (command : Command) (shape : Shape) (files : Option Files)
    → source_name command ≡ None → versions_of command ≡ One ∷ [] → tick_length command ≡ of_seconds 2 → IsShape shape
    → TakesTrace command files (generated shape)
takes_generated command shape files unnamed first tick is =
    let traced = generated_is_trace shape is in record {
      version = subst (IsAmong One) (sym first) (inl refl);
      cpus = traced.cpus;
      known = traced.known;
      accepted = subst (λ n. IsAccepted (limits_of n shape.cpus) (generated shape).events) (sym tick) traced.accepted;
      read = λ bytes known. absurd (let no : ⊥ = cc (unnamed, known.1) in no);
    }

-- A file that the command doesn't name isn't known to be missing.
not_named : (command : Command) (files : Option Files) (which : Which) → file_of command which ≡ None → IsThere command files which
not_named command files which none = λ name is lacks. cc (none, is)

-- The run of a command that wrote the text of a generated trace keeps the general contract.
pub runs_generated : (command : Command) (files : Option Files) (before now : RunCounts)
    (had has : Option (List ℕ)) (trace : Trace) (text : List ℕ) (result : Status)
    → source_name command ≡ None → rules_name command ≡ None → drop_in_name command ≡ None
    → TakesTrace command files trace → IsOutput command trace [] text → now.shelf ≡ before.shelf
    → WritesText text before.writes now.writes had has result
    → Runs command files before now had has result
runs_generated command files before now had has trace text status.Done unnamed unruled alone takes output shelf wrote = record {
  ends = (
    trace,
    [],
    λ _. takes,
    takes_events command None None files [] unruled alone (no_events files),
    (not_named command files RulesFile unruled, not_named command files DropInFile alone),
    not_named command files (source_of command) unnamed,
    (text, output, wrote.0),
  );
  counts = counts_written before now status.Done (ap (λ s. s.faults) shelf) (ap (λ s. s.absent) shelf)
      (λ is. cc is) (λ is. cc is.1) (stays _ before.writes now.writes (λ is. cc is) wrote.1);
}
runs_generated command files before now had has trace text status.WriteFault unnamed unruled alone takes output shelf wrote = record {
  ends = (
    trace,
    [],
    λ _. takes,
    takes_events command None None files [] unruled alone (no_events files),
    (not_named command files RulesFile unruled, not_named command files DropInFile alone),
    not_named command files (source_of command) unnamed,
    (text, output, wrote.0),
  );
  counts = counts_written before now status.WriteFault (ap (λ s. s.faults) shelf) (ap (λ s. s.absent) shelf)
      (λ is. cc is) (λ is. cc is.1) (record { increased = λ _. wrote.1; same = λ not. absurd (not refl) });
}
runs_generated command files before now had has trace text (status.NoMemory _) unnamed unruled alone takes output shelf wrote = record {
  ends = wrote.0;
  counts = counts_written before now (status.NoMemory no_memory) (ap (λ s. s.faults) shelf) (ap (λ s. s.absent) shelf)
      (λ is. cc is) (λ is. cc is.1) (stays _ before.writes now.writes (λ is. cc is) wrote.1);
}
runs_generated command files before now had has trace text _ unnamed unruled alone takes output shelf wrote = absurd wrote

-- A command with the status TooLarge reads a trace.
pub outgrown_reads : (command : Command) (trace : Trace) (rules : List Rule) (events : ℕ) → outcome_of command trace rules ≡ status.TooLarge events → IsSome (file_of command TraceFile)
outgrown_reads (words.Whatif name options) trace rules events is = refl
outgrown_reads (words.Stall name) trace rules events is = absurd (let no : ⊥ = cc is in no)
outgrown_reads (words.Check name tick_ms) trace rules events is = absurd (let no : ⊥ = cc is in no)
outgrown_reads (words.Replay name options) trace rules events is = absurd (let no : ⊥ = cc is in no)
outgrown_reads (words.Gen shape) trace rules events is = absurd (let no : ⊥ = cc is in no)
outgrown_reads (words.Stress shape workers) trace rules events is = absurd (let no : ⊥ = cc is in no)
outgrown_reads (words.Import file cpus) trace rules events is = absurd (let no : ⊥ = cc is in no)
outgrown_reads (words.Rules file drop_in) trace rules events is = absurd (let no : ⊥ = cc is in no)

-- A run that reads no files ends with Done, unless a write failed or memory ran out.
pub makes : (command : Command) (files : Option Files) (before now : RunCounts)
    (had has : Option (List ℕ)) (result : Status) → Runs command files before now had has result
    → (ReadsFiles command → ⊥)
    → (Increased before.writes now.writes → ⊥) → (result ≡ status.Done) ⊎ (result ≡ status.NoMemory no_memory)
makes command files before now had has status.Done runs none writes = inl refl
makes command files before now had has (status.NoMemory _) runs none writes = inr refl
makes command files before now had has status.WriteFault runs none writes =
    absurd (writes (runs.counts.writes.increased refl))
makes command files before now had has status.ReadFault runs none writes = absurd (none runs.ends.1)
makes command files before now had has status.Usage runs none writes = absurd runs.ends
makes command files before now had has (status.Rules fault) runs none writes =
    absurd (none (RulesFile, is_named command RulesFile runs.ends.2.0 runs.ends.2.1))
makes command files before now had has (status.DropIn fault) runs none writes = absurd (none (DropInFile, runs.ends.1))
makes command files before now had has (status.Trace line why) runs none writes = absurd (none (TraceFile, runs.ends.1))
makes command files before now had has (status.Import line why) runs none writes = absurd (none (ImportFile, runs.ends.1))
makes command files before now had has (status.TooLarge events) runs none writes =
    absurd (none (TraceFile, outgrown_reads command runs.ends.1.trace runs.ends.1.rules events runs.ends.1.outcome))
makes command files before now had has (status.NoFile which) runs none writes =
    absurd (none (which, is_named command which runs.ends.2.0 runs.ends.2.1))
