-- Laws of the output of `replay`, tick by tick: what was written after each tick, and after a
-- failed write.
use Rattle.std.proofs.Common.{◌≡◌, ℕ, ◌+◌, ◌-◌, ◌<◌, List, [], ◌++◌, refl, sym, ◌∙◌, subst, arith, append_assoc, true, false}
use Rattle.std.specs.Prelude.{Option, None, Some, Result, Ok, Err}
use Rattle.std.specs.Io.KnownBytes.{Appends, Keeps}
use Rattle.outside.proofs.Grows.{Appends-none, Appends-then, AppendsPrefix-then}
use Rattle.outside.specs.Outside.{AppendsPrefix}
use Rattle.outside.specs.Calls.{PutsAll}
use Rattle.psi_base.specs.declared.event.Event.{Event}
use Rattle.psi_spec.specs.Grammar.{Version}
use Rattle.psi_spec.specs.Trace.{Trace, limits_of}
use Rattle.pressure_spec.specs.Ticks.{tick_moment}
use Rattle.psi_spec.specs.World.{Limits}
use Rattle.proc_plan.specs.Plans.{PlannerView, PlansView}
use Rattle.run_spec.specs.Outputs.{timing_of}
use Rattle.run_spec.specs.declared.command.Options.{Options}
use Rattle.ruleset_json.specs.declared.types.Rule.{Rule}
use Rattle.run_spec.specs.Replay.{IsReplayText, Timing, last_line, tick_count, with_rules}
use Rattle.run_laws.specs.Live.{AreTickTexts}
use Rattle.run_laws.proofs.LiveTexts.{no_text_at_first, one_text_more, texts_go_on, whole_text}
use Rattle.replay_rules.specs.Planned.{IsPlanned}
use Rattle.replay_ticks.specs.Replays.{IsReplay, ReplayView, TickGives, tick_lines, watches_text}
use Rattle.replay_ticks.specs.declared.replay.TickFault.{TickFault}
use Rattle.trace_file.specs.Reads.{trace_with}
use Rattle.run_outcomes.specs.Writes.{IsToReplay, PutsSome}
use Rattle.replay_ticks.proofs.Pieces.{puts_then}

-- The replay has made some ticks, and exactly the lines of these ticks were written.
pub record TickedTo (replay : ReplayView) (trace : Trace) (timing : Timing) (rules : List Rule) (had has : Option (List ℕ)) : Type 0 where
  pub is : IsReplay replay trace timing rules replay.made
  pub text : List ℕ
  pub lines : AreTickTexts trace timing rules replay.made text
  pub sent : Appends had has text

-- Before the first tick, nothing was written.
pub none_ticked : (replay : ReplayView) (trace : Trace) (timing : Timing) (rules : List Rule) (had : Option (List ℕ)) → IsReplay replay trace timing rules 0 → TickedTo replay trace timing rules had had
none_ticked replay trace timing rules had is = record {
  is = subst (IsReplay replay trace timing rules) (sym is.made) is;
  text = [];
  lines = subst (λ k. AreTickTexts trace timing rules k []) (sym is.made) (no_text_at_first trace timing rules);
  sent = Appends-none had;
}

-- The lines of the ticks made so far, followed by the lines of the next tick, are the lines of one
-- more tick.
more_lines : (old new : ReplayView) (trace : Trace) (timing : Timing) (rules : List Rule) (had mid has : Option (List ℕ)) → (so : TickedTo old trace timing rules had mid) → TickGives trace timing rules old.made old new mid has (Ok true)
    → AreTickTexts trace timing rules (old.made + 1) (so.text ++ tick_lines trace timing rules (old.made + 1) (watches_text (tick_moment timing.length (old.made + 1)) trace.cpus new.crew.watches))
more_lines old new trace timing rules had mid has so maybe_rules =
    let live = watches_text (tick_moment timing.length (old.made + 1)) trace.cpus new.crew.watches in
    one_text_more trace timing rules old.made so.text (tick_lines trace timing rules (old.made + 1) live) so.lines (live, maybe_rules.2.text, refl)

-- After one more tick, the lines of this tick were also written.
pub tick_more : (old new : ReplayView) (trace : Trace) (timing : Timing) (rules : List Rule) (had mid has : Option (List ℕ)) → TickedTo old trace timing rules had mid → TickGives trace timing rules old.made old new mid has (Ok true) → TickedTo new trace timing rules had has
tick_more old new trace timing rules had mid has so maybe_rules =
    let made : old.made + 1 ≡ new.made = sym maybe_rules.1.made in
    let line = tick_lines trace timing rules (old.made + 1) (watches_text (tick_moment timing.length (old.made + 1)) trace.cpus new.crew.watches) in
    record {
      is = subst (IsReplay new trace timing rules) made maybe_rules.1;
      text = so.text ++ line;
      lines = subst (λ k. AreTickTexts trace timing rules k (so.text ++ line)) made (more_lines old new trace timing rules had mid has so maybe_rules);
      sent = Appends-then had mid has so.text line so.sent maybe_rules.3;
    }

-- After one more tick, fewer ticks remain.
pub fewer_left : (old new : ReplayView) (trace : Trace) (timing : Timing) (rules : List Rule) (had mid has : Option (List ℕ)) → TickedTo old trace timing rules had mid → TickGives trace timing rules old.made old new mid has (Ok true) → new.run_timing.last - new.made < old.run_timing.last - old.made
fewer_left old new trace timing rules had mid has so maybe_rules = omega (arith, maybe_rules.0, maybe_rules.1.made, maybe_rules.1.paced.last, so.is.paced.last)

appends_kept : (had mid has : Option (List ℕ)) (bytes : List ℕ) → Appends had mid bytes → Keeps mid has → Appends had has bytes
appends_kept None mid has bytes sent kept = tt
appends_kept (Some had) None has bytes sent kept = absurd sent
appends_kept (Some had) (Some mid) None bytes sent kept = absurd kept
appends_kept (Some had) (Some mid) (Some has) bytes sent kept = kept ∙ sent

-- If no tick remains, the text with the last line appended is an output of the replay.
pub last_ticked : {T E : Type 0} → (old new : ReplayView) (trace : Trace) (timing : Timing) (rules : List Rule) (had mid has now : Option (List ℕ)) (result : Result T E) → TickedTo old trace timing rules had mid → TickGives trace timing rules old.made old new mid has (Ok false)
    → PutsAll has now result (last_line trace timing (with_rules rules)) → PutsSome (IsReplayText trace timing rules) had now result
last_ticked old new trace timing rules had mid has now result so maybe_rules last = (
  so.text ++ last_line trace timing (with_rules rules),
  whole_text trace timing rules so.text (subst (λ k. AreTickTexts trace timing rules k so.text) maybe_rules.0 so.lines),
  puts_then had has now result so.text (last_line trace timing (with_rules rules)) (appends_kept had mid has so.text so.sent maybe_rules.1) last,
)

-- After the last tick, the replay has made all ticks.
pub whole_ticked : (old new : ReplayView) (trace : Trace) (timing : Timing) (rules : List Rule) (i : ℕ) (mid has : Option (List ℕ)) → TickGives trace timing rules i old new mid has (Ok false) → IsReplay new trace timing rules (tick_count trace timing)
whole_ticked old new trace timing rules i mid has maybe_rules = subst (IsReplay new trace timing rules) maybe_rules.0 maybe_rules.2

-- If writing the lines of a tick failed, a prefix of an output of the replay was written.
pub tick_failed : (old new : ReplayView) (trace : Trace) (timing : Timing) (rules : List Rule) (had mid has : Option (List ℕ)) (fault : TickFault) → TickedTo old trace timing rules had mid → TickGives trace timing rules old.made old new mid has (Err fault)
    → (text : List ℕ) × IsReplayText trace timing rules text × AppendsPrefix had has text
tick_failed old new trace timing rules had mid has fault so maybe_rules =
    let live = maybe_rules.1 in
    let line = tick_lines trace timing rules (old.made + 1) live.0 in
    let lines = one_text_more trace timing rules old.made so.text line so.lines (live.0, live.1, refl) in
    let left = maybe_rules.0 in
    let rest = texts_go_on (limits_of timing.length trace.cpus) trace timing rules (old.made + 1) (so.text ++ line) so.is.planned.accepted.legal (omega (arith, left)) lines in (
      (so.text ++ line) ++ rest.0,
      rest.1,
      subst (AppendsPrefix had has) (sym (append_assoc so.text line rest.0)) (AppendsPrefix-then had mid has so.text line rest.0 so.sent live.2),
    )

-- The replay of a planned trace has at least one output.
pub planned_text : (plans : PlansView) (trace : Trace) (timing : Timing) (rules : List Rule) → IsPlanned plans trace timing → (text : List ℕ) × IsReplayText trace timing rules text
planned_text plans trace timing rules is =
    let rest = texts_go_on (limits_of timing.length trace.cpus) trace timing rules 0 [] is.accepted.legal (omega arith) (no_text_at_first trace timing rules) in
    ([] ++ rest.0, rest.1)

-- The replay of a trace that satisfies `IsToReplay` has at least one output.
pub some_text : (version : Version) (planner : PlannerView) (options : Options) (limits : Limits) (events : List Event) (rules : List Rule) → IsToReplay planner options limits events → (text : List ℕ) × IsReplayText (trace_with version limits.cpus events) (timing_of options) rules text
some_text version planner options limits events rules is =
    let trace = trace_with version limits.cpus events in
    let timing = timing_of options in
    let rest = texts_go_on limits trace timing rules 0 [] is.ended.legal (omega arith) (no_text_at_first trace timing rules) in
    ([] ++ rest.0, rest.1)
