-- Proves that the lines written at a tick are the specified lines.
use Rattle.std.proofs.Common.{◌≡◌, ℕ, suc, ◌+◌, ◌-◌, ◌<◌, List, [], ◌∷◌, ◌++◌, length, refl, sym, ap, subst, ◌∙◌, append_assoc, arith, Bool, true, false}
use Rattle.std.specs.Prelude.{All, Option, Result, if◌then◌else◌}
use Rattle.std.specs.Io.KnownBytes.{Appends}
use Rattle.std.specs.List.{flat_map, range_with_len}
use Rattle.std.proofs.lemmas.List.{get_or-map, length-map}
use Rattle.std.proofs.lemmas.List.Elements.{All-filter}
use Rattle.std.proofs.lemmas.List.FromFn.{get_or-range_with_len, length-range_with_len}
use Rattle.std.proofs.lemmas.List.Sorted.{All-permutation}
use Rattle.outside.specs.Outside.{AppendsPrefix}
use Rattle.outside.specs.Calls.{PutsAll}
use Rattle.psi_base.specs.declared.event.Slot.{Slot}
use Rattle.psi_base.specs.declared.event.TriggerSpec.{TriggerSpec}
use Rattle.psi_spec.specs.declared.machine.GroupLife.{GroupLife}
use Rattle.psi_spec.specs.Grammar.{Version}
use Rattle.psi_spec.specs.Header.{version_of}
use Rattle.psi_spec.specs.LegalGroups.{IsPathOrder}
use Rattle.psi_spec.specs.Collected.{triggers_of}
use Rattle.psi_spec.specs.Trace.{Trace, limits_of}
use Rattle.pressure_spec.specs.Average.{AverageState}
use Rattle.pressure_spec.specs.Ticks.{Tick, is_report, tick_moment, tick_of, ticks_of}
use Rattle.pressure_spec.specs.Samples.{fired_at, fires_by_number}
use Rattle.ruleset_json.specs.declared.types.Rule.{Rule}
use Rattle.kill_spec.specs.declared.kill.Kill.{Kill}
use Rattle.run_spec.specs.Replay.{Timing, fired_in, kill_lines, kills_in, lives_of, reports, signal_lines, tick_count, tick_text, with_rules}
use Rattle.run_laws.specs.Reports.{average_state_at, slot_report, slot_reports, totals_at}
use Rattle.run_laws.proofs.OneMore.{ticks_more}
use Rattle.run_laws.proofs.ByOrder.{reports_by_order}
use Rattle.proc_plan.specs.Plans.{PlansView}
use Rattle.tick_engine.specs.Engine.{EngineView, averages_in, totals_in}
use Rattle.tick_engine.specs.declared.group.Group.{Group}
use Rattle.replay_ticks.specs.declared.run_timing.RunTiming.{RunTiming}
use Rattle.group_tree.specs.Tree.{numbers_of}
use Rattle.replay_rules.specs.Planned.{HasTicked, IsPlanned}
use Rattle.replay_ticks.specs.Replays.{IsPaced, IsToPut, due_text, tick_lines}
use Rattle.replay_ticks.proofs.Pieces.{prefix_of_both, prefix_then, puts_then}
use Rattle.replay_ticks.proofs.StartLaws.{triggers_within}

-- ---- bounds

-- Each number in the range from 0 to n is below n.
pub range_below : (n : ℕ) → All (λ k. k < n) (range_with_len 0 n)
range_below n = λ k d below.
    let inside : k < n = omega (arith, below, length-range_with_len 0 n) in
    omega (arith, inside, get_or-range_with_len 0 n k d inside)

-- The indexes of the triggers that fire are indexes of existing triggers.
fired_below : (cpus : ℕ) (lives : List GroupLife) (triggers : List TriggerSpec) (ticks : List Tick) (tick : Tick) → All (λ number. number < length triggers) (fired_at cpus lives triggers ticks tick)
unfolding fired_at
fired_below cpus lives triggers ticks tick =
    All-filter (fires_by_number cpus lives triggers ticks tick) (λ number. number < length triggers) (range_with_len 0 (length triggers)) (range_below (length triggers))

-- A path order of all slots has only existing slots.
pub order_below : (lives : List GroupLife) (order : List ℕ) → IsPathOrder lives order → All (λ slot. slot < length lives) order
order_below lives order is = All-permutation (λ slot. slot < length lives) (range_with_len 0 (length lives)) order is.each (range_below (length lives))

-- A bound on slots as numbers is also a bound on values of type `Slot`.
slots_below : (n : ℕ) (slots : List Slot) → All (λ slot. slot < n) (numbers_of slots) → All (λ (slot : Slot). slot.0 < n) slots
slots_below n slots all = λ k d below.
    let number : Slot → ℕ = λ (slot : Slot). slot.0 in
    subst (λ s. s < n) (get_or-map number slots k d 0 below) (all k 0 (omega (arith, below, length-map slots number)))

pub order_made : (lives : List GroupLife) (slots : List Slot) → IsPathOrder lives (numbers_of slots) → All (λ (slot : Slot). slot.0 < length lives) slots
order_made lives slots is = slots_below (length lives) slots (order_below lives (numbers_of slots) is)

-- Each trigger watches an existing group.
pub triggers_made : (plans : PlansView) (trace : Trace) (timing : Timing) → IsPlanned plans trace timing → All (λ (trigger : TriggerSpec). trigger.slot.0 < length plans.lives) plans.triggers
triggers_made plans trace timing planned = λ k d below. ((triggers_within plans trace timing planned).each k d below).slot

-- ---- signals

-- The engine has the triggers that fire at the last tick.
pub fired_is : (engine : EngineView) (trace : Trace) (timing : Timing) (number : ℕ) → 0 < number → HasTicked engine trace timing number → engine.fired ≡ fired_in trace timing number
fired_is engine trace timing number some stands =
    let back : number - 1 + 1 ≡ number = omega (arith, some) in
    let prefix = ticks_of trace.cpus trace.events timing.length (number - 1) in
    stands.fired prefix (tick_of trace.cpus trace.events timing.length number)
    (subst (λ n. ticks_of trace.cpus trace.events timing.length n ≡ prefix ++ tick_of trace.cpus trace.events timing.length n ∷ []) back (ticks_more trace.cpus trace.events timing.length (number - 1)))

-- The indexes of the triggers that fired are indexes of existing triggers.
pub fired_made : (plans : PlansView) (engine : EngineView) (trace : Trace) (timing : Timing) (number : ℕ) → IsPlanned plans trace timing → 0 < number → HasTicked engine trace timing number → All (λ number. number < length plans.triggers) engine.fired
fired_made plans engine trace timing number planned some stands =
    rw (fired_is engine trace timing number some stands, planned.represents.triggers)
    (fired_below trace.cpus (lives_of trace) (triggers_of trace.events) (ticks_of trace.cpus trace.events timing.length (number - 1)) (tick_of trace.cpus trace.events timing.length number))

-- The lines of the triggers that fire at a tick.
abbrev pub signals_text : Trace → Timing → ℕ → List ℕ
signals_text trace timing number = signal_lines (tick_moment timing.length number) (lives_of trace) (triggers_of trace.events) (fired_in trace timing number)

pub signals_are : (plans : PlansView) (engine : EngineView) (order : List Slot) (run_timing : RunTiming) (trace : Trace) (timing : Timing) (number at : ℕ) →
    IsToPut plans engine order run_timing trace timing number at → signal_lines at plans.lives plans.triggers engine.fired ≡ signals_text trace timing number
signals_are plans engine order run_timing trace timing number at is =
    rw (is.at_is, is.planned.represents.lives, is.planned.represents.triggers, fired_is engine trace timing number is.some is.ticked) refl

-- ---- reports

-- Two functions that agree below a bound give the same concatenated text for numbers below the
-- bound.
same_pieces : (f g : ℕ → List ℕ) (n : ℕ) (xs : List ℕ) → ((x : ℕ) → x < n → f x ≡ g x) → All (λ x. x < n) xs → flat_map f xs ≡ flat_map g xs
same_pieces f g n [] same below = refl
same_pieces f g n (x ∷ xs) same below =
    let first : x < n = below 0 x (omega arith) in
    let rest = same_pieces f g n xs same (λ k d inside. below (suc k) d (omega (arith, inside))) in
    ap (λ t. t ++ flat_map f xs) (same x first) ∙ ap (λ t. g x ++ t) rest

report_same : (version : Version) (at : ℕ) (lives : List GroupLife) (t u : ℕ → List ℕ) (a b : ℕ → AverageState) (slot : ℕ) → t slot ≡ u slot → a slot ≡ b slot → slot_report version at lives t a slot ≡ slot_report version at lives u b slot
report_same version at lives t u a b slot totals averages = rw (totals, averages) refl

-- The reports made from an engine after some ticks are the reports at the last of these ticks.
pub reports_are : (plans : PlansView) (engine : EngineView) (order : List Slot) (run_timing : RunTiming) (trace : Trace) (timing : Timing) (number at : ℕ) →
    IsToPut plans engine order run_timing trace timing number at →
    slot_reports (version_of run_timing.version) at plans.lives (totals_in engine) (averages_in engine) (numbers_of order) ≡ reports trace timing number
reports_are plans engine order run_timing trace timing number at is =
    let moment = tick_moment timing.length number in
    let lives = lives_of trace in
    let ordered : IsPathOrder lives (numbers_of order) = subst (λ lives. IsPathOrder lives (numbers_of order)) is.planned.represents.lives is.by_path in
    let same : (slot : ℕ) → slot < length lives → slot_report trace.version moment lives (totals_in engine) (averages_in engine) slot ≡ slot_report trace.version moment lives (totals_at trace timing number) (average_state_at trace timing number) slot = λ slot below.
    report_same trace.version moment lives (totals_in engine) (totals_at trace timing number) (averages_in engine) (average_state_at trace timing number) slot
    (ap (λ (group : Group). group.totals) (is.ticked.groups slot below)) (ap (λ (group : Group). group.averages) (is.ticked.groups slot below)) in
    ap (λ version. slot_reports version at plans.lives (totals_in engine) (averages_in engine) (numbers_of order)) is.paced.version
    ∙ ap (λ n. slot_reports trace.version n plans.lives (totals_in engine) (averages_in engine) (numbers_of order)) is.at_is
    ∙ ap (λ lives. slot_reports trace.version moment lives (totals_in engine) (averages_in engine) (numbers_of order)) is.planned.represents.lives
    ∙ same_pieces (slot_report trace.version moment lives (totals_in engine) (averages_in engine)) (slot_report trace.version moment lives (totals_at trace timing number) (average_state_at trace timing number)) (length lives) (numbers_of order) same (order_below lives (numbers_of order) ordered)
    ∙ sym (reports_by_order (limits_of timing.length trace.cpus) trace timing number (numbers_of order) is.planned.accepted.legal ordered)

-- ---- the whole text

-- The lines of the kills at a tick.
abbrev pub kills_text : Trace → Timing → List Rule → ℕ → List ℕ
kills_text trace timing rules number = kill_lines (lives_of trace) (kills_in trace timing rules number)

pub text_is : (trace : Trace) (timing : Timing) (rules : List Rule) (number : ℕ) →
    tick_text trace timing (with_rules rules) number ≡ signals_text trace timing number ++ (kills_text trace timing rules number ++ due_text trace timing number)
unfolding tick_text
text_is trace timing rules number = append_assoc (signals_text trace timing number) (kills_text trace timing rules number) (due_text trace timing number)

-- The lines of a tick are its `live` lines, followed by its other lines.
pub lines_split : (trace : Trace) (timing : Timing) (rules : List Rule) (number : ℕ) (live : List ℕ) → live ++ tick_text trace timing (with_rules rules) number ≡ tick_lines trace timing rules number live
unfolding tick_text
lines_split trace timing rules number live =
    let signals = signals_text trace timing number in
    let kills = kills_text trace timing rules number in
    sym (append_assoc live (signals ++ kills) (due_text trace timing number))
    ∙ ap (λ text. text ++ due_text trace timing number) (sym (append_assoc live signals kills))

due_true : (b : Bool) (text : List ℕ) → b ≡ true → (if b then text else []) ≡ text
due_true b text is = rw is refl

due_false : (b : Bool) (text : List ℕ) → b ≡ false → (if b then text else []) ≡ []
due_false b text is = rw is refl

paced_due : (run_timing : RunTiming) (trace : Trace) (timing : Timing) (number : ℕ) → IsPaced run_timing trace timing → is_report timing.report timing.length (tick_count trace timing) number ≡ is_report run_timing.report run_timing.length run_timing.last number
paced_due run_timing trace timing number paced = rw (paced.report, paced.length, paced.last) refl

-- If a report is due at a tick, the text of the reports is the specified text.
pub text_due : (run_timing : RunTiming) (trace : Trace) (timing : Timing) (number : ℕ) → IsPaced run_timing trace timing → is_report run_timing.report run_timing.length run_timing.last number ≡ true → due_text trace timing number ≡ reports trace timing number
text_due run_timing trace timing number paced due = due_true _ (reports trace timing number) (paced_due run_timing trace timing number paced ∙ due)

-- If no report is due at a tick, the text of the reports is empty.
pub text_plain : (run_timing : RunTiming) (trace : Trace) (timing : Timing) (number : ℕ) → IsPaced run_timing trace timing → is_report run_timing.report run_timing.length run_timing.last number ≡ false → due_text trace timing number ≡ []
text_plain run_timing trace timing number paced due = due_false _ (reports trace timing number) (paced_due run_timing trace timing number paced ∙ due)

-- ---- what is written

-- The written lines of triggers are the lines of the triggers that fire at the tick.
pub signals_put : (plans : PlansView) (engine : EngineView) (order : List Slot) (run_timing : RunTiming) (trace : Trace) (timing : Timing) (number at : ℕ) →
    IsToPut plans engine order run_timing trace timing number at → (lives : List GroupLife) (triggers : List TriggerSpec) (fired : List ℕ) →
    lives ≡ plans.lives → triggers ≡ plans.triggers → fired ≡ engine.fired → signal_lines at lives triggers fired ≡ signals_text trace timing number
signals_put plans engine order run_timing trace timing number at is lives triggers fired lives_are triggers_are fired_are =
    rw (lives_are, triggers_are, fired_are) (signals_are plans engine order run_timing trace timing number at is)

-- The written reports are the reports of the tick.
pub reports_put : (plans : PlansView) (engine : EngineView) (order : List Slot) (run_timing : RunTiming) (trace : Trace) (timing : Timing) (number at : ℕ) →
    IsToPut plans engine order run_timing trace timing number at → (lives : List GroupLife) → lives ≡ plans.lives →
    slot_reports (version_of run_timing.version) at lives (totals_in engine) (averages_in engine) (numbers_of order) ≡ reports trace timing number
reports_put plans engine order run_timing trace timing number at is lives lives_are =
    rw lives_are (reports_are plans engine order run_timing trace timing number at is)

-- The written lines of kills are the lines of the kills at the tick.
pub kills_put : (plans : PlansView) (trace : Trace) (timing : Timing) (rules : List Rule) (number : ℕ) → IsPlanned plans trace timing → (lives : List GroupLife) (killed : List Kill) →
    lives ≡ plans.lives → killed ≡ kills_in trace timing rules number → kill_lines lives killed ≡ kills_text trace timing rules number
kills_put plans trace timing rules number planned lives killed lives_are are = rw (lives_are ∙ planned.represents.lives, are) refl

-- A prefix of the triggers' lines is a prefix of the tick's text.
pub signals_prefix : (old new : Option (List ℕ)) (trace : Trace) (timing : Timing) (rules : List Rule) (number : ℕ) (signals : List ℕ) → signals ≡ signals_text trace timing number →
    AppendsPrefix old new signals → AppendsPrefix old new (tick_text trace timing (with_rules rules) number)
signals_prefix old new trace timing rules number signals same prefix =
    subst (AppendsPrefix old new) (sym (text_is trace timing rules number))
    (prefix_of_both old new (signals_text trace timing number) _ (subst (AppendsPrefix old new) same prefix))

-- The triggers' lines, followed by a prefix of the kills' lines, are a prefix of the tick's text.
pub kills_prefix : (old mid new : Option (List ℕ)) (trace : Trace) (timing : Timing) (rules : List Rule) (number : ℕ) (signals killed : List ℕ) → signals ≡ signals_text trace timing number → killed ≡ kills_text trace timing rules number →
    Appends old mid signals → AppendsPrefix mid new killed → AppendsPrefix old new (tick_text trace timing (with_rules rules) number)
kills_prefix old mid new trace timing rules number signals killed same also first prefix =
    subst (AppendsPrefix old new) (sym (text_is trace timing rules number))
    (prefix_then old mid new (signals_text trace timing number) _ (subst (Appends old mid) same first)
    (prefix_of_both mid new (kills_text trace timing rules number) (due_text trace timing number) (subst (AppendsPrefix mid new) also prefix)))

-- The triggers' lines, the kills' lines and the reports together are the tick's text.
pub all_put : {T E : Type 0} (old mid next new : Option (List ℕ)) (trace : Trace) (timing : Timing) (rules : List Rule) (number : ℕ) (signals killed : List ℕ) (result : Result T E) → signals ≡ signals_text trace timing number →
    killed ≡ kills_text trace timing rules number → Appends old mid signals → Appends mid next killed → PutsAll next new result (due_text trace timing number) → PutsAll old new result (tick_text trace timing (with_rules rules) number)
all_put old mid next new trace timing rules number signals killed result same also first second third =
    subst (PutsAll old new result) (sym (text_is trace timing rules number))
    (puts_then old mid new result (signals_text trace timing number) _ (subst (Appends old mid) same first)
    (puts_then mid next new result (kills_text trace timing rules number) (due_text trace timing number) (subst (Appends mid next) also second) third))
