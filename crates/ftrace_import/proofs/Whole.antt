-- Proofs about a whole import: its events can be written as trace lines and are legal in their
-- order, and the last one is the end.
use Rattle.std.proofs.Common.{◌≡◌, ℕ, ◌+◌, List, [], ◌∷◌, ◌++◌, refl, ap, ◌∙◌, sym, subst, arith, append_assoc, cond, true, false, Option, None, Some, inl, inr, length}
use Rattle.std.specs.Prelude.{nat_lt, Result, Ok, Err}
use Rattle.psi_base.specs.declared.event.Act.TheVariants as act
use Rattle.psi_base.specs.declared.event.Event.{Event}
use Rattle.psi_spec.specs.Trace.{EndsLast}
use Rattle.psi_spec.specs.World.{World, after_event, after_from}
use Rattle.task_table.proofs.CauseLaws.{first_of_act}
use Rattle.import_spec.specs.declared.cause.ImportCause.{ImportCause}
use Rattle.import_spec.specs.declared.cause.ImportCause.TheVariants as cause
use Rattle.import_spec.specs.declared.seen.Sighting.{Sighting}
use Rattle.import_spec.specs.Marked.{read_line}
use Rattle.import_spec.specs.Events.{LineEvents, Reached, line_events_at, events_read, events_of_line, unreached}
use Rattle.import_spec.specs.Import.{Refused, end_at, ends_or, events_followed, import_from, import_of, yield_of_line, or_refused_line, tail_cause}
use Rattle.psi_base.specs.Path.{parts_at}
use Rattle.ftrace_import.specs.Laws.{ImportedIsTrace, SwitchRunsNext, WakeupWakes, after_events, reached_by}
use Rattle.ftrace_import.specs.Stands.{Ends, IsSeen, IsUnderWay, Run, limits}
use Rattle.ftrace_import.proofs.Steps.{first_in}
use Rattle.ftrace_import.proofs.Sights.{line_seen, some_same}
use Rattle.ftrace_import.proofs.Lines.{Gives, gives, switch_runs, wakeup_wakes}

-- ---- legal events in sequence

-- Legal events, followed by legal events, are legal events.
pub run_on : (cpus : ℕ) (w : World) (xs ys : List Event) → Run cpus w xs → Run cpus (after_from w xs) ys → Run cpus w (xs ++ ys)
run_on cpus w [] ys prefix rest = rest
run_on cpus w (x ∷ xs) ys prefix rest =
    let inner : Run cpus (after_event w x) xs = record { fit = prefix.fit.1; known = prefix.known.1; legal = prefix.legal.1 } in
    let suffix = run_on cpus (after_event w x) xs ys inner rest in
    record { fit = (prefix.fit.0, suffix.fit); known = (prefix.known.0, suffix.known); legal = (prefix.legal.0, suffix.legal) }

-- A list that ends with the end still does so after other events are prepended.
pub ends_after : (xs ys : List Event) → EndsLast ys → EndsLast (xs ++ ys)
ends_after xs ys ends = (xs ++ ends.0, ends.1, ap (λ zs. xs ++ zs) ends.2 ∙ sym (append_assoc xs ends.0 (record { at = ends.1; act = act.End } ∷ [])))

-- The end of an import can be written as a trace line and is legal.
pub end_runs : (cpus : ℕ) (reached : Reached) → IsUnderWay cpus reached → Run cpus reached.world (end_at reached ∷ [])
end_runs cpus reached so =
    let early = so.early in
    let few = so.few in
    record {
      fit = (record { at = omega (arith, early); act = tt }, tt);
      known = (inr (inr (inr (inr (inr (inr (inr (inr (inr (inr (inr (inr (inr (inl refl))))))))))))), tt);
      legal = (first_of_act (limits cpus) reached.world (end_at reached) so.going so.forward so.early (omega (arith, few)), tt);
    }

-- ---- an import to its end

end_ends : (cpus : ℕ) (reached : Reached) → IsUnderWay cpus reached → Ends cpus reached.world (end_at reached ∷ [])
end_ends cpus reached so = record { run = end_runs cpus reached so; ends = ([], reached.moment, refl) }

-- If legal events that end with the end follow the events of a line, all of them are legal events
-- that end with the end.
pub then_ends : (cpus : ℕ) (reached : Reached) (line_events : LineEvents) (rest : List Event) → Gives cpus reached line_events → Ends cpus line_events.reached.world rest → Ends cpus reached.world (line_events.events ++ rest)
then_ends cpus reached line_events rest gives suffix = record {
  run = run_on cpus reached.world line_events.events rest (record { fit = gives.fit; known = gives.known; legal = gives.legal }) (subst (λ (w : World). Run cpus w rest) gives.world suffix.run);
  ends = ends_after line_events.events rest suffix.ends;
}

-- A complete line that isn't rejected isn't too long, and its number is at most the greatest number
-- of lines.
pub events_whole : (cpus : ℕ) (reached : Reached) (number : ℕ) (line : List ℕ) (line_events : LineEvents) → yield_of_line cpus reached number line ≡ Ok line_events → events_of_line cpus reached line ≡ Ok line_events
unfolding yield_of_line
events_whole cpus reached number line line_events is =
    elim (nat_lt 16000000 number) as (λ b. cond b (Err cause.TooManyLines) (cond (nat_lt 512 (length line)) (Err cause.LineTooLong) (events_of_line cpus reached line)) ≡ Ok line_events → events_of_line cpus reached line ≡ Ok line_events) [
      | true ↦ λ found. absurd (cc found)
      | false ↦ λ found.
          elim (nat_lt 512 (length line)) as (λ b. cond b (Err cause.LineTooLong) (events_of_line cpus reached line) ≡ Ok line_events → events_of_line cpus reached line ≡ Ok line_events) [
            | true ↦ λ found. absurd (cc found)
            | false ↦ λ found. found
          ] found
    ] is

abbrev Answer : Type 0
Answer = Result (List Event) Refused

events_same : (x y : List Event) → (let r : Answer = Ok x in r) ≡ Ok y → x ≡ y
events_same x y is = cc is

at_rest : (cpus : ℕ) (reached : Reached) (number : ℕ) (events : List Event) (o : Option ImportCause) → IsUnderWay cpus reached → ends_or reached number o ≡ Ok events → Ends cpus reached.world events
at_rest cpus reached number events None so is = subst (λ es. Ends cpus reached.world es) (events_same _ events is) (end_ends cpus reached so)
at_rest cpus reached number events (Some why) so is = absurd (cc is)

after_line : (cpus : ℕ) (reached : Reached) (line_events : LineEvents) (events : List Event) (rest : Answer) → Gives cpus reached line_events → ((es : List Event) → rest ≡ Ok es → Ends cpus line_events.reached.world es) → events_followed line_events.events rest ≡ Ok events → Ends cpus reached.world events
after_line cpus reached line_events events (Err refusal) gives goes is = absurd (cc is)
after_line cpus reached line_events events (Ok rest) gives goes is = subst (λ es. Ends cpus reached.world es) (events_same _ events is) (then_ends cpus reached line_events rest gives (goes rest refl))

at_line : (cpus : ℕ) (reached : Reached) (number : ℕ) (line : List ℕ) (events : List Event) (suffix : Reached → Answer) → IsUnderWay cpus reached → (r : Result LineEvents ImportCause) → yield_of_line cpus reached number line ≡ r
    → ((next : Reached) (es : List Event) → IsUnderWay cpus next → suffix next ≡ Ok es → Ends cpus next.world es) → or_refused_line number r suffix ≡ Ok events → Ends cpus reached.world events
at_line cpus reached number line events suffix so (Err why) found goes is = absurd (cc is)
at_line cpus reached number line events suffix so (Ok line_events) found goes is =
    let here = gives cpus reached line line_events so (events_whole cpus reached number line line_events found) in
    after_line cpus reached line_events events (suffix line_events.reached) here (λ es. goes line_events.reached es here.later) is

pub import_ends : (cpus : ℕ) (parts : List (List ℕ)) (reached : Reached) (number : ℕ) (events : List Event) → IsUnderWay cpus reached → import_from cpus reached number parts ≡ Ok events → Ends cpus reached.world events
unfolding import_from
import_ends cpus [] reached number events so is = subst (λ es. Ends cpus reached.world es) (events_same _ events is) (end_ends cpus reached so)
import_ends cpus (rest ∷ []) reached number events so is = at_rest cpus reached number events (tail_cause number rest) so is
import_ends cpus (line ∷ next ∷ parts) reached number events so is =
    at_line cpus reached number line events (λ suffix. import_from cpus suffix (number + 1) (next ∷ parts)) so (yield_of_line cpus reached number line) refl
    (λ suffix es under. import_ends cpus (next ∷ parts) suffix (number + 1) es under) is

-- ---- the laws

pub imported_is_trace : ImportedIsTrace
unfolding import_of
imported_is_trace cpus bytes events versions counted is first =
    let all = import_ends cpus (parts_at 10 bytes) unreached 1 events (first_in cpus counted) is in
    record {
      text = refl;
      version = first;
      cpus = counted;
      known = all.run.known;
      accepted = record { fit = all.run.fit; legal = all.run.legal; ends = all.ends };
    }

-- Lines that aren't rejected preserve the import's invariant.
after_if : (cpus : ℕ) (reached suffix : Reached) (line : List ℕ) (next : Reached → Option Reached) → IsUnderWay cpus reached → (r : Result LineEvents ImportCause) → events_of_line cpus reached line ≡ r
    → ((now : Reached) → IsUnderWay cpus now → next now ≡ Some suffix → IsUnderWay cpus suffix) → after_events r next ≡ Some suffix → IsUnderWay cpus suffix
after_if cpus reached suffix line next so (Err why) found goes is = absurd (cc is)
after_if cpus reached suffix line next so (Ok line_events) found goes is = goes line_events.reached (gives cpus reached line line_events so found).later is

under_way : (cpus : ℕ) (lines : List (List ℕ)) (reached suffix : Reached) → IsUnderWay cpus reached → reached_by cpus reached lines ≡ Some suffix → IsUnderWay cpus suffix
under_way cpus [] reached suffix so is = subst (λ (r : Reached). IsUnderWay cpus r) (some_same reached suffix is) so
under_way cpus (line ∷ lines) reached suffix so is =
    after_if cpus reached suffix line (λ now. reached_by cpus now lines) so (events_of_line cpus reached line) refl (λ now under. under_way cpus lines now suffix under) is

-- A marked line: its result is that of its content, whose values are in range.
record ReportedLine (cpus : ℕ) (reached : Reached) (sighting : Sighting) (line_events : LineEvents) : Type 0 where
  seen : IsSeen sighting.seen
  gives : line_events_at cpus reached sighting.at sighting.seen ≡ Ok line_events

reported : (cpus : ℕ) (reached : Reached) (line : List ℕ) (sighting : Sighting) (line_events : LineEvents) → read_line line ≡ Ok (Some sighting) → events_of_line cpus reached line ≡ Ok line_events → ReportedLine cpus reached sighting line_events
unfolding events_of_line
reported cpus reached line sighting line_events shows is = record {
  seen = line_seen line sighting shows;
  gives = sym (ap (events_read cpus reached) shows) ∙ is;
}

pub switch_runs_next : SwitchRunsNext
switch_runs_next cpus lines line at cpu previous next how line_events is =
    let here = reported cpus is.reached line _ line_events is.shows is.gives in
    switch_runs cpus is.reached at cpu previous next how line_events (under_way cpus lines unreached is.reached (first_in cpus is.counted) is.suffix) here.seen here.gives

pub wakeup_awakes : WakeupWakes
wakeup_awakes cpus lines line at pid cpu line_events is =
    let here = reported cpus is.reached line _ line_events is.shows is.gives in
    wakeup_wakes cpus is.reached at pid cpu line_events (under_way cpus lines unreached is.reached (first_in cpus is.counted) is.suffix) here.seen here.gives
