-- Proofs about the events of one line among all written events.
use Rattle.std.proofs.Common.{◌≡◌, ℕ, ◌+◌, List, [], ◌∷◌, ◌++◌, refl, ap, ◌∙◌, sym, append_assoc, Option, None, Some}
use Rattle.std.specs.Prelude.{◌≢◌, Result, Ok, Err}
use Rattle.psi_base.specs.declared.event.Event.{Event}
use Rattle.psi_spec.specs.World.{World, after, after_from, events_at, first_world}
use Rattle.psi_spec.proofs.Following.{after_from-append}
use Rattle.import_spec.specs.declared.cause.ImportCause.{ImportCause}
use Rattle.import_spec.specs.declared.seen.Seen.{Seen}
use Rattle.import_spec.specs.declared.seen.Sighting.{Sighting}
use Rattle.import_spec.specs.Marked.{read_line}
use Rattle.import_spec.specs.Events.{LineEvents, Reached, acts_cause, acts_of, first_time, line_events_at, events_read, events_of_line, events_or, line_moment, needed_cpu, unreached}
use Rattle.import_spec.specs.Import.{Refused, events_followed, import_from, import_of, yield_of_line, or_refused_line}
use Rattle.ftrace_import.specs.Laws.{LinesAreWritten, after_events, reached_by}
use Rattle.ftrace_import.proofs.Whole.{events_whole}

-- ---- the world after a line

world_or : (reached : Reached) (at moment : ℕ) (what : Seen) (line_events : LineEvents) (o : Option ImportCause) → events_or reached at moment (acts_of reached.world.tasks what) o ≡ Ok line_events → line_events.reached.world ≡ after_from reached.world line_events.events
world_or reached at moment what line_events (Some why) is = absurd (cc is)
world_or reached at moment what line_events None is =
    let one : LineEvents = record {
      events = events_at moment (acts_of reached.world.tasks what);
      reached = record { first = Some (first_time reached at); moment = moment; world = after_from reached.world (events_at moment (acts_of reached.world.tasks what)) };
    } in
    let same : one ≡ line_events = cc is in
    ap (λ (g : LineEvents). g.reached.world) (sym same) ∙ ap (λ (g : LineEvents). after_from reached.world g.events) same

world_by : (cpus : ℕ) (reached : Reached) (line_events : LineEvents) (r : Result (Option Sighting) ImportCause) → events_read cpus reached r ≡ Ok line_events → line_events.reached.world ≡ after_from reached.world line_events.events
unfolding line_events_at
world_by cpus reached line_events (Err why) is = absurd (cc is)
world_by cpus reached line_events (Ok None) is =
    let one : LineEvents = record { events = []; reached = reached } in
    let same : one ≡ line_events = cc is in
    ap (λ (g : LineEvents). g.reached.world) (sym same) ∙ ap (λ (g : LineEvents). after_from reached.world g.events) same
world_by cpus reached line_events (Ok (Some sighting)) is =
    world_or reached sighting.at (line_moment reached sighting.at) sighting.seen line_events (acts_cause cpus reached.world (line_moment reached sighting.at) (needed_cpu sighting.seen) (acts_of reached.world.tasks sighting.seen)) is

world_following : (cpus : ℕ) (reached : Reached) (line : List ℕ) (line_events : LineEvents) → events_of_line cpus reached line ≡ Ok line_events → line_events.reached.world ≡ after_from reached.world line_events.events
unfolding events_of_line
world_following cpus reached line line_events is = world_by cpus reached line_events (read_line line) is

-- The world after a line is the world after the earlier events and the line's events.
world_after : (cpus : ℕ) (reached : Reached) (line : List ℕ) (line_events : LineEvents) (prefix : List Event) → reached.world ≡ after prefix → events_of_line cpus reached line ≡ Ok line_events → line_events.reached.world ≡ after (prefix ++ line_events.events)
world_after cpus reached line line_events prefix there is =
    world_following cpus reached line line_events is ∙ ap (λ (w : World). after_from w line_events.events) there ∙ sym (after_from-append first_world prefix line_events.events)

-- ---- a line of a text

-- `Splits cpus reached number line rest events`: the text begins with the complete line `line`, and
-- its events are the line's events followed by the events of the rest.
record Splits (cpus : ℕ) (reached : Reached) (number : ℕ) (line : List ℕ) (rest : List (List ℕ)) (events : List Event) : Type 0 where
  line_events : LineEvents
  suffix : List Event
  gives : events_of_line cpus reached line ≡ Ok line_events
  goes : import_from cpus line_events.reached (number + 1) rest ≡ Ok suffix
  all : line_events.events ++ suffix ≡ events

splits_after : (cpus : ℕ) (reached : Reached) (number : ℕ) (line : List ℕ) (rest : List (List ℕ)) (events : List Event) (line_events : LineEvents) → events_of_line cpus reached line ≡ Ok line_events
    → (r : Result (List Event) Refused) → import_from cpus line_events.reached (number + 1) rest ≡ r → events_followed line_events.events r ≡ Ok events → Splits cpus reached number line rest events
splits_after cpus reached number line rest events line_events gives (Err refusal) found is = absurd (cc is)
splits_after cpus reached number line rest events line_events gives (Ok suffix) found is = record { line_events = line_events; suffix = suffix; gives = gives; goes = found; all = cc is }

splits_if : (cpus : ℕ) (reached : Reached) (number : ℕ) (line : List ℕ) (rest : List (List ℕ)) (events : List Event) (r : Result LineEvents ImportCause) → yield_of_line cpus reached number line ≡ r
    → or_refused_line number r (λ suffix. import_from cpus suffix (number + 1) rest) ≡ Ok events → Splits cpus reached number line rest events
splits_if cpus reached number line rest events (Err why) found is = absurd (cc is)
splits_if cpus reached number line rest events (Ok line_events) found is =
    splits_after cpus reached number line rest events line_events (events_whole cpus reached number line line_events found) (import_from cpus line_events.reached (number + 1) rest) refl is

splits : (cpus : ℕ) (reached : Reached) (number : ℕ) (line : List ℕ) (rest : List (List ℕ)) (events : List Event) → rest ≢ [] → import_from cpus reached number (line ∷ rest) ≡ Ok events → Splits cpus reached number line rest events
unfolding import_from
splits cpus reached number line [] events some is = absurd (some refl)
splits cpus reached number line (next ∷ parts) events some is = splits_if cpus reached number line (next ∷ parts) events (yield_of_line cpus reached number line) refl is

-- ---- a line after other lines

-- Like `IsWritten`, but from the progress `begun`, after the events before it.
record WrittenFrom (cpus : ℕ) (begun : Reached) (lines : List (List ℕ)) (line : List ℕ) (events : List Event) : Type 0 where
  prefix : List Event
  suffix : List Event
  reached : Reached
  line_events : LineEvents
  before : reached_by cpus begun lines ≡ Some reached
  gives : events_of_line cpus reached line ≡ Ok line_events
  written : events ≡ prefix ++ line_events.events ++ suffix
  there : reached.world ≡ after prefix

not_empty : (lines : List (List ℕ)) (line : List ℕ) (more : List (List ℕ)) → lines ++ line ∷ more ≢ []
not_empty [] line more = λ is. cc is
not_empty (first ∷ lines) line more = λ is. cc is

written_from : (cpus : ℕ) (lines : List (List ℕ)) (begun : Reached) (number : ℕ) (line : List ℕ) (more : List (List ℕ)) (events so_far : List Event) → begun.world ≡ after so_far → more ≢ []
    → import_from cpus begun number (lines ++ line ∷ more) ≡ Ok events → WrittenFrom cpus begun lines line (so_far ++ events)
written_from cpus [] begun number line more events so_far there some is =
    let split = splits cpus begun number line more events some is in
    record { prefix = so_far; suffix = split.suffix; reached = begun; line_events = split.line_events; before = refl; gives = split.gives; written = ap (λ es. so_far ++ es) (sym split.all) ∙ sym (append_assoc so_far split.line_events.events split.suffix); there = there }
written_from cpus (first ∷ lines) begun number line more events so_far there some is =
    let split = splits cpus begun number first (lines ++ line ∷ more) events (not_empty lines line more) is in
    let rest = written_from cpus lines split.line_events.reached (number + 1) line more split.suffix (so_far ++ split.line_events.events) (world_after cpus begun first split.line_events so_far there split.gives) some split.goes in
    record {
      prefix = rest.prefix;
      suffix = rest.suffix;
      reached = rest.reached;
      line_events = rest.line_events;
      before = ap (λ r. after_events r (λ suffix. reached_by cpus suffix lines)) split.gives ∙ rest.before;
      gives = rest.gives;
      written = ap (λ es. so_far ++ es) (sym split.all) ∙ sym (append_assoc so_far split.line_events.events split.suffix) ∙ rest.written;
      there = rest.there;
    }

pub lines_are_written : LinesAreWritten
unfolding import_of
lines_are_written cpus bytes events lines more line is parts some =
    let found = written_from cpus lines unreached 1 line more events [] refl some (ap (import_from cpus unreached 1) (sym parts) ∙ is) in
    record {
      prefix = found.prefix;
      suffix = found.suffix;
      reached = found.reached;
      line_events = found.line_events;
      before = found.before;
      gives = found.gives;
      written = found.written;
      there = found.there;
      world = world_after cpus found.reached line found.line_events found.prefix found.there found.gives;
    }
