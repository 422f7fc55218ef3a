-- Proofs about writing the lines of a trace in order.
use Rattle.std.proofs.Common.{◌≡◌, ℕ, List, [], ◌∷◌, ◌++◌, ◌≤◌, length, refl, ap, ◌∙◌, sym, append_assoc, Option, None, Some}
use Rattle.std.specs.Prelude.{Result, Ok, Err}
use Rattle.std.specs.Io.KnownBytes.{Appends, Keeps}
use Rattle.std.proofs.lemmas.List.{append-nil}
use Rattle.psi_base.specs.declared.event.Event.{Event}
use Rattle.outside.specs.Outside.{AppendsPrefix}
use Rattle.outside.specs.Calls.{PutsAll}
use Rattle.outside.proofs.Grows.{Appends-none, Appends-then, AppendsPrefix-last, AppendsPrefix-then}
use Rattle.trace_laws.proofs.GrammarReads.{spelled_in_line}
use Rattle.psi_spec.specs.Grammar.{Fits, spelling}
use Rattle.psi_spec.specs.Trace.{AllFit, lines_of}
use Rattle.run_spec.specs.declared.command.Shape.{Shape}
use Rattle.run_spec.specs.Generated.{generated}
use Rattle.run_spec.specs.LegalCommand.{IsShape}
use Rattle.trace_gen.proofs.Accepting.{generated_go}

-- If bytes were written, and then all or a prefix of further bytes, then all or a prefix of both
-- together was written.
pub PutsAll-suffix : {T E : Type 0} → (old mid new : Option (List ℕ)) (result : Result T E) (xs ys : List ℕ) → Appends old mid xs → PutsAll mid new result ys → PutsAll old new result (xs ++ ys)
PutsAll-suffix old mid new (Ok value) xs ys first rest = Appends-then old mid new xs ys first rest
PutsAll-suffix old mid new (Err fault) xs ys first rest = AppendsPrefix-last old mid new xs ys first rest

-- A line of an event has at most 512 bytes.
pub line_short : (event : Event) → Fits event → length (spelling event) ≤ 512
line_short event fits = (spelled_in_line event fits).short

-- The invariant of the loop that writes lines: the written bytes, followed by the lines of the
-- remaining events, are the lines of all events.
pub record AreSent (old new : Option (List ℕ)) (left all : List Event) : Type 0 where
  pub sent : List ℕ
  pub grew : Appends old new sent
  pub rest : sent ++ lines_of left ≡ lines_of all

-- The invariant holds before the first line.
pub none_sent : (has : Option (List ℕ)) (all : List Event) → AreSent has has all all
none_sent has all = record { sent = []; grew = Appends-none has; rest = refl }

-- The invariant holds after one more line is written.
pub one_sent : (old mid new : Option (List ℕ)) (event : Event) (before left all : List Event) → AreSent old mid before all → before ≡ event ∷ left → Appends mid new (spelling event ++ 10 ∷ []) → AreSent old new left all
one_sent old mid new event before left all so first more = record {
  sent = so.sent ++ (spelling event ++ 10 ∷ []);
  grew = Appends-then old mid new so.sent (spelling event ++ 10 ∷ []) so.grew more;
  rest = append_assoc so.sent (spelling event ++ 10 ∷ []) (lines_of left) ∙ ap (λ es. so.sent ++ lines_of es) (sym first) ∙ so.rest;
}

-- If a write fails, a prefix of all lines was written.
pub prefix_sent : (old mid new : Option (List ℕ)) (event : Event) (before left all : List Event) → AreSent old mid before all → before ≡ event ∷ left → AppendsPrefix mid new (spelling event ++ 10 ∷ []) → AppendsPrefix old new (lines_of all)
prefix_sent old mid new event before left all so first prefix =
    let whole : so.sent ++ ((spelling event ++ 10 ∷ []) ++ lines_of left) ≡ lines_of all = ap (λ es. so.sent ++ lines_of es) (sym first) ∙ so.rest in
    rw (sym whole) (AppendsPrefix-then old mid new so.sent (spelling event ++ 10 ∷ []) (lines_of left) so.grew prefix)

-- After the last line, all lines are written.
pub all_sent : (old new : Option (List ℕ)) (left all : List Event) → AreSent old new left all → left ≡ [] → Appends old new (lines_of all)
all_sent old new left all so none =
    let whole : so.sent ≡ lines_of all = sym (append-nil so.sent) ∙ ap (λ es. so.sent ++ lines_of es) (sym none) ∙ so.rest in
    rw (sym whole) so.grew

-- If all events can be written as trace lines, so can the first event and the events after it.
pub first_fits : (events : List Event) (event : Event) (left : List Event) → AllFit events → events ≡ event ∷ left → Fits event
first_fits events event left fit is = (rw is at fit).0

pub rest_fit : (events : List Event) (event : Event) (left : List Event) → AllFit events → events ≡ event ∷ left → AllFit left
rest_fit events event left fit is = (rw is at fit).1

-- All events of a generated trace can be written as trace lines.
pub all_fit : (shape : Shape) → IsShape shape → (events : List Event) → events ≡ (generated shape).events → AllFit events
all_fit shape shaped events is = rw is (generated_go shape shaped).fit

-- The content is unchanged if nothing is written.
pub keeps : (has : Option (List ℕ)) → Keeps has has
keeps None = tt
keeps (Some bytes) = refl
