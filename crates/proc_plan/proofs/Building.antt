-- Proves that a planner takes the events of a trace in order, one event at a time.
use Rattle.std.proofs.Common.{◌≡◌, ◌≢◌, ℕ, zero, suc, ◌+◌, ◌≤◌, ◌<◌, List, [], ◌∷◌, ◌++◌, length, take, drop, refl, sym, ap, ◌∙◌, subst, arith, inl, inr, true}
use Rattle.std.specs.Prelude.{slice_index_or, Ok, Err}
use Rattle.std.proofs.lemmas.List.{take_all, take_more}
use Rattle.psi_base.specs.declared.event.Cause.{Cause}
use Rattle.psi_base.specs.declared.event.Cause.TheVariants as cause
use Rattle.psi_base.specs.declared.event.Event.{Event}
use Rattle.psi_base.specs.declared.event.Fault.{Fault}
use Rattle.psi_base.specs.declared.event.Fault.TheVariants as fault
use Rattle.psi_base.specs.declared.event.Refusal.{Refusal}
use Rattle.psi_spec.specs.Grammar.{Fits}
use Rattle.psi_spec.specs.Trace.{AllFit}
use Rattle.psi_spec.specs.World.{World, Limits}
use Rattle.proc_plan.specs.Plans.{HasTaken, HasTakenAll, IsFaultAt, IsRefusal, PlannerTakes, PlannerView}
use Rattle.proc_plan.proofs.Finishing.{ended_is_accepted}
use Rattle.proc_plan.proofs.Taking.{lines_of}

-- If all events can be written as lines, so can the event at index `i`.
pub fit_at : (events : List Event) (i : ℕ) (d : Event) → AllFit events → i < length events → Fits (slice_index_or events i d)
fit_at [] i d fit room = absurd (omega (arith, room))
fit_at (event ∷ events) zero d fit room = fit.0
fit_at (event ∷ events) (suc i) d fit room = fit_at events i d fit.1 (omega (arith, room))

-- Splits a list into the elements before index `i`, the element at `i` and the elements after it.
parted : (events : List Event) (i : ℕ) (d : Event) → i < length events → events ≡ take i events ++ slice_index_or events i d ∷ drop (suc i) events
parted [] i d room = absurd (omega (arith, room))
parted (event ∷ events) zero d room = refl
parted (event ∷ events) (suc i) d room = ap (λ es. event ∷ es) (parted events i d (omega (arith, room)))

-- `HasFirst old new events`: if the planner was new, it has now taken `events`, the first events of
-- the trace.
abbrev pub HasFirst : PlannerView → PlannerView → List Event → Type 0
HasFirst old now events = (limits : Limits) → HasTaken old limits [] → HasTaken now limits events

-- After the next event was taken, the planner has taken one more of the events.
pub took_next : (old now new : PlannerView) (events : List Event) (i : ℕ) (event : Event) (x : Unit {0}) → i < length events → event ≡ slice_index_or events i event → HasFirst old now (take i events) → PlannerTakes now new event (Ok x) → HasFirst old new (take (i + 1) events)
took_next old now new events i event x room is before takes = λ limits fresh.
    subst (HasTaken new limits) (sym (take_more events i event room ∙ ap (λ e. take i events ++ e ∷ []) (sym is))) (takes limits (take i events) (before limits fresh)).1

-- If the next event is rejected, it is the first illegal event of the trace.
pub refused_next : (old now new : PlannerView) (events : List Event) (i : ℕ) (event : Event) (why : Fault Cause) (line : ℕ) (at : Fault Refusal) → i < length events → event ≡ slice_index_or events i event → HasFirst old now (take i events) → PlannerTakes now new event (Err why) → new ≡ now → line ≡ new.table.world.lines → IsFaultAt (line + 2) why at
    → (limits : Limits) → HasTaken old limits [] → IsRefusal limits events at
refused_next old now new events i event (fault.Refused why) line at room is before takes same counted known = λ limits fresh.
    let taken = before limits fresh in
    let lines : line ≡ length (take i events) = counted ∙ ap (λ (p : PlannerView). p.table.world.lines) same ∙ ap (λ (w : World). w.lines) taken.world ∙ lines_of (take i events) in
    subst (IsRefusal limits events) (sym known) (inl (record {
      prefix = take i events;
      event = event;
      suffix = drop (suc i) events;
      events_are = parted events i event room ∙ ap (λ e. take i events ++ e ∷ drop (suc i) events) (sym is);
      legal = taken.legal;
      cause = takes limits (take i events) taken;
      line_is = omega (arith, lines);
    }))
refused_next old now new events i event (fault.NoMemory _) line at room is before takes same counted known = λ limits fresh. subst (IsRefusal limits events) (sym known) tt

-- If all events were taken and the trace hasn't ended, the trace is rejected because it has no end.
pub lacks_end : (old now : PlannerView) (events : List Event) (i line : ℕ) (at : Fault Refusal) → length events ≤ i → HasFirst old now (take i events) → now.table.world.ended ≢ true → line ≡ now.table.world.lines → IsFaultAt (line + 2) (fault.Refused cause.NoEnd) at
    → (limits : Limits) → HasTaken old limits [] → IsRefusal limits events at
lacks_end old now events i line at all before open_ counted known = λ limits fresh.
    let taken = subst (HasTaken now limits) (take_all i events all) (before limits fresh) in
    let lines : line ≡ length events = counted ∙ ap (λ (w : World). w.lines) taken.world ∙ lines_of events in
    subst (IsRefusal limits events) (sym known) (inr (record {
      legal = taken.legal;
      open_ = λ ended. open_ (ap (λ (w : World). w.ended) taken.world ∙ ended);
      cause = refl;
      line_is = omega (arith, lines);
    }))

-- If all events were taken and the trace has ended, the events are a complete trace.
pub all_taken : (old now : PlannerView) (events : List Event) (i : ℕ) → length events ≤ i → HasFirst old now (take i events) → now.table.world.ended ≡ true → HasTakenAll old now events
all_taken old now events i all before ended = λ limits fresh.
    let taken = subst (HasTaken now limits) (take_all i events all) (before limits fresh) in
    (taken, ended_is_accepted now limits events taken ended)
