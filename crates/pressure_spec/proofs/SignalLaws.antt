-- Proofs about the times at which triggers signal, over any list of ticks.
use Rattle.std.proofs.Common.{◌≡◌, ℕ, suc, ◌+◌, ◌*◌, ◌≤◌, List, [], ◌∷◌, ◌++◌, refl, ap, ◌∙◌, arith, true, false}
use Rattle.std.specs.Prelude.{All, Option, Some}
use Rattle.std.proofs.lemmas.List.Sums.{fold-append}
use Rattle.pressure_spec.specs.Signal.{TriggerState, new_trigger, is_free, seen, trigger_step, fires, trigger_after}
use Rattle.pressure_spec.specs.Laws.{fired_after, SignalsApart, PendingIsSignalled, RemembersLast, QuietWhenStill, still}

-- the trigger's window has the length `size` (ns), and its last signal was at or after time `from`
-- (ns)
pub record SignalledSince (trigger : TriggerState) (size from : ℕ) : Type 0 where
  pub size_is : trigger.size ≡ size
  pub last : ℕ
  pub last_is : trigger.last_event ≡ Some last
  pub since : from ≤ last

-- seeing a total changes neither the length of the window nor the time of the last signal
seen_size : (old : TriggerState) (now value : ℕ) → (seen old now value).size ≡ old.size
seen_size old now value = grind arith

seen_last : (old : TriggerState) (now value : ℕ) → (seen old now value).last_event ≡ old.last_event
seen_last old now value = grind arith

step_size : (old : TriggerState) (now value : ℕ) → (trigger_step old now value).size ≡ old.size
unfolding trigger_step
step_size old now value = grind (arith, seen_size old now value)

remembers : (old : TriggerState) (now value : ℕ) → fires old now value ≡ true → (trigger_step old now value).last_event ≡ Some now
unfolding trigger_step fires
remembers old now value fired = grind (arith, fired)

forgets_not : (old : TriggerState) (now value : ℕ) → fires old now value ≡ false → (trigger_step old now value).last_event ≡ old.last_event
unfolding trigger_step fires
forgets_not old now value quiet = grind (arith, quiet, seen_last old now value)

pub remembers_last : RemembersLast
remembers_last old now value = (remembers old now value, forgets_not old now value)

-- a signal is at least a window after the last signal
fires_later : (old : TriggerState) (now value last : ℕ) → old.last_event ≡ Some last → fires old now value ≡ true → last + old.size ≤ now
unfolding fires
fires_later old now value last is fired = grind (arith, fired, is, seen_size old now value, seen_last old now value)

since_step : (old : TriggerState) (now value size from : ℕ) → SignalledSince old size from → SignalledSince (trigger_step old now value) size from
since_step old now value size from is =
    let fired : fires old now value ≡ true → SignalledSince (trigger_step old now value) size from = λ fired. record {
      size_is = step_size old now value ∙ is.size_is;
      last = now;
      last_is = remembers old now value fired;
      since = omega (arith, is.since, fires_later old now value is.last is.last_is fired);
    } in
    let quiet : fires old now value ≡ false → SignalledSince (trigger_step old now value) size from = λ quiet. record {
      size_is = step_size old now value ∙ is.size_is;
      last = is.last;
      last_is = forgets_not old now value quiet ∙ is.last_is;
      since = is.since;
    } in
    elim (fires old now value) as (λ test. fires old now value ≡ test → SignalledSince (trigger_step old now value) size from) [ true ↦ fired | false ↦ quiet ] refl

since_kept : (old : TriggerState) (ticks : List (ℕ × ℕ)) (size from : ℕ) → SignalledSince old size from → SignalledSince (trigger_after old ticks) size from
since_kept old [] size from is = is
since_kept old (tick ∷ ticks) size from is = since_kept (trigger_step old tick.0 tick.1) ticks size from (since_step old tick.0 tick.1 size from is)

size_kept : (old : TriggerState) (ticks : List (ℕ × ℕ)) → (trigger_after old ticks).size ≡ old.size
size_kept old [] = refl
size_kept old (tick ∷ ticks) = size_kept (trigger_step old tick.0 tick.1) ticks ∙ step_size old tick.0 tick.1

pub signals_apart : SignalsApart
signals_apart at value threshold_us window_us before between first second fired again =
    let start = new_trigger at value threshold_us window_us in
    let early = trigger_after start before in
    let since : SignalledSince (trigger_step early first.0 first.1) (window_us * 1000) first.0 = record {
      size_is = step_size early first.0 first.1 ∙ size_kept start before;
      last = first.0;
      last_is = remembers early first.0 first.1 fired;
      since = omega arith;
    } in
    let late = trigger_after (trigger_step early first.0 first.1) between in
    let kept : SignalledSince late (window_us * 1000) first.0 = since_kept (trigger_step early first.0 first.1) between (window_us * 1000) first.0 since in
    let same : trigger_after start (before ++ first ∷ between) ≡ late = fold-append (λ (state : TriggerState) (tick : ℕ × ℕ). trigger_step state tick.0 tick.1) start before (first ∷ between) in
    let now : fires late second.0 second.1 ≡ true = rw same at again in
    omega (arith, kept.since, kept.size_is, fires_later late second.0 second.1 kept.last kept.last_is now)

-- ---- pending events

seen_pending : (old : TriggerState) (now value : ℕ) → old.pending ≡ true → (seen old now value).pending ≡ true
seen_pending old now value pending = grind (arith, pending)

fires_pending : (old : TriggerState) (now value : ℕ) → old.pending ≡ true → is_free old.last_event old.size now ≡ true → fires old now value ≡ true
unfolding fires
fires_pending old now value pending free = grind (arith, free, seen_pending old now value pending, seen_size old now value, seen_last old now value)

waits_quiet : (old : TriggerState) (now value : ℕ) → is_free old.last_event old.size now ≡ false → fires old now value ≡ false
unfolding fires
waits_quiet old now value busy = grind (arith, busy, seen_size old now value, seen_last old now value)

waits_pending : (old : TriggerState) (now value : ℕ) → old.pending ≡ true → fires old now value ≡ false → (trigger_step old now value).pending ≡ true
unfolding trigger_step fires
waits_pending old now value pending quiet = grind (arith, quiet, seen_pending old now value pending)

waits_on : (trigger : TriggerState) (waits : List (ℕ × ℕ)) (tick : ℕ × ℕ) (last : Option ℕ) (size : ℕ) → trigger.pending ≡ true → trigger.last_event ≡ last → trigger.size ≡ size →
    All (λ (wait : ℕ × ℕ). is_free last size wait.0 ≡ false) waits → is_free last size tick.0 ≡ true → fired_after trigger waits tick ≡ true
waits_on trigger [] tick last size pending last_is size_is all free = fires_pending trigger tick.0 tick.1 pending (rw (last_is, size_is) free)
waits_on trigger (wait ∷ waits) tick last size pending last_is size_is all free =
    let busy : is_free trigger.last_event trigger.size wait.0 ≡ false = rw (last_is, size_is) (all 0 wait (omega arith)) in
    let quiet = waits_quiet trigger wait.0 wait.1 busy in
    waits_on (trigger_step trigger wait.0 wait.1) waits tick last size
    (waits_pending trigger wait.0 wait.1 pending quiet)
    (forgets_not trigger wait.0 wait.1 quiet ∙ last_is)
    (step_size trigger wait.0 wait.1 ∙ size_is)
    (λ k d below. all (suc k) d (omega arith)) free

pub pending_is_signalled : PendingIsSignalled
pending_is_signalled trigger waits tick pending all free = waits_on trigger waits tick trigger.last_event trigger.size pending refl refl all free

-- ---- totals that don't change

still_step : (old : TriggerState) (now value : ℕ) → old.pending ≡ false → old.last_value ≡ value → (fires old now value ≡ false) × (trigger_step old now value ≡ old)
unfolding trigger_step fires
still_step old now value none same = (grind (arith, none, same), grind (arith, none, same))

still_quiet : (old : TriggerState) (value now : ℕ) (moments : List ℕ) → old.pending ≡ false → old.last_value ≡ value → fires (trigger_after old (still value moments)) now value ≡ false
still_quiet old value now [] none same = (still_step old now value none same).0
still_quiet old value now (moment ∷ moments) none same =
    let step = still_step old moment value none same in
    still_quiet (trigger_step old moment value) value now moments (ap (λ (t : TriggerState). t.pending) step.1 ∙ none) (ap (λ (t : TriggerState). t.last_value) step.1 ∙ same)

pub quiet_when_still : QuietWhenStill
quiet_when_still at value threshold_us window_us now moments = still_quiet (new_trigger at value threshold_us window_us) value now moments refl refl
