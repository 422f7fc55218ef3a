-- Proofs that the text printed for entries is the text of samples that observers may have taken.
use Rattle.std.proofs.Common.{◌≡◌, ◌⊎◌, ⊎_elim, ℕ, zero, suc, ◌+◌, ◌-◌, ◌<◌, ◌≤◌, Bool, true, false, List, [], ◌∷◌, ◌++◌, length, get_or, map, refl, sym, ap, ◌∙◌, subst, arith, rules, Option, None, Some}
use Rattle.std.specs.Prelude.{cond, filter, slice_get, slice_index_or, codes, decimal, ◌==◌}
use Rattle.std.specs.List.{flat_map, range_with_len}
use Rattle.std.proofs.lemmas.List.{get_or-map, length-map}
use Rattle.psi_base.specs.declared.event.Event.{Event}
use Rattle.psi_counts.specs.declared.changes.Change.{Change}
use Rattle.psi_spec.specs.Changes.{RiseWithin, changes_of, event_of_change, is_change, times_after}
use Rattle.psi_spec.specs.Stall.{moment_of}
use Rattle.psi_spec.specs.Trace.{Trace, limits_of}
use Rattle.plan_laws.specs.Plan.{PlanView, last_change, plan_of, planned}
use Rattle.plan_laws.proofs.PlanLaws.{changes_are_numbered}
use Rattle.plan_laws.proofs.PlanPlanned.{planned_after}
use Rattle.run_spec.specs.Lines.{labelled, line_of}
use Rattle.run_spec.specs.Replay.{Timing, signals_until, tick_count}
use Rattle.run_spec.specs.Text.{end_of}
use Rattle.proc_plan.specs.Plans.{PlansView, plan_at, plans_view}
use Rattle.proc_plan.proofs.Finishing.{standing_plans}
use Rattle.replay_rules.specs.Planned.{IsPlanned}
use Rattle.observe_spec.specs.Observed.{IsObservedText, board_line, observed_last_line, moment_after, moment_at, observed_text, sample_line, times_of}
use Rattle.observe_spec.specs.Samples.{AreDone, AreObserved, Look, all_due, counts_by, is_of, looks_by}
use Rattle.observer_log.specs.declared.board.BoardState.{BoardState}
use Rattle.observer_log.specs.declared.entry.Entry.{Entry}
use Rattle.observer_log.specs.Board.{IsLast, newcomer}
use Rattle.observer_log.specs.Entries.{AreBy, AreOwn, by, is_by, list_of}
use Rattle.observer_log.specs.Watch.{new_watcher, no_reader, reader_at}
use Rattle.observe_core.specs.Observing.{ObserverView}
use Rattle.observe_core.specs.Driving.{AreOn, AreShown, HaveObserved, IsOn, Setting, due_until, look_of, looks_of, state_at}
use Rattle.observe_core.specs.Printed.{end_line, entry_line, printed, state_line, states_text}

-- ---- times of changes

-- all these event numbers are at least a number
abbrev AreAbove : ℕ → List ℕ → Type 0
AreAbove low [] = Unit {0}
AreAbove low (number ∷ numbers) = (low ≤ number) × AreAbove low numbers

above_chosen : (chosen : ℕ → Bool) (low from n : ℕ) → low ≤ from → AreAbove low (filter chosen (range_with_len from n))
above_chosen chosen low from zero above = tt
above_chosen chosen low from (suc n) above =
    let rest = above_chosen chosen low (from + 1) n (omega (arith, above)) in
    elim (chosen from) as (λ b. AreAbove low (cond b (from ∷ filter chosen (range_with_len (from + 1) n)) (filter chosen (range_with_len (from + 1) n)))) [
      | true ↦ (above, rest)
      | false ↦ rest
    ]

changes_above : (cpu : ℕ) (events : List Event) → AreAbove 1 (changes_of cpu events)
unfolding changes_of
changes_above cpu events = above_chosen (is_change cpu events) 1 1 (length events) (omega arith)

-- the time of an event, numbered from 1
moment_is : (events : List Event) (number : ℕ) → 1 ≤ number → moment_of events 0 number ≡ moment_at number events
moment_is events zero above = absurd (omega (arith, above))
moment_is events (suc before) above =
    let same : suc before - 1 ≡ before = omega arith in
    ap (λ (n : ℕ). slice_index_or (map (λ (event : Event). event.at) events) n 0) same

moments_are : (events : List Event) (numbers : List ℕ) (k : ℕ) → AreAbove 1 numbers → k < length numbers → slice_index_or (map (moment_of events 0) numbers) k 0 ≡ moment_at (slice_index_or numbers k 0) events
moments_are events [] k above below = absurd (omega (arith, below))
moments_are events (number ∷ numbers) zero above below = moment_is events number above.0
moments_are events (number ∷ numbers) (suc k) above below = moments_are events numbers k above.1 (omega (arith, below))

-- the time of a change is the time of its event
change_moment : (trace : Trace) (cpu k : ℕ) → k ≤ length (changes_of cpu trace.events) → last_change (plan_of cpu trace.events) k ≡ moment_after trace cpu k
change_moment trace cpu zero within = refl
change_moment trace cpu (suc k) within =
    ap (λ (moments : List ℕ). slice_index_or (0 ∷ moments) (suc k) 0) (changes_are_numbered cpu trace.events).1
    ∙ moments_are trace.events (changes_of cpu trace.events) k (changes_above cpu trace.events) (omega (arith, within))

-- ---- one entry

-- the properties of an entry of a trace
record IsRight (trace : Trace) (entry : Entry) : Type 0 where
  at : entry.at ≡ moment_after trace entry.cpu.0 entry.count
  times : entry.seven ≡ times_of trace (look_of entry)
  within : entry.count ≤ length (changes_of entry.cpu.0 trace.events)

right : (plans : PlansView) (trace : Trace) (timing : Timing) (entry : Entry) → IsPlanned plans trace timing → IsOn plans entry → IsRight trace entry
right plans trace timing entry stands on =
    let cpu = entry.cpu.0 in
    let each = stands.represents.each in
    let there = on.cpu in
    let below : cpu < trace.cpus = omega (arith, there, each) in
    let own : entry.plan.now ≡ plan_of cpu trace.events = on.plan ∙ standing_plans plans trace.cpus trace.events stands.represents cpu below in
    let many = (changes_are_numbered cpu trace.events).2 in
    let count : entry.count ≤ length (plan_of cpu trace.events).changes = subst (λ (plan : PlanView). entry.count ≤ length plan.changes) own entry.within in
    let within : entry.count ≤ length (changes_of cpu trace.events) = omega (arith, count, many) in
    let last : entry.at ≡ last_change (plan_of cpu trace.events) entry.count = entry.moment ∙ ap (λ (plan : PlanView). last_change plan entry.count) own in
    let past : last_change (plan_of cpu trace.events) entry.count ≤ entry.at = omega (arith, last) in
    let at : entry.at ≡ moment_after trace cpu entry.count = last ∙ change_moment trace cpu entry.count within in
    record {
      at = at;
      times = entry.times ∙ ap (λ (plan : PlanView). planned plan entry.slot.0 entry.count entry.at) own
          ∙ planned_after (limits_of timing.length trace.cpus) trace.events stands.accepted.legal cpu entry.slot.0 entry.count entry.at within past
          ∙ ap (times_after cpu entry.slot.0 trace.events entry.count) at;
      within = within;
    }

right_line : (trace : Trace) (entry : Entry) → IsRight trace entry → entry_line entry ≡ sample_line trace (look_of entry)
right_line trace entry is =
    let form : ℕ → List ℕ → List ℕ = λ at seven.
    line_of (codes "sample" ∷ labelled (codes "observer=") entry.observer ∷ labelled (codes "cpu=") entry.cpu.0
    ∷ labelled (codes "count=") entry.count ∷ labelled (codes "at=") at ∷ map decimal seven) in
    ap (λ (at : ℕ). form at entry.seven) is.at ∙ ap (form (moment_after trace entry.cpu.0 entry.count)) is.times

-- ---- all lines

entries_lines : (plans : PlansView) (trace : Trace) (timing : Timing) (entries : List Entry) → IsPlanned plans trace timing → AreOn plans entries → flat_map entry_line entries ≡ flat_map (sample_line trace) (looks_of entries)
entries_lines plans trace timing [] planned on = refl
entries_lines plans trace timing (entry ∷ entries) planned on =
    ap (λ (line : List ℕ). line ++ flat_map entry_line entries) (right_line trace entry (right plans trace timing entry planned on.0))
    ∙ ap (λ (lines : List ℕ). sample_line trace (look_of entry) ++ lines) (entries_lines plans trace timing entries planned on.1)

-- all states are the state of the last tick
abbrev pub AreLast : Trace → Timing → List BoardState → Type 0
AreLast trace timing [] = Unit {0}
AreLast trace timing (state ∷ states) = (state ≡ state_at trace timing (tick_count trace timing)) × AreLast trace timing states

states_lines : (trace : Trace) (timing : Timing) (observer : ℕ) (states : List BoardState) → AreLast trace timing states → states_text observer states ≡ flat_map (board_line trace timing) (range_with_len observer (length states))
states_lines trace timing observer [] last = refl
states_lines trace timing observer (state ∷ states) last =
    ap (λ (s : BoardState). state_line observer s ++ states_text (observer + 1) states) last.0
    ∙ ap (λ (lines : List ℕ). board_line trace timing observer ++ lines) (states_lines trace timing (observer + 1) states last.1)

length-looks : (entries : List Entry) → length (looks_of entries) ≡ length entries
length-looks entries = length-map entries look_of

pub text_is : (plans : PlansView) (trace : Trace) (timing : Timing) (observers : ℕ) (entries : List Entry) (states : List BoardState) → IsPlanned plans trace timing → AreOn plans entries → AreLast trace timing states → length states ≡ observers
    → printed entries states plans.finish ≡ observed_text trace timing observers (looks_of entries)
unfolding observed_text
text_is plans trace timing observers entries states planned on last many =
    ap (λ (lines : List ℕ). lines ++ states_text 0 states ++ end_line plans.finish (length entries)) (entries_lines plans trace timing entries planned on)
    ∙ ap (λ (lines : List ℕ). flat_map (sample_line trace) (looks_of entries) ++ lines ++ end_line plans.finish (length entries))
    (states_lines trace timing 0 states last ∙ ap (λ (n : ℕ). flat_map (board_line trace timing) (range_with_len 0 n)) many)
    ∙ ap (λ (n : ℕ). flat_map (sample_line trace) (looks_of entries) ++ flat_map (board_line trace timing) (range_with_len 0 observers) ++ end_line plans.finish n) (sym (length-looks entries))
    ∙ ap (λ (finish : ℕ). flat_map (sample_line trace) (looks_of entries) ++ flat_map (board_line trace timing) (range_with_len 0 observers) ++ end_line finish (length (looks_of entries))) planned.represents.finish

-- ---- the samples of each observer

looks_by-of : (number : ℕ) (entries : List Entry) → looks_by number (looks_of entries) ≡ looks_of (by number entries)
looks_by-of number [] = refl
looks_by-of number (entry ∷ entries) = go (is_by number entry) refl (looks_by-of number entries)
  where
    go : (b : Bool) → is_by number entry ≡ b → looks_by number (looks_of entries) ≡ looks_of (by number entries) → looks_by number (looks_of (entry ∷ entries)) ≡ looks_of (by number (entry ∷ entries))
    go true is rest =
        ap (λ b. cond b (look_of entry ∷ looks_by number (looks_of entries)) (looks_by number (looks_of entries))) is
        ∙ ap (λ (looks : List Look). look_of entry ∷ looks) rest
        ∙ sym (ap (λ b. looks_of (cond b (entry ∷ by number entries) (by number entries))) is)
    go false is rest =
        ap (λ b. cond b (look_of entry ∷ looks_by number (looks_of entries)) (looks_by number (looks_of entries))) is
        ∙ rest
        ∙ sym (ap (λ b. looks_of (cond b (entry ∷ by number entries) (by number entries))) is)

-- the counts of an observer are those of its own samples
counts_own : (observer cpu : ℕ) (looks : List Look) → counts_by observer cpu looks ≡ counts_by observer cpu (looks_by observer looks)
counts_own observer cpu [] = refl
counts_own observer cpu (look ∷ looks) = go (look.observer == observer) refl (counts_own observer cpu looks)
  where
    go : (b : Bool) → (look.observer == observer) ≡ b → counts_by observer cpu looks ≡ counts_by observer cpu (looks_by observer looks) → counts_by observer cpu (look ∷ looks) ≡ counts_by observer cpu (looks_by observer (look ∷ looks))
    go true is rest =
        elim (is_of observer cpu look) as (λ b. map (λ (l : Look). l.count) (cond b (look ∷ filter (is_of observer cpu) looks) (filter (is_of observer cpu) looks)) ≡ map (λ (l : Look). l.count) (cond b (look ∷ filter (is_of observer cpu) (looks_by observer looks)) (filter (is_of observer cpu) (looks_by observer looks)))) [
          | true ↦ ap (λ (counts : List ℕ). look.count ∷ counts) rest
          | false ↦ rest
        ]
        ∙ sym (ap (λ b. counts_by observer cpu (cond b (look ∷ looks_by observer looks) (looks_by observer looks))) is)
    go false is rest =
        let other : is_of observer cpu look ≡ false = grind (arith, is) in
        ap (λ b. map (λ (l : Look). l.count) (cond b (look ∷ filter (is_of observer cpu) looks) (filter (is_of observer cpu) looks))) other
        ∙ rest
        ∙ sym (ap (λ b. counts_by observer cpu (cond b (look ∷ looks_by observer looks) (looks_by observer looks))) is)

-- the counts never decrease, whether or not the first entry is from the observer and processor
abbrev Rises : ℕ → ℕ → ℕ → Entry → List Entry → Bool → ℕ → Type 0
Rises observer cpu low entry own b top =
    RiseWithin low (map (λ (look : Look). look.count) (cond b (look_of entry ∷ filter (is_of observer cpu) (looks_of own)) (filter (is_of observer cpu) (looks_of own)))) top

-- the counts are at most the number of changes
counts_within : (plans : PlansView) (trace : Trace) (timing : Timing) (observer cpu low high : ℕ) (own : List Entry) → IsPlanned plans trace timing → AreOn plans own → low ≤ length (changes_of cpu trace.events)
    → RiseWithin low (counts_by observer cpu (looks_of own)) high → RiseWithin low (counts_by observer cpu (looks_of own)) (length (changes_of cpu trace.events))
counts_within plans trace timing observer cpu low high [] planned on below rise = below
counts_within plans trace timing observer cpu low high (entry ∷ own) planned on below rise =
    go (is_of observer cpu (look_of entry)) refl (λ from within rising. counts_within plans trace timing observer cpu from high own planned on.1 within rising)
  where
    go : (b : Bool) → is_of observer cpu (look_of entry) ≡ b → ((from : ℕ) → from ≤ length (changes_of cpu trace.events) → RiseWithin from (counts_by observer cpu (looks_of own)) high → RiseWithin from (counts_by observer cpu (looks_of own)) (length (changes_of cpu trace.events)))
        → Rises observer cpu low entry own (is_of observer cpu (look_of entry)) (length (changes_of cpu trace.events))
    go true is rest =
        let here : entry.cpu.0 ≡ cpu = grind (arith, is) in
        let within : entry.count ≤ length (changes_of cpu trace.events) = subst (λ (n : ℕ). entry.count ≤ length (changes_of n trace.events)) here (right plans trace timing entry planned on.0).within in
        let all : Rises observer cpu low entry own true high = subst (λ b. Rises observer cpu low entry own b high) is rise in
        subst (λ b. Rises observer cpu low entry own b (length (changes_of cpu trace.events))) (sym is) (all.0, rest entry.count within all.1)
    go false is rest =
        let all : Rises observer cpu low entry own false high = subst (λ b. Rises observer cpu low entry own b high) is rise in
        subst (λ b. Rises observer cpu low entry own b (length (changes_of cpu trace.events))) (sym is) (rest low below all)

-- entries are on the plans if those of each observer are
all_on : (plans : PlansView) (entries : List Entry) → ((observer : ℕ) → AreOn plans (by observer entries)) → AreOn plans entries
all_on plans [] each = tt
all_on plans (entry ∷ entries) each =
    let own : is_by entry.observer entry ≡ true = grind arith in
    let here : AreOn plans (entry ∷ by entry.observer entries) = subst (λ b. AreOn plans (cond b (entry ∷ by entry.observer entries) (by entry.observer entries))) own (each entry.observer) in
    (here.0, all_on plans entries (λ observer. go observer (is_by observer entry) refl))
  where
    go : (observer : ℕ) (b : Bool) → is_by observer entry ≡ b → AreOn plans (by observer entries)
    go observer true is = let all : AreOn plans (entry ∷ by observer entries) = subst (λ b. AreOn plans (cond b (entry ∷ by observer entries) (by observer entries))) is (each observer) in all.1
    go observer false is = subst (λ b. AreOn plans (cond b (entry ∷ by observer entries) (by observer entries))) is (each observer)

-- ---- the lists of all observers

no_observer : ObserverView
no_observer = record { watcher = new_watcher 0 (plans_view [] [] [] [] 0) []; pass = record { board = no_reader.row; knows = newcomer [] }; parts = 0; amount = 0; lasts = []; fell = false; failed = false }

-- the lists of observers
abbrev pub lists_of : List ObserverView → List (List Entry)
lists_of observers = map (λ (observer : ObserverView). observer.watcher.own) observers

list_is : (observers : List ObserverView) (number : ℕ) → number < length observers → list_of (lists_of observers) number ≡ (get_or observers number no_observer).watcher.own
list_is observers number below = get_or-map (λ (observer : ObserverView). observer.watcher.own) observers number no_observer [] below

list_past : (lists : List (List Entry)) (number : ℕ) → length lists ≤ number → list_of lists number ≡ []
list_past [] number past = refl
list_past (list ∷ lists) zero past = absurd (omega (arith, past))
list_past (list ∷ lists) (suc number) past = list_past lists number (omega (arith, past))

either : (number count : ℕ) → (number < count) ⊎ (count ≤ number)
either number count = grind arith

pub are_own : (set : Setting) (i : ℕ) (observers : List ObserverView) → HaveObserved set i observers → AreOwn (lists_of observers)
are_own set i observers all = λ number.
    ⊎_elim (λ (below : number < length observers). subst (AreBy number) (sym (list_is observers number below)) (all number no_observer below).taken.by)
    (λ (past : length observers ≤ number). subst (AreBy number) (sym (list_past (lists_of observers) number (let many = length-map observers (λ (observer : ObserverView). observer.watcher.own) in omega (arith, past, many)))) tt)
    (either number (length observers))

-- every entry of these lists is on the plans
lists_on : (set : Setting) (i : ℕ) (observers : List ObserverView) → HaveObserved set i observers → (number : ℕ) → AreOn set.plans (list_of (lists_of observers) number)
lists_on set i observers all number =
    ⊎_elim (λ (below : number < length observers). subst (AreOn set.plans) (sym (list_is observers number below)) (all number no_observer below).taken.on)
    (λ (past : length observers ≤ number). subst (AreOn set.plans) (sym (list_past (lists_of observers) number (let many = length-map observers (λ (observer : ObserverView). observer.watcher.own) in omega (arith, past, many)))) tt)
    (either number (length observers))

-- the samples of an observer in the whole list are the samples of its own list
own_looks : (lists : List (List Entry)) (entries : List Entry) → ((observer : ℕ) → by observer entries ≡ list_of lists observer) → (number : ℕ) → looks_by number (looks_of entries) ≡ looks_of (list_of lists number)
own_looks lists entries same number = looks_by-of number entries ∙ ap looks_of (same number)

pub are_observed : (set : Setting) (observers : List ObserverView) (entries : List Entry) → IsPlanned set.plans set.trace set.timing → HaveObserved set (tick_count set.trace set.timing) observers
    → ((observer : ℕ) → by observer entries ≡ list_of (lists_of observers) observer) → AreObserved set.trace set.timing set.path (length observers) (looks_of entries)
are_observed set observers entries planned all same =
    let lists = lists_of observers in
    let many = length-map observers (λ (observer : ObserverView). observer.watcher.own) in
    let own = own_looks lists entries same in
    record {
      done = λ number below. subst (AreDone (all_due set.trace set.timing set.path)) (sym (own number ∙ ap looks_of (list_is observers number below))) (all number no_observer below).taken.done;
      none = λ number past. own number ∙ ap looks_of (list_past lists number (omega (arith, past, many)));
      rise = λ number cpu.
          subst (λ (counts : List ℕ). RiseWithin 0 counts (length (changes_of cpu set.trace.events))) (sym (counts_own number cpu (looks_of entries) ∙ ap (counts_by number cpu) (own number)))
          (⊎_elim (λ (below : number < length observers).
          subst (λ (list : List Entry). RiseWithin 0 (counts_by number cpu (looks_of list)) (length (changes_of cpu set.trace.events))) (sym (list_is observers number below))
          (let taken = (all number no_observer below).taken in
          counts_within set.plans set.trace set.timing number cpu 0 (reader_at (get_or observers number no_observer).watcher.readers cpu).knows.seen (get_or observers number no_observer).watcher.own planned taken.on (omega arith) (taken.rise cpu)))
          (λ (past : length observers ≤ number).
          subst (λ (list : List Entry). RiseWithin 0 (counts_by number cpu (looks_of list)) (length (changes_of cpu set.trace.events))) (sym (list_past lists number (omega (arith, past, many)))) (omega arith))
          (either number (length observers)));
    }

-- ---- the board states that the observers read last

last_shown : (trace : Trace) (timing : Timing) (i : ℕ) (states : List BoardState) (state : BoardState) → AreShown trace timing i states → IsLast states state → state ≡ state_at trace timing i
last_shown trace timing i states state shown last =
    let many = shown.many in
    let place : length states - 1 ≡ i = omega (arith, many) in
    let there : Some state ≡ Some (state_at trace timing i) = sym last ∙ ap (slice_get states) place ∙ shown.each i (omega arith) in
    cc there

pub states_last : (trace : Trace) (timing : Timing) (board states : List BoardState) → AreShown trace timing (tick_count trace timing) board → ((k : ℕ) (d : BoardState) → k < length states → IsLast board (get_or states k d)) → AreLast trace timing states
states_last trace timing board [] shown last = tt
states_last trace timing board (state ∷ states) shown last =
    (last_shown trace timing (tick_count trace timing) board state shown (last 0 state (omega arith)), states_last trace timing board states shown (λ k d below. last (suc k) d (omega (arith, below))))

-- ---- the whole text

-- The printed text is the text of an observed trace.
pub whole_text : (set : Setting) (observers : List ObserverView) (entries : List Entry) (board states : List BoardState) → IsPlanned set.plans set.trace set.timing → HaveObserved set (tick_count set.trace set.timing) observers
    → AreShown set.trace set.timing (tick_count set.trace set.timing) board → ((observer : ℕ) → by observer entries ≡ list_of (lists_of observers) observer)
    → ((k : ℕ) (d : BoardState) → k < length states → IsLast board (get_or states k d)) → length states ≡ length observers
    → IsObservedText set.trace set.timing set.path (length observers) (printed entries states set.plans.finish)
whole_text set observers entries board states planned all shown same last many =
    let on = all_on set.plans entries (λ observer. subst (AreOn set.plans) (sym (same observer)) (lists_on set (tick_count set.trace set.timing) observers all observer)) in
    (looks_of entries, are_observed set observers entries planned all same, text_is set.plans set.trace set.timing (length observers) entries states planned on (states_last set.trace set.timing board states shown last) many)
