-- Proofs about one more tick: how it changes the history of a group, its totals and averages, and
-- its triggers.
use Rattle.std.proofs.Common.{◌≡◌, ℕ, suc, ◌+◌, ◌≤◌, ◌<◌, List, [], ◌∷◌, ◌++◌, length, get_or, refl, sym, ap, ◌∙◌, arith, true, false, ◌⊎◌, ⊎_elim}
use Rattle.std.specs.Prelude.{All, Bool, map, filter, nat_le, nat_lt, sum_by, if◌then◌else◌, ◌&&◌}
use Rattle.std.proofs.lemmas.List.{get_or_past, get_or-map, get_or-replicate, get_or_at, get_or-append-add, length-append, map-append, append-nil}
use Rattle.std.proofs.lemmas.List.Sums.{fold-append, sum_by-cons}
use Rattle.std.proofs.lemmas.Bool.{false≢true}
use Rattle.std.proofs.lemmas.List.Elements.{All-cons, All-nil, filter-append}
use Rattle.std.specs.List.Sorted.{IsNonDecreasingBy}
use Rattle.psi_base.specs.declared.event.TriggerSpec.{TriggerSpec}
use Rattle.psi_spec.specs.declared.machine.GroupLife.{GroupLife}
use Rattle.psi_spec.specs.Groups.{is_live_at}
use Rattle.pressure_spec.specs.Ticks.{Tick, no_row}
use Rattle.pressure_spec.specs.NextTick.{no_tick, last_tick, IsNextTick, AreNextTicks}
use Rattle.pressure_spec.specs.Share.{at_state, no_totals, plus, pressure_places, shares}
use Rattle.pressure_spec.specs.Average.{AverageState, average_step, averages_after}
use Rattle.pressure_spec.specs.Within.{IsAverageState}
use Rattle.pressure_spec.specs.Laws.{average_of, HasTotals, samples_from, TotalIsSum, TotalsNeverFall, GroupsAtMostHundred, FiredApart}
use Rattle.pressure_spec.specs.Samples.{last_totals, life_of, row_at, growths, with_shares, history_from, history_of, totals_after, group_averages, watched_state, first_value, seen_by, trigger_over, has_fired}
use Rattle.pressure_spec.specs.Signal.{TriggerState, new_trigger, trigger_step, trigger_after, fires}
use Rattle.pressure_spec.proofs.ShareLaws.{get_or-zip_with, length-zip_with}
use Rattle.pressure_spec.proofs.AverageLaws.{at_most_hundred}
use Rattle.pressure_spec.proofs.SignalLaws.{signals_apart}

-- ---- histories

-- the times of a group at the last tick of a list, or `before` if the list is empty
abbrev pub last_row : ℕ → List (List ℕ) → List Tick → List (List ℕ)
last_row slot before [] = before
last_row slot before (tick ∷ ticks) = last_row slot (row_at tick slot) ticks

-- the last totals of a history after more entries are appended
pub last_totals-append : (before : List ℕ) (history more : List (ℕ × List ℕ)) → last_totals before (history ++ more) ≡ last_totals (last_totals before history) more
last_totals-append before [] more = refl
last_totals-append before (entry ∷ history) more = last_totals-append entry.1 history more

-- the history over more ticks continues with the group's times and totals at the last of the
-- earlier ticks
history_from-append : (life : GroupLife) (slot : ℕ) (before : List (List ℕ)) (totals : List ℕ) (ticks more : List Tick) →
    history_from life slot before totals (ticks ++ more)
    ≡ history_from life slot before totals ticks ++ history_from life slot (last_row slot before ticks) (last_totals totals (history_from life slot before totals ticks)) more
history_from-append life slot before totals [] more = refl
history_from-append life slot before totals (tick ∷ ticks) more =
    let row = row_at tick slot in
    let now = with_shares totals before row in
    let suffix = last_row slot row ticks in
    let there = history_from-append life slot row now ticks more in
    let gone = history_from-append life slot row totals ticks more in
    elim (is_live_at life tick.at) as (λ live.
    (if live then (tick.at, now) ∷ history_from life slot row now (ticks ++ more) else history_from life slot row totals (ticks ++ more))
    ≡ (if live then (tick.at, now) ∷ history_from life slot row now ticks else history_from life slot row totals ticks)
    ++ history_from life slot suffix (last_totals totals (if live then (tick.at, now) ∷ history_from life slot row now ticks else history_from life slot row totals ticks)) more)
    [ true ↦ ap (λ rest. (tick.at, now) ∷ rest) there | false ↦ gone ]

-- the part of a group's history that more ticks append
abbrev pub history_on : ℕ → List GroupLife → List Tick → List Tick → ℕ → List (ℕ × List ℕ)
history_on cpus lives ticks more slot = history_from (life_of lives slot) slot (last_row slot (no_row cpus) ticks) (totals_after cpus lives ticks slot) more

history_of-append : (cpus : ℕ) (lives : List GroupLife) (ticks more : List Tick) (slot : ℕ) →
    history_of cpus lives (ticks ++ more) slot ≡ history_of cpus lives ticks slot ++ history_on cpus lives ticks more slot
unfolding totals_after
history_of-append cpus lives ticks more slot = history_from-append (life_of lives slot) slot (no_row cpus) no_totals ticks more

totals_after-append : (cpus : ℕ) (lives : List GroupLife) (ticks more : List Tick) (slot : ℕ) →
    totals_after cpus lives (ticks ++ more) slot ≡ last_totals (totals_after cpus lives ticks slot) (history_on cpus lives ticks more slot)
unfolding totals_after
totals_after-append cpus lives ticks more slot =
    ap (last_totals no_totals) (history_of-append cpus lives ticks more slot) ∙ last_totals-append no_totals (history_of cpus lives ticks slot) (history_on cpus lives ticks more slot)

-- ---- one more tick

-- the totals of a group that is live at one more tick
pub totals_live : (cpus : ℕ) (lives : List GroupLife) (ticks : List Tick) (tick : Tick) (slot : ℕ) → is_live_at (life_of lives slot) tick.at ≡ true →
    totals_after cpus lives (ticks ++ tick ∷ []) slot ≡ with_shares (totals_after cpus lives ticks slot) (last_row slot (no_row cpus) ticks) (row_at tick slot)
totals_live cpus lives ticks tick slot live = totals_after-append cpus lives ticks (tick ∷ []) slot ∙ rw live refl

pub totals_gone : (cpus : ℕ) (lives : List GroupLife) (ticks : List Tick) (tick : Tick) (slot : ℕ) → is_live_at (life_of lives slot) tick.at ≡ false →
    totals_after cpus lives (ticks ++ tick ∷ []) slot ≡ totals_after cpus lives ticks slot
totals_gone cpus lives ticks tick slot gone = totals_after-append cpus lives ticks (tick ∷ []) slot ∙ rw gone refl

-- the entry of a tick in the history of a group that is live at the tick
abbrev pub entry_at : ℕ → List GroupLife → List Tick → Tick → ℕ → ℕ × List ℕ
entry_at cpus lives ticks tick slot = (tick.at, totals_after cpus lives (ticks ++ tick ∷ []) slot)

pub history_live : (cpus : ℕ) (lives : List GroupLife) (ticks : List Tick) (tick : Tick) (slot : ℕ) → is_live_at (life_of lives slot) tick.at ≡ true →
    history_of cpus lives (ticks ++ tick ∷ []) slot ≡ history_of cpus lives ticks slot ++ entry_at cpus lives ticks tick slot ∷ []
history_live cpus lives ticks tick slot live =
    let history = history_of cpus lives ticks slot in
    history_of-append cpus lives ticks (tick ∷ []) slot ∙ rw live (ap (λ totals. history ++ (tick.at, totals) ∷ []) (sym (totals_live cpus lives ticks tick slot live)))

pub history_gone : (cpus : ℕ) (lives : List GroupLife) (ticks : List Tick) (tick : Tick) (slot : ℕ) → is_live_at (life_of lives slot) tick.at ≡ false →
    history_of cpus lives (ticks ++ tick ∷ []) slot ≡ history_of cpus lives ticks slot
history_gone cpus lives ticks tick slot gone =
    let history = history_of cpus lives ticks slot in
    history_of-append cpus lives ticks (tick ∷ []) slot ∙ rw gone (append-nil history)

-- the last totals in a group's history are its totals
pub history_last : (cpus : ℕ) (lives : List GroupLife) (ticks : List Tick) (slot : ℕ) → last_totals no_totals (history_of cpus lives ticks slot) ≡ totals_after cpus lives ticks slot
unfolding totals_after
history_last cpus lives ticks slot = refl

-- ---- averages

pub averages_live : (cpus : ℕ) (lives : List GroupLife) (ticks : List Tick) (tick : Tick) (slot : ℕ) → is_live_at (life_of lives slot) tick.at ≡ true →
    group_averages cpus lives (ticks ++ tick ∷ []) slot ≡ average_step (group_averages cpus lives ticks slot) tick.at (totals_after cpus lives (ticks ++ tick ∷ []) slot)
unfolding group_averages
averages_live cpus lives ticks tick slot live =
    ap (averages_after (life_of lives slot).made) (history_live cpus lives ticks tick slot live)
    ∙ fold-append (λ (state : AverageState) (at : ℕ × List ℕ). average_step state at.0 at.1) _ (history_of cpus lives ticks slot) (entry_at cpus lives ticks tick slot ∷ [])

pub averages_gone : (cpus : ℕ) (lives : List GroupLife) (ticks : List Tick) (tick : Tick) (slot : ℕ) → is_live_at (life_of lives slot) tick.at ≡ false →
    group_averages cpus lives (ticks ++ tick ∷ []) slot ≡ group_averages cpus lives ticks slot
unfolding group_averages
averages_gone cpus lives ticks tick slot gone = ap (averages_after (life_of lives slot).made) (history_gone cpus lives ticks tick slot gone)

-- ---- triggers

-- all times of the history are at or after `at`
abbrev pub NotBefore : ℕ → List (ℕ × List ℕ) → Type 0
NotBefore at history = All (λ (entry : ℕ × List ℕ). at ≤ entry.0) history

-- all times of the history are before `at`
abbrev pub Before : ℕ → List (ℕ × List ℕ) → Type 0
Before at history = All (λ (entry : ℕ × List ℕ). entry.0 < at) history

-- a filter is empty if every element fails its test (`filter_none`), and changes nothing if every
-- element passes (`filter_all`)
pub filter_none : {X : Type 0} (p : X → Bool) → (xs : List X) → All (λ x. p x ≡ false) xs → filter p xs ≡ []
filter_none p [] all = refl
filter_none p (x ∷ xs) all = rw (all 0 x (omega arith)) (filter_none p xs (λ k d below. all (suc k) d (omega arith)))

pub filter_all : {X : Type 0} (p : X → Bool) → (xs : List X) → All (λ x. p x ≡ true) xs → filter p xs ≡ xs
filter_all p [] all = refl
filter_all p (x ∷ xs) all = rw (all 0 x (omega arith)) (ap (λ rest. x ∷ rest) (filter_all p xs (λ k d below. all (suc k) d (omega arith))))

is_late : (a b : ℕ) → b ≤ a → nat_lt a b ≡ false
is_late a b late = grind arith

-- if `a` is at most `b`, the test `nat_le a b` is true
pub is_there : (a b : ℕ) → a ≤ b → nat_le a b ≡ true
is_there a b there = grind arith

pub from_there : (a b : ℕ) → nat_le a b ≡ true → a ≤ b
from_there a b there = grind (arith, there)

is_early : (a b : ℕ) → a < b → nat_lt a b ≡ true
is_early a b early = grind arith

is_ahead : (a b : ℕ) → b < a → nat_le a b ≡ false
is_ahead a b ahead = grind arith

-- the initial total of a trigger doesn't depend on entries at or after the time when it is set
first_value-append : (trigger : TriggerSpec) (history more : List (ℕ × List ℕ)) → NotBefore trigger.at more → first_value trigger (history ++ more) ≡ first_value trigger history
first_value-append trigger history more late =
    let test = λ (entry : ℕ × List ℕ). nat_lt entry.0 trigger.at in
    let none : filter test more ≡ [] = filter_none test more (λ k d below. is_late (get_or more k d).0 trigger.at (late k d below)) in
    ap (λ entries. at_state (last_totals no_totals entries) (watched_state trigger)) (filter-append test history more ∙ ap (λ rest. filter test history ++ rest) none ∙ append-nil (filter test history))

-- a history as the trigger sees it: times and totals of the state that it watches
abbrev pub values_of : TriggerSpec → List (ℕ × List ℕ) → List (ℕ × ℕ)
values_of trigger history = map (λ (entry : ℕ × List ℕ). (entry.0, at_state entry.1 (watched_state trigger))) history

seen_by-append : (trigger : TriggerSpec) (history more : List (ℕ × List ℕ)) → NotBefore trigger.at more → seen_by trigger (history ++ more) ≡ seen_by trigger history ++ values_of trigger more
seen_by-append trigger history more late =
    let test = λ (entry : ℕ × List ℕ). nat_le trigger.at entry.0 in
    let value : ℕ × List ℕ → ℕ × ℕ = λ entry. (entry.0, at_state entry.1 (watched_state trigger)) in
    let all : filter test more ≡ more = filter_all test more (λ k d below. is_there trigger.at (get_or more k d).0 (late k d below)) in
    ap (map value) (filter-append test history more ∙ ap (λ rest. filter test history ++ rest) all) ∙ map-append value (filter test history) more

-- one step of a trigger at a tick
abbrev pub trigger_fold : TriggerState → ℕ × ℕ → TriggerState
trigger_fold state tick = trigger_step state tick.0 tick.1

-- the state of a trigger after entries are appended that are at or after the time when it is set
pub trigger_over-append : (trigger : TriggerSpec) (history more : List (ℕ × List ℕ)) → NotBefore trigger.at more →
    trigger_over trigger (history ++ more) ≡ trigger_after (trigger_over trigger history) (values_of trigger more)
trigger_over-append trigger history more late =
    let first = new_trigger trigger.at (first_value trigger history) trigger.threshold_us trigger.window_us in
    ap (λ value. trigger_after (new_trigger trigger.at value trigger.threshold_us trigger.window_us) (seen_by trigger (history ++ more))) (first_value-append trigger history more late)
    ∙ ap (trigger_after first) (seen_by-append trigger history more late)
    ∙ fold-append trigger_fold first (seen_by trigger history) (values_of trigger more)

-- a trigger is in its initial state if all entries are before the time when it is set
pub trigger_over_first : (trigger : TriggerSpec) (history : List (ℕ × List ℕ)) → Before trigger.at history →
    trigger_over trigger history ≡ new_trigger trigger.at (at_state (last_totals no_totals history) (watched_state trigger)) trigger.threshold_us trigger.window_us
trigger_over_first trigger history early =
    let before = λ (entry : ℕ × List ℕ). nat_lt entry.0 trigger.at in
    let since = λ (entry : ℕ × List ℕ). nat_le trigger.at entry.0 in
    let all : filter before history ≡ history = filter_all before history (λ k d below. is_early (get_or history k d).0 trigger.at (early k d below)) in
    let none : filter since history ≡ [] = filter_none since history (λ k d below. is_ahead trigger.at (get_or history k d).0 (early k d below)) in
    ap (λ entries. trigger_after (new_trigger trigger.at (first_value trigger history) trigger.threshold_us trigger.window_us) (values_of trigger entries)) none
    ∙ ap (λ entries. new_trigger trigger.at (at_state (last_totals no_totals entries) (watched_state trigger)) trigger.threshold_us trigger.window_us) all

-- ---- the times of a history

-- a property of the times of all ticks also holds for the times of the history
history_moments : (P : ℕ → Type 0) (life : GroupLife) (slot : ℕ) (before : List (List ℕ)) (totals : List ℕ) (ticks : List Tick) →
    All (λ (tick : Tick). P tick.at) ticks → All (λ (entry : ℕ × List ℕ). P entry.0) (history_from life slot before totals ticks)
history_moments P life slot before totals [] all = All-nil _
history_moments P life slot before totals (tick ∷ ticks) all =
    let row = row_at tick slot in
    let now = with_shares totals before row in
    let Q = λ (entry : ℕ × List ℕ). P entry.0 in
    let more : All (λ (tick : Tick). P tick.at) ticks = λ k d below. all (suc k) d (omega arith) in
    let there = history_moments P life slot row now ticks more in
    let gone = history_moments P life slot row totals ticks more in
    elim (is_live_at life tick.at) as (λ live. All Q (if live then (tick.at, now) ∷ history_from life slot row now ticks else history_from life slot row totals ticks))
    [ true ↦ All-cons Q (tick.at, now) (history_from life slot row now ticks) (all 0 tick (omega arith)) there | false ↦ gone ]

-- if all ticks are before time `at`, so are the times of the history
pub history_before : (cpus : ℕ) (lives : List GroupLife) (ticks : List Tick) (slot at : ℕ) → All (λ (tick : Tick). tick.at < at) ticks → Before at (history_of cpus lives ticks slot)
history_before cpus lives ticks slot at all = history_moments (λ moment. moment < at) (life_of lives slot) slot (no_row cpus) no_totals ticks all

-- ---- seven totals

-- adding shares doesn't change the number of totals
length-with_shares : (totals : List ℕ) (before now : List (List ℕ)) → length totals ≡ length pressure_places → length (with_shares totals before now) ≡ length pressure_places
unfolding shares
length-with_shares totals before now seven = length-zip_with (λ x y. x + y) totals (shares (growths before now)) seven ∙ seven

-- each entry of a history has seven totals
history_has : (life : GroupLife) (slot : ℕ) (before : List (List ℕ)) (totals : List ℕ) (ticks : List Tick) → length totals ≡ length pressure_places → HasTotals (history_from life slot before totals ticks)
history_has life slot before totals [] seven = All-nil _
history_has life slot before totals (tick ∷ ticks) seven =
    let row = row_at tick slot in
    let now = with_shares totals before row in
    let Q = λ (entry : ℕ × List ℕ). length entry.1 ≡ length pressure_places in
    let long = length-with_shares totals before row seven in
    let there = history_has life slot row now ticks long in
    let gone = history_has life slot row totals ticks seven in
    elim (is_live_at life tick.at) as (λ live. All Q (if live then (tick.at, now) ∷ history_from life slot row now ticks else history_from life slot row totals ticks))
    [ true ↦ All-cons Q (tick.at, now) (history_from life slot row now ticks) long there | false ↦ gone ]

last_has : (before : List ℕ) (history : List (ℕ × List ℕ)) → length before ≡ length pressure_places → HasTotals history → length (last_totals before history) ≡ length pressure_places
last_has before [] seven has = seven
last_has before (entry ∷ history) seven has = last_has entry.1 history (has 0 entry (omega arith)) (λ k d below. has (suc k) d (omega arith))

-- a group has seven totals
pub length-totals_after : (cpus : ℕ) (lives : List GroupLife) (ticks : List Tick) (slot : ℕ) → length (totals_after cpus lives ticks slot) ≡ length pressure_places
unfolding totals_after
length-totals_after cpus lives ticks slot = last_has no_totals (history_of cpus lives ticks slot) refl (history_has (life_of lives slot) slot (no_row cpus) no_totals ticks refl)

-- ---- laws

-- the last totals of a history are the totals before it plus the shares of its samples
sum_from : (life : GroupLife) (slot : ℕ) (before : List (List ℕ)) (totals : List ℕ) (ticks : List Tick) (i : ℕ) → length totals ≡ length pressure_places → i < length pressure_places →
    get_or (last_totals totals (history_from life slot before totals ticks)) i 0 ≡ get_or totals i 0 + sum_by (λ (sample : ℕ × List ℕ). get_or sample.1 i 0) (samples_from life slot before ticks)
unfolding shares
sum_from life slot before totals [] i seven below = omega arith
sum_from life slot before totals (tick ∷ ticks) i seven below =
    let row = row_at tick slot in
    let share = shares (growths before row) in
    let now = plus totals share in
    let f = λ (sample : ℕ × List ℕ). get_or sample.1 i 0 in
    let rest = samples_from life slot row ticks in
    let there = sum_from life slot row now ticks i (length-with_shares totals before row seven) below in
    let gone = sum_from life slot row totals ticks i seven below in
    let added : get_or now i 0 ≡ get_or totals i 0 + get_or share i 0 = get_or-zip_with (λ x y. x + y) totals share i 0 0 0 (omega (arith, seven)) below in
    let live : get_or (last_totals now (history_from life slot row now ticks)) i 0 ≡ get_or totals i 0 + sum_by f ((tick.at, share) ∷ rest) = omega (arith, there, added, sum_by-cons f (tick.at, share) rest) in
    elim (is_live_at life tick.at) as (λ live.
    get_or (last_totals totals (if live then (tick.at, now) ∷ history_from life slot row now ticks else history_from life slot row totals ticks)) i 0
    ≡ get_or totals i 0 + sum_by f (if live then (tick.at, share) ∷ rest else rest))
    [ true ↦ live | false ↦ gone ]

no_total : (i : ℕ) → i < length pressure_places → get_or no_totals i 0 ≡ 0
no_total i below = get_or-map (λ place. 0) pressure_places i 0 0 below

pub total_is_sum : TotalIsSum
unfolding totals_after
total_is_sum cpus lives ticks slot i below =
    let whole = sum_from (life_of lives slot) slot (no_row cpus) no_totals ticks i refl below in
    omega (arith, whole, no_total i below)

totals_never_fall_at : (cpus : ℕ) (lives : List GroupLife) (ticks more : List Tick) (slot i : ℕ) → i < length pressure_places → get_or (totals_after cpus lives ticks slot) i 0 ≤ get_or (totals_after cpus lives (ticks ++ more) slot) i 0
totals_never_fall_at cpus lives ticks more slot i below =
    let on = sum_from (life_of lives slot) slot (last_row slot (no_row cpus) ticks) (totals_after cpus lives ticks slot) more i (length-totals_after cpus lives ticks slot) below in
    omega (arith, ap (λ totals. get_or totals i 0) (totals_after-append cpus lives ticks more slot), on)

pub totals_never_fall : TotalsNeverFall
totals_never_fall cpus lives ticks more slot i =
    let long = length-totals_after cpus lives ticks slot in
    let inside : i < length pressure_places → get_or (totals_after cpus lives ticks slot) i 0 ≤ get_or (totals_after cpus lives (ticks ++ more) slot) i 0 = totals_never_fall_at cpus lives ticks more slot i in
    let past : length pressure_places ≤ i → get_or (totals_after cpus lives ticks slot) i 0 ≤ get_or (totals_after cpus lives (ticks ++ more) slot) i 0 = λ above. rw (get_or_past (totals_after cpus lives ticks slot) i 0 (omega (arith, long))) (omega arith) in
    let case : (i < length pressure_places) ⊎ (length pressure_places ≤ i) = grind arith in
    ⊎_elim inside past case

-- the averages of a group satisfy the invariant of averages
pub group_averages_are : (cpus : ℕ) (lives : List GroupLife) (ticks : List Tick) (slot : ℕ) → IsAverageState (group_averages cpus lives ticks slot)
unfolding group_averages
group_averages_are cpus lives ticks slot = at_most_hundred (life_of lives slot).made (history_of cpus lives ticks slot) (history_has (life_of lives slot) slot (no_row cpus) no_totals ticks refl)

-- if averages satisfy their invariant, each is at most 100 percent
average_most : (s : AverageState) (place factor : ℕ) → IsAverageState s → average_of s place factor ≤ 204800
average_most s place factor is =
    let row = get_or s.averages place [] in
    let in_row : place < length s.averages → factor < length row → get_or row factor 0 ≤ 204800 = λ below inside. (is.each place [] below).most factor 0 inside in
    let past_row : length row ≤ factor → get_or row factor 0 ≤ 204800 = λ above. rw (get_or_past row factor 0 above) (omega arith) in
    let no_row : length s.averages ≤ place → get_or row factor 0 ≤ 204800 = λ above. rw (get_or_past s.averages place [] above) (omega arith) in
    let rows : (place < length s.averages) ⊎ (length s.averages ≤ place) = grind arith in
    let factors : (factor < length row) ⊎ (length row ≤ factor) = grind arith in
    ⊎_elim (λ below. ⊎_elim (in_row below) past_row factors) no_row rows

pub groups_at_most_hundred : GroupsAtMostHundred
groups_at_most_hundred cpus lives ticks slot place factor = average_most (group_averages cpus lives ticks slot) place factor (group_averages_are cpus lives ticks slot)

-- the conditions under which a trigger has fired
pub record HasFired (cpus : ℕ) (lives : List GroupLife) (ticks : List Tick) (tick : Tick) (trigger : TriggerSpec) : Type 0 where
  pub live : is_live_at (life_of lives trigger.slot.0) tick.at ≡ true
  pub begun : trigger.at ≤ tick.at
  pub fired : fires (trigger_over trigger (history_of cpus lives ticks trigger.slot.0)) tick.at (at_state (totals_after cpus lives (ticks ++ tick ∷ []) trigger.slot.0) (watched_state trigger)) ≡ true

and_left : (a b : Bool) → (a && b) ≡ true → a ≡ true
and_left true b both = refl
and_left false b both = both

and_right : (a b : Bool) → (a && b) ≡ true → b ≡ true
and_right true b both = both
and_right false b both = absurd (false≢true both)

has_fired_parts : (cpus : ℕ) (lives : List GroupLife) (ticks : List Tick) (tick : Tick) (trigger : TriggerSpec) → has_fired cpus lives ticks tick trigger ≡ true → HasFired cpus lives ticks tick trigger
unfolding has_fired
has_fired_parts cpus lives ticks tick trigger is =
    let live = is_live_at (life_of lives trigger.slot.0) tick.at in
    let signals = fires (trigger_over trigger (history_of cpus lives ticks trigger.slot.0)) tick.at (at_state (totals_after cpus lives (ticks ++ tick ∷ []) trigger.slot.0) (watched_state trigger)) in
    let both : (live && nat_le trigger.at tick.at) ≡ true = and_left (live && nat_le trigger.at tick.at) signals is in
    let there : nat_le trigger.at tick.at ≡ true = and_right live (nat_le trigger.at tick.at) both in
    record { live = and_left live (nat_le trigger.at tick.at) both; begun = grind (arith, there); fired = and_right (live && nat_le trigger.at tick.at) signals is }

-- later ticks aren't before `at` if the times of the ticks are non-decreasing
later_ticks : (before between : List Tick) (first : Tick) (at : ℕ) → IsNonDecreasingBy (λ (tick : Tick). tick.at) (before ++ first ∷ between) → at ≤ first.at → All (λ (tick : Tick). at ≤ tick.at) (first ∷ between)
later_ticks before between first at rises from = λ k d below.
    let ticks = before ++ first ∷ between in
    let n = length before in
    let long = length-append before (first ∷ between) in
    let order = rises n (n + k) d (omega arith) (omega (arith, long)) in
    let here : get_or ticks n d ≡ first = get_or_at before first between d n refl in
    let there : get_or ticks (n + k) d ≡ get_or (first ∷ between) k d = get_or-append-add before (first ∷ between) k d in
    omega (arith, order, ap (λ (tick : Tick). tick.at) here, ap (λ (tick : Tick). tick.at) there)

pub fired_apart : FiredApart
fired_apart cpus lives trigger before between first second rises fired again =
    let slot = trigger.slot.0 in
    let one = has_fired_parts cpus lives before first trigger fired in
    let two = has_fired_parts cpus lives (before ++ first ∷ between) second trigger again in
    let history = history_of cpus lives before slot in
    let value = at_state (totals_after cpus lives (before ++ first ∷ []) slot) (watched_state trigger) in
    let later = at_state (totals_after cpus lives (before ++ first ∷ between ++ second ∷ []) slot) (watched_state trigger) in
    let row = last_row slot (no_row cpus) before in
    let totals = totals_after cpus lives before slot in
    let more = history_on cpus lives before (first ∷ between) slot in
    let late : NotBefore trigger.at more =
    history_moments (λ moment. trigger.at ≤ moment) (life_of lives slot) slot row totals (first ∷ between) (later_ticks before between first trigger.at rises one.begun) in
    let start = new_trigger trigger.at (first_value trigger history) trigger.threshold_us trigger.window_us in
    let rest = values_of trigger (history_from (life_of lives slot) slot (row_at first slot) (with_shares totals row (row_at first slot)) between) in
    let seen : values_of trigger more ≡ (first.at, value) ∷ rest = rw one.live (ap (λ totals. (first.at, at_state totals (watched_state trigger)) ∷ rest) (sym (totals_live cpus lives before first slot one.live))) in
    let whole : trigger_over trigger (history_of cpus lives (before ++ first ∷ between) slot) ≡ trigger_after start (seen_by trigger history ++ (first.at, value) ∷ rest) =
    ap (trigger_over trigger) (history_of-append cpus lives before (first ∷ between) slot) ∙ trigger_over-append trigger history more late
    ∙ sym (fold-append trigger_fold start (seen_by trigger history) (values_of trigger more)) ∙ ap (λ values. trigger_after start (seen_by trigger history ++ values)) seen in
    signals_apart trigger.at (first_value trigger history) trigger.threshold_us trigger.window_us (seen_by trigger history) rest (first.at, value) (second.at, later) one.fired
    (rw whole at two.fired)

-- ---- successive ticks

-- the last tick after one tick is appended is that tick
pub last_tick-push : (before : Tick) (ticks : List Tick) (tick : Tick) → last_tick before (ticks ++ tick ∷ []) ≡ tick
last_tick-push before [] tick = refl
last_tick-push before (first ∷ ticks) tick = last_tick-push first ticks tick

-- the last row of a group is its row at the last tick
pub last_row_is : (slot : ℕ) (before : Tick) (ticks : List Tick) → last_row slot (row_at before slot) ticks ≡ row_at (last_tick before ticks) slot
last_row_is slot before [] = refl
last_row_is slot before (tick ∷ ticks) = last_row_is slot tick ticks

pub no_tick_row : (cpus slots slot : ℕ) → slot < slots → row_at (no_tick cpus slots) slot ≡ no_row cpus
no_tick_row cpus slots slot below = get_or-replicate slots slot (no_row cpus) [] below

-- the last row of a group is its row at the last tick, starting before the first tick
pub last_row_at : (cpus slots slot : ℕ) (ticks : List Tick) → slot < slots → last_row slot (no_row cpus) ticks ≡ row_at (last_tick (no_tick cpus slots) ticks) slot
last_row_at cpus slots slot ticks below = ap (λ row. last_row slot row ticks) (sym (no_tick_row cpus slots slot below)) ∙ last_row_is slot (no_tick cpus slots) ticks

-- appending a tick that may follow the last tick preserves the order of ticks
pub are_next_push : (before : Tick) (ticks : List Tick) (tick : Tick) → AreNextTicks before ticks → IsNextTick (last_tick before ticks) tick → AreNextTicks before (ticks ++ tick ∷ [])
are_next_push before [] tick all next = (next, tt)
are_next_push before (first ∷ ticks) tick all next = (all.0, are_next_push first ticks tick all.1 next)

-- the last tick is the latest
last_is_latest : (before : Tick) (ticks : List Tick) → AreNextTicks before ticks → before.at ≤ (last_tick before ticks).at
last_is_latest before [] all = omega arith
last_is_latest before (tick ∷ ticks) all = let rest = last_is_latest tick ticks all.1 in omega (arith, all.0.later, rest)

pub none_is_later : (before : Tick) (ticks : List Tick) → AreNextTicks before ticks → All (λ (tick : Tick). tick.at ≤ (last_tick before ticks).at) ticks
none_is_later before [] all = All-nil _
none_is_later before (tick ∷ ticks) all = All-cons (λ (other : Tick). other.at ≤ (last_tick tick ticks).at) tick ticks (last_is_latest tick ticks all.1) (none_is_later tick ticks all.1)
