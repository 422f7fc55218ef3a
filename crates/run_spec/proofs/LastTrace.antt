-- Proofs about the rounds of `whatif`, which remove kills from a trace in order.
use Rattle.std.proofs.Common.{◌≡◌, ◌⊎◌, inl, inr, ℕ, zero, suc, ◌<◌, ◌≤◌, List, length, nat_lt, refl, ap, ◌∙◌, subst, arith, None, Some, Bool, true, false, if◌then◌else◌, get_or}
use Rattle.std.specs.Prelude.{Result, Ok, Err, slice_get}
use Rattle.std.proofs.lemmas.Option.{slice_get_cases, slice_get_past}
use Rattle.std.proofs.lemmas.Bool.Decides.{nat_tests}
use Rattle.psi_spec.specs.World.{most_events}
use Rattle.psi_spec.specs.Trace.{Trace}
use Rattle.ruleset_json.specs.declared.types.Rule.{Rule}
use Rattle.run_spec.specs.Replay.{Timing}
use Rattle.run_spec.specs.Whatif.{after_rounds, all_kills, bounded_trace, most_rounds, round, then_round, without_kill}
use Rattle.run_spec.specs.Laws.{LastOutgrown, LastWithoutKill, OutgrownAtRound}

-- ---- no kill with this number

past_if : {A : Type 0} (xs : List A) (i : ℕ) → slice_get xs i ≡ None → ((x : A) × (i < length xs) × (slice_get xs i ≡ Some x) × (get_or xs i x ≡ x)) ⊎ ((length xs ≤ i) × (slice_get xs i ≡ None)) → length xs ≤ i
past_if xs i is (inl found) = let some = found.2 in absurd (let no : ⊥ = cc (is, some) in no)
past_if xs i is (inr past) = past.0

past_none : {A : Type 0} (xs : List A) (i : ℕ) → slice_get xs i ≡ None → length xs ≤ i
past_none xs i is = past_if xs i is (slice_get_cases xs i).1

-- if index `i` is past the end of a list, so is every later index `j`
none_following : {A : Type 0} (xs : List A) (i j : ℕ) → i ≤ j → slice_get xs i ≡ None → slice_get xs j ≡ None
none_following xs i j low is = slice_get_past xs j (omega (arith, past_none xs i is, low))

-- ---- rounds

-- a trace with at most `most_events` events passes the check
pub within_bounds : (trace : Trace) → length trace.events ≤ most_events → bounded_trace trace ≡ Ok trace
within_bounds trace few =
    let not : nat_lt most_events (length trace.events) ≡ false = grind (arith, nat_tests) in
    rw not refl

-- a trace with more than `most_events` events fails the check with the number of its events
pub beyond_bounds : (trace : Trace) → most_events < length trace.events → bounded_trace trace ≡ Err (length trace.events)
beyond_bounds trace many =
    let is : nat_lt most_events (length trace.events) ≡ true = grind (arith, nat_tests) in
    rw is refl

-- one more round continues from the trace that the first `count` rounds left
pub one_round : (trace left : Trace) (timing : Timing) (rules : List Rule) (count : ℕ) → after_rounds trace timing rules count ≡ Ok left
    → after_rounds trace timing rules (suc count) ≡ round timing rules count left
unfolding after_rounds
one_round trace left timing rules count is = ap (then_round timing rules count) is

-- an `Err` of the first `count` rounds is also the result of one more round
no_round : (trace : Trace) (timing : Timing) (rules : List Rule) (count events : ℕ) → after_rounds trace timing rules count ≡ Err events
    → after_rounds trace timing rules (suc count) ≡ Err events
unfolding after_rounds
no_round trace timing rules count events is = ap (then_round timing rules count) is

-- a number that is at most `suc n` is `suc n`, or at most `n`
or_before : (i n : ℕ) → i ≤ suc n → (i ≡ suc n) ⊎ (i ≤ n)
or_before i n low = elim (nat_lt n i) as (λ b. nat_lt n i ≡ b → (i ≡ suc n) ⊎ (i ≤ n)) [
  | true ↦ λ is. inl (grind (arith, nat_tests))
  | false ↦ λ is. inr (grind (arith, nat_tests))
] refl

-- a property that each round preserves still holds after one more round
lasts_by : (P : ℕ → Type 0) (i n : ℕ) → P i → (i ≤ n → P n) → (i ≤ n → P n → P (suc n)) → (i ≡ suc n) ⊎ (i ≤ n) → P (suc n)
lasts_by P i n first before goes (inl same) = subst P same first
lasts_by P i n first before goes (inr low) = goes low (before low)

lasts : (P : ℕ → Type 0) (i : ℕ) → P i → ((n : ℕ) → i ≤ n → P n → P (suc n)) → (n : ℕ) → i ≤ n → P n
lasts P i first goes zero low = subst P (omega (arith, low)) first
lasts P i first goes (suc n) low = lasts_by P i n first (lasts P i first goes n) (goes n) (or_before i n low)

-- a round that finds no kill leaves the trace unchanged
idle_round : (left : Trace) (timing : Timing) (rules : List Rule) (number : ℕ) → length left.events ≤ most_events → slice_get (all_kills left timing rules) number ≡ None
    → round timing rules number left ≡ Ok left
idle_round left timing rules number few none = ap (λ kill. bounded_trace (without_kill left kill)) none ∙ within_bounds left few

pub last_without_kill : LastWithoutKill
last_without_kill trace left timing rules count some few is none =
    lasts (λ n. after_rounds trace timing rules n ≡ Ok left) count is
    (λ n low so. one_round trace left timing rules n so ∙ idle_round left timing rules n few (none_following (all_kills left timing rules) count n low none))
    most_rounds some

pub last_outgrown : LastOutgrown
last_outgrown trace timing rules count events some is =
    lasts (λ n. after_rounds trace timing rules n ≡ Err events) count is (λ n low so. no_round trace timing rules n events so) most_rounds some

-- ---- traces with too many events

-- some round before round `count` left `events` events, which is too many
abbrev pub GrewBefore : Trace → Timing → List Rule → ℕ → ℕ → Type 0
GrewBefore trace timing rules events count =
    (number : ℕ) × (left : Trace) × (number < count) × (after_rounds trace timing rules number ≡ Ok left)
    × (length (without_kill left (slice_get (all_kills left timing rules) number)).events ≡ events) × (most_events < events)

-- if the check of a trace fails, the trace has the reported number of events, and that is too many
is_beyond : (trace : Trace) (events : ℕ) → bounded_trace trace ≡ Err events → (length trace.events ≡ events) × (most_events < events)
is_beyond trace events is = go (nat_lt most_events (length trace.events)) refl is
  where
    go : (b : Bool) → nat_lt most_events (length trace.events) ≡ b → (if b then Err (length trace.events) else Ok trace) ≡ Err events → (length trace.events ≡ events) × (most_events < events)
    go true large is = let same : length trace.events ≡ events = cc is in (same, grind (arith, nat_tests, large, same))
    go false small is = absurd (let no : ⊥ = cc is in no)

grew_by : (trace : Trace) (timing : Timing) (rules : List Rule) (events n : ℕ) (before : Result Trace ℕ) → after_rounds trace timing rules n ≡ before
    → (after_rounds trace timing rules n ≡ Err events → GrewBefore trace timing rules events n) → then_round timing rules n before ≡ Err events → GrewBefore trace timing rules events (suc n)
grew_by trace timing rules events n (Ok left) so earlier is =
    let found = is_beyond (without_kill left (slice_get (all_kills left timing rules) n)) events is in
    (n, left, omega arith, so, found.0, found.1)
grew_by trace timing rules events n (Err more) so earlier is =
    let same : more ≡ events = cc is in
    let found = earlier (so ∙ ap (λ (k : ℕ). let left : Result Trace ℕ = Err k in left) same) in
    (found.0, found.1, omega (arith, found.2), found.3, found.4, found.5)

grew : (trace : Trace) (timing : Timing) (rules : List Rule) (events n : ℕ) → after_rounds trace timing rules n ≡ Err events → GrewBefore trace timing rules events n
unfolding after_rounds
grew trace timing rules events zero is = absurd (let no : ⊥ = cc is in no)
grew trace timing rules events (suc n) is =
    grew_by trace timing rules events n (after_rounds trace timing rules n) refl (grew trace timing rules events n) is

pub outgrown_at_round : OutgrownAtRound
outgrown_at_round trace timing rules events is = grew trace timing rules events most_rounds is
