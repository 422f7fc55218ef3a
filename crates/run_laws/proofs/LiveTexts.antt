-- Proofs about texts with live lines, tick by tick.
use Rattle.std.proofs.Common.{◌≡◌, ℕ, zero, suc, ◌+◌, ◌-◌, ◌*◌, ◌≤◌, ◌<◌, List, [], ◌++◌, replicate, refl, sym, ap, ◌∙◌, subst, append_assoc, arith, true, false, cond, Option, None, Some, ◌⊎◌, ⊎_elim}
use Rattle.std.specs.Prelude.{nat_le}
use Rattle.std.proofs.Math.Nat.{mul-le-mul_right}
use Rattle.std.proofs.lemmas.Bool.Decides.{nat_tests}
use Rattle.std.proofs.lemmas.List.{length-replicate}
use Rattle.psi_spec.specs.World.{Limits, first_world}
use Rattle.psi_spec.specs.Refusal.{AreLegal}
use Rattle.psi_spec.specs.Trace.{Trace}
use Rattle.psi_spec.specs.Changes.{RiseWithin, count_at}
use Rattle.pressure_spec.specs.Ticks.{tick_moment}
use Rattle.plan_laws.specs.Plan.{plan_of}
use Rattle.plan_laws.proofs.PlanTimes.{changes_more}
use Rattle.plan_laws.proofs.PlanUpTo.{counts_by_plan}
use Rattle.ruleset_json.specs.declared.types.Rule.{Rule}
use Rattle.run_spec.specs.Live.{AreCounts, IsLiveOf, IsLiveText, LiveWatch, changes_until, live_lines, live_slot_at}
use Rattle.run_spec.specs.Replay.{Beside, IsReplayText, Timing, last_line, replay_text, tick_count, tick_text, ticks_text, with_rules}
use Rattle.run_laws.specs.Live.{AreTickTexts, NoTextAtFirst, OneTextMore, OneTextUnwatched, TextsGoOn, WholeText}
use Rattle.run_laws.proofs.OneMore.{text_more}

-- ---- texts with different live lines

-- these live lines and rules, as the data that a text needs in addition to a trace
abbrev beside_by : (ℕ → List ℕ) → List Rule → Beside
beside_by live rules = record { live = live; rules = rules }

-- a tick with the same live lines has the same text
tick_same : (trace : Trace) (timing : Timing) (rules : List Rule) (old new : ℕ → List ℕ) (i : ℕ) → old i ≡ new i → tick_text trace timing (beside_by old rules) i ≡ tick_text trace timing (beside_by new rules) i
unfolding tick_text
tick_same trace timing rules old new i same = rw same refl

-- ticks with the same live lines have the same text
ticks_same : (trace : Trace) (timing : Timing) (rules : List Rule) (old new : ℕ → List ℕ) (count : ℕ) → ((i : ℕ) → 1 ≤ i → i ≤ count → old i ≡ new i)
    → ticks_text trace timing (beside_by old rules) count ≡ ticks_text trace timing (beside_by new rules) count
ticks_same trace timing rules old new zero same = refl
ticks_same trace timing rules old new (suc count) same =
    let next : count + 1 ≡ suc count = omega arith in
    let before = ticks_same trace timing rules old new count (λ i low high. same i low (omega (arith, high))) in
    let here = tick_same trace timing rules old new (count + 1) (same (count + 1) (omega arith) (omega arith)) in
    let split = text_more trace timing (beside_by old rules) count in
    let joined = text_more trace timing (beside_by new rules) count in
    subst (λ n. ticks_text trace timing (beside_by old rules) n ≡ ticks_text trace timing (beside_by new rules) n) next (cc (before, here, split, joined))

-- ---- one more tick

-- the live lines of the first ticks, and other live lines from then on
abbrev lives_with : (ℕ → List ℕ) → ℕ → List ℕ → ℕ → List ℕ
lives_with live i line j = cond (nat_le j i) (live j) line

lives_before : (live : ℕ → List ℕ) (i : ℕ) (line : List ℕ) (j : ℕ) → j ≤ i → live j ≡ lives_with live i line j
lives_before live i line j low = let on : nat_le j i ≡ true = grind (arith, nat_tests) in rw on refl

lives_after : (live : ℕ → List ℕ) (i : ℕ) (line : List ℕ) (j : ℕ) → i < j → line ≡ lives_with live i line j
lives_after live i line j high = let off : nat_le j i ≡ false = grind (arith, nat_tests) in rw off refl

pub one_text_more : OneTextMore
one_text_more trace timing rules i text line before here =
    let live : ℕ → List ℕ = lives_with before.0 i here.0 in
    let each : (j : ℕ) → 1 ≤ j → j ≤ i + 1 → IsLiveText trace timing.length timing.watch j (live j) = λ j low high.
    let case : (j ≤ i) ⊎ (j ≡ i + 1) = grind (arith, high) in
    ⊎_elim
    (λ old. subst (IsLiveText trace timing.length timing.watch j) (lives_before before.0 i here.0 j old) (before.1 j low old))
    (λ now. subst (IsLiveText trace timing.length timing.watch j) (lives_after before.0 i here.0 j (omega (arith, now))) (subst (λ n. IsLiveText trace timing.length timing.watch n here.0) (sym now) here.1))
    case in
    let texts = before.2 ∙ ticks_same trace timing rules before.0 live i (λ j low high. lives_before before.0 i here.0 j high) in
    let lines = here.2 ∙ tick_same trace timing rules (λ _. here.0) live (i + 1) (lives_after before.0 i here.0 (i + 1) (omega arith)) in
    (live, each, ap (λ t. t ++ line) texts ∙ ap (λ l. ticks_text trace timing (beside_by live rules) i ++ l) lines ∙ sym (text_more trace timing (beside_by live rules) i))

pub no_text_at_first : NoTextAtFirst
no_text_at_first trace timing rules = (λ _. [], λ i low high. absurd (omega (arith, low, high)), refl)

-- ---- all ticks

whole_by : (trace : Trace) (timing : Timing) (rules : List Rule) (live : ℕ → List ℕ) (text : List ℕ) → text ≡ ticks_text trace timing (beside_by live rules) (tick_count trace timing)
    → text ++ last_line trace timing (with_rules rules) ≡ replay_text trace timing (beside_by live rules)
unfolding replay_text
whole_by trace timing rules live text is = ap (λ t. t ++ last_line trace timing (with_rules rules)) is

pub whole_text : WholeText
whole_text trace timing rules text are = (are.0, are.1, whole_by trace timing rules are.0 text are.2)

replay_same : (trace : Trace) (timing : Timing) (rules : List Rule) (live : ℕ → List ℕ) → ((i : ℕ) → 1 ≤ i → i ≤ tick_count trace timing → live i ≡ [])
    → replay_text trace timing (beside_by live rules) ≡ replay_text trace timing (with_rules rules)
unfolding replay_text
replay_same trace timing rules live none = ap (λ t. t ++ last_line trace timing (with_rules rules)) (ticks_same trace timing rules live (λ _. []) (tick_count trace timing) none)

pub one_text_unwatched : OneTextUnwatched
one_text_unwatched trace timing rules text none is =
    is.2 ∙ replay_same trace timing rules is.0 (λ i low high. subst (λ watch. IsLiveText trace timing.length watch i (is.0 i)) none (is.1 i low high))

-- ---- changes of a processor up to a tick

-- the number of a processor's changes up to a later time isn't smaller
pub count_more : (limits : Limits) (trace : Trace) → AreLegal limits first_world trace.events → (cpu at later : ℕ) → at ≤ later → count_at cpu trace.events at ≤ count_at cpu trace.events later
count_more limits trace legal cpu at later forward =
    let few = (counts_by_plan limits trace.events legal cpu at).0 in
    let more = (counts_by_plan limits trace.events legal cpu later).0 in
    let counts = changes_more (plan_of cpu trace.events) at later forward in
    omega (arith, few, more, counts)

-- the number of a processor's changes up to the next tick isn't smaller
until_more : (limits : Limits) (trace : Trace) → AreLegal limits first_world trace.events → (tick cpu i : ℕ) → changes_until trace tick cpu i ≤ changes_until trace tick cpu (suc i)
until_more limits trace legal tick cpu zero = omega arith
until_more limits trace legal tick cpu (suc i) =
    let forward : suc i * tick ≤ suc (suc i) * tick = mul-le-mul_right tick (omega arith) in
    count_more limits trace legal cpu (tick_moment tick (suc i)) (tick_moment tick (suc (suc i))) forward

-- ---- existence of live lines

-- a constant number rises from a lower bound to itself
rise_same : (low high count : ℕ) → low ≤ high → RiseWithin low (replicate count high) high
rise_same low high zero within = within
rise_same low high (suc count) within = (within, rise_same high high count (omega arith))

-- samples after all changes up to a tick have valid numbers of changes
counts_at_end : (limits : Limits) (trace : Trace) → AreLegal limits first_world trace.events → (tick i requested cpu : ℕ) → 1 ≤ i → AreCounts trace tick i cpu requested (replicate requested (changes_until trace tick cpu i))
counts_at_end limits trace legal tick zero requested cpu low = absurd (omega (arith, low))
counts_at_end limits trace legal tick (suc i) requested cpu low =
    let before : suc i - 1 ≡ i = omega arith in
    let more = until_more limits trace legal tick cpu i in
    record {
      many = length-replicate requested (changes_until trace tick cpu (suc i));
      rise = rise_same (changes_until trace tick cpu (suc i - 1)) (changes_until trace tick cpu (suc i)) requested (subst (λ n. changes_until trace tick cpu n ≤ changes_until trace tick cpu (suc i)) (sym before) more);
    }

-- there are valid live lines of a slot
some_lines : (limits : Limits) (trace : Trace) → AreLegal limits first_world trace.events → (tick i requested : ℕ) → 1 ≤ i → (slot : Option ℕ) → (live : List ℕ) × IsLiveOf trace tick i requested slot live
some_lines limits trace legal tick i requested low None = ([], refl)
some_lines limits trace legal tick i requested low (Some slot) =
    let counts : ℕ → List ℕ = λ cpu. replicate requested (changes_until trace tick cpu i) in
    (live_lines trace slot (tick_moment tick i) counts, (counts, λ cpu _. counts_at_end limits trace legal tick i requested cpu low, refl))

-- there are valid live lines of a tick
some_live : (limits : Limits) (trace : Trace) → AreLegal limits first_world trace.events → (tick : ℕ) (watch : Option LiveWatch) (i : ℕ) → 1 ≤ i → (live : List ℕ) × IsLiveText trace tick watch i live
some_live limits trace legal tick None i low = ([], refl)
some_live limits trace legal tick (Some watch) i low = some_lines limits trace legal tick i watch.count low (live_slot_at trace.events watch.path (tick_moment tick i))

-- ---- the rest of an output

-- the rest of an output after a tick, with `left` more ticks
rest_by : (limits : Limits) (trace : Trace) → AreLegal limits first_world trace.events → (timing : Timing) (rules : List Rule) (left i : ℕ) (text : List ℕ) → i + left ≡ tick_count trace timing
    → AreTickTexts trace timing rules i text → (rest : List ℕ) × IsReplayText trace timing rules (text ++ rest)
rest_by limits trace legal timing rules zero i text end are =
    let all : i ≡ tick_count trace timing = omega (arith, end) in
    (last_line trace timing (with_rules rules), whole_text trace timing rules text (subst (λ n. AreTickTexts trace timing rules n text) all are))
rest_by limits trace legal timing rules (suc left) i text end are =
    let here = some_live limits trace legal timing.length timing.watch (i + 1) (omega arith) in
    let line : List ℕ = tick_text trace timing (beside_by (λ _. here.0) rules) (i + 1) in
    let next : i + 1 + left ≡ tick_count trace timing = omega (arith, end) in
    let more = rest_by limits trace legal timing rules left (i + 1) (text ++ line) next (one_text_more trace timing rules i text line are (here.0, here.1, refl)) in
    (line ++ more.0, subst (IsReplayText trace timing rules) (append_assoc text line more.0) more.1)

pub texts_go_on : TextsGoOn
texts_go_on limits trace timing rules i text legal low are = rest_by limits trace legal timing rules (tick_count trace timing - i) i text (omega (arith, low)) are
