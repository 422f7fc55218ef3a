-- Proves a bound on the number of kills of a tick, and that each victim is an existing group.
use Rattle.std.proofs.Common.{◌≡◌, ℕ, zero, suc, ◌+◌, ◌-◌, ◌*◌, ◌≤◌, ◌<◌, ◌^◌, List, [], ◌∷◌, length, sym, subst, arith, Bool, true, false, get_or}
use Rattle.std.specs.Prelude.{All, Option, None, Some, if◌then◌else◌, map, nat_le}
use Rattle.std.proofs.lemmas.List.Elements.{All-append, All-contains, All-contains_itself, All-filter, All-map, All-nil}
use Rattle.std.proofs.lemmas.List.{get_or-map, length-append, length-map}
use Rattle.psi_base.specs.declared.event.Slot.{Slot}
use Rattle.psi_spec.specs.declared.machine.GroupLife.{GroupLife}
use Rattle.psi_spec.specs.Groups.{live_groups}
use Rattle.psi_spec.specs.LegalGroups.{IsPathOrder}
use Rattle.psi_spec.specs.Trace.{Trace, limits_of}
use Rattle.psi_spec.specs.World.{after, up_to}
use Rattle.plan_laws.specs.Moments.{is_live_slot}
use Rattle.plan_laws.proofs.MomentsOrder.{order_shows_slots}
use Rattle.pressure_spec.specs.Ticks.{is_evaluation, tick_moment}
use Rattle.ruleset_json.specs.declared.types.Action.{Action}
use Rattle.ruleset_json.specs.declared.types.Rule.{Rule}
use Rattle.ruleset_json.specs.RuleRanges.{FitsRule, FitsRules}
use Rattle.kill_spec.specs.declared.kill.Kill.{Kill}
use Rattle.kill_spec.specs.declared.reading.GroupReading.{GroupReading}
use Rattle.kill_spec.specs.Readings.{Reading}
use Rattle.kill_spec.specs.Victims.{after_of, victim}
use Rattle.kill_spec.specs.Kills.{and_then, chain, kill_by, kills, kills_at, kills_from, kills_of}
use Rattle.kill_spec.specs.Evaluations.{averages_at, group_seen, reading_at, readings_until}
use Rattle.kill_spec.proofs.KillLaws.{of_actions}
use Rattle.kill_spec.proofs.VictimLaws.{victims_match}
use Rattle.proc_plan.specs.Plans.{PlansView}
use Rattle.run_spec.specs.Replay.{Timing, kills_in, kills_until, lives_of, tick_count}
use Rattle.run_laws.proofs.OneMore.{kills_more}
use Rattle.group_tree.specs.Tree.{numbers_of}
use Rattle.replay_rules.specs.Planned.{IsPlanned}
use Rattle.replay_ticks.proofs.PutLaws.{order_below}
use Rattle.plan_laws.proofs.PlanStates.{legal_after}
use Rattle.std.proofs.Math.Nat.{le-div_iff_mul-le}
use Rattle.kill_spec.proofs.Foremost.{by_test}

-- ---- the number of kills

and_then_short : (goes_on : Bool) (kill : Option Kill) (rest : List Kill) → length (and_then goes_on kill rest) ≤ length rest + 1
and_then_short goes_on None rest = omega arith
and_then_short true (Some kill) rest = omega arith
and_then_short false (Some kill) rest = omega arith

-- A chain has at most as many kills as actions.
chain_short : (lives : List GroupLife) (rule act : ℕ) (actions : List Action) (now : Reading) (past : List Reading) → length (chain lives rule act actions now past) ≤ length actions
chain_short lives rule act [] now past = omega arith
chain_short lives rule act (first ∷ rest) now past =
    let not_past = chain_short lives rule (act + 1) rest now past in
    let more = and_then_short (after_of first).always_continue (kill_by rule act now (victim lives first now past)) (chain lives rule (act + 1) rest now past) in
    omega (arith, more, not_past)

if_short : (b : Bool) (xs : List Kill) (most : ℕ) → length xs ≤ most → length (if b then xs else []) ≤ most
if_short true xs most short = short
if_short false xs most short = omega arith

-- A ruleset kills at most 16 groups at a reading.
rule_short : (lives : List GroupLife) (number : ℕ) (rule : Rule) (now : Reading) (past : List Reading) (earlier : List (List Kill)) → FitsRule rule → length (kills_at lives number rule now past earlier) ≤ 16
rule_short lives number rule now past earlier fits =
    let short = chain_short lives number 0 rule.actions now past in
    if_short _ (chain lives number 0 rule.actions now past) 16 (omega (arith, short, fits.1.few))

rules_short : (lives : List GroupLife) (number : ℕ) (rules : List Rule) (now : Reading) (past : List Reading) → All FitsRule rules → length (kills_from lives number rules now past) ≤ 16 * length rules
rules_short lives number [] now past fits = omega arith
rules_short lives number (rule ∷ rules) now past fits =
    let first = rule_short lives number rule now past (kills_of lives number rule past) (fits 0 rule (omega arith)) in
    let rest = rules_short lives (number + 1) rules now past (λ k d below. fits (suc k) d (omega (arith, below))) in
    let all = length-append (kills_at lives number rule now past (kills_of lives number rule past)) (kills_from lives (number + 1) rules now past) in
    omega (arith, first, rest, all)

kills_short : (lives : List GroupLife) (rules : List Rule) (now : Reading) (past : List Reading) → FitsRules rules → length (kills lives rules now past) ≤ 1024
unfolding kills
kills_short lives rules now past fits =
    let all = rules_short lives 0 rules now past fits.each in
    omega (arith, all, fits.few)

-- A tick has at most 1,024 kills.
pub tick_short : (trace : Trace) (timing : Timing) (rules : List Rule) (i : ℕ) → FitsRules rules → length (kills_in trace timing rules i) ≤ 1024
tick_short trace timing rules i fits =
    if_short (is_evaluation timing.interval timing.length i) _ 1024
    (kills_short (lives_of trace) rules (reading_at trace.cpus trace.events timing.length i) (readings_until trace.cpus trace.events timing.length timing.interval (i - 1)) fits)

kills_few : (trace : Trace) (timing : Timing) (rules : List Rule) (n : ℕ) → FitsRules rules → kills_until trace timing rules n ≤ 1024 * n
kills_few trace timing rules zero fits = omega arith
kills_few trace timing rules (suc n) fits =
    let next : suc n ≡ n + 1 = omega arith in
    let before = kills_few trace timing rules n fits in
    let more = kills_more trace timing rules n in
    let one = tick_short trace timing rules (n + 1) fits in
    subst (λ k. kills_until trace timing rules k ≤ 1024 * k) (sym next) (let all : kills_until trace timing rules (n + 1) ≤ 1024 * (n + 1) = omega (arith, before, more, one) in all)

-- A trace has at most a million ticks.
ticks_million : (plans : PlansView) (trace : Trace) (timing : Timing) (n : ℕ) → IsPlanned plans trace timing → n ≤ tick_count trace timing → n ≤ 1000000
ticks_million plans trace timing n planned within =
    let early = (legal_after (limits_of timing.length trace.cpus) trace.events planned.accepted.legal).early in
    by_test _ (nat_le 1000001 n)
    (λ many.
    let few : 1000001 ≤ tick_count trace timing = grind (arith, many, within) in
    let here : 1000001 * timing.length ≤ (after trace.events).last = (le-div_iff_mul-le planned.some).0 few in
    absurd (let no : ⊥ = omega (arith, here, early, planned.some) in no))
    (λ few. grind (arith, few))

-- The number of kills fits in 64 bits.
pub kills_fit : (plans : PlansView) (trace : Trace) (timing : Timing) (rules : List Rule) (i so_far : ℕ) → IsPlanned plans trace timing → FitsRules rules → i < tick_count trace timing → so_far ≡ kills_until trace timing rules i
    → so_far + length (kills_in trace timing rules (i + 1)) < 2 ^ 64
kills_fit plans trace timing rules i so_far planned fits left is =
    let all = kills_more trace timing rules i in
    let few = kills_few trace timing rules (i + 1) fits in
    let ticks = ticks_million plans trace timing (i + 1) planned (omega (arith, left)) in
    omega (arith, all, few, ticks, is)

-- ---- the victims

-- The slot of the victim is below `n`.
abbrev IsOf : ℕ → Kill → Type 0
IsOf n kill = kill.victim.0 < n

-- The slot of the group of a reading is below `n`.
abbrev IsBelow : ℕ → GroupReading → Type 0
IsBelow n group = group.slot.0 < n

-- Each victim of a ruleset is a group of the reading.
rule_below : (lives : List GroupLife) (n number : ℕ) (rule : Rule) (now : Reading) (past : List Reading) → All (IsBelow n) now.groups → All (IsOf n) (kills_at lives number rule now past (kills_of lives number rule past))
rule_below lives n number rule now past read = λ k d below.
    let found = kills_at lives number rule now past (kills_of lives number rule past) in
    let of_rule = of_actions lives number rule now past (get_or found k d) (All-contains_itself found k d below) in
    let there = (victims_match lives of_rule.act now past of_rule.group of_rule.chosen).0.0 in
    let slot : of_rule.group.slot.0 < n = All-contains (IsBelow n) now.groups of_rule.group read there in
    subst (λ (s : Slot). s.0 < n) (sym of_rule.slot) slot

rules_below : (lives : List GroupLife) (n number : ℕ) (rules : List Rule) (now : Reading) (past : List Reading) → All (IsBelow n) now.groups → All (IsOf n) (kills_from lives number rules now past)
rules_below lives n number [] now past read = All-nil (IsOf n)
rules_below lives n number (rule ∷ rules) now past read =
    All-append (IsOf n) (kills_at lives number rule now past (kills_of lives number rule past)) (kills_from lives (number + 1) rules now past)
    (rule_below lives n number rule now past read) (rules_below lives n (number + 1) rules now past read)

-- The slots of pairs are below `n` if all slots in the list of their slots are.
pairs_below : (n : ℕ) (pairs : List (List ℕ × ℕ)) → All (λ slot. slot < n) (map (λ (pair : List ℕ × ℕ). pair.1) pairs) → All (λ (pair : List ℕ × ℕ). pair.1 < n) pairs
pairs_below n pairs all = λ k d below.
    let slot : List ℕ × ℕ → ℕ = λ (pair : List ℕ × ℕ). pair.1 in
    subst (λ s. s < n) (get_or-map slot pairs k d 0 below) (all k 0 (omega (arith, below, length-map pairs slot)))

-- Each group that is read at a tick is an existing group of the trace.
read_below : (plans : PlansView) (trace : Trace) (timing : Timing) (order : List ℕ) (i : ℕ) → IsPlanned plans trace timing → IsPathOrder (lives_of trace) order
    → All (IsBelow (length (lives_of trace))) (reading_at trace.cpus trace.events timing.length i).groups
unfolding reading_at
read_below plans trace timing order i planned ordered =
    let n = length (lives_of trace) in
    let at = tick_moment timing.length i in
    let pairs = live_groups (after (up_to trace.events at)).groups in
    let same = order_shows_slots (limits_of timing.length trace.cpus) trace.events planned.accepted.legal order ordered at in
    let slots : All (λ slot. slot < n) (map (λ (pair : List ℕ × ℕ). pair.1) pairs) =
    subst (All (λ slot. slot < n)) (sym same) (All-filter (is_live_slot (lives_of trace) at) (λ slot. slot < n) order (order_below (lives_of trace) order ordered)) in
    All-map (IsBelow n) (λ (pair : List ℕ × ℕ). group_seen (up_to trace.events at) (averages_at trace.cpus trace.events timing.length i pair.1) pair.1) pairs (pairs_below n pairs slots)

if_below : (b : Bool) (n : ℕ) (xs : List Kill) → All (IsOf n) xs → All (IsOf n) (if b then xs else [])
if_below true n xs all = all
if_below false n xs all = All-nil (IsOf n)

-- Each victim at a tick is an existing group.
pub kills_below : (plans : PlansView) (trace : Trace) (timing : Timing) (rules : List Rule) (order : List Slot) (i : ℕ) → IsPlanned plans trace timing → IsPathOrder plans.lives (numbers_of order)
    → All (λ (kill : Kill). kill.victim.0 < length plans.lives) (kills_in trace timing rules i)
unfolding kills
kills_below plans trace timing rules order i planned ordered =
    let here : IsPathOrder (lives_of trace) (numbers_of order) = subst (λ lives. IsPathOrder lives (numbers_of order)) planned.represents.lives ordered in
    let read = read_below plans trace timing (numbers_of order) i planned here in
    let now = reading_at trace.cpus trace.events timing.length i in
    let past = readings_until trace.cpus trace.events timing.length timing.interval (i - 1) in
    subst (λ (lives : List GroupLife). All (IsOf (length lives)) (kills_in trace timing rules i)) (sym planned.represents.lives)
    (if_below (is_evaluation timing.interval timing.length i) (length (lives_of trace)) (kills_from (lives_of trace) 0 rules now past) (rules_below (lives_of trace) (length (lives_of trace)) 0 rules now past read))
