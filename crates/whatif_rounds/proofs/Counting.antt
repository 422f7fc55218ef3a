-- Proves properties of the kills of a trace, tick by tick.
use Rattle.std.proofs.Common.{◌≡◌, ℕ, ◌+◌, ◌-◌, ◌<◌, ◌≤◌, List, [], ◌∷◌, ◌++◌, length, get_or, sym, ap, ◌∙◌, subst, arith, append_assoc, None, Some, true, false}
use Rattle.std.specs.Prelude.{slice_get}
use Rattle.std.specs.List.{flat_map, range_with_len}
use Rattle.std.proofs.lemmas.Grind.{flat_map-append}
use Rattle.std.proofs.lemmas.List.{append-nil, get_or-append-add, get_or_append_left, length-append}
use Rattle.std.proofs.lemmas.Option.{slice_get-get_or, slice_get_past}
use Rattle.psi_spec.specs.Trace.{Trace}
use Rattle.ruleset_json.specs.declared.types.Rule.{Rule}
use Rattle.kill_spec.specs.declared.kill.Kill.{Kill}
use Rattle.run_spec.specs.Replay.{Timing, kills_in, tick_count}
use Rattle.run_spec.specs.Whatif.{all_kills, kills_by}
use Rattle.run_laws.proofs.OneMore.{range_more, range_parts}
use Rattle.replay_ticks.specs.Replays.{IsReplay, Passes, ReplayView}

-- ---- lists

-- Computes the index of an item in the middle of three concatenated lists.
in_middle : {X : Type 0} (before here suffix : List X) (left number : ℕ) (d : X) → left < length here → left + length before ≡ number
    → Some (get_or here left d) ≡ slice_get (before ++ (here ++ suffix)) number
in_middle {X = X} before here suffix left number d inside counted =
    let place : number ≡ length before + left = omega (arith, counted) in
    let long = length-append before (here ++ suffix) in
    let longer = length-append here suffix in
    let within : number < length (before ++ (here ++ suffix)) = omega (arith, place, long, longer, inside) in
    let found : get_or (before ++ (here ++ suffix)) number d ≡ get_or here left d =
    ap (λ n. get_or (before ++ (here ++ suffix)) n d) place ∙ get_or-append-add before (here ++ suffix) left d ∙ get_or_append_left here suffix d left inside in
    ap (λ (x : X). Some x) (sym found) ∙ sym (slice_get-get_or (before ++ (here ++ suffix)) number d within)

-- ---- ticks

-- The kills of the first i + 1 ticks are the kills of the first `i` ticks, followed by the kills of
-- tick i + 1.
by_more : (trace : Trace) (timing : Timing) (rules : List Rule) (i : ℕ) → kills_by trace timing rules (i + 1) ≡ kills_by trace timing rules i ++ kills_in trace timing rules (i + 1)
by_more trace timing rules i =
    let next : 1 + i ≡ i + 1 = omega arith in
    ap (flat_map (kills_in trace timing rules)) (range_more 1 i)
    ∙ flat_map-append (kills_in trace timing rules) (range_with_len 1 i) ((1 + i) ∷ [])
    ∙ ap (λ k. kills_by trace timing rules i ++ (kills_in trace timing rules k ++ [])) next
    ∙ ap (λ kills. kills_by trace timing rules i ++ kills) (append-nil (kills_in trace timing rules (i + 1)))

-- The kills after tick i + 1.
abbrev not_past_tick : Trace → Timing → List Rule → ℕ → List Kill
not_past_tick trace timing rules i = flat_map (kills_in trace timing rules) (range_with_len (1 + (i + 1)) (tick_count trace timing - (i + 1)))

-- The kills of a trace are the kills before a tick, at the tick and after the tick.
three_parts : (trace : Trace) (timing : Timing) (rules : List Rule) (i : ℕ) → i < tick_count trace timing
    → all_kills trace timing rules ≡ kills_by trace timing rules i ++ (kills_in trace timing rules (i + 1) ++ not_past_tick trace timing rules i)
three_parts trace timing rules i left =
    let whole : tick_count trace timing ≡ (i + 1) + (tick_count trace timing - (i + 1)) = omega (arith, left) in
    ap (kills_by trace timing rules) whole
    ∙ ap (flat_map (kills_in trace timing rules)) (range_parts 1 (i + 1) (tick_count trace timing - (i + 1)))
    ∙ flat_map-append (kills_in trace timing rules) (range_with_len 1 (i + 1)) (range_with_len (1 + (i + 1)) (tick_count trace timing - (i + 1)))
    ∙ ap (λ kills. kills ++ not_past_tick trace timing rules i) (by_more trace timing rules i)
    ∙ append_assoc (kills_by trace timing rules i) (kills_in trace timing rules (i + 1)) (not_past_tick trace timing rules i)

-- ---- a replay that looks for a kill

-- The replay has passed the kills of all replayed ticks. `left` is the number of further kills
-- before the kill with the index `number`.
pub record HasSearched (replay : ReplayView) (trace : Trace) (timing : Timing) (rules : List Rule) (left number : ℕ) : Type 0 where
  pub is : IsReplay replay trace timing rules replay.made
  pub counted : left + length (kills_by trace timing rules replay.made) ≡ number

-- Before the first tick, no kill has been passed.
pub none_searched : (replay : ReplayView) (trace : Trace) (timing : Timing) (rules : List Rule) (number : ℕ) → IsReplay replay trace timing rules 0 → HasSearched replay trace timing rules number number
none_searched replay trace timing rules number is = record {
  is = subst (IsReplay replay trace timing rules) (sym is.made) is;
  counted = subst (λ i. number + length (kills_by trace timing rules i) ≡ number) (sym is.made) (omega arith);
}

-- The kills at the replay's next tick are the kills of the trace at that tick.
pub next_kills : (old new : ReplayView) (trace : Trace) (timing : Timing) (rules : List Rule) (kills : List Kill) → Passes trace timing rules old.made old new true
    → ((i : ℕ) → IsReplay new trace timing rules i → kills ≡ kills_in trace timing rules i) → kills ≡ kills_in trace timing rules (old.made + 1)
next_kills old new trace timing rules kills maybe_rules are = are (old.made + 1) maybe_rules.1

-- If `left` is less than the number of kills at the tick, the kill with the index `number` is among
-- them.
pub found_here : (old new : ReplayView) (trace : Trace) (timing : Timing) (rules : List Rule) (kills : List Kill) (left number : ℕ) (d : Kill) → HasSearched old trace timing rules left number
    → Passes trace timing rules old.made old new true → kills ≡ kills_in trace timing rules (old.made + 1) → left < length kills
    → Some (get_or kills left d) ≡ slice_get (all_kills trace timing rules) number
found_here old new trace timing rules kills left number d so maybe_rules are inside =
    ap (λ ks. Some (get_or ks left d)) are
    ∙ in_middle (kills_by trace timing rules old.made) (kills_in trace timing rules (old.made + 1)) (not_past_tick trace timing rules old.made) left number d (subst (λ ks. left < length ks) are inside) so.counted
    ∙ sym (ap (λ ks. slice_get ks number) (three_parts trace timing rules old.made maybe_rules.0))

-- If `left` is at least the number of kills at the tick, all of them are passed.
pub more_searched : (old new : ReplayView) (trace : Trace) (timing : Timing) (rules : List Rule) (kills : List Kill) (left less number : ℕ) → HasSearched old trace timing rules left number
    → Passes trace timing rules old.made old new true → kills ≡ kills_in trace timing rules (old.made + 1) → length kills ≤ left → less ≡ left - length kills
    → HasSearched new trace timing rules less number
more_searched old new trace timing rules kills left less number so maybe_rules are past rest =
    let made : old.made + 1 ≡ new.made = sym maybe_rules.1.made in
    let long = length-append (kills_by trace timing rules old.made) (kills_in trace timing rules (old.made + 1)) in
    let more = ap length (by_more trace timing rules old.made) in
    let same = ap length are in
    let counted = so.counted in
    record {
      is = subst (IsReplay new trace timing rules) made maybe_rules.1;
      counted = subst (λ i. less + length (kills_by trace timing rules i) ≡ number) made (omega (arith, long, more, same, counted, past, rest));
    }

-- Each replayed tick leaves one tick less to search.
pub fewer_to_search : (old new : ReplayView) (trace : Trace) (timing : Timing) (rules : List Rule) (left number : ℕ) → HasSearched old trace timing rules left number → Passes trace timing rules old.made old new true
    → new.run_timing.last - new.made < old.run_timing.last - old.made
fewer_to_search old new trace timing rules left number so maybe_rules = omega (arith, maybe_rules.0, maybe_rules.1.made, maybe_rules.1.paced.last, so.is.paced.last)

-- If no tick remains, there is no kill with the index `number`.
pub none_found : (old new : ReplayView) (trace : Trace) (timing : Timing) (rules : List Rule) (left number : ℕ) → HasSearched old trace timing rules left number → Passes trace timing rules old.made old new false
    → None ≡ slice_get (all_kills trace timing rules) number
none_found old new trace timing rules left number so maybe_rules =
    let all : length (kills_by trace timing rules old.made) ≡ length (all_kills trace timing rules) = ap (λ i. length (kills_by trace timing rules i)) maybe_rules.0 in
    let counted = so.counted in
    sym (slice_get_past (all_kills trace timing rules) number (omega (arith, all, counted)))
