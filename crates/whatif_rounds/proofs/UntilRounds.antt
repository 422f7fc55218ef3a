-- Proves that the result of a round prints the same lines up to the tick of the kill that the round
-- removes.
use Rattle.std.proofs.Common.{◌≡◌, ℕ, zero, suc, ◌+◌, ◌≤◌, ◌<◌, List, refl, ap, ◌∙◌, sym, subst, arith, Bool, true, false, length, Some, nat_lt}
use Rattle.std.specs.Prelude.{if◌then◌else◌, Option, Ok, Err, slice_get}
use Rattle.std.specs.List.{flat_map, range_with_len}
use Rattle.std.proofs.lemmas.Bool.Decides.{nat_tests}
use Rattle.psi_spec.specs.Trace.{Trace}
use Rattle.psi_spec.specs.World.{most_events}
use Rattle.ruleset_json.specs.declared.types.Rule.{Rule}
use Rattle.kill_spec.specs.declared.kill.Kill.{Kill}
use Rattle.run_spec.specs.Replay.{Timing, tick_count, tick_text, ticks_text}
use Rattle.run_spec.specs.Whatif.{after_rounds, all_kills, bounded_trace, without_kill}
use Rattle.run_spec.proofs.LastTrace.{one_round}
use Rattle.whatif_spec.specs.Without.{trace_without}
use Rattle.whatif_rounds.specs.Until.{SameUntilRound}
use Rattle.whatif_rounds.proofs.Ticking.{same_until_kill, tick_before}

-- ---- rounds

-- The trace that a round leaves has at most `most_events` events.
record IsLeft (trace next : Trace) : Type 0 where
  few : length trace.events ≤ most_events
  same : trace ≡ next

left_by : (trace next : Trace) (b : Bool) → nat_lt most_events (length trace.events) ≡ b → (if b then Err (length trace.events) else Ok trace) ≡ Ok next → IsLeft trace next
left_by trace next true is found = absurd (cc found)
left_by trace next false is found = record { few = grind (arith, nat_tests, is); same = cc found }

left_in_bounds : (trace next : Trace) → bounded_trace trace ≡ Ok next → IsLeft trace next
left_in_bounds trace next is = left_by trace next (nat_lt most_events (length trace.events)) refl is

-- Computes the result of a round that finds the kill with the index `number`.
round_left : (trace left next : Trace) (timing : Timing) (rules : List Rule) (number : ℕ) (kill : Kill) → after_rounds trace timing rules number ≡ Ok left → slice_get (all_kills left timing rules) number ≡ Some kill
    → after_rounds trace timing rules (suc number) ≡ Ok next → IsLeft (trace_without left kill.at kill.victim.0) next
round_left trace left next timing rules number kill so kills after =
    let there = ap (λ (found : Option Kill). bounded_trace (without_kill left found)) kills in
    left_in_bounds (trace_without left kill.at kill.victim.0) next (sym there ∙ sym (one_round trace left timing rules number so) ∙ after)

-- ---- texts

-- Two functions that agree on a range give the same concatenated text.
flat_same : (f g : ℕ → List ℕ) (from n : ℕ) → ((i : ℕ) → i < from + n → f i ≡ g i) → flat_map f (range_with_len from n) ≡ flat_map g (range_with_len from n)
flat_same f g from zero same = refl
flat_same f g from (suc n) same = rw (same from (omega arith), flat_same f g (from + 1) n (λ i high. same i (omega (arith, high)))) refl

pub same_until_round : SameUntilRound
same_until_round limits trace left next timing rules beside number kill accepted so kills after =
    let is = round_left trace left next timing rules number kill so kills after in
    let same = same_until_kill limits left timing beside kill.at kill.victim.0 accepted is.few in (
      subst (λ (t : Trace). tick_count t timing ≡ tick_count left timing) is.same same.0,
      λ count low. subst (λ (t : Trace). ticks_text t timing beside count ≡ ticks_text left timing beside count) is.same
          (flat_same (tick_text (trace_without left kill.at kill.victim.0) timing beside) (tick_text left timing beside) 1 count
          (λ i high. let before = tick_before timing.length i count (omega (arith, high)) in same.1 i (omega (arith, before, low)))),
    )
