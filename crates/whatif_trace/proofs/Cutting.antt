-- Proves that a trace is split at a time, and that the two parts make up the trace.
use Rattle.std.proofs.Common.{◌≡◌, ℕ, zero, suc, ◌+◌, ◌-◌, ◌≤◌, ◌<◌, List, [], ◌∷◌, ◌++◌, refl, ap, ◌∙◌, sym, arith, cond, Bool, true, false, Option, None, Some, length, drop, take}
use Rattle.std.specs.Prelude.{is_some, nat_le, nat_lt, replicate, slice_get}
use Rattle.std.specs.List.{AllByRecursion}
use Rattle.std.proofs.lemmas.Bool.Decides.{nat_tests}
use Rattle.psi_base.specs.declared.event.Event.{Event}
use Rattle.psi_spec.specs.Trace.{IsAccepted}
use Rattle.psi_spec.specs.World.{Limits, Tasks, World, after, after_event, after_from, first_world, up_to}
use Rattle.whatif_spec.specs.Without.{suffix, exits_from, members, without}
use Rattle.whatif_trace.specs.Left.{AreRunners, exits_left, prefix_length, rest_left, turned_by}
use Rattle.whatif_trace.proofs.Alike.{AreFound, exits_are, rest_is}
use Rattle.whatif_trace.proofs.Killed.{members_sorted}
use Rattle.whatif_trace.proofs.Resting.{Begins}
use Rattle.whatif_trace.proofs.Running.{none_first, turn_by_turn}
use Rattle.whatif_trace.proofs.Together.{IsCut, cut_at, three_parts}

-- ---- the prefix

abbrev AllEarly : ℕ → List Event → Type 0
AllEarly at events = AllByRecursion (λ (event : Event). nat_le event.at at ≡ true) events

prefix_early : (events : List Event) (at : ℕ) → AllEarly at (up_to events at)
prefix_early [] at = tt
prefix_early (event ∷ events) at =
    elim (nat_le event.at at) as (λ b. nat_le event.at at ≡ b → AllEarly at (cond b (event ∷ up_to events at) (up_to events at))) [
      | true ↦ λ early. (early, prefix_early events at)
      | false ↦ λ _. prefix_early events at
    ] refl

is_late : (moment at : ℕ) → at + 1 ≤ moment → nat_le moment at ≡ false
is_late moment at late = grind (arith, nat_tests)

prefix_long : (prefix rest : List Event) (at : ℕ) → AllEarly at prefix → Begins (at + 1) rest → prefix_length at (prefix ++ rest) ≡ length prefix
prefix_long [] [] at early begins = refl
prefix_long [] (event ∷ rest) at early begins = rw (is_late event.at at begins) refl
prefix_long (event ∷ prefix) rest at early begins = rw early.0 (let more = prefix_long prefix rest at early.1 begins in omega (arith, more))

take_prefix : (prefix rest : List Event) → take (length prefix) (prefix ++ rest) ≡ prefix
take_prefix [] rest = refl
take_prefix (event ∷ prefix) rest = ap (λ es. event ∷ es) (take_prefix prefix rest)

pub record IsSplit (events : List Event) (at n : ℕ) : Type 0 where
  pub prefix : take n events ≡ up_to events at
  pub rest : drop n events ≡ suffix events at

pub split_at : (limits : Limits) (events : List Event) (at n : ℕ) → IsCut limits events at → n ≡ prefix_length at events → IsSplit events at n
split_at limits events at n cut is =
    let long : n ≡ length (up_to events at) = is ∙ ap (prefix_length at) cut.whole ∙ prefix_long (up_to events at) (suffix events at) at (prefix_early events at) cut.begins in
    record {
      prefix = ap (λ k. take k events) long ∙ ap (take (length (up_to events at))) cut.whole ∙ take_prefix (up_to events at) (suffix events at);
      rest = ap (λ k. drop k events) long;
    }

-- ---- together

found_self : (tasks : Tasks) (pids : List ℕ) → AreFound tasks tasks pids
found_self tasks [] = tt
found_self tasks (pid ∷ pids) = (refl, found_self tasks pids)

pub cut_is : (limits : Limits) (events : List Event) (at victim : ℕ) → IsAccepted limits events → at < (after events).last →
    up_to events at ++ exits_left (at + 1) (after (up_to events at)).tasks (turned_by (replicate limits.cpus None) (up_to events at)) (members (after (up_to events at)) victim)
    ++ rest_left (members (after (up_to events at)) victim) (turned_by (replicate limits.cpus None) (up_to events at)) (suffix events at) ≡ without events at victim
cut_is limits events at victim accepted before =
    let cut = cut_at limits events at accepted.legal accepted.ends before in
    let prefix = up_to events at in
    let w = after prefix in
    let runners = turned_by (replicate limits.cpus None) prefix in
    let pids = members w victim in
    let are : AreRunners limits.cpus runners w.tasks = turn_by_turn limits first_world prefix (replicate limits.cpus None) (none_first limits.cpus) cut.legal in
    let exits = exits_are limits (at + 1) w w.tasks runners pids (record { world = cut.world; going = cut.going; early = cut.early }) are (members_sorted w victim) (found_self w.tasks pids) in
    let rest = rest_is limits pids w runners (suffix events at) are cut.rest in
    ap (λ es. prefix ++ es ++ rest_left pids runners (suffix events at)) exits
    ∙ ap (λ es. prefix ++ exits_from (at + 1) w pids ++ es) rest
    ∙ sym (three_parts events at victim before)

-- ---- the end

no_room : (n : ℕ) → 0 ≡ n + 1 → ⊥
no_room n is = omega (arith, is)

last_at : (w : World) (events : List Event) (n : ℕ) (event : Event) → length events ≡ n + 1 → slice_get events n ≡ Some event → (after_from w events).last ≡ event.at
last_at w [] n event long is = absurd (no_room n long)
last_at w (x ∷ []) zero event long is = let same : x ≡ event = cc is in ap (λ (e : Event). e.at) same
last_at w (x ∷ []) (suc n) event long is = absurd (no_room n (omega (arith, long)))
last_at w (x ∷ y ∷ events) zero event long is = absurd (no_room (length events) (omega (arith, long)))
last_at w (x ∷ y ∷ events) (suc n) event long is = last_at (after_event w x) (y ∷ events) n event (omega (arith, long)) is

is_there : (events : List Event) (n : ℕ) → n < length events → is_some (slice_get events n) ≡ true
is_there [] n room = absurd (no_room n (omega (arith, room)))
is_there (x ∷ events) zero room = refl
is_there (x ∷ events) (suc n) room = is_there events n (omega (arith, room))

-- Whether time `at` (ns) is before the time of the event. False if there is no event.
abbrev pub is_before : ℕ → Option Event → Bool
is_before at None = false
is_before at (Some event) = nat_lt at event.at

-- A time is before the end of the trace if and only if it is before the last event.
pub before_known : (events : List Event) (at : ℕ) (o : Option Event) → slice_get events (length events - 1) ≡ o → is_before at o ≡ nat_lt at (after events).last
before_known [] at None is = grind (arith, nat_tests)
before_known [] at (Some event) is = absurd (let no : ⊥ = cc is in no)
before_known (x ∷ events) at None is = absurd (let some = is_there (x ∷ events) (length (x ∷ events) - 1) (omega arith) in let no : ⊥ = cc (some, is) in no)
before_known (x ∷ events) at (Some event) is = ap (nat_lt at) (sym (last_at first_world (x ∷ events) (length (x ∷ events) - 1) event (omega arith) is))
