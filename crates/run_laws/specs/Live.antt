-- States laws of the output of a replay with live lines, and defines the output of its first ticks.
-- Live lines are samples of the watched group's clocks that are taken while the events of a tick
-- are replayed.
use Rattle.std.specs.Prelude.{◌≡◌, ℕ, ◌+◌, ◌≤◌, List, [], ◌∷◌, ◌++◌, bytes_eq, ◌&&◌, if◌then◌else◌, Option, None, Some}
use Rattle.psi_base.specs.declared.event.Event.{Event}
use Rattle.psi_spec.specs.declared.machine.GroupLife.{GroupLife}
use Rattle.psi_spec.specs.Groups.{is_live_at}
use Rattle.psi_spec.specs.Refusal.{AreLegal}
use Rattle.psi_spec.specs.Trace.{Trace}
use Rattle.psi_spec.specs.World.{Limits, after, first_world}
use Rattle.run_spec.specs.Live.{IsLiveText, live_slot_at}
use Rattle.run_spec.specs.Replay.{IsReplayText, Timing, last_line, replay_text, tick_count, tick_text, ticks_text, with_rules}
use Rattle.ruleset_json.specs.declared.types.Rule.{Rule}

-- `live_slot slot lives path at`: the slot of the group with the path `path` that is live at time
-- `at` (ns), or `None` if there is no such group. `lives` is the list of groups to search, and
-- `slot` is the slot of its first group.
abbrev pub live_slot : ℕ → List GroupLife → List ℕ → ℕ → Option ℕ
live_slot slot [] path at = None
live_slot slot (life ∷ lives) path at =
    if is_live_at life at && bytes_eq life.path path then Some slot else live_slot (slot + 1) lives path at

-- `IsTickText trace timing rules i text`: `text` is a possible output of tick `i`, with some valid
-- live lines.
abbrev pub IsTickText : Trace → Timing → List Rule → ℕ → List ℕ → Type 0
IsTickText trace timing rules i text =
    (live : List ℕ) × IsLiveText trace timing.length timing.watch i live
    × (text ≡ tick_text trace timing (record { live = λ _. live; rules = rules }) i)

-- `AreTickTexts trace timing rules count text`: `text` is a possible output of the first `count`
-- ticks, with some valid live lines at each tick.
abbrev pub AreTickTexts : Trace → Timing → List Rule → ℕ → List ℕ → Type 0
AreTickTexts trace timing rules count text =
    (live : ℕ → List ℕ) × ((i : ℕ) → 1 ≤ i → i ≤ count → IsLiveText trace timing.length timing.watch i (live i))
    × (text ≡ ticks_text trace timing (record { live = live; rules = rules }) count)

-- ---- laws of the output

-- The list of all groups at the end of a trace determines which slot a path has at each time (ns).
abbrev pub SlotByLives : Type 0
SlotByLives = (limits : Limits) (events : List Event) → AreLegal limits first_world events → (path : List ℕ) (at : ℕ) →
    live_slot_at events path at ≡ live_slot 0 (after events).groups path at

-- The output of the first i + 1 ticks is the output of the first `i` ticks followed by the output
-- of the next tick.
abbrev pub OneTextMore : Type 0
OneTextMore = (trace : Trace) (timing : Timing) (rules : List Rule) (i : ℕ) (text line : List ℕ) →
    AreTickTexts trace timing rules i text → IsTickText trace timing rules (i + 1) line →
    AreTickTexts trace timing rules (i + 1) (text ++ line)

-- The output of all ticks, followed by the last line, is a complete output.
abbrev pub WholeText : Type 0
WholeText = (trace : Trace) (timing : Timing) (rules : List Rule) (text : List ℕ) →
    AreTickTexts trace timing rules (tick_count trace timing) text →
    IsReplayText trace timing rules (text ++ last_line trace timing (with_rules rules))

-- The output of the first `i` ticks of a legal trace can be extended to a complete output.
abbrev pub TextsGoOn : Type 0
TextsGoOn = (limits : Limits) (trace : Trace) (timing : Timing) (rules : List Rule) (i : ℕ) (text : List ℕ) →
    AreLegal limits first_world trace.events → i ≤ tick_count trace timing → AreTickTexts trace timing rules i text →
    (rest : List ℕ) × IsReplayText trace timing rules (text ++ rest)

-- Before the first tick, the output is empty.
abbrev pub NoTextAtFirst : Type 0
NoTextAtFirst = (trace : Trace) (timing : Timing) (rules : List Rule) → AreTickTexts trace timing rules 0 []

-- If no group is watched, there is exactly one possible output.
abbrev pub OneTextUnwatched : Type 0
OneTextUnwatched = (trace : Trace) (timing : Timing) (rules : List Rule) (text : List ℕ) →
    timing.watch ≡ None → IsReplayText trace timing rules text → text ≡ replay_text trace timing (with_rules rules)
