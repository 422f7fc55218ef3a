-- Proves that a choice made with the stored past is the specified choice after the readings that
-- the past represents.
use Rattle.std.proofs.Common.{◌≡◌, ℕ, zero, suc, ◌+◌, ◌-◌, ◌<◌, List, [], ◌∷◌, length, refl, sym}
use Rattle.std.proofs.Common.{ap, ◌∙◌, arith, true, false}
use Rattle.std.proofs.Math.Path.{fun_ext}
use Rattle.std.specs.Prelude.{Option, None, Some, ◌==◌, ◌&&◌, filter, map, nat_lt, option_map}
use Rattle.psi_base.specs.declared.event.Slot.{Slot}
use Rattle.psi_spec.specs.declared.machine.GroupLife.{GroupLife}
use Rattle.psi_base.specs.declared.event.Res.{Res}
use Rattle.path_match.specs.Match.{Pattern}
use Rattle.ruleset_json.specs.declared.types.After.{After}
use Rattle.ruleset_json.specs.declared.types.Size.{Size}
use Rattle.ruleset_json.specs.declared.types.Action.{Action}
use Rattle.ruleset_json.specs.declared.types.Action.TheVariants as action
use Rattle.kill_spec.specs.declared.reading.GroupReading.{GroupReading}
use Rattle.kill_spec.specs.Readings.{Reading, group_in, grown_from, path_of, rise}
use Rattle.kill_spec.specs.LegalReadings.{Ascend}
use Rattle.kill_spec.specs.Victims.{after_of, beats_by, candidates, children, choice, count_above}
use Rattle.kill_spec.specs.Victims.{action_patterns, descended, largest_few, past_of, rank_of, unbeaten}
use Rattle.kill_spec.specs.Victims.{victim}
use Rattle.kill_spec.proofs.Foremost.{Pairs, by_test, pairs_filter}
use Rattle.kill_spec.proofs.ChoiceLaws.{IsBefore, in_order}
use Rattle.victim_rank.specs.Pasts.{IsPastOf, Kept, scan_before}
use Rattle.victim_rank.specs.Growth.{has_grown_more_over, is_growing_over, sizes_from}
use Rattle.victim_rank.specs.Scopes.{above_count, among, is_eligible, is_in_scope, measure_of}
use Rattle.victim_rank.specs.Scopes.{rise_from}
use Rattle.victim_rank.specs.Choosing.{size_choice}
use Rattle.victim_rank.proofs.Scoped.{among_is, filter_filter}
use Rattle.victim_rank.proofs.SizeChoice.{has_rank}

pub sizes_are : (kept : Kept) (history : List Reading) → IsPastOf kept history →
    sizes_from kept ≡ past_of history
sizes_are kept history past = fun_ext (λ group. past.sizes group.slot.0)

counted : (scan : ℕ) (o : Option GroupReading) →
    above_count scan (option_map (λ (group : GroupReading). group.scan) o) ≡ grown_from scan o
counted scan None = refl
counted scan (Some group) = refl

rise_is : (history : List Reading) (group : GroupReading) →
    above_count group.scan (scan_before history group.slot.0) ≡ rise history group
rise_is [] group = refl
rise_is (before ∷ history) group = counted group.scan (group_in before group.slot.0)

pub rises_are : (kept : Kept) (history : List Reading) → IsPastOf kept history →
    rise_from kept ≡ rise history
rises_are kept history past = fun_ext (λ group. ap (above_count group.scan)
    (past.scans group.slot.0) ∙ rise_is history group)

-- The groups of a scope are in the order of their paths.
pub among_order : (lives : List GroupLife) (act : Action) (above : Option Slot) (now : Reading) →
    Ascend (map (path_of lives) now.groups) → Pairs (IsBefore lives) (among lives act above now)
among_order lives act above now ascend = rw (among_is lives act above now)
    (pairs_filter (IsBefore lives) (is_in_scope lives act above) now.groups
    (in_order lives now.groups ascend))

-- ---- the choice by size or growth

-- Filtering for scope and rank at once gives the groups of the scope that have the rank.
pub ranked : (lives : List GroupLife) (act : Action) (above : Option Slot) (now : Reading)
    (best : GroupReading) (r : ℕ) → r ≡ rank_of best →
    filter (λ group. is_in_scope lives act above group && rank_of group == r) now.groups ≡ filter
    (has_rank best) (among lives act above now)
ranked lives act above now best r is = rw is
    (sym (ap (filter (has_rank best)) (among_is lives act above now) ∙
    filter_filter (is_in_scope lives act above) (has_rank best) now.groups))

pub grown_among : (lives : List GroupLife) (sizes : GroupReading → List ℕ)
    (percentile ratio few count r : ℕ) (best : GroupReading) (groups ranking : List GroupReading)
    (result : Option GroupReading) →
    ranking ≡ filter (has_rank best) groups → count ≡ length ranking →
    few ≡ count_above percentile count →
    result ≡ unbeaten (has_grown_more_over sizes lives)
    (filter (is_growing_over sizes ratio) (largest_few lives few ranking)) →
    result ≡ unbeaten (has_grown_more_over sizes lives) (filter (is_growing_over sizes ratio)
    (largest_few lives (count_above percentile (length (filter (has_rank best) groups)))
    (filter (has_rank best) groups)))
grown_among lives sizes percentile ratio few count r best groups ranking result same counted_is
    few_is result_is =
    result_is ∙ rw (few_is, counted_is, same) refl

-- ---- the choice of an action

module _ (kept : Kept) (history : List Reading) (past : IsPastOf kept history)
    (lives : List GroupLife) (act : Action) (now : Reading) (groups : List GroupReading)
    (result : Option GroupReading) where
  pub size_chosen : (cgroup : List Pattern) (size_threshold percentile ratio : ℕ) (after : After) →
      act ≡ action.SizeOrGrowth cgroup size_threshold percentile ratio after →
      result ≡ size_choice (sizes_from kept) lives size_threshold percentile ratio groups →
      result ≡ choice lives act now history groups
  unfolding choice
  size_chosen cgroup size_threshold percentile ratio after is result_is =
      rw is (result_is ∙ ap (λ sizes. size_choice sizes lives size_threshold percentile ratio
      groups) (sizes_are kept history past))

  pub swap_chosen : (cgroup : List Pattern) (threshold : Size) (after : After) →
      act ≡ action.SwapUsage cgroup threshold after →
      result ≡ unbeaten (beats_by lives (measure_of act kept))
      (filter (is_eligible act now.host kept) groups) →
      result ≡ choice lives act now history groups
  unfolding choice
  swap_chosen cgroup threshold after is result_is = rw is (rw is at result_is)

  pub pressure_chosen : (cgroup : List Pattern) (resource : Res) (after : After) →
      act ≡ action.Pressure cgroup resource after →
      result ≡ unbeaten (beats_by lives (measure_of act kept))
      (filter (is_eligible act now.host kept) groups) →
      result ≡ choice lives act now history groups
  unfolding choice
  pressure_chosen cgroup resource after is result_is = rw is (rw is at result_is)

  pub scan_chosen : (cgroup : List Pattern) (after : After) → act ≡ action.PgScan cgroup after →
      result ≡ unbeaten (beats_by lives (measure_of act kept))
      (filter (is_eligible act now.host kept) groups) →
      result ≡ choice lives act now history groups
  unfolding choice
  scan_chosen cgroup after is result_is = rw is (rw is at result_is
      ∙ ap (λ (rises : GroupReading → ℕ). unbeaten (beats_by lives rises)
      (filter (λ group. nat_lt 0 (rises group)) groups)) (rises_are kept history past))

-- ---- the descent

pub descent_stops : (lives : List GroupLife) (act : Action) (now : Reading) (history : List Reading)
    (n : ℕ) (group : GroupReading) →
    None ≡ choice lives act now history (children lives group.slot.0 now) →
    group ≡ descended lives act now history n group
descent_stops lives act now history zero group none = refl
descent_stops lives act now history (suc n) group none = rw (← none) refl

pub descent_step : (lives : List GroupLife) (act : Action) (now : Reading) (history : List Reading)
    (n i : ℕ) (group child : GroupReading) → i < n →
    Some child ≡ choice lives act now history (children lives group.slot.0 now) →
    descended lives act now history (n - (i + 1)) child ≡ descended lives act now history
    (n - i) group
descent_step lives act now history n i group child less some =
    let left : n - i ≡ suc (n - (i + 1)) = omega (arith, less) in
    rw left (rw (← some) refl)

-- ---- the victim

abbrev pub slot_of : Option GroupReading → Option Slot
slot_of o = option_map (λ (group : GroupReading). group.slot) o

pub victim_none : (lives : List GroupLife) (act : Action) (now : Reading) (history : List Reading) →
    None ≡ choice lives act now history (candidates lives (action_patterns act) now) →
    None ≡ slot_of (victim lives act now history)
unfolding victim
victim_none lives act now history none = by_test _ (after_of act).recursive
    (λ holds. rw (holds, ← none) refl)
    (λ fails. rw (fails, ← none) refl)

pub victim_plain : (lives : List GroupLife) (act : Action) (now : Reading) (history : List Reading)
    (group : GroupReading) → (after_of act).recursive ≡ false →
    Some group ≡ choice lives act now history (candidates lives (action_patterns act) now) →
    Some group.slot ≡ slot_of (victim lives act now history)
unfolding victim
victim_plain lives act now history group fails some = rw (fails, ← some) refl

pub victim_below : (lives : List GroupLife) (act : Action) (now : Reading) (history : List Reading)
    (group last : GroupReading) → (after_of act).recursive ≡ true →
    Some group ≡ choice lives act now history (candidates lives (action_patterns act) now) →
    last ≡ descended lives act now history (length lives) group →
    Some last.slot ≡ slot_of (victim lives act now history)
unfolding victim
victim_below lives act now history group last holds some is = rw (holds, ← some, is) refl
