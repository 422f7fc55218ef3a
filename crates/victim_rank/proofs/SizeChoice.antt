-- Proves properties of the largest group of the best preference, and of the choice by size or
-- growth.
use Rattle.std.proofs.Common.{◌≡◌, ℕ, ◌*◌, ◌≤◌, List, [], ◌∷◌, length, refl, sym, ap, ◌∙◌, arith}
use Rattle.std.proofs.Common.{true, false, ⊎_elim, inl, inr, subst}
use Rattle.std.specs.Prelude.{Bool, Option, None, Some, ◌==◌, filter, nat_le, nat_lt, not}
use Rattle.std.specs.Option.{option_or}
use Rattle.std.specs.List.{list_any}
use Rattle.std.proofs.lemmas.Bool.{true≢false, not_from_false, not_from_true}
use Rattle.std.proofs.lemmas.Bool.Decides.{nat_tests}
use Rattle.psi_spec.specs.declared.machine.GroupLife.{GroupLife}
use Rattle.ruleset_json.specs.declared.types.Action.{Action}
use Rattle.ruleset_json.specs.declared.types.Action.TheVariants as action
use Rattle.kill_spec.specs.declared.reading.GroupReading.{GroupReading}
use Rattle.kill_spec.specs.declared.reading.HostReading.{HostReading}
use Rattle.kill_spec.specs.Victims.{◌or_else◌, beats_by, best_of, count_above, is_larger}
use Rattle.kill_spec.specs.Victims.{large_choice, largest, largest_few, memory_in_use, rank_of}
use Rattle.kill_spec.specs.Victims.{total_size, unbeaten}
use Rattle.kill_spec.proofs.Foremost.{Each, Has, IsBelow, IsBest, Pairs, any_has, any_none}
use Rattle.kill_spec.proofs.Foremost.{best_unbeaten, by_test, each_filter, each_map, each_passes}
use Rattle.kill_spec.proofs.Foremost.{foremost_of, walk_best}
use Rattle.kill_spec.proofs.ChoiceLaws.{IsBefore, beats_order, each_unit, greater_order, leads_by}
use Rattle.kill_spec.proofs.ChoiceLaws.{not_none, same_some, then_shows}
use Rattle.victim_rank.specs.Pasts.{Kept}
use Rattle.victim_rank.specs.Growth.{has_grown_more_over, is_growing_over}
use Rattle.victim_rank.specs.Scopes.{IsSizes, is_eligible, measure_of}
use Rattle.victim_rank.specs.Choosing.{size_choice}
use Rattle.victim_rank.proofs.Scoped.{filter_same}

-- ---- lists

filter_all : (groups : List GroupReading) → filter (λ group. true) groups ≡ groups
filter_all [] = refl
filter_all (first ∷ groups) = ap (λ rest. first ∷ rest) (filter_all groups)

filter_none : (p : GroupReading → Bool) (groups : List GroupReading) →
    Each (λ group. p group ≡ false) groups → filter p groups ≡ []
filter_none p [] each = refl
filter_none p (first ∷ groups) each = rw each.0 (filter_none p groups each.1)

has_filter : (p : GroupReading → Bool) (groups : List GroupReading) (group : GroupReading) →
    Has groups group → p group ≡ true → Has (filter p groups) group
has_filter p [] group there passes = absurd there
has_filter p (first ∷ groups) group there passes = by_test _ (p first)
    (λ holds. rw holds (⊎_elim (λ is. inl is) (λ
    suffix. inr (has_filter p groups group suffix passes)) there))
    (λ fails. rw fails (⊎_elim
    (λ is. absurd (true≢false (sym passes ∙ ap p (sym is) ∙ fails)))
    (λ suffix. has_filter p groups group suffix passes)
    there))

each_both : (P Q R : GroupReading → Type 0) (groups : List GroupReading) →
    ((group : GroupReading) → P group → Q group → R group) → Each P groups → Each Q groups →
    Each R groups
each_both P Q R [] both first second = tt
each_both P Q R (group ∷ groups) both first second =
    (both group first.0 second.0, each_both P Q R groups both first.1 second.1)

-- ---- the largest group of the best preference

-- An action by size or growth orders groups by size, and may choose every group.
pub by_size : (act : Action) (host : HostReading) (kept : Kept) (lives : List GroupLife)
    (groups : List GroupReading) → IsSizes act →
    unbeaten (beats_by lives (measure_of act kept)) (filter (is_eligible act host kept) groups) ≡
    unbeaten (beats_by lives memory_in_use) groups
by_size (action.SizeOrGrowth cgroup size_threshold percentile ratio after) host kept lives groups is
    = ap (unbeaten (beats_by lives memory_in_use)) (filter_all groups)
by_size (action.SwapUsage cgroup threshold after) host kept lives groups is = absurd is
by_size (action.Pressure cgroup resource after) host kept lives groups is = absurd is
by_size (action.PgScan cgroup after) host kept lives groups is = absurd is

is_best : (lives : List GroupLife) (groups : List GroupReading) (best : GroupReading) →
    Pairs (IsBefore lives) groups → unbeaten (beats_by lives memory_in_use) groups ≡ Some best →
    IsBest (beats_by lives memory_in_use) groups best
is_best lives [] best pairs is = not_none _ best (sym is)
is_best lives (first ∷ groups) best pairs is =
    let order = beats_order lives memory_in_use in
    let walked = walk_best (λ group. Unit {0}) (IsBefore lives) (beats_by lives memory_in_use)
    (leads_by memory_in_use) order first groups tt (each_unit groups) pairs.0 pairs.1 in
    subst (IsBest (beats_by lives memory_in_use) (first ∷ groups))
    (same_some _ best (sym (best_unbeaten (beats_by lives memory_in_use) order.one_way (first ∷ groups)
    (foremost_of (leads_by memory_in_use) first groups) walked) ∙ is)) walked

empty_is : (lives : List GroupLife) (groups : List GroupReading) → Pairs (IsBefore lives) groups →
    unbeaten (beats_by lives memory_in_use) groups ≡ None → groups ≡ []
empty_is lives [] pairs is = refl
empty_is lives (first ∷ groups) pairs is =
    let order = beats_order lives memory_in_use in
    let walked = walk_best (λ group. Unit {0}) (IsBefore lives) (beats_by lives memory_in_use)
    (leads_by memory_in_use) order first groups tt (each_unit groups) pairs.0 pairs.1 in
    not_none _ _ (sym (best_unbeaten (beats_by lives memory_in_use) order.one_way (first ∷ groups)
    (foremost_of (leads_by memory_in_use) first groups) walked) ∙ is)

rank_below : (lives : List GroupLife) (best group : GroupReading) →
    IsBelow (beats_by lives memory_in_use) best group → rank_of group ≤ rank_of best
rank_below lives best group below = ⊎_elim
    (λ same. rw same (omega arith))
    (λ over. ⊎_elim (λ less. omega (arith, less)) (λ tied. omega (arith, tied.0))
    (then_shows (rank_of best) (rank_of group) (is_larger lives best group)
    (is_larger lives best group ≡ true) (λ is. is) over))
    below

-- Whether `group` has the same preference rank as `best`.
abbrev pub has_rank : GroupReading → GroupReading → Bool
has_rank best group = rank_of group == rank_of best

pub best_of_is : (lives : List GroupLife) (groups : List GroupReading) (best : GroupReading) →
    IsBest (beats_by lives memory_in_use) groups best → best_of groups ≡ filter (has_rank best) groups
best_of_is lives groups best is = filter_same (λ
    group. not (list_any (λ other. nat_lt (rank_of group) (rank_of other)) groups)) (has_rank best)
    groups
    (each_map _ _ groups
    (λ group below. by_test _ (has_rank best group)
    (λ holds. not_from_false _ (any_none (λ other. nat_lt (rank_of group) (rank_of other)) groups
    (each_map _ _ groups (λ other under. let low = rank_below lives best other under in
    grind (arith, nat_tests)) is.1)) ∙ sym holds)
    (λ fails. not_from_true _ (any_has (λ other. nat_lt (rank_of group) (rank_of other)) groups best
    is.0
    (let low = rank_below lives best group below in grind (arith, nat_tests))) ∙ sym fails))
    is.1)

-- A group with the rank of the best group is either the best group or a smaller group.
below_size : (lives : List GroupLife) (best group : GroupReading) →
    IsBelow (beats_by lives memory_in_use) best group → has_rank best group ≡ true →
    IsBelow (is_larger lives) best group
below_size lives best group below same = ⊎_elim
    (λ is. inl is)
    (λ over. ⊎_elim
    (λ less. absurd (let tied : rank_of group ≡ rank_of best = grind (arith, nat_tests) in
    omega (arith, less, tied)))
    (λ tied. inr tied.1)
    (then_shows (rank_of best) (rank_of group) (is_larger lives best group)
    (is_larger lives best group ≡ true) (λ is. is) over))
    below

size_below : (lives : List GroupLife) (best group : GroupReading) →
    IsBelow (is_larger lives) best group → memory_in_use group ≤ memory_in_use best
size_below lives best group below = ⊎_elim
    (λ same. rw same (omega arith))
    (λ over. ⊎_elim (λ less. omega (arith, less)) (λ tied. omega (arith, tied.0))
    (then_shows (memory_in_use best) (memory_in_use group) _ _ (λ is. is) over))
    below

all_below : (lives : List GroupLife) (groups : List GroupReading) (best : GroupReading) →
    IsBest (beats_by lives memory_in_use) groups best →
    Each (IsBelow (is_larger lives) best) (filter (has_rank best) groups)
all_below lives groups best is = each_both (IsBelow (beats_by lives memory_in_use) best)
    (λ group. has_rank best group ≡ true) (IsBelow (is_larger lives) best)
    (filter (has_rank best) groups)
    (below_size lives best) (each_filter (IsBelow (beats_by lives memory_in_use) best) (has_rank best)
    groups is.1) (each_passes (has_rank best) groups)

best_in : (groups : List GroupReading) (best : GroupReading) → Has groups best →
    Has (filter (has_rank best) groups) best
best_in groups best there = has_filter (has_rank best) groups best there (grind (arith, nat_tests))

largest_is : (lives : List GroupLife) (groups : List GroupReading) (best : GroupReading) →
    IsBest (beats_by lives memory_in_use) groups best →
    largest lives (filter (has_rank best) groups) ≡ Some best
largest_is lives groups best is = best_unbeaten (is_larger lives)
    (greater_order lives memory_in_use).one_way (filter (has_rank best) groups) best
    (best_in groups best is.0, all_below lives groups best is)

-- Whether the group uses at least `size_threshold` percent of `total`.
abbrev pub is_share : ℕ → ℕ → GroupReading → Bool
is_share size_threshold total group = nat_le (size_threshold * total) (memory_in_use group * 100)

large_is : (lives : List GroupLife) (size_threshold : ℕ) (groups : List GroupReading)
    (best : GroupReading) → IsBest (beats_by lives memory_in_use) groups best →
    is_share size_threshold (total_size groups) best ≡ true →
    large_choice lives size_threshold groups ≡ Some best
large_is lives size_threshold groups best is share = rw (best_of_is lives groups best is)
    (best_unbeaten (is_larger lives) (greater_order lives memory_in_use).one_way
    (filter (is_share size_threshold (total_size groups)) (filter (has_rank best) groups)) best (
      has_filter (is_share size_threshold (total_size groups)) (filter (has_rank best) groups) best
          (best_in groups best is.0) share,
      each_filter (IsBelow (is_larger lives) best) (is_share size_threshold (total_size groups))
          (filter (has_rank best) groups) (all_below lives groups best is),
    ))

none_large : (lives : List GroupLife) (size_threshold : ℕ) (groups : List GroupReading)
    (best : GroupReading) → IsBest (beats_by lives memory_in_use) groups best →
    is_share size_threshold (total_size groups) best ≡ false →
    large_choice lives size_threshold groups ≡ None
none_large lives size_threshold groups best is share = rw (best_of_is lives groups best is)
    (ap (largest lives) (filter_none (is_share size_threshold (total_size groups))
    (filter (has_rank best) groups)
    (each_map _ _ (filter (has_rank best) groups)
    (λ group below. let low = size_below lives best group below in grind (arith, nat_tests))
    (all_below lives groups best is))))

-- ---- the choice

-- `or_else` returns the first option if it has a value, and the second option otherwise.
pub or_is : (one other : Option GroupReading) → option_or one other ≡ (one or_else other)
or_is None other = refl
or_is (Some group) other = refl

pub choice_none : (sizes : GroupReading → List ℕ) (lives : List GroupLife)
    (size_threshold percentile ratio : ℕ) (groups : List GroupReading) →
    Pairs (IsBefore lives) groups →
    unbeaten (beats_by lives memory_in_use) groups ≡ None →
    None ≡ size_choice sizes lives size_threshold percentile ratio groups
choice_none sizes lives size_threshold percentile ratio groups pairs none =
    rw (empty_is lives groups pairs none) refl

pub choice_large : (sizes : GroupReading → List ℕ) (lives : List GroupLife)
    (size_threshold percentile ratio : ℕ) (groups : List GroupReading) (best : GroupReading) →
    Pairs (IsBefore lives) groups →
    unbeaten (beats_by lives memory_in_use) groups ≡ Some best →
    is_share size_threshold (total_size groups) best ≡ true →
    Some best ≡ size_choice sizes lives size_threshold percentile ratio groups
choice_large sizes lives size_threshold percentile ratio groups best pairs some share =
    rw (large_is lives size_threshold groups best (is_best lives groups best pairs some) share) refl

pub choice_small : (sizes : GroupReading → List ℕ) (lives : List GroupLife)
    (size_threshold percentile ratio : ℕ) (groups : List GroupReading) (best : GroupReading) →
    Pairs (IsBefore lives) groups →
    unbeaten (beats_by lives memory_in_use) groups ≡ Some best →
    is_share size_threshold (total_size groups) best ≡ false →
    (unbeaten (has_grown_more_over sizes lives)
    (filter (is_growing_over sizes ratio) (largest_few lives
    (count_above percentile (length (filter (has_rank best) groups)))
    (filter (has_rank best) groups)))
    or_else Some best) ≡ size_choice sizes lives size_threshold percentile ratio groups
choice_small sizes lives size_threshold percentile ratio groups best pairs some share =
    let is = is_best lives groups best pairs some in
    rw (
      none_large lives size_threshold groups best is share,
      best_of_is lives groups best is,
      largest_is lives groups best is,
    ) refl
