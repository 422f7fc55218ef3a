-- Defines how each action chooses its victim, which is the group to kill.
use Rattle.std.specs.Prelude.{ℕ, zero, suc, ◌+◌, ◌-◌, ◌*◌, ◌/◌, max, List, [], ◌∷◌, ◌++◌}
use Rattle.std.specs.Prelude.{filter, find, length, take, sum, sum_by, option_map, nat_le, nat_lt, ◌==◌, ◌&&◌, ◌||◌, not}
use Rattle.std.specs.Prelude.{Bool, true, false, if◌then◌else◌, Option, None, Some}
use Rattle.std.specs.Prelude.{slice_index_or}
use Rattle.std.specs.List.{list_any}
use Rattle.std.specs.Ordering.{nat_cmp}
use Rattle.std.specs.declared.cmp.Ordering.{Ordering}
use Rattle.std.specs.declared.cmp.Ordering.TheVariants.{Less, Equal, Greater}
use Rattle.std.specs.Cmp.Lexicographic.{slice_cmp}
use Rattle.psi_base.specs.declared.event.Res.{Res}
use Rattle.psi_base.specs.declared.event.Preference.{Preference}
use Rattle.psi_base.specs.declared.event.Preference.TheVariants.{Prefer, Plain, Avoid}
use Rattle.psi_spec.specs.declared.machine.GroupLife.{GroupLife}
use Rattle.psi_spec.specs.Stall.{parents_of}
use Rattle.path_match.specs.Match.{Pattern}
use Rattle.ruleset_json.specs.declared.types.Size.{Size}
use Rattle.ruleset_json.specs.declared.types.Size.TheVariants as size
use Rattle.ruleset_json.specs.declared.types.After.{After}
use Rattle.ruleset_json.specs.declared.types.Action.{Action}
use Rattle.ruleset_json.specs.declared.types.Action.TheVariants as action
use Rattle.kill_spec.specs.declared.reading.GroupReading.{GroupReading}
use Rattle.kill_spec.specs.declared.reading.HostReading.{HostReading}
use Rattle.kill_spec.specs.Readings.{Reading, full_average, group_in, path_of, rise, sixty_seconds, ten_seconds}
use Rattle.kill_spec.specs.Detectors.{matches}

-- ---- the arguments of actions

-- The patterns of an action, which select its candidates.
abbrev pub action_patterns : Action → List Pattern
action_patterns (action.SizeOrGrowth cgroup size_threshold percentile ratio after) = cgroup
action_patterns (action.SwapUsage cgroup threshold after) = cgroup
action_patterns (action.Pressure cgroup resource after) = cgroup
action_patterns (action.PgScan cgroup after) = cgroup

-- The settings that all actions have: delay, recursive, always_continue.
abbrev pub after_of : Action → After
after_of (action.SizeOrGrowth cgroup size_threshold percentile ratio after) = after
after_of (action.SwapUsage cgroup threshold after) = after
after_of (action.Pressure cgroup resource after) = after
after_of (action.PgScan cgroup after) = after

-- ---- the candidates of an action

-- The candidates of an action: the groups that match the patterns and have a live task in them or
-- in a descendant.
abbrev pub candidates : List GroupLife → List Pattern → Reading → List GroupReading
candidates lives patterns reading =
    filter (λ (group : GroupReading). group.populated) (matches lives patterns reading)

-- `names_slot slot other`: whether the optional slot `other` is present and equals `slot`.
abbrev pub names_slot : ℕ → Option ℕ → Bool
names_slot slot None = false
names_slot slot (Some other) = other == slot

-- The live children of the group in slot `slot` that have a live task in them or in a descendant.
abbrev pub children : List GroupLife → ℕ → Reading → List GroupReading
children lives slot reading =
    filter (λ (group : GroupReading). group.populated && names_slot slot (slice_index_or (parents_of lives) group.slot.0 None))
    reading.groups

-- ---- choices among groups

-- The first group of a list that no other group of the list beats, or `None` for an empty list.
abbrev pub unbeaten : (GroupReading → GroupReading → Bool) → List GroupReading → Option GroupReading
unbeaten beats groups =
    find (λ group. not (list_any (λ other. beats other group) groups)) groups

-- The rank of a kill preference: groups with a higher rank are chosen first.
abbrev pub rank : Preference → ℕ
rank Prefer = 2
rank Plain = 1
rank Avoid = 0

-- The rank of a group's kill preference.
abbrev pub rank_of : GroupReading → ℕ
rank_of group = rank group.preference

-- Whether the result of a comparison is `Less`.
abbrev pub is_less : Ordering → Bool
is_less Less = true
is_less Equal = false
is_less Greater = false

-- Whether the path of `first` is before the path of `second` in byte order.
abbrev pub has_path_before : List GroupLife → GroupReading → GroupReading → Bool
has_path_before lives first second = is_less (slice_cmp nat_cmp (path_of lives first) (path_of lives second))

-- Whether `first` has a greater ranking value (`measure`) than `second`, or the values are equal
-- and the path of `first` comes before the path of `second` in byte order.
abbrev pub is_greater_by : List GroupLife → (GroupReading → ℕ) → GroupReading → GroupReading → Bool
is_greater_by lives measure first second =
    nat_lt (measure second) (measure first)
    || (measure first == measure second && has_path_before lives first second)

-- Whether `first` beats `second`: its kill preference is better; or the preferences are equal and
-- its ranking value is greater; or both are equal and its path comes first in byte order.
abbrev pub beats_by : List GroupLife → (GroupReading → ℕ) → GroupReading → GroupReading → Bool
beats_by lives measure first second =
    nat_lt (rank_of second) (rank_of first)
    || (rank_of first == rank_of second && is_greater_by lives measure first second)

-- ---- choices by swap, pressure or scanned pages

-- Whether `swap` bytes are at least a size. The size is a number of bytes, or a percentage of the
-- host's swap.
abbrev pub is_at_least : Size → HostReading → ℕ → Bool
is_at_least (size.Bytes n) host swap = nat_le n swap
is_at_least (size.Percent n) host swap = nat_le (n * host.swap_total) (swap * 100)

-- The ranking value for pressure: the sum of the `full` averages of a resource over 10 s and 60 s
-- (fixed point).
abbrev pub pressure_measure : Res → GroupReading → ℕ
pressure_measure resource group =
    full_average resource ten_seconds group + full_average resource sixty_seconds group

-- The eligible group that no other eligible group beats by the ranking value `measure`, or `None`
-- if no group is eligible.
abbrev pub chosen_by : List GroupLife → (GroupReading → Bool) → (GroupReading → ℕ) → List GroupReading → Option GroupReading
chosen_by lives is_eligible measure groups = unbeaten (beats_by lives measure) (filter is_eligible groups)

-- ---- choices by size or growth

-- A group's memory in use (bytes).
abbrev pub memory_in_use : GroupReading → ℕ
memory_in_use group = group.current

-- Whether `first` uses more memory than `second`, or an equal amount and its path comes first in
-- byte order.
abbrev pub is_larger : List GroupLife → GroupReading → GroupReading → Bool
is_larger lives first second = is_greater_by lives memory_in_use first second

-- The largest group of a list, or `None` for an empty list.
abbrev pub largest : List GroupLife → List GroupReading → Option GroupReading
largest lives groups = unbeaten (is_larger lives) groups

-- The groups with the best kill preference in the list.
abbrev pub best_of : List GroupReading → List GroupReading
best_of groups = filter (λ group. not (list_any (λ other. nat_lt (rank_of group) (rank_of other)) groups)) groups

-- The total memory (bytes) that the groups use.
abbrev pub total_size : List GroupReading → ℕ
total_size groups = sum_by memory_in_use groups

-- The first choice of `SizeOrGrowth`: the largest of the groups with the best preference that use
-- at least `size_threshold` percent of the total memory of all groups.
abbrev pub large_choice : List GroupLife → ℕ → List GroupReading → Option GroupReading
large_choice lives size_threshold groups =
    largest lives (filter (λ group. nat_le (size_threshold * total_size groups) (memory_in_use group * 100)) (best_of groups))

-- The number of groups, out of `count` groups, that are above a percentile. It is rounded up, and
-- at least one.
abbrev pub count_above : ℕ → ℕ → ℕ
count_above percentile count = max 1 ((count * (100 - percentile) + 99) / 100)

-- The `count` largest groups.
abbrev pub largest_few : List GroupLife → ℕ → List GroupReading → List GroupReading
largest_few lives count groups =
    filter (λ group. nat_lt (length (filter (λ other. is_larger lives other group) groups)) count) groups

-- `size_at group`: a list with the size (bytes) of the group, or an empty list if `group` is
-- `None`.
abbrev pub size_at : Option GroupReading → List ℕ
size_at None = []
size_at (Some group) = group.current ∷ []

-- The sizes (bytes) of the group in slot `slot` at the readings at which it was live. The newest
-- size comes first.
abbrev pub sizes_in : ℕ → List Reading → List ℕ
sizes_in slot [] = []
sizes_in slot (reading ∷ past) = size_at (group_in reading slot) ++ sizes_in slot past

-- The history of a group: its latest sizes (bytes) before the current reading. The history has at
-- most four sizes.
abbrev pub past_of : List Reading → GroupReading → List ℕ
past_of past group = take 4 (sizes_in group.slot.0 past)

-- Whether a group is growing: it used memory in its history, and its size is at least `ratio`
-- thousandths of the mean of its history.
abbrev pub is_growing : ℕ → List Reading → GroupReading → Bool
is_growing ratio past group =
    nat_lt 0 (sum (past_of past group))
    && nat_le (ratio * sum (past_of past group)) (memory_in_use group * length (past_of past group) * 1000)

-- A value that ranks the growth of `group` relative to `other`: the group's size divided by the
-- mean of its history, multiplied by the sums of both histories. Comparing two such products
-- compares the quotients without division.
abbrev pub growth_by : List Reading → GroupReading → GroupReading → ℕ
growth_by past group other = memory_in_use group * length (past_of past group) * sum (past_of past other)

-- Whether `first` has grown more than `second`: the quotient of its size and the mean of its
-- history is greater, as an exact fraction; or the quotients are equal and `first` is larger.
abbrev pub has_grown_more : List GroupLife → List Reading → GroupReading → GroupReading → Bool
has_grown_more lives past first second =
    nat_lt (growth_by past second first) (growth_by past first second)
    || (growth_by past first second == growth_by past second first && is_larger lives first second)

-- The second choice of `SizeOrGrowth`: the group that has grown most, among the growing groups
-- within the largest groups with the best preference.
abbrev pub growing_choice : List GroupLife → ℕ → ℕ → List Reading → List GroupReading → Option GroupReading
growing_choice lives percentile ratio past groups =
    unbeaten (has_grown_more lives past)
    (filter (is_growing ratio past)
    (largest_few lives (count_above percentile (length (best_of groups))) (best_of groups)))

-- `first or_else second`: the value `first`, or `second` if `first` is `None`.
infixr 5 ◌or_else◌
abbrev pub ◌or_else◌ : {A : Type 0} → Option A → Option A → Option A
(Some x) or_else other = Some x
None or_else other = other

-- ---- the victim of an action

-- The group that an action chooses among `groups` at the reading `now`, or `None`. `past` are the
-- earlier readings.
unfoldable pub choice : List GroupLife → Action → Reading → List Reading → List GroupReading → Option GroupReading
choice lives (action.SizeOrGrowth cgroup size_threshold percentile ratio after) now past groups =
    large_choice lives size_threshold groups
    or_else growing_choice lives percentile ratio past groups
    or_else largest lives (best_of groups)
choice lives (action.SwapUsage cgroup threshold after) now past groups =
    chosen_by lives (λ group. is_at_least threshold now.host group.swap) (λ group. group.swap) groups
choice lives (action.Pressure cgroup resource after) now past groups =
    chosen_by lives (λ group. nat_lt 0 (pressure_measure resource group)) (pressure_measure resource) groups
choice lives (action.PgScan cgroup after) now past groups =
    chosen_by lives (λ group. nat_lt 0 (rise past group)) (rise past) groups

-- One step of the descent of a recursive action from `group`. The descent continues with `next`
-- from the chosen child, and ends at `group` if no child is chosen.
abbrev pub below : Option GroupReading → GroupReading → (GroupReading → GroupReading) → GroupReading
below None group next = group
below (Some child) group next = next child

-- The group at which the descent of a recursive action from `group` ends. Each step chooses among
-- the children of the current group. The descent ends if no child is chosen, or after `n` steps.
abbrev pub descended : List GroupLife → Action → Reading → List Reading → ℕ → GroupReading → GroupReading
descended lives act now past zero group = group
descended lives act now past (suc n) group =
    below (choice lives act now past (children lives group.slot.0 now)) group (descended lives act now past n)

-- The victim of an action at the reading `now`, or `None`. `past` are the earlier readings. The
-- victim is the action's choice among its candidates. A recursive action repeats the choice among
-- the children of the chosen group until no child is chosen. A child's slot is greater than its
-- parent's, so there are at most as many steps as groups.
unfoldable pub victim : List GroupLife → Action → Reading → List Reading → Option GroupReading
victim lives act now past =
    if (after_of act).recursive
    then option_map (descended lives act now past (length lives)) (choice lives act now past (candidates lives (action_patterns act) now))
    else choice lives act now past (candidates lives (action_patterns act) now)
