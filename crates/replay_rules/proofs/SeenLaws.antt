-- Proves properties of the readings of groups in an order of slots.
use Rattle.std.proofs.Common.{◌≡◌, ℕ, ◌+◌, ◌<◌, List, [], ◌∷◌, ◌++◌, length, map, take, drop}
use Rattle.std.proofs.Common.{get_or, refl, sym, ap, subst, ◌∙◌, arith, Bool, true, false, cond, T}
use Rattle.std.specs.Prelude.{◌&&◌}
use Rattle.std.specs.Cmp.Lexicographic.{slice_cmp, nat_list_cmp_total}
use Rattle.std.specs.Ordering.{is_lt, nat_cmp}
use Rattle.std.specs.declared.cmp.Ordering.{Ordering}
use Rattle.std.specs.declared.cmp.Ordering.TheVariants.{Less, Equal, Greater}
use Rattle.std.specs.FinMap.Entries.{is_sorted, is_sorted-put}
use Rattle.std.proofs.lemmas.List.{append-nil, get_or_default, map-append, take-append-drop}
use Rattle.std.proofs.lemmas.List.{take_more}
use Rattle.std.proofs.lemmas.List.Elements.{filter-append}
use Rattle.psi_base.specs.declared.event.Event.{Event}
use Rattle.psi_base.specs.declared.event.Slot.{Slot}
use Rattle.psi_spec.specs.declared.machine.GroupLife.{GroupLife}
use Rattle.psi_spec.specs.World.{Limits, after, first_world, root, up_to}
use Rattle.psi_spec.specs.Refusal.{AreLegal}
use Rattle.psi_spec.specs.Groups.{in_order, is_live_at, live_from, live_groups}
use Rattle.psi_spec.specs.LegalGroups.{IsPathOrder}
use Rattle.psi_spec.specs.Groups.{path_at}
use Rattle.plan_laws.specs.Moments.{is_live_slot, with_path}
use Rattle.plan_laws.proofs.MomentsOrder.{order_shows_live}
use Rattle.kill_spec.specs.Readings.{path_of}
use Rattle.kill_spec.specs.LegalReadings.{Ascend}
use Rattle.tick_engine.specs.Engine.{EngineView}
use Rattle.side_watch.specs.Watch.{SideView}
use Rattle.group_tree.specs.Tree.{numbers_of}
use Rattle.replay_rules.specs.Seen.{group_by, groups_by, slots_live_at}

-- Listing the first six of seven rows gives the prefix of six rows.
pub six_rows : (rows : List (List ℕ)) → length rows ≡ 7 →
    get_or rows 0 [] ∷ get_or rows 1 [] ∷ get_or rows 2 [] ∷ get_or rows 3 [] ∷ get_or rows 4
    [] ∷ get_or rows 5 [] ∷ [] ≡ take 6 rows
six_rows [] is = absurd (omega (arith, is))
six_rows (a ∷ []) is = absurd (omega (arith, is))
six_rows (a ∷ b ∷ []) is = absurd (omega (arith, is))
six_rows (a ∷ b ∷ c ∷ []) is = absurd (omega (arith, is))
six_rows (a ∷ b ∷ c ∷ d ∷ []) is = absurd (omega (arith, is))
six_rows (a ∷ b ∷ c ∷ d ∷ e ∷ []) is = absurd (omega (arith, is))
six_rows (a ∷ b ∷ c ∷ d ∷ e ∷ f ∷ more) is = refl

-- ---- paths that ascend

is_less : (r : Ordering) → T (is_lt r) → r ≡ Less
is_less Less is = refl
is_less Equal is = absurd is
is_less Greater is = absurd is

first_holds : (a b : Bool) → T (a && b) → T a
first_holds true b is = tt
first_holds false b is = is

second_holds : (a b : Bool) → T (a && b) → T b
second_holds true b is = is
second_holds false b is = absurd is

-- The keys of a map are strictly ascending.
pub keys_ascend : (pairs : List (List ℕ × ℕ)) → T (is_sorted (slice_cmp nat_cmp) pairs) →
    Ascend (map (λ (pair : List ℕ × ℕ). pair.0) pairs)
keys_ascend [] is = tt
keys_ascend (first ∷ []) is = tt
keys_ascend (first ∷ second ∷ pairs) is =
    let below = first_holds _ _ is in (
      is_less (slice_cmp nat_cmp first.0 second.0) (first_holds _ _ below),
      keys_ascend
          (second ∷ pairs) (second_holds _ _ is),
    )

pub in_order_sorted : (pairs : List (List ℕ × ℕ)) →
    T (is_sorted (slice_cmp nat_cmp) (in_order pairs))
in_order_sorted [] = tt
in_order_sorted (pair ∷ pairs) = is_sorted-put (slice_cmp nat_cmp) nat_list_cmp_total pair.0 pair.1
    (in_order pairs) (in_order_sorted pairs)

paths_alone : (lives : List GroupLife) (slots : List ℕ) →
    map (λ (pair : List ℕ × ℕ). pair.0) (map (with_path lives) slots) ≡ map (path_at lives) slots
paths_alone lives [] = refl
paths_alone lives (slot ∷ slots) = ap (λ rest. path_at lives slot ∷ rest) (paths_alone lives slots)

-- The paths of the live slots in a path order are strictly ascending.
pub live_ascend : (limits : Limits) (events : List Event) → AreLegal limits first_world events →
    (order : List ℕ) → IsPathOrder (after events).groups order → (at : ℕ) →
    Ascend (map (path_at (after events).groups) (slots_live_at (after events).groups at order))
live_ascend limits events legal order is at =
    let all : List GroupLife = (after events).groups in
    let pairs : List (List ℕ × ℕ) = live_groups (after (up_to events at)).groups in
    let same : map (λ (pair : List ℕ × ℕ). pair.0) pairs
    ≡ map (path_at all) (slots_live_at all at order) =
    ap (map (λ (pair : List ℕ × ℕ). pair.0)) (order_shows_live limits events legal order is at)
    ∙ paths_alone all (slots_live_at all at order) in
    subst Ascend same (keys_ascend pairs
    (in_order_sorted (live_from 0 (after (up_to events at)).groups)))

-- A prefix of ascending paths is ascending.
ascend_prefix : (paths suffix : List (List ℕ)) → Ascend (paths ++ suffix) → Ascend paths
ascend_prefix [] suffix is = tt
ascend_prefix (first ∷ []) suffix is = tt
ascend_prefix (first ∷ second ∷ paths) suffix is = (is.0, ascend_prefix (second ∷ paths) suffix is.1)

-- ---- one more slot

numbers_more : (order : List Slot) (i : ℕ) (d : Slot) → i < length order →
    numbers_of (take (i + 1) order) ≡ numbers_of (take i order) ++ (get_or order i d).0 ∷ []
numbers_more order i d inside =
    ap numbers_of (take_more order i d inside)
    ∙ map-append (λ (slot : Slot). slot.0) (take i order) (get_or order i d ∷ [])

slots_more : (lives : List GroupLife) (at : ℕ) (order : List Slot) (i : ℕ) (d : Slot) →
    i < length order
    → slots_live_at lives at (numbers_of (take (i + 1) order))
    ≡ slots_live_at lives at (numbers_of (take i order)) ++ slots_live_at lives at
    ((get_or order i d).0 ∷ [])
slots_more lives at order i d inside =
    ap (slots_live_at lives at) (numbers_more order i d inside)
    ∙ filter-append (is_live_slot lives at) (numbers_of (take i order))
    ((get_or order i d).0 ∷ [])

alone_live : (lives : List GroupLife) (at slot : ℕ) → is_live_slot lives at slot ≡ true →
    slots_live_at lives at (slot ∷ []) ≡ slot ∷ []
alone_live lives at slot live = ap (λ b. cond b (slot ∷ []) []) live

alone_gone : (lives : List GroupLife) (at slot : ℕ) → is_live_slot lives at slot ≡ false →
    slots_live_at lives at (slot ∷ []) ≡ []
alone_gone lives at slot gone = ap (λ b. cond b (slot ∷ []) []) gone

-- The group in an existing slot determines whether the slot is live.
pub live_is : (lives : List GroupLife) (at slot : ℕ) (d : GroupLife) (b : Bool) →
    slot < length lives → is_live_at (get_or lives slot d) at ≡ b → is_live_slot lives at slot ≡ b
live_is lives at slot d b room is =
    ap (λ (life : GroupLife). is_live_at life at) (get_or_default lives slot root d room) ∙ is

-- One more live slot adds one group to the reading.
pub groups_more : (engine : EngineView) (watch : SideView) (lives : List GroupLife) (at : ℕ)
    (order : List Slot) (i : ℕ) (d : Slot) → i < length order →
    is_live_slot lives at (get_or order i d).0 ≡ true
    → groups_by engine watch lives at (numbers_of (take (i + 1) order))
    ≡ groups_by engine watch lives at (numbers_of (take i order)) ++ group_by engine watch
    (get_or order i d).0 ∷ []
groups_more engine watch lives at order i d inside live =
    let slots = slots_more lives at order i d inside
    ∙ ap (λ more. slots_live_at lives at (numbers_of (take i order)) ++ more)
    (alone_live lives at (get_or order i d).0 live) in
    ap (map (group_by engine watch)) slots
    ∙ map-append (group_by engine watch) (slots_live_at lives at (numbers_of (take i order)))
    ((get_or order i d).0 ∷ [])

-- One more slot that isn't live adds no group to the reading.
pub groups_same : (engine : EngineView) (watch : SideView) (lives : List GroupLife) (at : ℕ)
    (order : List Slot) (i : ℕ) (d : Slot) → i < length order →
    is_live_slot lives at (get_or order i d).0 ≡ false
    → groups_by engine watch lives at (numbers_of (take (i + 1) order))
    ≡ groups_by engine watch lives at (numbers_of (take i order))
groups_same engine watch lives at order i d inside gone =
    let none = append-nil (slots_live_at lives at (numbers_of (take i order))) in
    ap (map (group_by engine watch))
    (slots_more lives at order i d inside
    ∙ ap (λ more. slots_live_at lives at (numbers_of (take i order)) ++ more)
    (alone_gone lives at (get_or order i d).0 gone) ∙ none)

paths_by : (engine : EngineView) (watch : SideView) (lives : List GroupLife) (slots : List ℕ) →
    map (path_of lives) (map (group_by engine watch) slots) ≡ map (path_at lives) slots
paths_by engine watch lives [] = refl
paths_by engine watch lives (slot ∷ slots) =
    ap (λ rest. path_at lives slot ∷ rest) (paths_by engine watch lives slots)

-- If the paths of all groups are ascending, the paths of the groups in the first slots are
-- ascending.
pub groups_ascend : (engine : EngineView) (watch : SideView) (lives : List GroupLife) (at : ℕ)
    (order : List Slot) (i : ℕ) → Ascend
    (map (path_at lives) (slots_live_at lives at (numbers_of order)))
    → Ascend (map (path_of lives) (groups_by engine watch lives at (numbers_of (take i order))))
groups_ascend engine watch lives at order i all =
    let number : Slot → ℕ = λ (slot : Slot). slot.0 in
    let prefix = numbers_of (take i order) in
    let suffix = numbers_of (drop i order) in
    let parts : numbers_of order ≡ prefix ++ suffix =
    ap numbers_of (sym (take-append-drop i order))
    ∙ map-append number (take i order) (drop i order) in
    let live : slots_live_at lives at (numbers_of order)
    ≡ slots_live_at lives at prefix ++ slots_live_at lives at suffix =
    ap (slots_live_at lives at) parts ∙ filter-append (is_live_slot lives at) prefix suffix in
    let paths : map (path_at lives) (slots_live_at lives at (numbers_of order))
    ≡ map (path_at lives) (slots_live_at lives at prefix) ++ map (path_at lives)
    (slots_live_at lives at suffix) =
    ap (map (path_at lives)) live ∙ map-append (path_at lives) (slots_live_at lives at prefix)
    (slots_live_at lives at suffix) in
    subst Ascend (sym (paths_by engine watch lives (slots_live_at lives at prefix)))
    (ascend_prefix _ _ (subst Ascend paths all))
