-- The live groups sorted by path, found by one order of all slots.
use Rattle.std.proofs.Common.{◌≡◌, ◌≢◌, ℕ, zero, suc, ◌+◌, ◌<◌, List, [], ◌∷◌, refl, sym, ap, ◌∙◌, subst, arith, Bool, true, false, cond, T, Option, None, Some, length, map}
use Rattle.std.specs.Prelude.{◌&&◌, ◌==◌, slice_get, slice_index_or, filter, unwrap_or, All, if◌then◌else◌}
use Rattle.std.specs.Str.{bytes_eq}
use Rattle.std.specs.List.{AllByRecursion, AllPairs, Contains, IsDistinct, range_with_len}
use Rattle.std.specs.Ordering.{nat_cmp, is_lt, is_eq, eq_by_cmp, ordering_reverse}
use Rattle.std.specs.Cmp.Lexicographic.{slice_cmp, nat_list_cmp_total}
use Rattle.std.specs.declared.cmp.Ordering.{Ordering}
use Rattle.std.specs.declared.cmp.Ordering.TheVariants.{Less, Equal, Greater}
use Rattle.std.specs.FinMap as fin
use Rattle.std.specs.FinMap.Entries.{below_all}
use Rattle.std.proofs.lemmas.Bool.Decides.{nat_tests, Decides-eqb}
use Rattle.std.proofs.lemmas.Cmp.{tied_itself}
use Rattle.std.proofs.lemmas.List.{get_or-map, get_or-take, nil_from_length}
use Rattle.std.proofs.lemmas.List.Elements.{All-contains, All-filter, All-from_recursion, recursion_from_All, filter_passes}
use Rattle.std.proofs.lemmas.List.FromFn.{get_or-range_with_len, length-range_with_len}
use Rattle.std.proofs.lemmas.List.Kept.{AllPairs-filter}
use Rattle.std.proofs.lemmas.List.Sorted.{All-permutation, Contains-permutation, ranks_by, sorted_far}
use Rattle.std.proofs.lemmas.Map.Keys.{IsDistinct-IsPermutation}
use Rattle.std.proofs.lemmas.Map.Made.{AllPairs-from_IsDistinct, IsDistinct-from_AllPairs}
use Rattle.std.proofs.lemmas.Option.{slice_get_within, unwrap_or-slice_get}
use Rattle.psi_base.specs.declared.event.Event.{Event}
use Rattle.psi_base.specs.Missing.{is_some_and}
use Rattle.psi_spec.specs.declared.machine.GroupLife.{GroupLife}
use Rattle.psi_spec.specs.World.{Limits, root, is_live, slot_from, slot_of, after, first_world, up_to}
use Rattle.psi_spec.specs.Refusal.{AreLegal}
use Rattle.psi_spec.specs.Groups.{in_order, is_live_at, live_from, path_at}
use Rattle.psi_spec.specs.LegalGroups.{IsPathOrder, is_live_in}
use Rattle.psi_spec.proofs.GroupLaws.{bytes_itself, found_below, found_group, same_bytes}
use Rattle.psi_spec.proofs.RefusalLaws.{first_true, second_true}
use Rattle.psi_counts.specs.Legal.{IsLegalWorld}
use Rattle.plan_laws.specs.Moments.{AreFirstOf, is_live_slot, with_path, OrderShowsLive, OrderShowsSlots}
use Rattle.plan_laws.proofs.PlanStates.{legal_after, legal_prefix}
use Rattle.plan_laws.proofs.PlanUpTo.{up_to_prefix}
use Rattle.plan_laws.proofs.MomentsLives.{groups_keep_slots, lives_show_live}

-- ---- paths and their order

-- the byte order of paths
abbrev by_bytes : List ℕ → List ℕ → Ordering
by_bytes x y = slice_cmp nat_cmp x y

-- paths compare as equal only if they are equal
tied_only : (x y : List ℕ) → by_bytes x y ≡ Equal → x ≡ y
tied_only x y is = fin.slice_cmp-IsAntisymmetric fin.nat_cmp-IsAntisymmetric x y is

tied_test : (x y : List ℕ) (r : Ordering) → by_bytes x y ≡ r → is_eq r ≡ true → x ≡ y
tied_test x y Equal is on = tied_only x y is
tied_test x y Less is on = absurd (cc on)
tied_test x y Greater is on = absurd (cc on)

-- The equality test by the order of paths is true only for equal paths.
pub tied : (x y : List ℕ) → eq_by_cmp (slice_cmp nat_cmp) x y ≡ true → x ≡ y
tied x y on = tied_test x y (by_bytes x y) refl on

pub ties : (x y : List ℕ) → x ≡ y → eq_by_cmp (slice_cmp nat_cmp) x y ≡ true
ties x y same = subst (λ z. eq_by_cmp (slice_cmp nat_cmp) x z ≡ true) same (ap is_eq (tied_itself nat_list_cmp_total x))

-- The equality test by the order of paths agrees with the equality test of bytes.
same_test : (x y : List ℕ) → eq_by_cmp (slice_cmp nat_cmp) x y ≡ bytes_eq y x
same_test x y =
    elim (bytes_eq y x) as (λ b. bytes_eq y x ≡ b → eq_by_cmp (slice_cmp nat_cmp) x y ≡ b) [
      | true ↦ λ is. ties x y (sym (same_bytes y x is))
      | false ↦ λ is.
          elim (eq_by_cmp (slice_cmp nat_cmp) x y) as (λ b. eq_by_cmp (slice_cmp nat_cmp) x y ≡ b → b ≡ false) [
            | true ↦ λ on. let same : y ≡ x = sym (tied x y on) in absurd (cc (subst (λ z. bytes_eq z x ≡ false) same is, bytes_itself x))
            | false ↦ λ _. refl
          ] refl
    ] refl

-- ---- live groups, as a map from paths

abbrev no_lives : fin.FinMap (slice_cmp nat_cmp) ℕ
no_lives = fin.empty

-- Sorting pairs of a path and a slot gives the entries of a map from paths to slots.
in_order_is : (pairs : List (List ℕ × ℕ)) → in_order pairs ≡ fin.entries (fin.from_entries {R = slice_cmp nat_cmp} pairs)
in_order_is [] = sym (nil_from_length (fin.entries no_lives) (sym (fin.len-entries no_lives) ∙ fin.len-empty (slice_cmp nat_cmp) ℕ))
in_order_is (pair ∷ pairs) = ap (fin.put (slice_cmp nat_cmp) pair.0 pair.1) (in_order_is pairs) ∙ sym (fin.entries-insert nat_list_cmp_total (fin.from_entries {R = slice_cmp nat_cmp} pairs) pair.0 pair.1)

-- A search for a path among the live groups finds the live group with the path.
live_found : (from : ℕ) (groups : List GroupLife) (path : List ℕ) → fin.find (slice_cmp nat_cmp) path (live_from from groups) ≡ slot_from from groups path
live_found from [] path = refl
live_found from (group ∷ groups) path =
    let rest = live_found (from + 1) groups path in
    elim (is_live group) as (λ b. fin.find (slice_cmp nat_cmp) path (if b then (group.path, from) ∷ live_from (from + 1) groups else live_from (from + 1) groups) ≡ (if b && bytes_eq group.path path then Some from else slot_from (from + 1) groups path)) [
      | true ↦ ap (λ b. cond b (Some from) (fin.find (slice_cmp nat_cmp) path (live_from (from + 1) groups))) (same_test path group.path) ∙ ap (λ o. cond (bytes_eq group.path path) (Some from) o) rest
      | false ↦ rest
    ]

-- ---- slots with their paths, as a map

-- A search for a path among slots finds a slot with that path.
found_slot : (groups : List GroupLife) (P : ℕ → Type 0) (path : List ℕ) (slots : List ℕ) (slot : ℕ) → AllByRecursion P slots → fin.find (slice_cmp nat_cmp) path (map (with_path groups) slots) ≡ Some slot → P slot × (path_at groups slot ≡ path)
found_slot groups P path [] slot all is = absurd (cc is)
found_slot groups P path (first ∷ slots) slot all is =
    elim (eq_by_cmp (slice_cmp nat_cmp) path (path_at groups first)) as (λ b. eq_by_cmp (slice_cmp nat_cmp) path (path_at groups first) ≡ b → cond b (Some first) (fin.find (slice_cmp nat_cmp) path (map (with_path groups) slots)) ≡ Some slot → P slot × (path_at groups slot ≡ path)) [
      | true ↦ λ on i. let same : first ≡ slot = cc i in subst (λ s. P s × (path_at groups s ≡ path)) same (all.0, sym (tied path (path_at groups first) on))
      | false ↦ λ _ i. found_slot groups P path slots slot all.1 i
    ] refl is

-- If a search continues after the first slot, the first slot doesn't have the path.
passes_first : (path other : List ℕ) (slot : ℕ) (rest : Option ℕ) (b : Bool) → eq_by_cmp (slice_cmp nat_cmp) path other ≡ b → cond b (Some slot) rest ≡ None → (other ≢ path) × (rest ≡ None)
passes_first path other slot rest true on is = absurd (cc is)
passes_first path other slot rest false off is = (λ same. absurd (cc (off, ties path other (sym same))), is)

-- If a search finds no slot, no slot that passes the test has the path.
none_has : (groups : List GroupLife) (test : ℕ → Bool) (path : List ℕ) (slots : List ℕ) → fin.find (slice_cmp nat_cmp) path (map (with_path groups) (filter test slots)) ≡ None → AllByRecursion (λ slot. test slot ≡ true → path_at groups slot ≢ path) slots
none_has groups test path [] is = tt
none_has groups test path (first ∷ slots) is =
    elim (test first) as (λ b. test first ≡ b → fin.find (slice_cmp nat_cmp) path (map (with_path groups) (cond b (first ∷ filter test slots) (filter test slots))) ≡ None → (test first ≡ true → path_at groups first ≢ path) × AllByRecursion (λ slot. test slot ≡ true → path_at groups slot ≢ path) slots) [
      | true ↦ λ _ i.
          let passed = passes_first path (path_at groups first) first _ (eq_by_cmp (slice_cmp nat_cmp) path (path_at groups first)) refl i in
          (λ _. passed.0, none_has groups test path slots passed.1)
      | false ↦ λ off i. (λ on. absurd (cc (off, on)), none_has groups test path slots i)
    ] refl is

-- ---- what an order of all slots has

-- An order of all slots contains each existing slot.
has_each : (groups : List GroupLife) (order : List ℕ) → IsPathOrder groups order → (slot : ℕ) → slot < length groups → Contains order slot
has_each groups order is slot room =
    Contains-permutation (range_with_len 0 (length groups)) order slot is.each (slot, omega (arith, length-range_with_len 0 (length groups), room), get_or-range_with_len 0 (length groups) slot slot room ∙ (let same : 0 + slot ≡ slot = omega arith in same))

-- An order of all slots contains only existing slots.
has_no_other : (groups : List GroupLife) (order : List ℕ) → IsPathOrder groups order → All (λ slot. slot < length groups) order
has_no_other groups order is =
    All-permutation (λ slot. slot < length groups) (range_with_len 0 (length groups)) order is.each (λ k d room.
    let low : k < length groups = omega (arith, room, length-range_with_len 0 (length groups)) in
    omega (arith, low, get_or-range_with_len 0 (length groups) k d low))

symmetric : (x y : ℕ) → (x == y) ≡ (y == x)
symmetric x y = grind (arith, nat_tests)

-- An order of all slots contains no slot twice.
has_once : (groups : List GroupLife) (order : List ℕ) → IsPathOrder groups order → AllPairs (λ x y. x ≢ y) order
has_once groups order is =
    let n : ℕ = length groups in
    let first : IsDistinct (λ x y. x == y) (range_with_len 0 n) = IsDistinct-from_AllPairs Decides-eqb (range_with_len 0 n) (λ i j d low high same.
    let len = length-range_with_len 0 n in
    let below : j < n = omega (arith, high, len) in
    let one = get_or-range_with_len 0 n i d (omega (arith, low, below)) in
    let other = get_or-range_with_len 0 n j d below in
    omega (arith, low, one, other, same)) in
    AllPairs-from_IsDistinct Decides-eqb order (IsDistinct-IsPermutation (λ x y. x == y) symmetric (range_with_len 0 n) order is.each first)

-- The path of slot `y` isn't before the path of slot `x`.
abbrev NoneBefore : List GroupLife → ℕ → ℕ → Type 0
NoneBefore groups x y = is_lt (by_bytes (path_at groups y) (path_at groups x)) ≡ false

has_in_order : (groups : List GroupLife) (order : List ℕ) → IsPathOrder groups order → AllPairs (NoneBefore groups) order
has_in_order groups order is i j d low high =
    sorted_far (λ x y. is_lt (by_bytes (path_at groups x) (path_at groups y))) (ranks_by nat_list_cmp_total (path_at groups)) order is.sorted i j d (omega (arith, low)) high

-- ---- slots of different paths in order are a map

pairs_tail : (R : ℕ → ℕ → Type 0) (x : ℕ) (xs : List ℕ) → AllPairs R (x ∷ xs) → AllPairs R xs
pairs_tail R x xs all i j d low high = all (suc i) (suc j) d (omega (arith, low)) (omega (arith, high))

pairs_head : (R : ℕ → ℕ → Type 0) (x : ℕ) (xs : List ℕ) → AllPairs R (x ∷ xs) → All (R x) xs
pairs_head R x xs all k d room = all 0 (suc k) d (omega arith) (omega (arith, room))

both_hold : (a b : Bool) → T a → T b → T (a && b)
both_hold true b p q = q
both_hold false b p q = p

is_less : (r : Ordering) → r ≡ Less → T (is_lt r)
is_less r is = subst (λ r. T (is_lt r)) (sym is) tt

abbrev Ascends : List GroupLife → ℕ → ℕ → Type 0
Ascends groups x y = by_bytes (path_at groups x) (path_at groups y) ≡ Less

below_each : (groups : List GroupLife) (path : List ℕ) (slots : List ℕ) → AllByRecursion (λ slot. by_bytes path (path_at groups slot) ≡ Less) slots → T (below_all (slice_cmp nat_cmp) path (map (with_path groups) slots))
below_each groups path [] all = tt
below_each groups path (first ∷ slots) all = both_hold _ _ (is_less (by_bytes path (path_at groups first)) all.0) (below_each groups path slots all.1)

are_a_map : (groups : List GroupLife) (slots : List ℕ) → AllPairs (Ascends groups) slots → T (fin.is_sorted (slice_cmp nat_cmp) (map (with_path groups) slots))
are_a_map groups [] all = tt
are_a_map groups (first ∷ slots) all =
    both_hold _ _ (below_each groups (path_at groups first) slots (recursion_from_All (Ascends groups first) slots (pairs_head (Ascends groups) first slots all)))
    (are_a_map groups slots (pairs_tail (Ascends groups) first slots all))

-- ---- the groups at a time, from all groups

-- An existing slot has a group.
pub got_there : (groups : List GroupLife) (slot : ℕ) → slot < length groups → slice_get groups slot ≡ Some (slice_index_or groups slot root)
got_there [] slot room = absurd (omega (arith, room))
got_there (first ∷ groups) zero room = refl
got_there (first ∷ groups) (suc slot) room = got_there groups slot (omega (arith, room))

-- The path in a slot is the path of the group in that slot.
path_got : (groups : List GroupLife) (slot : ℕ) (life : GroupLife) → slice_get groups slot ≡ Some life → path_at groups slot ≡ life.path
path_got groups slot life is =
    get_or-map (λ (l : GroupLife). l.path) groups slot life [] (slice_get_within groups slot life is)
    ∙ ap (λ (l : GroupLife). l.path) (sym (unwrap_or-slice_get groups slot life) ∙ ap (λ o. unwrap_or o life) is)

-- A group that passes the test for live groups exists and is live.
passing : (o : Option GroupLife) → is_some_and o is_live ≡ true → (life : GroupLife) × (o ≡ Some life) × (is_live life ≡ true)
passing None on = absurd (cc on)
passing (Some life) on = (life, refl, on)

-- The relation between the groups `now` at a time and the groups `all` after all events: looking up
-- the path of a live slot finds the slot, and looking up any path finds only a live slot with that
-- path.
record ShowsOf (now all : List GroupLife) (test : ℕ → Bool) : Type 0 where
  finds : (slot : ℕ) → slot < length all → test slot ≡ true → slot_of now (path_at all slot) ≡ Some slot
  found : (path : List ℕ) (slot : ℕ) → slot_of now path ≡ Some slot → (slot < length all) × (test slot ≡ true) × (path_at all slot ≡ path)

shows_rest_of : (limits : Limits) (events : List Event) → AreLegal limits first_world events → (at : ℕ) → ShowsOf (after (up_to events at)).groups (after events).groups (is_live_slot (after events).groups at)
shows_rest_of limits events legal at = record {
  finds = λ slot room on.
      let live = passing (slice_get now slot) (same_live slot room ∙ on) in
      let within = slice_get_within now slot live.0 live.1 in
      ap (slot_of now) (same_path slot within ∙ path_got now slot live.0 live.1) ∙ world.groups.one_live slot live.0 live.1 live.2;
  found = λ path slot is.
      let below = found_below 0 now path slot is in
      let within : slot < length now = omega (arith, below.1) in
      let room : slot < length all = omega (arith, within, kept.few) in
      let got = got_there now slot within in
      let it = found_group 0 now path slot slot (slice_index_or now slot root) is (omega arith) got in
      let live : is_live_in now slot ≡ true = ap (λ o. is_some_and o is_live) got ∙ first_true _ _ it in
      (room, sym (same_live slot room) ∙ live, same_path slot within ∙ path_got now slot (slice_index_or now slot root) got ∙ same_bytes _ _ (second_true _ _ it));
}
  where
    now : List GroupLife
    now = (after (up_to events at)).groups

    all : List GroupLife
    all = (after events).groups

    world : IsLegalWorld limits (after (up_to events at))
    world =
        let parts = up_to_prefix limits first_world events at legal in
        legal_after limits (up_to events at) (legal_prefix limits first_world (up_to events at) parts.0 (subst (AreLegal limits first_world) parts.1 legal))

    kept : AreFirstOf all now
    kept = groups_keep_slots limits events legal at

    same_live : (slot : ℕ) → slot < length all → is_live_in now slot ≡ is_live_slot all at slot
    same_live slot room = lives_show_live limits events legal at slot ∙ ap (λ o. is_some_and o (λ life. is_live_at life at)) (got_there all slot room)

    same_path : (slot : ℕ) → slot < length now → path_at all slot ≡ path_at now slot
    same_path slot within = sym (ap (λ paths. slice_index_or paths slot []) kept.paths ∙ get_or-take (length now) (map (λ (l : GroupLife). l.path) all) slot [] within)

-- ---- the live slots of an order

-- The paths of two live slots differ, so slots in the order of paths have strictly ascending paths.
ascends : (now all : List GroupLife) (x y : ℕ) (r : Ordering) → by_bytes (path_at all x) (path_at all y) ≡ r → slot_of now (path_at all x) ≡ Some x → slot_of now (path_at all y) ≡ Some y → x ≢ y → NoneBefore all x y → r ≡ Less
ascends now all x y Less is one other differ none = refl
ascends now all x y Equal is one other differ none =
    let same : path_at all x ≡ path_at all y = tied_only (path_at all x) (path_at all y) is in
    let slots : Some x ≡ Some y = sym one ∙ ap (slot_of now) same ∙ other in
    absurd (differ (cc slots))
ascends now all x y Greater is one other differ none =
    let back : by_bytes (path_at all y) (path_at all x) ≡ Less = nat_list_cmp_total.antisymm (path_at all y) (path_at all x) ∙ ap ordering_reverse is in
    absurd (cc (none, ap is_lt back))

record IsAscending (now all : List GroupLife) (slots : List ℕ) : Type 0 where
  finds : All (λ slot. slot_of now (path_at all slot) ≡ Some slot) slots
  ascend : AllPairs (Ascends all) slots

live_ascend : (now all : List GroupLife) (test : ℕ → Bool) (order : List ℕ) → ShowsOf now all test → IsPathOrder all order → IsAscending now all (filter test order)
live_ascend now all test order shows is =
    let passes = filter_passes test order in
    let below = All-filter test (λ slot. slot < length all) order (has_no_other all order is) in
    let finds : All (λ slot. slot_of now (path_at all slot) ≡ Some slot) (filter test order) = λ k d room. shows.finds (slice_index_or (filter test order) k d) (below k d room) (passes k d room) in
    let once = AllPairs-filter (λ x y. x ≢ y) test order (has_once all order is) in
    let in_turn = AllPairs-filter (NoneBefore all) test order (has_in_order all order is) in
    record {
      finds = finds;
      ascend = λ i j d low high.
          let one = finds i d (omega (arith, low, high)) in
          ascends now all (slice_index_or (filter test order) i d) (slice_index_or (filter test order) j d) _ refl one (finds j d high) (once i j d low high) (in_turn i j d low high);
    }

-- Looking up a path gives one slot in the groups at a time and in the live slots of the order.
same_found : (now all : List GroupLife) (test : ℕ → Bool) (order : List ℕ) → ShowsOf now all test → IsPathOrder all order → IsAscending now all (filter test order) → (path : List ℕ) (o : Option ℕ) → fin.find (slice_cmp nat_cmp) path (map (with_path all) (filter test order)) ≡ o → slot_of now path ≡ o
same_found now all test order shows is live path (Some slot) found =
    let it = found_slot all (λ s. slot_of now (path_at all s) ≡ Some s) path (filter test order) slot (recursion_from_All _ (filter test order) live.finds) found in
    ap (slot_of now) (sym it.1) ∙ it.0
same_found now all test order shows is live path None found = none_found (slot_of now path) refl
  where
    none_found : (o : Option ℕ) → slot_of now path ≡ o → o ≡ None
    none_found None none = refl
    none_found (Some slot) some =
        let it = shows.found path slot some in
        let none = All-contains (λ s. test s ≡ true → path_at all s ≢ path) order slot (All-from_recursion _ order (none_has all test path order found)) (has_each all order is slot it.0) in
        absurd (none it.1 it.2)

pub order_shows_live : OrderShowsLive
order_shows_live limits events legal order is at =
    let now : List GroupLife = (after (up_to events at)).groups in
    let all : List GroupLife = (after events).groups in
    let test : ℕ → Bool = is_live_slot all at in
    let shows = shows_rest_of limits events legal at in
    let live = live_ascend now all test order shows is in
    let sorted = are_a_map all (filter test order) live.ascend in
    let pairs : List (List ℕ × ℕ) = map (with_path all) (filter test order) in
    let same : fin.from_entries {R = slice_cmp nat_cmp} (live_from 0 now) ≡ fin.from_sorted {R = slice_cmp nat_cmp} pairs =
    fin.same_map nat_list_cmp_total (fin.slice_cmp-IsAntisymmetric fin.nat_cmp-IsAntisymmetric) _ _ (λ path.
    fin.get-from_entries nat_list_cmp_total (live_from 0 now) path
    ∙ live_found 0 now path
    ∙ same_found now all test order shows is live path (fin.find (slice_cmp nat_cmp) path pairs) refl
    ∙ sym (fin.get-from_sorted (slice_cmp nat_cmp) pairs path sorted)) in
    in_order_is (live_from 0 now) ∙ ap fin.entries same ∙ fin.entries-from_sorted (slice_cmp nat_cmp) pairs sorted

slots_alone : (groups : List GroupLife) (slots : List ℕ) → map (λ (pair : List ℕ × ℕ). pair.1) (map (with_path groups) slots) ≡ slots
slots_alone groups [] = refl
slots_alone groups (slot ∷ slots) = ap (λ rest. slot ∷ rest) (slots_alone groups slots)

pub order_shows_slots : OrderShowsSlots
order_shows_slots limits events legal order is at =
    ap (map (λ (pair : List ℕ × ℕ). pair.1)) (order_shows_live limits events legal order is at)
    ∙ slots_alone (after events).groups (filter (is_live_slot (after events).groups at) order)
