-- Proves that growth orders groups, and that the loop over the groups finds the group that has
-- grown most.
use Rattle.std.proofs.Common.{◌≡◌, ℕ, ◌*◌, ◌<◌, ◌≤◌, List, [], ◌∷◌, length, sum, refl, sym, ap, ◌∙◌}
use Rattle.std.proofs.Common.{arith, true, false, mul-lt-mul_of_pos_right, mul-le-mul_right}
use Rattle.std.proofs.Common.{lt_of_mul-lt-mul_right, ⊎_elim, inl, inr}
use Rattle.std.proofs.Math.Nat.{eq_of_mul-eq-mul_right}
use Rattle.std.specs.Prelude.{Bool, IfSome, MatchOption, Option, None, Some, option_map, ◌&&◌, ◌||◌, ◌==◌, filter, map, nat_le, nat_lt}
use Rattle.std.proofs.lemmas.Bool.{and_parts, true≢false}
use Rattle.std.proofs.lemmas.Bool.Decides.{nat_tests}
use Rattle.psi_spec.specs.declared.machine.GroupLife.{GroupLife}
use Rattle.kill_spec.specs.declared.reading.GroupReading.{GroupReading}
use Rattle.kill_spec.specs.Readings.{path_of}
use Rattle.kill_spec.specs.LegalReadings.{Ascend}
use Rattle.kill_spec.specs.Victims.{is_larger, largest_few, memory_in_use, unbeaten}
use Rattle.kill_spec.proofs.Foremost.{Orders, by_test, better, each_map, each_passes, foremost, foremost_of, pairs_filter}
use Rattle.kill_spec.proofs.ChoiceLaws.{IsBefore, greater_order, in_order, then_first, then_one_way}
use Rattle.kill_spec.proofs.ChoiceLaws.{then_same, then_shows, then_known, walk_unbeaten}
use Rattle.victim_rank.specs.declared.growth.Grown.{Grown}
use Rattle.victim_rank.specs.Growth.{growth_over, has_grown_more_over, is_growing_over}
use Rattle.victim_rank.specs.Grown.{IsGrown, IsGrownAt, leads_grown}
use Rattle.detectors.specs.Inner.{group_at}
use Rattle.victim_rank.proofs.Scoped.{filter_filter, foremost_none, kept_by, leads_plainly}

-- Whether the group `next` beats the earlier group `best`: it has grown more, or it has grown
-- equally and uses more memory.
abbrev pub leads_over : (GroupReading → List ℕ) → GroupReading → GroupReading → Bool
leads_over sizes next best =
    nat_lt (growth_over sizes best next) (growth_over sizes next best)
    || (growth_over sizes next best == growth_over sizes best next && nat_lt (memory_in_use best)
    (memory_in_use next))

-- ---- quotients, compared by products

-- If a/s is at least b/t, and b/t is above c/u, then a/s is above c/u.
then_above : (a b c s t u : ℕ) → 0 < s → b * s ≤ a * t → c * t < b * u → c * s < a * u
then_above a b c s t u some first second =
    let low : c * t * s < b * u * s = mul-lt-mul_of_pos_right second some in
    let high : b * s * u ≤ a * t * u = mul-le-mul_right u first in
    lt_of_mul-lt-mul_right t (omega (arith, low, high))

-- If a/s is above b/t, and b/t is at least c/u, then a/s is above c/u.
above_then : (a b c s t u : ℕ) → 0 < u → b * s < a * t → c * t ≤ b * u → c * s < a * u
above_then a b c s t u some first second =
    let low : c * t * s ≤ b * u * s = mul-le-mul_right s second in
    let high : b * s * u < a * t * u = mul-lt-mul_of_pos_right first some in
    lt_of_mul-lt-mul_right t (omega (arith, low, high))

-- If a/s equals b/t and b/t equals c/u, then a/s equals c/u.
all_same : (a b c s t u : ℕ) → 0 < t → a * t ≡ b * s → b * u ≡ c * t → a * u ≡ c * s
all_same a b c s t u some first second =
    let low : b * u * s ≡ c * t * s = ap (λ n. n * s) second in
    let high : a * t * u ≡ b * s * u = ap (λ n. n * u) first in
    eq_of_mul-eq-mul_right t some (a * u) (c * s) (omega (arith, low, high))

by_products : (a b c s t u : ℕ) (f g h : Bool) → 0 < s → 0 < t → 0 < u →
    (f ≡ true → g ≡ true → h ≡ true) →
    (nat_lt (b * s) (a * t) || (a * t == b * s && f)) ≡ true →
    (nat_lt (c * t) (b * u) || (b * u == c * t && g)) ≡ true →
    (nat_lt (c * s) (a * u) || (a * u == c * s && h)) ≡ true
by_products a b c s t u f g h some_s some_t some_u onward first second =
    then_known (a * u) (c * s) h (h ≡ true) (λ is. is) (⊎_elim
    (λ above. ⊎_elim
    (λ too. inl (above_then a b c s t u some_u above (omega (arith, too))))
    (λ same. inl (above_then a b c s t u some_u above (omega (arith, same.0))))
    (then_shows (b * u) (c * t) g (g ≡ true) (λ is. is) second))
    (λ same. ⊎_elim
    (λ above. inl (then_above a b c s t u some_s (omega (arith, same.0)) above))
    (λ too. inr (all_same a b c s t u some_t same.0 too.0, onward same.1 too.1))
    (then_shows (b * u) (c * t) g (g ≡ true) (λ is. is) second))
    (then_shows (a * t) (b * s) f (f ≡ true) (λ is. is) first))

-- The past sizes of the group aren't all 0.
abbrev pub HasPast : (GroupReading → List ℕ) → GroupReading → Type 0
HasPast sizes group = 0 < sum (sizes group)

pub growth_order : (lives : List GroupLife) (sizes : GroupReading → List ℕ) →
    Orders (HasPast sizes) (IsBefore lives) (has_grown_more_over sizes lives) (leads_over sizes)
growth_order lives sizes =
    let larger = greater_order lives memory_in_use in
    record {
      one_way = λ x y over. then_one_way (growth_over sizes x y) (growth_over sizes y x)
          (is_larger lives x y) (is_larger lives y x) (larger.one_way x y) over;
      onward = λ x y z p q r first second.
          by_products (memory_in_use x * length (sizes x)) (memory_in_use y * length (sizes y))
          (memory_in_use z * length (sizes z)) (sum (sizes x)) (sum (sizes y)) (sum (sizes z))
          (is_larger lives x y) (is_larger lives y z) (is_larger lives x z) p q r
          (larger.onward x y z tt tt tt) first second;
      second = λ x y before leads. then_same (growth_over sizes y x) (growth_over sizes x y)
          (nat_lt (memory_in_use x) (memory_in_use y)) (is_larger lives y x)
          (λ more. larger.second x y before (rw (leads_plainly y x) more)) leads;
      first = λ x y before trails. then_first (growth_over sizes y x) (growth_over sizes x y)
          (nat_lt (memory_in_use x) (memory_in_use y)) (is_larger lives x y)
          (λ less. larger.first x y before (rw (leads_plainly y x) less)) trails;
    }

-- ---- the walk

-- Whether a group may be chosen for its growth: it is growing, and is among the `few` largest
-- groups that pass `p`.
abbrev pub is_choosable : (GroupReading → List ℕ) → List GroupLife → ℕ → ℕ → (GroupReading → Bool) →
    List GroupReading → GroupReading → Bool
is_choosable sizes lives ratio few p groups group =
    p group && (nat_lt (length (filter (λ other. is_larger lives other group) (filter p groups)))
    few && is_growing_over sizes ratio group)

pub choosable_is : (sizes : GroupReading → List ℕ) (lives : List GroupLife) (ratio few : ℕ)
    (p : GroupReading → Bool) (groups : List GroupReading) →
    filter (is_growing_over sizes ratio) (largest_few lives few (filter p groups)) ≡ filter
    (is_choosable sizes lives ratio few p groups) groups
choosable_is sizes lives ratio few p groups =
    filter_filter (λ group. nat_lt (length (filter (λ other. is_larger lives other group)
    (filter p groups))) few) (is_growing_over sizes ratio) (filter p groups)
    ∙ filter_filter p (λ group. nat_lt (length
    (filter (λ other. is_larger lives other group) (filter p groups))) few && is_growing_over
    sizes ratio group) groups

-- Two lists with the same groups of the scope and rank have the same groups that may be chosen.
pub same_choosable : (sizes : GroupReading → List ℕ) (lives : List GroupLife) (ratio few : ℕ)
    (p : GroupReading → Bool) (found groups : List GroupReading) →
    filter p found ≡ filter p groups →
    filter (is_choosable sizes lives ratio few p groups) found
    ≡ filter (is_choosable sizes lives ratio few p groups) groups
same_choosable sizes lives ratio few p found groups same =
    kept_by p (λ group. nat_lt (length (filter (λ other. is_larger lives other group)
    (filter p groups))) few && is_growing_over sizes ratio group) found groups same

has_past : (sizes : GroupReading → List ℕ) (ratio : ℕ) (group : GroupReading) →
    is_growing_over sizes ratio group ≡ true → HasPast sizes group
has_past sizes ratio group growing =
    let some = (and_parts (nat_lt 0 (sum (sizes group)))
    (nat_le (ratio * sum (sizes group)) (memory_in_use group * length (sizes group) * 1000))
    growing).0 in
    grind (arith, nat_tests)

-- After the loop over all groups, the best group is the group that has grown most.
pub walked_growth : (lives : List GroupLife) (sizes : GroupReading → List ℕ) (ratio few : ℕ)
    (p : GroupReading → Bool) (groups : List GroupReading) → Ascend (map (path_of lives) groups) →
    (best : Option GroupReading) → foremost (leads_over sizes) best [] ≡ foremost (leads_over sizes)
    None (filter (is_choosable sizes lives ratio few p groups) groups) →
    best ≡ unbeaten (has_grown_more_over sizes lives)
    (filter (is_growing_over sizes ratio) (largest_few lives few (filter p groups)))
walked_growth lives sizes ratio few p groups ascend best rest =
    let chosen = filter (is_growing_over sizes ratio) (largest_few lives few (filter p groups)) in
    sym (foremost_none (leads_over sizes) best) ∙ rest ∙
    ap (foremost (leads_over sizes) None) (sym (choosable_is sizes lives ratio few p groups))
    ∙ walk_unbeaten (HasPast sizes) (IsBefore lives) (has_grown_more_over sizes lives)
    (leads_over sizes) (growth_order lives sizes) chosen
    (each_map _ (HasPast sizes) chosen (has_past sizes ratio)
    (each_passes (is_growing_over sizes ratio) (largest_few lives few (filter p groups))))
    (pairs_filter (IsBefore lives) (is_growing_over sizes ratio)
    (largest_few lives few (filter p groups))
    (pairs_filter (IsBefore lives) _ (filter p groups)
    (pairs_filter (IsBefore lives) p groups (in_order lives groups ascend))))

-- ---- one more group

-- Comparing two stored growths gives the same result as comparing the groups.
pub leads_as : (sizes : GroupReading → List ℕ) (next best : Grown) (group before : GroupReading) →
    IsGrown sizes next group → IsGrown sizes best before →
    leads_grown next best ≡ leads_over sizes group before
leads_as sizes next best group before is was =
    rw (is.sizes_is, is.sum_is, is.current_is, was.sizes_is, was.sum_is, was.current_is) refl

pub growing_as : (sizes : GroupReading → List ℕ) (ratio : ℕ) (next : Grown) (group : GroupReading) →
    IsGrown sizes next group →
    (nat_lt 0 next.sum && nat_le (ratio * next.sum) (next.sizes * 1000))
    ≡ is_growing_over sizes ratio group
growing_as sizes ratio next group is = rw (is.sizes_is, is.sum_is) refl

-- The group with the best growth, or `None` if there is no growth.
abbrev pub best_group : List GroupReading → Option Grown → Option GroupReading
best_group groups best = option_map (λ (grown : Grown). group_at groups grown.place) best

-- Whether the growth beats the best growth found. True if no growth was found yet.
abbrev pub LeadsAny : Option Grown → Grown → Bool → Type 0
LeadsAny best next leads = MatchOption best (leads ≡ true) (λ before. leads ≡ leads_grown next before)

-- The better of two groups is the next group if it beats the earlier group, and the earlier group
-- otherwise.
next_better : (leads : GroupReading → GroupReading → Bool) (best next : GroupReading) →
    leads next best ≡ true → next ≡ better leads best next
next_better leads best next is = rw is refl

best_better : (leads : GroupReading → GroupReading → Bool) (best next : GroupReading) →
    leads next best ≡ false → best ≡ better leads best next
best_better leads best next is = rw is refl

passes_first : (p : GroupReading → Bool) (group : GroupReading) (groups : List GroupReading) →
    p group ≡ true → filter p (group ∷ groups) ≡ group ∷ filter p groups
passes_first p group groups passes = rw passes refl

-- The loop continues with the next group if it may be chosen and beats the best group.
pub next_taken : (sizes : GroupReading → List ℕ) (p : GroupReading → Bool)
    (groups : List GroupReading) (best : Option Grown) (next : Grown) (group : GroupReading)
    (leads : Bool) (rest : List GroupReading) →
    IfSome best (IsGrownAt sizes groups) → IsGrown sizes next group →
    LeadsAny best next leads → leads ≡ true → p group ≡ true →
    foremost (leads_over sizes) (Some group) (filter p rest)
    ≡ foremost (leads_over sizes) (best_group groups best) (filter p (group ∷ rest))
next_taken sizes p groups None next group leads rest was is known holds passes =
    ap (foremost (leads_over sizes) None) (sym (passes_first p group rest passes))
next_taken sizes p groups (Some best) next group leads rest was is known holds passes =
    let before = group_at groups best.place in
    let over : leads_over sizes group before ≡ true =
    sym (leads_as sizes next best group before is was.grown_is) ∙ sym known ∙ holds in
    ap (λ first. Some (foremost_of (leads_over sizes) first (filter p rest)))
    (next_better (leads_over sizes) before group over)
    ∙ ap (foremost (leads_over sizes) (Some before)) (sym (passes_first p group rest passes))

-- The loop continues with the best group if the next group doesn't beat it.
pub next_trails : (sizes : GroupReading → List ℕ) (p : GroupReading → Bool)
    (groups : List GroupReading) (best : Option Grown) (next : Grown) (group : GroupReading)
    (leads : Bool) (rest : List GroupReading) →
    IfSome best (IsGrownAt sizes groups) → IsGrown sizes next group →
    LeadsAny best next leads → leads ≡ false →
    foremost (leads_over sizes) (best_group groups best) (filter p rest)
    ≡ foremost (leads_over sizes) (best_group groups best) (filter p (group ∷ rest))
next_trails sizes p groups None next group leads rest was is known fails =
    absurd (true≢false (sym known ∙ fails))
next_trails sizes p groups (Some best) next group leads rest was is known fails =
    let before = group_at groups best.place in
    let under : leads_over sizes group before ≡ false =
    sym (leads_as sizes next best group before is was.grown_is) ∙ sym known ∙ fails in
    by_test _ (p group)
    (λ passes. ap (λ first. Some (foremost_of (leads_over sizes) first (filter p rest)))
    (best_better (leads_over sizes) before group under)
    ∙ ap (foremost (leads_over sizes) (Some before)) (sym (passes_first p group rest passes)))
    (λ left. rw left refl)

-- The loop continues with the best group if the next group may not be chosen.
pub next_left : (sizes : GroupReading → List ℕ) (p : GroupReading → Bool) (best : Option GroupReading)
    (group : GroupReading) (groups : List GroupReading) → p group ≡ false →
    foremost (leads_over sizes) best (filter p groups)
    ≡ foremost (leads_over sizes) best (filter p (group ∷ groups))
next_left sizes p best group groups fails = rw fails refl

-- The conjunction of three tests is true if all of them are true.
pub choosable_all : (a b c : Bool) → a ≡ true → b ≡ true → c ≡ true → (a && (b && c)) ≡ true
choosable_all a b c first second third = rw (first, second, third) refl

pub left_first : (a b c : Bool) → a ≡ false → (a && (b && c)) ≡ false
left_first a b c fails = rw fails refl

pub left_second : (a b c : Bool) → b ≡ false → (a && (b && c)) ≡ false
left_second true b c fails = rw fails refl
left_second false b c fails = refl

pub left_third : (a b c : Bool) → c ≡ false → (a && (b && c)) ≡ false
left_third true true c fails = fails
left_third true false c fails = refl
left_third false b c fails = refl
