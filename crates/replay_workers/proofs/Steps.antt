-- Proofs of single loop steps: one more change, one more processor or one more group.
use Rattle.std.proofs.Common.{◌≡◌, ℕ, ◌+◌, ◌*◌, ◌<◌, ◌≤◌, List, [], ◌∷◌, ◌++◌, length, get_or, set, sym, ap, ◌∙◌, subst, arith, ◌⊎◌, ⊎_elim, inl, inr}
use Rattle.std.proofs.Math.Nat.{mul-le-mul_right}
use Rattle.std.proofs.lemmas.List.{get_or_append_left, get_or_push, get_or-set_same, get_or-set_other, length-append, length-set}
use Rattle.plan_laws.specs.Plan.{PlanView}
use Rattle.proc_plan.specs.Plans.{PlansView, plan_at}
use Rattle.aggregate.specs.Table.{HasSizes, put_times, times_at}
use Rattle.aggregate.proofs.TableLaws.{keeps_sizes, sets_one_place}
use Rattle.replay_workers.specs.declared.ticks.Ticks.{Ticks}
use Rattle.replay_workers.specs.Crew.{moment_in, times_by}
use Rattle.replay_workers.specs.Lanes.{FillsRow, KeepsTick, KeepsTicks, kept_at}

-- If `P` holds for each element of a list at its index, and for `x` at the next index, then `P`
-- holds for each element of the list with `x` appended.
pub each_more : {X : Type 0} → (P : ℕ → X → Type 0) (xs : List X) (x d : X) → ((k : ℕ) → k < length xs → P k (get_or xs k d)) → P (length xs) x → (k : ℕ) → k < length (xs ++ x ∷ []) → P k (get_or (xs ++ x ∷ []) k d)
each_more P xs x d before here k below =
    let many = length-append xs (x ∷ []) in
    let case : (k < length xs) ⊎ (k ≡ length xs) = grind (arith, below, many) in
    ⊎_elim
    (λ old. subst (P k) (sym (get_or_append_left xs (x ∷ []) d k old)) (before k old))
    (λ new. subst (P k) (sym (get_or_push xs x d k (sym new))) (subst (λ n. P n x) (sym new) here))
    case

-- After one more element was replaced, the relation `R` holds between old and new elements up to
-- and including that place.
pub each_changed : {X : Type 0} → (R : ℕ → X → X → Type 0) (start now : List X) (place : ℕ) (x d : X) → place < length now → ((k : ℕ) → k < place → R k (get_or start k d) (get_or now k d)) → R place (get_or start place d) x
    → (k : ℕ) → k < place + 1 → R k (get_or start k d) (get_or (set now place x) k d)
each_changed R start now place x d inside before here k below =
    let case : (k < place) ⊎ (k ≡ place) = grind (arith, below) in
    ⊎_elim
    (λ old. subst (R k (get_or start k d)) (sym (get_or-set_other now place k x d (λ same. omega (arith, same, old)))) (before k old))
    (λ new. subst (λ n. R n (get_or start n d) (get_or (set now place x) n d)) (sym new) (subst (R place (get_or start place d)) (sym (get_or-set_same now place x d inside)) here))
    case

-- The elements after the replaced one are unchanged.
pub left_changed : {X : Type 0} → (start now : List X) (place : ℕ) (x d : X) → ((k : ℕ) → place ≤ k → get_or now k d ≡ get_or start k d) → (k : ℕ) → place + 1 ≤ k → get_or (set now place x) k d ≡ get_or start k d
left_changed start now place x d left k not_past = get_or-set_other now place k x d (λ same. omega (arith, same, not_past)) ∙ left k (omega (arith, not_past))

-- ---- ticks

-- The times of ticks never decrease.
pub moments_rise : (ticks : Ticks) (j k : ℕ) → j ≤ k → moment_in ticks j ≤ moment_in ticks k
moments_rise ticks j k before =
    let more : j * ticks.length ≤ k * ticks.length = mul-le-mul_right ticks.length before in
    omega (arith, more)

-- The entries of tick `j` end at or before the end of the entries of `n` ticks.
pub places_end : (j n slots : ℕ) → j < n → j * slots + slots ≤ n * slots
places_end j n slots below =
    let next : j + 1 ≤ n = omega (arith, below) in
    let all : (j + 1) * slots ≤ n * slots = mul-le-mul_right slots next in
    let one : (j + 1) * slots ≡ j * slots + slots = grind arith in
    omega (arith, all, one)

-- The times at one more tick are stored.
pub keeps_more : (old new : List (List ℕ)) (plan : PlanView) (ticks : Ticks) (j at : ℕ) → KeepsTicks old plan ticks j → KeepsTick old new j plan at → at ≡ moment_in ticks j → KeepsTicks new plan ticks (j + 1)
keeps_more old new plan ticks j at before tick moment = λ k slot early below.
    let case : (k < j) ⊎ (k ≡ j) = grind (arith, early) in
    ⊎_elim
    (λ past.
    let end = places_end k j (length plan.parents) past in
    tick.before (k * length plan.parents + slot) (omega (arith, end, below)) ∙ before k slot past below)
    (λ now. ap (λ n. kept_at new (length plan.parents) n slot) now ∙ tick.here slot below ∙ ap (times_by plan slot) (moment ∙ ap (moment_in ticks) (sym now)))
    case

-- ---- one more group

-- Entries in which the times of the first `slot` groups are stored for a tick.
pub record KeptTo (old new : List (List ℕ)) (slots j slot : ℕ) (plan : PlanView) (at : ℕ) : Type 0 where
  pub size : length new ≡ length old
  pub here : (s : ℕ) → s < slot → kept_at new slots j s ≡ times_by plan s at
  pub before : (place : ℕ) → place < j * slots → get_or new place [] ≡ get_or old place []

-- The times of one more group are stored.
pub kept_more : (old now : List (List ℕ)) (slots j slot : ℕ) (plan : PlanView) (at place : ℕ) (times : List ℕ) → KeptTo old now slots j slot plan at → slot < slots → j * slots + slots ≤ length old → place ≡ j * slots + slot → times ≡ times_by plan slot at
    → KeptTo old (set now place times) slots j (slot + 1) plan at
kept_more old now slots j slot plan at place times is below room there value =
    let inside : place < length now = omega (arith, is.size, below, room, there) in
    record {
      size = length-set now place times ∙ is.size;
      here = λ s early.
          let case : (s < slot) ⊎ (s ≡ slot) = grind (arith, early) in
          ⊎_elim
          (λ past. get_or-set_other now place (j * slots + s) times [] (λ same. omega (arith, same, there, past)) ∙ is.here s past)
          (λ here.
          ap (λ n. get_or (set now place times) n []) (ap (λ n. j * slots + n) here ∙ sym there) ∙ get_or-set_same now place times [] inside ∙ value ∙ ap (λ n. times_by plan n at) (sym here))
          case;
      before = λ other early. get_or-set_other now place other times [] (λ same. omega (arith, same, there, early)) ∙ is.before other early;
    }

-- ---- one more processor of a row

-- The index of a stored time fits into 64 bits.
pub place_fits : (tick slots slot : ℕ) → tick < 4294967296 → slots < 4294967296 → slot < slots → tick * slots + slot < 18446744073709551616
place_fits tick slots slot early few below =
    let most : tick * slots ≤ 4294967295 * slots = mul-le-mul_right slots (let last : tick ≤ 4294967295 = omega (arith, early) in last) in
    omega (arith, most, few, below)

-- The times of a group on one more processor are copied.
pub row_more : (plans : PlansView) (old table new : List (List (List ℕ))) (slot cpu at : ℕ) (times : List ℕ) → HasSizes (length plans.plans) (length plans.lives) table → FillsRow old table plans slot cpu at → slot < length plans.lives
    → cpu < length plans.plans → new ≡ put_times table slot cpu times → times ≡ times_by (plan_at plans cpu) slot at → FillsRow old new plans slot (cpu + 1) at
row_more plans old table new slot cpu at times sizes is below there set value =
    let place = keeps_sizes.place (length plans.plans) (length plans.lives) table slot cpu sizes below there in
    record {
      here = λ c early.
          let case : (c < cpu) ⊎ (c ≡ cpu) = grind (arith, early) in
          ⊎_elim
          (λ before. ap (λ t. times_at t slot c) set ∙ sets_one_place.elsewhere table slot cpu times slot c place (inr (λ same. omega (arith, same, before))) ∙ is.here c before)
          (λ now. ap (λ t. times_at t slot c) set ∙ ap (λ k. times_at (put_times table slot cpu times) slot k) now ∙ sets_one_place.here table slot cpu times place ∙ value ∙ ap (λ k. times_by (plan_at plans k) slot at) (sym now))
          case;
      others = λ other c differs. ap (λ t. times_at t other c) set ∙ sets_one_place.elsewhere table slot cpu times other c place (inl differs) ∙ is.others other c differs;
    }
