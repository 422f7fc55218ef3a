-- Proofs about the lanes of processors: how they are dealt to workers, and how advancing by ticks
-- changes them.
use Rattle.std.proofs.Common.{◌≡◌, ℕ, zero, suc, ◌+◌, ◌*◌, ◌/◌, ◌%◌, ◌^◌, ◌<◌, ◌≤◌, List, [], ◌∷◌, drop, length, get_or, refl, sym, ap, ◌∙◌, subst, arith, ◌⊎◌, ⊎_elim, inl, inr}
use Rattle.std.specs.Prelude.{Bool, None, Some, is_some, map, max, min, slice_get, true}
use Rattle.std.specs.List.{All, range_with_len}
use Rattle.std.proofs.Math.Nat.{div-mul-le_self, mod-add-div', mod-lt, mul-le-mul_left, mul-le-mul_right}
use Rattle.std.proofs.Math.Seq.{drop-nil}
use Rattle.std.proofs.lemmas.Nat.{div-mul-add, mod-mul-add}
use Rattle.std.proofs.lemmas.List.{get_or-drop, get_or_default, length-drop}
use Rattle.std.proofs.lemmas.Option.{get_or_from_slice_get}
use Rattle.std.proofs.lemmas.List.FromFn.{get_or-map-range_with_len, length-map-range_with_len}
use Rattle.plan_laws.specs.Plan.{IsPlan, PlanView, changes_up_to, last_change, no_plan}
use Rattle.proc_plan.specs.Clocks.{OnPlan}
use Rattle.proc_plan.specs.Plans.{PlansView, plan_at}
use Rattle.replay_workers.specs.declared.ticks.Ticks.{Ticks}
use Rattle.replay_workers.specs.Crew.{AreAt, AreNotPast, AreInRows, AreOnPlans, CrewView, clocks_at, last_of, moment_in, moments_of, room_of, row_at, times_by}
use Rattle.replay_workers.specs.Lanes.{AreKept, AreNewBatches, HasGone, HaveAllGone, HaveGone, IsBatchOf, AreLanes, IsLaneOf, KeepsTicks, LaneView, MayAllGo, batch_at, clocks_of, kept_at, lane_at, lane_of, no_lane, no_ticks, rows_of}
use Rattle.replay_workers.specs.Watches.{WatcherView, crew_of}
use Rattle.replay_workers.proofs.Steps.{places_end}

-- ---- places

-- A number is determined by its quotient and remainder.
place_is : (cpu n : ℕ) → cpu / n * n + cpu % n ≡ cpu
place_is cpu n =
    let both = mod-add-div' cpu n in
    omega (arith, both)

-- The lane at index `k` of a worker's batch belongs to processor k * workers + worker.
pub lane_of_place : (batches : List (List LaneView)) (worker k : ℕ) → worker < length batches → lane_of batches (k * length batches + worker) ≡ lane_at (batch_at batches worker) k
lane_of_place batches worker k below =
    ap (λ w. lane_at (batch_at batches w) ((k * length batches + worker) / length batches)) (mod-mul-add k (length batches) worker below)
    ∙ ap (lane_at (batch_at batches worker)) (div-mul-add k (length batches) worker below)

-- The index of a lane in its batch is below 64.
pub place_few : (workers place worker cpu : ℕ) → worker < workers → place * workers + worker ≡ cpu → cpu < 64 → place < 64
place_few workers place worker cpu below is few =
    let some : place * 1 ≤ place * workers = mul-le-mul_left place (let one : 1 ≤ workers = omega (arith, below) in one) in
    omega (arith, some, is, few)

-- The lane at a processor's place stores the processor's times.
pub place_there : (plans : PlansView) (batches : List (List LaneView)) (tick at worker place cpu : ℕ) → AreKept plans batches tick at → cpu < length plans.plans → worker < length batches → place * length batches + worker ≡ cpu → place < length (batch_at batches worker)
place_there plans batches tick at worker place cpu kept below inside is =
    let lane = kept cpu below in
    let other : cpu % length batches ≡ worker = ap (λ n. n % length batches) (sym is) ∙ mod-mul-add place (length batches) worker inside in
    let here : cpu / length batches ≡ place = ap (λ n. n / length batches) (sym is) ∙ div-mul-add place (length batches) worker inside in
    subst (λ n. n < length (batch_at batches worker)) here (subst (λ w. cpu / length batches < length (batch_at batches w)) other lane.place)

-- The lane of each processor exists.
pub lane_there : (plans : PlansView) (batches : List (List LaneView)) (ticks : Ticks) (out room cpu : ℕ) → AreLanes plans batches ticks out room → cpu < length plans.plans → cpu / length batches < length (batch_at batches (cpu % length batches))
lane_there plans batches ticks out room cpu is below =
    (is.each (cpu % length batches) (mod-lt cpu is.some)).all (cpu / length batches) (subst (λ c. c < length plans.plans) (sym (place_is cpu (length batches))) below)

-- The lane that is found for a processor belongs to that processor.
pub lane_is : (plans : PlansView) (batches : List (List LaneView)) (ticks : Ticks) (out room cpu : ℕ) → AreLanes plans batches ticks out room → cpu < length plans.plans → IsLaneOf plans ticks room cpu (lane_of batches cpu)
lane_is plans batches ticks out room cpu is below =
    subst (λ c. IsLaneOf plans ticks room c (lane_of batches cpu)) (place_is cpu (length batches))
    ((is.each (cpu % length batches) (mod-lt cpu is.some)).each (cpu / length batches) (lane_there plans batches ticks out room cpu is below))

-- The batch found for a processor is the batch at its place.
pub batch_found : (batches : List (List LaneView)) (worker cpu : ℕ) (batch : List LaneView) → worker ≡ cpu % length batches → 0 < length batches → batch ≡ get_or batches worker batch → batch ≡ batch_at batches (cpu % length batches)
batch_found batches worker cpu batch own some there =
    there ∙ ap (λ n. get_or batches n batch) own ∙ get_or_default batches (cpu % length batches) batch [] (mod-lt cpu some)

-- The lane found for a processor is the lane at its place.
pub lane_found : (batches : List (List LaneView)) (place cpu : ℕ) (batch : List LaneView) (lane : LaneView) → place ≡ cpu / length batches → batch ≡ batch_at batches (cpu % length batches) → cpu / length batches < length (batch_at batches (cpu % length batches))
    → lane ≡ get_or batch place lane → lane ≡ lane_of batches cpu
lane_found batches place cpu batch lane own same below there =
    there ∙ ap (λ n. get_or batch n lane) own ∙ ap (λ xs. get_or xs (cpu / length batches) lane) same ∙ get_or_default (batch_at batches (cpu % length batches)) (cpu / length batches) lane no_lane below

-- The place of a processor's lane is within its batch.
pub place_inside : (plans : PlansView) (batches : List (List LaneView)) (ticks : Ticks) (out room cpu worker place : ℕ) (batch lanes : List LaneView) → AreLanes plans batches ticks out room → cpu < length plans.plans → worker ≡ cpu % length batches → place ≡ cpu / length batches
    → batch ≡ get_or batches worker batch → lanes ≡ batch → place < length lanes
place_inside plans batches ticks out room cpu worker place batch lanes is below mine own there same =
    let found = same ∙ batch_found batches worker cpu batch mine is.some there in
    subst (λ n. n < length lanes) (sym own) (subst (λ (xs : List LaneView). cpu / length batches < length xs) (sym found) (lane_there plans batches ticks out room cpu is below))

-- The lane at a processor's place belongs to that processor.
pub lane_at_places : (plans : PlansView) (batches : List (List LaneView)) (ticks : Ticks) (out room cpu worker place : ℕ) (batch lanes : List LaneView) (lane : LaneView) → AreLanes plans batches ticks out room → cpu < length plans.plans → worker ≡ cpu % length batches → place ≡ cpu / length batches
    → batch ≡ get_or batches worker batch → lanes ≡ batch → lane ≡ get_or lanes place lane → lane ≡ lane_of batches cpu
lane_at_places plans batches ticks out room cpu worker place batch lanes lane is below mine own there same here =
    lane_found batches place cpu lanes lane own (same ∙ batch_found batches worker cpu batch mine is.some there) (lane_there plans batches ticks out room cpu is below) here

-- ---- clocks

pub clocks_many : (batches : List (List LaneView)) (cpus : ℕ) → length (clocks_of batches cpus) ≡ cpus
clocks_many batches cpus = length-map-range_with_len (λ cpu. (lane_of batches cpu).on) 0 cpus

pub clocks_are : (batches : List (List LaneView)) (cpus cpu : ℕ) → cpu < cpus → clocks_at (clocks_of batches cpus) cpu ≡ (lane_of batches cpu).on
clocks_are batches cpus cpu below = get_or-map-range_with_len (λ cpu. (lane_of batches cpu).on) 0 cpus cpu cpu (record { plan = no_plan; made = 0 }) below (omega arith)

-- ---- rows

pub rows_are : (batches : List (List LaneView)) (cpus cpu : ℕ) → cpu < cpus → row_at (rows_of batches cpus) cpu ≡ (lane_of batches cpu).row
rows_are batches cpus cpu below = get_or-map-range_with_len (λ cpu. (lane_of batches cpu).row) 0 cpus cpu cpu None below (omega arith)

-- If all lanes are in the same rows as before, the list of rows is the same.
rows_same : (old new : List (List LaneView)) (from n : ℕ) → ((cpu : ℕ) → from ≤ cpu → cpu < from + n → (lane_of new cpu).row ≡ (lane_of old cpu).row)
    → map (λ cpu. (lane_of new cpu).row) (range_with_len from n) ≡ map (λ cpu. (lane_of old cpu).row) (range_with_len from n)
rows_same old new from zero same = refl
rows_same old new from (suc n) same =
    let here = same from (omega arith) (omega arith) in
    let rest = rows_same old new (from + 1) n (λ cpu low high. same cpu (omega (arith, low)) (omega (arith, high))) in
    cc (here, rest)

-- ---- clocks on plans

-- The clocks of a crew are on the plans.
pub on_plans : (plans : PlansView) (batches : List (List LaneView)) (ticks : Ticks) (out room : ℕ) → AreLanes plans batches ticks out room → AreOnPlans plans (clocks_of batches (length plans.plans))
on_plans plans batches ticks out room is =
    let many = clocks_many batches (length plans.plans) in
    record {
      each = many;
      on = λ cpu below.
          let inside : cpu < length plans.plans = omega (arith, below, many) in
          ap (λ (on : OnPlan). on.plan) (clocks_are batches (length plans.plans) cpu inside) ∙ (lane_is plans batches ticks out room cpu is inside).plan;
      whole = λ cpu below. (lane_is plans batches ticks out room cpu is (omega (arith, below, many))).whole;
      slots = λ cpu below. (lane_is plans batches ticks out room cpu is (omega (arith, below, many))).slots;
    }

-- ---- before the workers advance

batch_may_go : (plans : PlansView) (batches : List (List LaneView)) (old ticks : Ticks) (out room : ℕ) → AreLanes plans batches old out room → ticks.count ≤ room → AreNotPast plans (clocks_of batches (length plans.plans)) ticks.first
    → (worker : ℕ) → worker < length batches → MayAllGo ticks (batch_at batches worker)
batch_may_go plans batches old ticks out room is within not_past worker below = λ k inside.
    let lane = lane_at (batch_at batches worker) k in
    let cpu = k * length batches + worker in
    let own = (is.each worker below).each k inside in
    let slots : length lane.on.plan.parents ≡ length plans.lives = ap (λ (plan : PlanView). length plan.parents) own.plan ∙ own.slots in
    let few : ticks.count * length plans.lives ≤ room * length plans.lives = mul-le-mul_right (length plans.lives) within in
    let here : clocks_at (clocks_of batches (length plans.plans)) cpu ≡ lane.on = clocks_are batches (length plans.plans) cpu own.below ∙ ap (λ (l : LaneView). l.on) (lane_of_place batches worker k below) in
    let made = not_past.not_past cpu (omega (arith, own.below, clocks_many batches (length plans.plans))) in
    record {
      room = subst (λ n. ticks.count * n ≤ length lane.kept) (sym slots) (omega (arith, few, own.size));
      not_past = subst (λ (plan : PlanView). lane.on.made ≤ changes_up_to plan ticks.first) (sym own.plan) (subst (λ (on : OnPlan). on.made ≤ changes_up_to (plan_at plans cpu) ticks.first) here made);
    }

-- Each lane of a crew can advance by ticks, if no processor has made a change later than the first
-- tick.
pub may_go : (plans : PlansView) (batches : List (List LaneView)) (old ticks : Ticks) (out room : ℕ) → AreLanes plans batches old out room → ticks.count ≤ room → AreNotPast plans (clocks_of batches (length plans.plans)) ticks.first
    → All (MayAllGo ticks) batches
may_go plans batches old ticks out room is within not_past = λ worker d below.
    subst (MayAllGo ticks) (get_or_default batches worker [] d below) (batch_may_go plans batches old ticks out room is within not_past worker below)

-- ---- after the workers advanced

lane_gone : (plans : PlansView) (before ticks : Ticks) (room cpu : ℕ) (old new : LaneView) → IsLaneOf plans before room cpu old → HasGone ticks old new → IsLaneOf plans ticks room cpu new
lane_gone plans before ticks room cpu old new is gone = record {
  cpu_is = gone.cpu ∙ is.cpu_is;
  below = is.below;
  plan = gone.plan ∙ is.plan;
  whole = is.whole;
  slots = is.slots;
  size = gone.size ∙ is.size;
  keeps = subst (λ (plan : PlanView). KeepsTicks new.kept plan ticks ticks.count) is.plan gone.keeps;
}

batch_gone : (plans : PlansView) (before ticks : Ticks) (room workers worker : ℕ) (old new : List LaneView) → IsBatchOf plans before room workers worker old → HaveGone ticks old new → IsBatchOf plans ticks room workers worker new
batch_gone plans before ticks room workers worker old new is gone = record {
  all = λ k below. subst (λ n. k < n) (sym gone.many) (is.all k below);
  each = λ k below.
      let inside : k < length old = omega (arith, below, gone.many) in
      lane_gone plans before ticks room (k * workers + worker) (lane_at old k) (lane_at new k) (is.each k inside) (gone.each k inside);
}

-- The lanes of a crew are still valid after its batches advanced by ticks.
pub crew_gone : (plans : PlansView) (old new : List (List LaneView)) (before ticks : Ticks) (out room : ℕ) → AreLanes plans old before out room → ticks.count ≤ room → HaveAllGone ticks old new → AreLanes plans new ticks 0 room
crew_gone plans old new before ticks out room is within gone = record {
  some = subst (λ n. 0 < n) (sym gone.many) is.some;
  roomy = is.roomy;
  countable = is.countable;
  within = within;
  out_within = omega arith;
  each = λ worker below.
      let inside : worker < length old = omega (arith, below, gone.many) in
      subst (λ n. IsBatchOf plans ticks room n worker (batch_at new worker)) (sym gone.many)
      (batch_gone plans before ticks room (length old) worker (batch_at old worker) (batch_at new worker) (is.each worker inside) (gone.each worker inside));
}

-- The lane of each processor advanced by the ticks.
pub gone_there : (plans : PlansView) (old new : List (List LaneView)) (before ticks : Ticks) (out room cpu : ℕ) → AreLanes plans old before out room → HaveAllGone ticks old new → cpu < length plans.plans → HasGone ticks (lane_of old cpu) (lane_of new cpu)
gone_there plans old new before ticks out room cpu is gone below =
    let there = lane_there plans old before out room cpu is below in
    let at_old = (gone.each (cpu % length old) (mod-lt cpu is.some)).each (cpu / length old) there in
    subst (λ n. HasGone ticks (lane_of old cpu) (lane_at (batch_at new (cpu % n)) (cpu / n))) (sym gone.many) at_old

-- Advancing leaves the clocks in their rows.
pub rows_stay : (plans : PlansView) (old new : List (List LaneView)) (before ticks : Ticks) (out room : ℕ) → AreLanes plans old before out room → HaveAllGone ticks old new → rows_of new (length plans.plans) ≡ rows_of old (length plans.plans)
rows_stay plans old new before ticks out room is gone = rows_same old new 0 (length plans.plans) (λ cpu low high. (gone_there plans old new before ticks out room cpu is gone (omega (arith, high))).row)

-- All clocks have made exactly the changes up to the last tick.
pub gone_at : (plans : PlansView) (old new : List (List LaneView)) (before ticks : Ticks) (out room : ℕ) → AreLanes plans old before out room → ticks.count ≤ room → HaveAllGone ticks old new → AreAt plans (clocks_of new (length plans.plans)) (last_of ticks)
gone_at plans old new before ticks out room is within gone =
    let cpus = length plans.plans in
    let many = clocks_many new cpus in
    record {
      on_plans = on_plans plans new ticks 0 room (crew_gone plans old new before ticks out room is within gone);
      there = λ cpu below.
          let inside : cpu < cpus = omega (arith, below, many) in
          let own = gone_there plans old new before ticks out room cpu is gone inside in
          let lane = lane_is plans old before out room cpu is inside in
          ap (λ (on : OnPlan). on.made) (clocks_are new cpus cpu inside) ∙ own.made ∙ ap (λ (plan : PlanView). changes_up_to plan (last_of ticks)) lane.plan;
      past = λ cpu below.
          let inside : cpu < cpus = omega (arith, below, many) in
          let own = gone_there plans old new before ticks out room cpu is gone inside in
          let lane = lane_is plans old before out room cpu is inside in
          subst (λ (plan : PlanView). last_change plan (changes_up_to plan (last_of ticks)) ≤ last_of ticks) lane.plan own.past;
    }

-- ---- tables

-- The times of all processors are stored for each tick whose table wasn't returned.
pub are_kept : (plans : PlansView) (batches : List (List LaneView)) (ticks : Ticks) (out room : ℕ) → AreLanes plans batches ticks out room → out < ticks.count → AreKept plans batches out (moment_in ticks out)
are_kept plans batches ticks out room is left = λ cpu below.
    let lane = lane_is plans batches ticks out room cpu is below in
    let within = is.within in
    let end = places_end out room (length plans.lives) (omega (arith, left, within)) in
    record {
      some = is.some;
      place = lane_there plans batches ticks out room cpu is below;
      room = omega (arith, end, lane.size);
      times = λ slot inside. subst (λ n. kept_at (lane_of batches cpu).kept n out slot ≡ times_by (plan_at plans cpu) slot (moment_in ticks out)) lane.slots (lane.keeps out slot left (subst (λ n. slot < n) (sym lane.slots) inside));
    }

some_inside : (moments : List ℕ) (at : ℕ) → slice_get moments 0 ≡ Some at → 0 < length moments
some_inside [] at is = absurd (let no : ⊥ = cc in no)
some_inside (moment ∷ moments) at is = omega arith

-- The first ready time is the time of the first tick whose table wasn't returned.
pub first_ready : (ticks : Ticks) (out at : ℕ) → slice_get (drop out (moments_of ticks)) 0 ≡ Some at → (out < ticks.count) × (at ≡ moment_in ticks out)
first_ready ticks out at is =
    let all = moments_of ticks in
    let many = length-map-range_with_len (moment_in ticks) 0 ticks.count in
    let some = some_inside (drop out all) at is in
    let left : out < ticks.count = omega (arith, some, many, length-drop out all) in
    (left, sym (get_or_from_slice_get (drop out all) 0 at 0 is) ∙ get_or-drop out all 0 0 ∙ get_or-map-range_with_len (moment_in ticks) 0 ticks.count (out + 0) out 0 (omega (arith, left)) (omega arith))

-- Returning a table removes the first ready time.
pub ready_less : {X : Type 0} (out : ℕ) (xs : List X) → drop (out + 1) xs ≡ drop 1 (drop out xs)
ready_less zero xs = refl
ready_less (suc out) [] = drop-nil (suc out + 1) ∙ sym (ap (drop 1) (drop-nil (suc out)) ∙ drop-nil 1)
ready_less (suc out) (x ∷ xs) =
    let next : suc out + 1 ≡ suc (out + 1) = omega arith in
    ap (λ n. drop n (x ∷ xs)) next ∙ ready_less out xs

-- After a crew returned one more table, only the list of ready ticks in its state has changed.
pub crew_less : (plans : PlansView) (batches : List (List LaneView)) (ticks : Ticks) (out room requested : ℕ) (watchers : List WatcherView) (old : CrewView) → crew_of plans batches ticks out room requested watchers ≡ old
    → crew_of plans batches ticks (out + 1) room requested watchers ≡ record old { ready = drop 1 old.ready }
crew_less plans batches ticks out room requested watchers old same =
    ap (λ ready. let crew : CrewView = record (crew_of plans batches ticks out room requested watchers) { ready = ready } in crew) (ready_less out (moments_of ticks))
    ∙ ap (λ (view : CrewView). let crew : CrewView = record view { ready = drop 1 view.ready } in crew) same

-- The lanes of a crew are still valid after it returned one more table.
pub handed_out : (plans : PlansView) (batches : List (List LaneView)) (ticks : Ticks) (out room : ℕ) → AreLanes plans batches ticks out room → out < ticks.count → AreLanes plans batches ticks (out + 1) room
handed_out plans batches ticks out room is left = record {
  some = is.some;
  roomy = is.roomy;
  countable = is.countable;
  within = is.within;
  out_within = omega (arith, left);
  each = is.each;
}

-- ---- a new crew

-- The batches of new workers are the lanes of a crew.
pub crew_new : (plans : PlansView) (batches : List (List LaneView)) (in_rows : Bool) (workers room : ℕ) → AreNewBatches plans room in_rows workers batches → 0 < workers → 1 ≤ room → room < 2 ^ 32 → AreLanes plans batches no_ticks 0 room
crew_new plans batches in_rows workers room new some roomy countable = record {
  some = subst (λ n. 0 < n) (sym new.many) some;
  roomy = roomy;
  countable = countable;
  within = omega arith;
  out_within = omega arith;
  each = λ worker below. subst (λ n. IsBatchOf plans no_ticks room n worker (batch_at batches worker)) (sym new.many) (new.each worker (omega (arith, below, new.many))).batch;
}

-- The clocks of a new crew have made no change.
pub clocks_new : (plans : PlansView) (batches : List (List LaneView)) (in_rows : Bool) (workers room : ℕ) → AreNewBatches plans room in_rows workers batches → 0 < workers → 1 ≤ room → room < 2 ^ 32 → (cpu : ℕ) → cpu < length plans.plans → (clocks_at (clocks_of batches (length plans.plans)) cpu).made ≡ 0
clocks_new plans batches in_rows workers room new some roomy countable cpu below =
    let is = crew_new plans batches in_rows workers room new some roomy countable in
    let there = lane_there plans batches no_ticks 0 room cpu is below in
    let mine : cpu % length batches < workers = omega (arith, mod-lt cpu is.some, new.many) in
    ap (λ (on : OnPlan). on.made) (clocks_are batches (length plans.plans) cpu below) ∙ (new.each (cpu % length batches) mine).fresh (cpu / length batches) there

-- The clocks of a new crew are in rows if `in_rows`, and plain otherwise.
pub rows_new : (plans : PlansView) (batches : List (List LaneView)) (in_rows : Bool) (workers room : ℕ) → AreNewBatches plans room in_rows workers batches → 0 < workers → 1 ≤ room → room < 2 ^ 32 → (cpu : ℕ) → cpu < length plans.plans → is_some (lane_of batches cpu).row ≡ in_rows
rows_new plans batches in_rows workers room new some roomy countable cpu below =
    let is = crew_new plans batches in_rows workers room new some roomy countable in
    let there = lane_there plans batches no_ticks 0 room cpu is below in
    let mine : cpu % length batches < workers = omega (arith, mod-lt cpu is.some, new.many) in
    (new.each (cpu % length batches) mine).rows (cpu / length batches) there

-- If `in_rows`, all clocks of a new crew are in rows.
pub all_in_rows : (plans : PlansView) (batches : List (List LaneView)) (in_rows : Bool) (workers room : ℕ) → AreNewBatches plans room in_rows workers batches → 0 < workers → 1 ≤ room → room < 2 ^ 32 → in_rows ≡ true → AreInRows plans (rows_of batches (length plans.plans))
all_in_rows plans batches in_rows workers room new some roomy countable wanted cpu below =
    ap is_some (rows_are batches (length plans.plans) cpu below) ∙ rows_new plans batches in_rows workers room new some roomy countable cpu below ∙ wanted

-- A new lane of a processor belongs to that processor of the crew.
pub new_lane : (plans : PlansView) (room cpu number : ℕ) (lane : LaneView) → number ≡ cpu → number < length plans.plans → lane.cpu ≡ number → lane.on ≡ record { plan = plan_at plans number; made = 0 } → length lane.kept ≡ room * length plans.lives → IsPlan lane.on.plan
    → length lane.on.plan.parents ≡ length plans.lives → IsLaneOf plans no_ticks room cpu lane
new_lane plans room cpu number lane same below own on size whole slots =
    let plan : lane.on.plan ≡ plan_at plans cpu = ap (λ (on : OnPlan). on.plan) on ∙ ap (plan_at plans) same in
    record {
      cpu_is = own ∙ same;
      below = subst (λ n. n < length plans.plans) same below;
      plan = plan;
      whole = subst IsPlan plan whole;
      slots = subst (λ (p : PlanView). length p.parents ≡ length plans.lives) plan slots;
      size = size;
      keeps = λ j slot early inside. absurd (let no : ⊥ = omega (arith, early) in no);
    }

-- ---- room

-- The stored times take at most `most_kept` bytes, or are those of one tick.
pub room_is : (cpus slots moments : ℕ) → (1 ≤ room_of cpus slots moments) × (room_of cpus slots moments ≤ max moments 1) × ((64 * (room_of cpus slots moments * slots * cpus) ≤ 64000000) ⊎ (room_of cpus slots moments ≡ 1))
room_is cpus slots moments =
    let bytes = 64 * (slots * cpus) in
    let fits = 64000000 / max bytes 1 in
    let room = room_of cpus slots moments in
    let is : room ≡ max (min (min fits moments) 256) 1 = refl in
    let case : (room ≡ 1) ⊎ (room ≤ fits) = grind (arith, is) in (
      grind (arith, is),
      grind (arith, is),
      ⊎_elim (λ one. inr one)
          (λ below.
          let most : fits * max bytes 1 ≤ 64000000 = div-mul-le_self 64000000 (max bytes 1) in
          let more : bytes ≤ max bytes 1 = grind arith in
          let one : room * bytes ≤ fits * bytes = mul-le-mul_right bytes below in
          let two : fits * bytes ≤ fits * max bytes 1 = mul-le-mul_left fits more in
          let same : 64 * (room * slots * cpus) ≡ room * bytes = grind arith in
          inl (omega (arith, most, one, two, same)))
          case,
    )
