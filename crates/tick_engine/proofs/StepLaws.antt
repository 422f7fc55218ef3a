-- Proves that a tick preserves the bounds: no total exceeds the time up to the tick, and the
-- triggers are in range.
use Rattle.std.proofs.Common.{◌≡◌, ◌≢◌, ℕ, suc, ◌+◌, ◌≤◌, ◌<◌, List, [], ◌∷◌, ◌++◌, length, get_or, set, sym, ap, ◌∙◌, refl, arith, true, false, ◌⊎◌, ⊎_elim, inl, inr}
use Rattle.std.specs.Prelude.{All, map, filter, if◌then◌else◌}
use Rattle.std.specs.List.{range_with_len}
use Rattle.std.proofs.lemmas.List.{ext_get_or, get_or-set_other, get_or-set_same, get_or_default, length-set, map-id}
use Rattle.std.proofs.lemmas.List.Elements.{filter-append}
use Rattle.std.proofs.lemmas.List.FromFn.{map-range_with_len_more}
use Rattle.psi_spec.specs.Within.{last_moment, longest_tick}
use Rattle.pressure_spec.specs.Ticks.{Tick}
use Rattle.pressure_spec.specs.NextTick.{IsNextTick, time_of}
use Rattle.pressure_spec.specs.Share.{irq_place, plus, shares}
use Rattle.pressure_spec.specs.Within.{AreAmountsWithin, AreTimesWithin, most_irq_total}
use Rattle.psi_spec.specs.World.{longest_irq}
use Rattle.pressure_spec.specs.Samples.{growths, row_at}
use Rattle.pressure_spec.proofs.WithinLaws.{growths_next, irq_sum_most, totals_kept, totals_sampled}
use Rattle.tick_engine.specs.declared.group.Group.{Group}
use Rattle.tick_engine.specs.declared.watch.TriggerWatch.{TriggerWatch}
use Rattle.aggregate.specs.Table.{HaveSameSizes}
use Rattle.tick_engine.specs.Tables.{tick_at}
use Rattle.tick_engine.specs.Step.{AreGroupsWithin, AreStatesWithin, AreTotalsWithin, fired_among, group_step, is_live_group, no_group, sampled, watch_in, watch_signals}

-- A list whose elements are `f` of the elements of another list is the mapped list.
pub map_all : {A B : Type 0} (f : A → B) → (xs : List A) (zs : List B) (d : A) (e : B) → length zs ≡ length xs → ((k : ℕ) → k < length xs → get_or zs k e ≡ f (get_or xs k d)) → zs ≡ map f xs
map_all f [] [] d e long each = refl
map_all f [] (z ∷ zs) d e long each = absurd (omega arith)
map_all f (x ∷ xs) [] d e long each = absurd (omega arith)
map_all f (x ∷ xs) (z ∷ zs) d e long each =
    let here : z ≡ f x = each 0 (omega arith) in
    let rest = map_all f xs zs d e (omega arith) (λ k below. each (suc k) (omega arith)) in
    cc (here, rest)

-- ---- totals

-- The growth of a group's times at the next tick is at most the longest tick. The growth of its
-- interrupt time is at most one second more.
pub growths_short : (last tick : Tick) (slot : ℕ) → IsNextTick last tick → All (AreTimesWithin longest_tick (longest_tick + longest_irq)) (growths (row_at last slot) (row_at tick slot))
growths_short last tick slot next = λ cpu d below.
    let within = growths_next last tick slot next cpu d below in
    record {
      states = λ place inside. let most = within.states place inside in omega (arith, most, next.soon, next.later);
      irq = omega (arith, within.irq, next.soon, next.later);
    }

-- The totals of a group that is sampled at the next tick fit in 64 bits.
pub sampled_fits : (last tick : Tick) (slot : ℕ) (group : Group) → IsNextTick last tick → length (row_at tick slot) ≤ 64 → AreTotalsWithin last slot group →
    AreAmountsWithin last_moment most_irq_total (plus group.totals (shares (growths (row_at last slot) (row_at tick slot))))
sampled_fits last tick slot group next few within =
    let grown = totals_sampled last tick slot group.totals next within in
    let most = irq_sum_most tick slot (record { moment = next.early; irq = next.irq_early slot }) few in
    record {
      states = λ quantity below. let state = grown.states quantity below in omega (arith, state, next.early);
      irq = omega (arith, grown.irq, most);
    }

-- After the next tick, the totals of each group are within its bounds.
pub step_within : (last tick : Tick) (slot : ℕ) (group : Group) → IsNextTick last tick → AreTotalsWithin last slot group → AreTotalsWithin tick slot (group_step last tick slot group)
step_within last tick slot group next within =
    elim (is_live_group group tick.at) as (λ live. AreTotalsWithin tick slot (if live then sampled group tick.at (shares (growths (row_at last slot) (row_at tick slot))) else group))
    [ true ↦ totals_sampled last tick slot group.totals next within | false ↦ totals_kept last tick slot group.totals next within ]

-- After the next tick, no state total exceeds the latest time of a trace.
pub states_within : (tick : Tick) (groups : List Group) → tick.at ≤ last_moment → AreGroupsWithin tick groups → All (λ group. AreStatesWithin last_moment group) groups
states_within tick groups early within = λ slot d below quantity inside.
    let same = get_or_default groups slot d no_group below in
    let most = (within slot below).states quantity inside in
    rw same (omega (arith, most, early))

-- ---- the last tick

-- A mixed table, which occurs while all groups are stepped: the first `count` rows are rows of the
-- next tick, and the other rows are rows of the last tick.
pub record TakesRows (last tick mixed : Tick) (count : ℕ) : Type 0 where
  pub at : mixed.at ≡ last.at
  pub taken : (slot : ℕ) → slot < count → row_at mixed slot ≡ row_at tick slot
  pub left : (slot : ℕ) → count ≤ slot → row_at mixed slot ≡ row_at last slot

-- Each row of the mixed table is a row of the next tick or of the last tick.
taken_or_left : (last tick mixed : Tick) (count slot : ℕ) → TakesRows last tick mixed count → (row_at mixed slot ≡ row_at tick slot) ⊎ (row_at mixed slot ≡ row_at last slot)
taken_or_left last tick mixed count slot takes =
    let case : (slot < count) ⊎ (count ≤ slot) = grind arith in
    ⊎_elim (λ early. inl (takes.taken slot early)) (λ late. inr (takes.left slot late)) case

-- The next tick is also a legal successor of the mixed table.
pub next_stays : (last tick mixed : Tick) (count : ℕ) → TakesRows last tick mixed count → IsNextTick last tick → IsNextTick mixed tick
next_stays last tick mixed count takes next = record {
  later = rw takes.at next.later;
  soon = rw takes.at next.soon;
  early = next.early;
  kept = λ slot cpu place.
      ⊎_elim
      (λ now. omega (arith, ap (λ row. time_of row cpu place) now))
      (λ before. omega (arith, ap (λ row. time_of row cpu place) before, next.kept slot cpu place))
      (taken_or_left last tick mixed count slot takes);
  grown = λ slot cpu place state.
      ⊎_elim
      (λ now. omega (arith, ap (λ row. time_of row cpu place) now))
      (λ before. omega (arith, ap (λ row. time_of row cpu place) before, takes.at, next.grown slot cpu place state))
      (taken_or_left last tick mixed count slot takes);
  irq_grown = λ slot cpu.
      ⊎_elim
      (λ now. omega (arith, ap (λ row. time_of row cpu irq_place) now))
      (λ before. omega (arith, ap (λ row. time_of row cpu irq_place) before, takes.at, next.irq_grown slot cpu))
      (taken_or_left last tick mixed count slot takes);
  irq_early = next.irq_early;
}

-- Stepping the group with the index `slot` from the mixed table is the same as stepping it from the
-- last tick.
pub step_stays : (last tick mixed : Tick) (slot : ℕ) (group : Group) → TakesRows last tick mixed slot → group_step mixed tick slot group ≡ group_step last tick slot group
step_stays last tick mixed slot group takes =
    ap (λ row. if is_live_group group tick.at then sampled group tick.at (shares (growths row (row_at tick slot))) else group) (takes.left slot (omega arith))

-- Copying one more row of the next tick gives a mixed table with one more such row.
pub row_taken : (last tick mixed : Tick) (rows : List (List (List ℕ))) (count : ℕ) → TakesRows last tick mixed count → count < length mixed.table → rows ≡ set mixed.table count (row_at tick count) → TakesRows last tick (tick_at mixed.at rows) (count + 1)
row_taken last tick mixed rows count takes below is = record {
  at = takes.at;
  taken = λ slot early.
      let case : (slot < count) ⊎ (slot ≡ count) = grind (arith, early) in
      ⊎_elim
      (λ before. ap (λ table. get_or table slot []) is ∙ get_or-set_other mixed.table count slot (row_at tick count) [] (λ same. omega (arith, same, before)) ∙ takes.taken slot before)
      (λ now. ap (λ table. get_or table slot []) is ∙ ap (λ s. get_or (set mixed.table count (row_at tick count)) s []) now ∙ get_or-set_same mixed.table count (row_at tick count) [] below ∙ ap (row_at tick) (sym now))
      case;
  left = λ slot late.
      ap (λ table. get_or table slot []) is ∙ get_or-set_other mixed.table count slot (row_at tick count) [] (λ same. omega (arith, same, late)) ∙ takes.left slot (omega (arith, late));
}

-- Copying a row from a table of the same size doesn't change the size of a table.
pub sizes_stay : (table next rows : List (List (List ℕ))) (slot : ℕ) → slot < length table → HaveSameSizes table next → rows ≡ set table slot (get_or next slot []) → HaveSameSizes rows next
sizes_stay table next rows slot below same is =
    let row = get_or next slot [] in
    record {
      slots = ap length is ∙ length-set table slot row ∙ same.slots;
      cpus = λ other.
          let case : (other ≡ slot) ⊎ (other ≢ slot) = grind arith in
          ap (λ t. length (get_or t other [])) is
          ∙ ⊎_elim
          (λ here. rw here (ap length (get_or-set_same table slot row [] below)))
          (λ apart. ap length (get_or-set_other table slot other row [] apart) ∙ same.cpus other)
          case;
    }

-- After all rows are copied, the mixed table is the table of the next tick.
pub all_taken : (last tick mixed : Tick) (count : ℕ) → TakesRows last tick mixed count → length mixed.table ≡ count → length tick.table ≡ count → mixed.table ≡ tick.table
all_taken last tick mixed count takes many also =
    ext_get_or [] mixed.table tick.table (many ∙ sym also) (λ slot below. takes.taken slot (omega (arith, below, many)))

-- ---- signals

range_more : (count : ℕ) → range_with_len 0 (count + 1) ≡ range_with_len 0 count ++ count ∷ []
range_more count = sym (map-id (range_with_len 0 (count + 1))) ∙ map-range_with_len_more (λ (i : ℕ). i) 0 count count (omega arith) ∙ ap (λ (numbers : List ℕ). numbers ++ count ∷ []) (map-id (range_with_len 0 count))

-- Extends the list of triggers that signal by one more trigger.
pub fired_more : (groups : List Group) (now : ℕ) (watches : List TriggerWatch) (count : ℕ) →
    fired_among groups now watches (count + 1) ≡ fired_among groups now watches count ++ (if watch_signals groups now (watch_in watches count) then count ∷ [] else [])
fired_more groups now watches count =
    let test = λ (i : ℕ). watch_signals groups now (watch_in watches i) in
    ap (filter test) (range_more count) ∙ filter-append test (range_with_len 0 count) (count ∷ [])
