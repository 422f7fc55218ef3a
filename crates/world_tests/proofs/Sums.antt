-- Counts of groups as sums over tasks.
use Rattle.std.proofs.Common.{◌≡◌, ℕ, zero, suc, ◌+◌, ◌≤◌, ◌<◌, ◌^◌, List, length, refl, sym, ap, ◌∙◌, arith, Bool, true, false, Option, None, Some, sum_by, ◌⊎◌, inl, inr}
use Rattle.std.specs.Prelude.{◌&&◌, IfSome, replicate, slice_index_or, if◌then◌else◌}
use Rattle.std.specs.List.{All}
use Rattle.std.proofs.Math.ListN.{get_or-map}
use Rattle.std.proofs.lemmas.List.{get_or_past, length-replicate}
use Rattle.std.proofs.lemmas.List.Sums.{sum_by-cons, sum_by-le, get_or-le-sum_by}
use Rattle.std.proofs.lemmas.List.Elements.{All-from_get_or, All-get_or, All-replicate}
use Rattle.psi_base.specs.declared.event.Slot.{Slot}
use Rattle.psi_base.specs.declared.event.State.{State}
use Rattle.psi_base.specs.declared.event.State.TheVariants.{IoSome, IoFull, MemSome, MemFull, CpuSome, CpuFull, Nonidle}
use Rattle.psi_counts.specs.declared.changes.Counts.{Counts}
use Rattle.psi_spec.specs.LegalGroups.{AreOlder}
use Rattle.psi_spec.specs.World.{most_groups}
use Rattle.psi_spec.specs.Stall.{is_under, number_of_slot}
use Rattle.psi_counts.specs.Counts.{mask_holds, shows}
use Rattle.psi_counts.specs.Touch.{AreAtMost, no_counts, on_chain}
use Rattle.slot_clocks.specs.Clocks.{AreReported, CanFollow, ClocksView, cell_at, first_clocks, parent_numbers, zero_cell}
use Rattle.world_tests.specs.Processor.{AreSums, IsProcessor, IsTask}

none_at_most : AreAtMost 1 no_counts
none_at_most = record { io = omega arith; stalled = omega arith; running = omega arith; stalled_running = omega arith }

if_at_most : (here : Bool) (counts : Counts) → AreAtMost 1 counts → AreAtMost 1 (if here then counts else no_counts)
if_at_most true counts low = low
if_at_most false counts low = none_at_most

-- a task counts at most once anywhere
chain_at_most : (parents : List (Option ℕ)) (slot groups : ℕ) (task : Option (Slot × Counts)) → IsTask groups task → AreAtMost 1 (on_chain parents slot task)
chain_at_most parents slot groups None is = none_at_most
chain_at_most parents slot groups (Some part) is = if_at_most (is_under parents part.0.0 slot) part.1 is.1

all_low : (parents : List (Option ℕ)) (slot groups : ℕ) (tasks : List (Option (Slot × Counts))) → All (IsTask groups) tasks → (f : Counts → ℕ) → ((counts : Counts) → AreAtMost 1 counts → f counts ≤ 1) → All (λ task. f (on_chain parents slot task) ≤ 1) tasks
all_low parents slot groups tasks all f low = All-from_get_or (λ task. f (on_chain parents slot task) ≤ 1) tasks None (λ i room. low (on_chain parents slot (slice_index_or tasks i None)) (chain_at_most parents slot groups (slice_index_or tasks i None) (All-get_or (IsTask groups) tasks i None room all)))

can : (parents : List (Option ℕ)) (slot groups i : ℕ) (tasks : List (Option (Slot × Counts))) (now : Option (Slot × Counts)) (f : Counts → ℕ) (count : ℕ) → ((counts : Counts) → AreAtMost 1 counts → f counts ≤ 1) → All (IsTask groups) tasks → IsTask groups now → length tasks ≤ 1000 → i < length tasks → count ≡ sum_by (λ task. f (on_chain parents slot task)) tasks
    → (f (on_chain parents slot (slice_index_or tasks i None)) ≤ count + f (on_chain parents slot now)) × (count + f (on_chain parents slot now) < 2 ^ 32)
can parents slot groups i tasks now f count low all is few room same =
    let part = get_or-le-sum_by (λ task. f (on_chain parents slot task)) tasks i None room in
    let most = sum_by-le (λ task. f (on_chain parents slot task)) 1 tasks (all_low parents slot groups tasks all f low) in
    let one = low (on_chain parents slot now) (chain_at_most parents slot groups now is) in
    (omega (arith, part, same), omega (arith, most, one, same, few))

pub can_follow : (parents : List (Option ℕ)) (slot groups i : ℕ) (tasks : List (Option (Slot × Counts))) (now : Option (Slot × Counts)) (counts : Counts) → AreSums parents slot tasks counts → All (IsTask groups) tasks → IsTask groups now → length tasks ≤ 1000 → i < length tasks
    → CanFollow counts (on_chain parents slot (slice_index_or tasks i None)) (on_chain parents slot now)
can_follow parents slot groups i tasks now counts sums all is few room = record {
  io = can parents slot groups i tasks now (λ n. n.io) counts.io (λ n low. low.io) all is few room sums.io;
  stalled = can parents slot groups i tasks now (λ n. n.stalled) counts.stalled (λ n low. low.stalled) all is few room sums.stalled;
  running = can parents slot groups i tasks now (λ n. n.running) counts.running (λ n low. low.running) all is few room sums.running;
  stalled_running = can parents slot groups i tasks now (λ n. n.stalled_running) counts.stalled_running (λ n low. low.stalled_running) all is few room sums.stalled_running;
}

-- ---- the first clocks

-- no change has reached a cell
first_cell : (slots slot : ℕ) → cell_at (first_clocks slots) slot ≡ zero_cell
first_cell zero slot = refl
first_cell (suc slots) zero = refl
first_cell (suc slots) (suc slot) = first_cell slots slot

nothing_known : (state : State) → mask_holds zero_cell.clock.mask state ≡ (zero_cell.on && shows state zero_cell.counts false false)
nothing_known IoSome = refl
nothing_known IoFull = refl
nothing_known MemSome = refl
nothing_known MemFull = refl
nothing_known CpuSome = refl
nothing_known CpuFull = refl
nothing_known Nonidle = refl

-- so no state holds
first_reported : (parents : List (Option ℕ)) (slots : ℕ) → AreReported parents (first_clocks slots)
first_reported parents slots slot state = rw (first_cell slots slot) (nothing_known state)

none_counted : (parents : List (Option ℕ)) (slot count : ℕ) (f : Counts → ℕ) → f no_counts ≡ 0 → sum_by (λ task. f (on_chain parents slot task)) (replicate count None) ≡ 0
none_counted parents slot zero f none = refl
none_counted parents slot (suc count) f none =
    let first = sum_by-cons (λ task. f (on_chain parents slot task)) None (replicate count None) in
    let rest = none_counted parents slot count f none in
    omega (arith, first, none, rest)

-- and no task is counted
first_sums : (parents : List (Option ℕ)) (slots count slot : ℕ) → AreSums parents slot (replicate count None) (cell_at (first_clocks slots) slot).counts
first_sums parents slots count slot =
    rw (first_cell slots slot)
    (record {
      io = sym (none_counted parents slot count (λ n. n.io) refl);
      stalled = sym (none_counted parents slot count (λ n. n.stalled) refl);
      running = sym (none_counted parents slot count (λ n. n.running) refl);
      stalled_running = sym (none_counted parents slot count (λ n. n.stalled_running) refl);
    })

-- the first clocks represent tasks, none of them live
pub first_processor : (parents : List (Option ℕ)) (groups count : ℕ) (tasks : List (Option (Slot × Counts))) (clocks : ClocksView) → AreOlder parents → tasks ≡ replicate count None → count ≤ 1000 → groups ≤ most_groups → clocks ≡ first_clocks groups → IsProcessor parents groups tasks clocks 0
first_processor parents groups count tasks clocks older none few few_groups first = rw (none, first) (record {
  older = older;
  are_tasks = All-replicate (IsTask groups) count None tt;
  few = omega (arith, few, length-replicate {A = Option (Slot × Counts)} count None);
  few_groups = few_groups;
  sums = first_sums parents groups count;
  room = omega (arith, length-replicate groups zero_cell);
  known = first_reported parents groups;
  current = tt;
  in_time = refl;
})

-- ---- parents

older_at : (parents : List (Option Slot)) (slot parent : ℕ) (found : Option Slot) → slice_index_or parents slot None ≡ found → IfSome found (λ p. p.0 < slot) → slice_index_or (parent_numbers parents) slot None ≡ Some parent → parent < slot
older_at parents slot parent None is low number = absurd (cc (number, get_or-map number_of_slot parents slot None, ap number_of_slot is))
older_at parents slot parent (Some p) is low number =
    let same : Some parent ≡ Some p.0 = sym number ∙ get_or-map number_of_slot parents slot None ∙ ap number_of_slot is in
    let one : parent ≡ p.0 = cc same in
    omega (arith, one, low)

low_at : (parents : List (Option Slot)) (slot : ℕ) → ((k : ℕ) → k < length parents → IfSome (slice_index_or parents k None) (λ p. p.0 < k)) → (slot < length parents) ⊎ (length parents ≤ slot) → IfSome (slice_index_or parents slot None) (λ p. p.0 < slot)
low_at parents slot low (inl here) = low slot here
low_at parents slot low (inr past) = rw (get_or_past parents slot None past) tt

below_or_past : (slot n : ℕ) → (slot < n) ⊎ (n ≤ slot)
below_or_past slot n = grind arith

pub all_older : (parents : List (Option Slot)) → ((k : ℕ) → k < length parents → IfSome (slice_index_or parents k None) (λ p. p.0 < k)) → AreOlder (parent_numbers parents)
all_older parents low slot parent number = older_at parents slot parent (slice_index_or parents slot None) refl (low_at parents slot low (below_or_past slot (length parents))) number
