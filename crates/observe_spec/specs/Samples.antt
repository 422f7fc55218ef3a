-- Defines the samples that observers of one group take of the group's clocks: which samples are
-- due, and which samples the observers may have taken.
use Rattle.std.specs.Prelude.{◌≡◌, ℕ, ◌-◌, ◌<◌, ◌≤◌, Bool, ◌&&◌, ◌==◌, List, [], ◌∷◌, length, map, filter, Option, None, Some}
use Rattle.std.specs.List.{flat_map, range_with_len}
use Rattle.psi_spec.specs.Changes.{RiseWithin, changes_of}
use Rattle.psi_spec.specs.Trace.{Trace}
use Rattle.pressure_spec.specs.Ticks.{tick_moment}
use Rattle.run_spec.specs.Live.{changes_until, live_slot_at}
use Rattle.run_spec.specs.Replay.{Timing, tick_count}

-- A sample (a *look*) of a group on a processor: the number of the observer that took it, the
-- processor, the slot of the group, and the number of changes of the processor before the sample.
pub record Look : Type 0 where
  pub observer : ℕ
  pub cpu : ℕ
  pub slot : ℕ
  pub count : ℕ

-- Whether the sample `look` was taken by `observer` on processor `cpu`.
abbrev pub is_of : ℕ → ℕ → Look → Bool
is_of observer cpu look = look.observer == observer && look.cpu == cpu

-- The samples that `observer` took.
abbrev pub looks_by : ℕ → List Look → List Look
looks_by observer looks = filter (λ (look : Look). look.observer == observer) looks

-- The change counts of the samples that `observer` took on processor `cpu`, in order.
abbrev pub counts_by : ℕ → ℕ → List Look → List ℕ
counts_by observer cpu looks = map (λ (look : Look). look.count) (filter (is_of observer cpu) looks)

-- ---- samples that are due

-- A sample that each observer must take: its processor, the slot of its group, and the lower and
-- upper bounds of its change count.
pub record Due : Type 0 where
  pub cpu : ℕ
  pub slot : ℕ
  pub least : ℕ
  pub most : ℕ

-- The samples that are due in the interval that ends with tick `i`: one on each processor, after at
-- least the changes up to the previous tick, and at most the changes up to tick `i`. `tick` is the
-- length (ns) of a tick. No sample is due if the path isn't live at the tick.
abbrev pub due_at : Trace → ℕ → ℕ → Option ℕ → List Due
due_at trace tick i None = []
due_at trace tick i (Some slot) =
    map (λ cpu. record { cpu = cpu; slot = slot; least = changes_until trace tick cpu (i - 1); most = changes_until trace tick cpu i })
    (range_with_len 0 trace.cpus)

-- All samples that are due for each observer, in order: the samples of all ticks at which the path
-- is live.
abbrev pub all_due : Trace → Timing → List ℕ → List Due
all_due trace timing path =
    flat_map (λ i. due_at trace timing.length i (live_slot_at trace.events path (tick_moment timing.length i)))
    (range_with_len 1 (tick_count trace timing))

-- The samples `looks` match the due samples one by one, in order.
abbrev pub AreDone : List Due → List Look → Type 0
AreDone [] [] = Unit {0}
AreDone [] (look ∷ looks) = ⊥
AreDone (due ∷ dues) [] = ⊥
AreDone (due ∷ dues) (look ∷ looks) =
    (look.cpu ≡ due.cpu) × (look.slot ≡ due.slot) × (due.least ≤ look.count) × (look.count ≤ due.most) × AreDone dues looks

-- `looks` are samples that `observers` observers may have taken. Each observer took exactly the
-- samples that were due, in order and within their bounds. The change counts of an observer's
-- samples on a processor never decrease, and are at most the number of the processor's changes. The
-- order of the samples of different observers and the exact change counts may vary between runs.
pub record AreObserved (trace : Trace) (timing : Timing) (path : List ℕ) (observers : ℕ) (looks : List Look) : Type 0 where
  pub done : (observer : ℕ) → observer < observers → AreDone (all_due trace timing path) (looks_by observer looks)
  pub none : (observer : ℕ) → observers ≤ observer → looks_by observer looks ≡ []
  pub rise : (observer cpu : ℕ) → RiseWithin 0 (counts_by observer cpu looks) (length (changes_of cpu trace.events))
