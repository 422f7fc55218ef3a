-- Proves that the sides of a trace are in order of time, one event at a time.
use Rattle.std.proofs.Common.{◌≡◌, ℕ, List, [], ◌∷◌, ◌++◌, refl, true, false, Option, None, Some}
use Rattle.std.specs.Prelude.{◌==◌, if◌then◌else◌}
use Rattle.std.specs.List.{AllByRecursion}
use Rattle.psi_base.specs.declared.event.Slot.{Slot}
use Rattle.psi_base.specs.declared.event.Act.{Act}
use Rattle.psi_base.specs.declared.event.Act.TheVariants as act
use Rattle.psi_spec.specs.declared.machine.GroupLife.{GroupLife}
use Rattle.psi_spec.specs.World.{first_world}
use Rattle.psi_counts.specs.Touch.{task_after}
use Rattle.psi_spec.specs.Changes.{before}
use Rattle.plan_laws.proofs.MomentsKnown.{ShowsAtOnce, known_in_order, known_until}
use Rattle.proc_plan.specs.declared.side.Side.{Side}
use Rattle.proc_plan.specs.Sides.{came, went, passage, group_of, sample_by, sides_by}
use Rattle.proc_plan.specs.SideLaws.{SidesUpTo, SidesAreInOrder}

-- ---- times

-- `AtOnce at sides`: all sides have the time `at` (ns).
abbrev AtOnce : ℕ → List Side → Type 0
AtOnce at sides = AllByRecursion (λ (side : Side). side.at ≡ at) sides

both_at_once : (at : ℕ) (some more : List Side) → AtOnce at some → AtOnce at more → AtOnce at (some ++ more)
both_at_once at [] more now later = later
both_at_once at (side ∷ some) more now later = (now.0, both_at_once at some more now.1 later)

sample_at_once : (at : ℕ) (groups : List GroupLife) (a : Act) → AtOnce at (sample_by at groups a)
sample_at_once at groups (act.Prefer path preference) = (refl, tt)
sample_at_once at groups (act.Mem path current swap scan) = (refl, tt)
sample_at_once at groups (act.Host mem_total swap_total swap_free) = (refl, tt)
sample_at_once at groups _ = tt

passage_at_once : (at : ℕ) (old new : Option Slot) → AtOnce at (passage at old new)
passage_at_once at None None = tt
passage_at_once at None (Some new) = (refl, tt)
passage_at_once at (Some old) None = (refl, tt)
passage_at_once at (Some old) (Some new) = elim (old.0 == new.0) as (λ b. AtOnce at (if b then [] else went at old ++ came at new)) [ true ↦ tt | false ↦ (refl, (refl, tt)) ]

shows_at_once : ShowsAtOnce sides_by (λ (side : Side). side.at)
shows_at_once w event = both_at_once event.at (sample_by event.at w.groups event.act) _ (sample_at_once event.at w.groups event.act) (passage_at_once event.at (group_of (before w.tasks event.act)) (group_of (task_after w.groups w.tasks event.act)))

pub sides_up_to : SidesUpTo
sides_up_to limits events legal at = known_until sides_by (λ (side : Side). side.at) shows_at_once limits first_world events at legal

pub sides_are_in_order : SidesAreInOrder
sides_are_in_order limits events legal = (known_in_order sides_by (λ (side : Side). side.at) shows_at_once limits events legal).order
