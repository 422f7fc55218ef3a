-- Proves that a new engine represents the empty list of ticks.
use Rattle.std.proofs.Common.{◌≡◌, ℕ, ◌≤◌, List, [], ◌∷◌, length, get_or, refl, ap, ◌∙◌, arith}
use Rattle.std.specs.Prelude.{map}
use Rattle.std.proofs.lemmas.List.{get_or-map, length-append, length-map}
use Rattle.std.proofs.lemmas.List.Elements.{All-map}
use Rattle.psi_base.specs.declared.event.TriggerSpec.{TriggerSpec}
use Rattle.psi_spec.specs.declared.machine.GroupLife.{GroupLife}
use Rattle.psi_spec.specs.Within.{AreTriggersWithin, IsTriggerWithin}
use Rattle.psi_spec.specs.Within.{last_moment}
use Rattle.psi_spec.specs.World.{root}
use Rattle.pressure_spec.specs.Share.{irq_place}
use Rattle.pressure_spec.specs.Within.{time_sum}
use Rattle.pressure_spec.specs.Samples.{group_averages, row_at, totals_after}
use Rattle.pressure_spec.proofs.WithinLaws.{none_within}
use Rattle.aggregate.specs.Table.{new_table}
use Rattle.aggregate.proofs.TableLaws.{keeps_sizes}
use Rattle.tick_engine.specs.declared.watch.TriggerWatch.{TriggerWatch}
use Rattle.tick_engine.specs.Tables.{tick_at}
use Rattle.tick_engine.specs.Step.{AreGroupsWithin, engine_group, new_watch, no_group, unsampled_group}
use Rattle.tick_engine.specs.Engine.{EngineView, IsEngine, Represents, group_after}

-- The engine before the first tick.
abbrev pub first_engine : ℕ → List GroupLife → List TriggerSpec → EngineView
first_engine cpus lives triggers = record { cpus = cpus; last = tick_at 0 (new_table cpus (length lives)); groups = map unsampled_group lives; watches = map new_watch triggers; fired = [] }

new_is_after : (cpus : ℕ) (lives : List GroupLife) (slot : ℕ) → unsampled_group (get_or lives slot root) ≡ group_after cpus lives [] slot
unfolding totals_after group_averages
new_is_after cpus lives slot = refl

pub first_is_in : (cpus : ℕ) (lives : List GroupLife) (triggers : List TriggerSpec) → Represents (first_engine cpus lives triggers) cpus lives triggers []
first_is_in cpus lives triggers = record {
  ordered = tt;
  cpus_are = refl;
  last = refl;
  slots = length-map lives unsampled_group;
  groups = λ slot below. get_or-map unsampled_group lives slot root no_group below ∙ new_is_after cpus lives slot;
  watches = refl;
  fired = λ prefix tick none. absurd (omega (arith, ap length none, length-append prefix (tick ∷ [])));
  unfired = λ none. refl;
}

-- The totals of new groups, which are 0, are within the bounds.
groups_within : (cpus : ℕ) (lives : List GroupLife) → AreGroupsWithin (tick_at 0 (new_table cpus (length lives))) (map unsampled_group lives)
groups_within cpus lives slot below =
    let none : engine_group (map unsampled_group lives) slot ≡ unsampled_group (get_or lives slot root) = get_or-map unsampled_group lives slot root no_group (omega (arith, below, length-map lives unsampled_group)) in
    rw none (none_within 0 (time_sum (row_at (tick_at 0 (new_table cpus (length lives))) slot) irq_place))

-- A new engine for groups and triggers in range satisfies the invariant.
pub first_is : (cpus : ℕ) (lives : List GroupLife) (triggers : List TriggerSpec) → cpus ≤ 64 → length lives ≤ 1024 → AreTriggersWithin last_moment (length lives) triggers → IsEngine (first_engine cpus lives triggers)
first_is cpus lives triggers few_cpus few_groups within =
    let slots : length (map unsampled_group lives) ≡ length lives = length-map lives unsampled_group in
    let Within : TriggerWatch → Type 0 = λ watch. IsTriggerWithin last_moment (length lives) watch.spec in
    record {
      few_cpus = few_cpus;
      few_groups = omega (arith, slots, few_groups);
      few_watches = omega (arith, length-map triggers new_watch, within.few);
      sizes = rw slots (keeps_sizes.new cpus (length lives));
      early = omega arith;
      totals = groups_within cpus lives;
      watches = rw slots (All-map Within new_watch triggers within.each);
    }
