-- Proves properties of acts that happen at one time, in order, in a world that has room for them.
use Rattle.std.proofs.Common.{◌≡◌, ℕ, ◌+◌, ◌≤◌, ◌<◌, List, [], ◌∷◌, ◌++◌, refl, ◌∙◌, subst, sym, arith, Bool, true, false, None}
use Rattle.std.specs.Prelude.{◌||◌, if◌then◌else◌}
use Rattle.psi_base.specs.declared.event.Act.{Act}
use Rattle.psi_spec.specs.Refusal.{AreLegal, cause_of}
use Rattle.psi_spec.specs.World.{Limits, World, after_event, after_from, ends, is_trigger, is_pressure, events_at}
use Rattle.psi_counts.specs.Legal.{IsLegalWorld}
use Rattle.psi_counts.proofs.LegalLaws.{legal_kept}
use Rattle.task_table.proofs.CauseLaws.{first_of_act}
use Rattle.whatif_trace.proofs.Steps.{IsOfTasks, NoneAgainst, event_at}

-- A legal world that can take events at time `at` (ns), with room for `room` more events and the
-- end event.
pub record IsReady (limits : Limits) (at room : ℕ) (v : World) : Type 0 where
  pub world : IsLegalWorld limits v
  pub going : v.ended ≡ false
  pub forward : v.last ≤ at
  pub early : at ≤ limits.latest
  pub few : v.lines + room < 4000000

-- A world with room for some number of events has room for fewer events.
pub ready_for : (limits : Limits) (at room less : ℕ) (v : World) → less ≤ room → IsReady limits at room v → IsReady limits at less v
ready_for limits at room less v fewer ready = record {
  world = ready.world;
  going = ready.going;
  forward = ready.forward;
  early = ready.early;
  few = let few = ready.few in omega (arith, few, fewer);
}

-- The worlds `v` and `u` are equal except for their tasks, their numbers of lines and the times of
-- their last events.
pub record IsAside (v u : World) : Type 0 where
  pub groups : u.groups ≡ v.groups
  pub irqs : u.irqs ≡ v.irqs
  pub triggers : u.triggers ≡ v.triggers
  pub pressures : u.pressures ≡ v.pressures
  pub ended : u.ended ≡ v.ended

-- The acts are legal at time `at` (ns). The world after them has room for `room` more events, and
-- differs from `v` only in its tasks.
pub record Does (limits : Limits) (at room : ℕ) (v : World) (acts : List Act) : Type 0 where
  pub legal : AreLegal limits v (events_at at acts)
  pub ready : IsReady limits at room (after_from v (events_at at acts))
  pub aside : IsAside v (after_from v (events_at at acts))

pub aside_same : (v : World) → IsAside v v
aside_same v = record { groups = refl; irqs = refl; triggers = refl; pressures = refl; ended = refl }

pub aside_then : (v u x : World) → IsAside v u → IsAside u x → IsAside v x
aside_then v u x first second = record {
  groups = second.groups ∙ first.groups;
  irqs = second.irqs ∙ first.irqs;
  triggers = second.triggers ∙ first.triggers;
  pressures = second.pressures ∙ first.pressures;
  ended = second.ended ∙ first.ended;
}

pub does_none : (limits : Limits) (at room : ℕ) (v : World) → IsReady limits at room v → Does limits at room v []
does_none limits at room v ready = record { legal = tt; ready = ready; aside = aside_same v }

or_false : (b c : Bool) → c ≡ false → (b || c) ≡ b
or_false true c off = refl
or_false false c off = off

plus_none : (n : ℕ) (b : Bool) → b ≡ false → n + (if b then 1 else 0) ≡ n
plus_none n b off = rw off (omega arith)

-- An act is legal if no cause specific to the act rejects it.
pub does_one : (limits : Limits) (at room : ℕ) (v : World) (what : Act) → IsReady limits at (room + 1) v → IsOfTasks at what → NoneAgainst limits v at what → Does limits at room v (what ∷ [])
does_one limits at room v what ready of none =
    let few = ready.few in
    let legal : cause_of limits v (event_at at what) ≡ None = first_of_act limits v (event_at at what) ready.going ready.forward ready.early (omega (arith, few)) ∙ none in
    record {
      legal = (legal, tt);
      ready = record {
        world = legal_kept limits v (event_at at what) legal ready.world;
        going = or_false v.ended (ends what) of.goes_on ∙ ready.going;
        forward = omega arith;
        early = ready.early;
        few = omega (arith, few);
      };
      aside = record {
        groups = of.groups v.groups;
        irqs = of.irqs v.irqs;
        triggers = plus_none v.triggers (is_trigger what) of.plain;
        pressures = plus_none v.pressures (is_pressure what) of.on;
        ended = or_false v.ended (ends what) of.goes_on;
      };
    }

-- The world after two lists of acts is the world after the second list, starting from the world
-- after the first list.
pub after_both : (v : World) (at : ℕ) (xs ys : List Act) → after_from v (events_at at (xs ++ ys)) ≡ after_from (after_from v (events_at at xs)) (events_at at ys)
after_both v at [] ys = refl
after_both v at (x ∷ xs) ys = after_both (after_event v (event_at at x)) at xs ys

legal_both : (limits : Limits) (at : ℕ) (v : World) (xs ys : List Act) → AreLegal limits v (events_at at xs) → AreLegal limits (after_from v (events_at at xs)) (events_at at ys) → AreLegal limits v (events_at at (xs ++ ys))
legal_both limits at v [] ys prefix rest = rest
legal_both limits at v (x ∷ xs) ys prefix rest = (prefix.0, legal_both limits at (after_event v (event_at at x)) xs ys prefix.1 rest)

-- If two lists of acts are legal one after the other, the concatenated list is legal.
pub does_then : (limits : Limits) (at mid room : ℕ) (v : World) (xs ys : List Act) → Does limits at mid v xs → Does limits at room (after_from v (events_at at xs)) ys → Does limits at room v (xs ++ ys)
does_then limits at mid room v xs ys prefix rest =
    let same = sym (after_both v at xs ys) in
    record {
      legal = legal_both limits at v xs ys prefix.legal rest.legal;
      ready = subst (IsReady limits at room) same rest.ready;
      aside = subst (IsAside v) same (aside_then v (after_from v (events_at at xs)) (after_from (after_from v (events_at at xs)) (events_at at ys)) prefix.aside rest.aside);
    }
