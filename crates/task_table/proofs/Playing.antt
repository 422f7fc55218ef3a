-- Proves that the table is a player, from the contracts of its methods.
use Rattle.std.proofs.Common.{◌≡◌, List, ◌+◌, [], ◌∷◌, ◌++◌, length, ap, ◌∙◌, sym, arith, subst, None, Some}
use Rattle.std.specs.Prelude.{Result, Ok, Err}
use Rattle.psi_base.specs.declared.event.Event.{Event}
use Rattle.psi_base.specs.declared.event.Cause.{Cause}
use Rattle.psi_base.specs.declared.event.Fault.{Fault}
use Rattle.psi_base.specs.declared.event.Fault.TheVariants as fault
use Rattle.psi_spec.specs.World.{World, after, after_event, after_from, first_world}
use Rattle.psi_spec.specs.Refusal.{cause_of}
use Rattle.task_table.specs.Stands.{PlaysEvent, TableView}
use Rattle.trace_player.specs.Playing.{IsPlayed, PlayerTakes}
use Rattle.psi_spec.proofs.Following.{after_from-append}

lines_from : (w : World) (events : List Event) → (after_from w events).lines ≡ w.lines + length events
lines_from w [] = omega arith
lines_from w (event ∷ events) = omega (arith, lines_from (after_event w event) events)

-- The world after events has counted all events.
pub lines_of : (events : List Event) → (after events).lines ≡ length events
lines_of events = omega (arith, lines_from first_world events)

-- The contract of the table implies the contract of a player.
pub table_takes : (old new : TableView) (event : Event) (result : Result (Unit {0}) (Fault Cause)) → PlaysEvent old event new result → PlayerTakes (IsPlayed old.limits old.world) (IsPlayed new.limits new.world) event result
table_takes old new event (Ok x) plays = λ limits events played.
    let legal : cause_of limits old.world event ≡ None = subst (λ l. cause_of l old.world event ≡ None) played.limits_are plays.legal in
    let world : new.world ≡ after (events ++ event ∷ []) = plays.world ∙ ap (λ w. after_event w event) played.world ∙ sym (after_from-append first_world events (event ∷ [])) in
    let lines : new.world.lines ≡ old.world.lines + 1 = ap (λ (w : World). w.lines) plays.world in
    let before : old.world.lines ≡ length events = ap (λ (w : World). w.lines) played.world ∙ lines_of events in (
      subst (λ w. cause_of limits w event ≡ None) played.world legal,
      record { limits_are = plays.limits ∙ played.limits_are; world = world },
      omega (arith, plays.lines, lines, before),
    )
table_takes old new event (Err (fault.Refused why)) plays = λ limits events played.
    let is : cause_of limits old.world event ≡ Some why = subst (λ l. cause_of l old.world event ≡ Some why) played.limits_are plays.fault in
    subst (λ w. cause_of limits w event ≡ Some why) played.world is
table_takes old new event (Err (fault.NoMemory _)) plays = tt
