-- Proofs that a keeper (the player that stores events) satisfies the contract of a player, given
-- the contract of its table.
use Rattle.std.proofs.Common.{◌≡◌, ℕ, List, [], ◌∷◌, ◌++◌, ap, ◌∙◌}
use Rattle.std.specs.Prelude.{Ok}
use Rattle.psi_base.specs.declared.event.Event.{Event}
use Rattle.task_table.specs.Stands.{PlaysEvent, TableView}
use Rattle.task_table.proofs.Playing.{table_takes}
use Rattle.trace_player.specs.Playing.{PlayerTakes}
use Rattle.trace_file.specs.Reads.{HasKept}

-- If the table has played the event, and the event was stored, the keeper has taken it.
pub keeper_takes : (cpus : ℕ) (kept kept_now : List Event) (old new : TableView) (event : Event) (x : Unit {0}) → PlaysEvent {T = Unit {0}} old event new (Ok x) → kept_now ≡ kept ++ event ∷ []
    → PlayerTakes (HasKept cpus kept old.limits old.world) (HasKept cpus kept_now new.limits new.world) event (Ok x)
keeper_takes cpus kept kept_now old new event x plays more = λ limits events so.
    let takes = table_takes old new event (Ok x) plays limits events so.played in (
      takes.0,
      record { played = takes.1; kept_are = more ∙ ap (λ es. es ++ event ∷ []) so.kept_are; cpus_are = so.cpus_are },
      takes.2,
    )
