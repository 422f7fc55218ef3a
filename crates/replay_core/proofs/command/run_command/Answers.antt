use Rattle.std.proofs.Common.{refl}
use Rattle.run_spec.specs.declared.command.Command.TheVariants.{Gen, Stress}
use Rattle.run_spec.specs.Generated.{gen_text, generated}
use Rattle.run_spec.specs.Outputs.{timing_of, stress_options}
use Rattle.run_spec.specs.Replay.{stress_text}
use Rattle.commands.proofs.GeneratedLaws.{runs_generated, takes_generated}
use Rattle.run_outcomes.proofs.RunOrder.{written_order}
use Rattle.run_outcomes.proofs.RunStops.{written_stops}
use Rattle.replay_core.proofs.command.run_command.Goals as goal

pub returns-in-Gen-clause-runs : goal.returns-in-Gen-clause-runs
returns-in-Gen-clause-runs g c =
    let shape = c.in-Gen.shape in
    let files = g.S.Shelf.holds c.args.shelf.now in
    let is = rw c.in-Gen.is at c.requires.ranges in
    rw c.in-Gen.is
    (runs_generated (Gen shape) files _ _ _ _ (generated shape) (gen_text shape) c.write_generated.result refl refl refl
    (takes_generated (Gen shape) shape files refl refl refl is) (refl, refl) refl c.write_generated.ensures.writes)

pub returns-in-Gen-clause-stops : goal.returns-in-Gen-clause-stops
returns-in-Gen-clause-stops g c =
    rw c.in-Gen.is (written_stops (Gen c.in-Gen.shape) (g.S.Shelf.holds c.args.shelf.now) _ _ _ _ _ _ _ c.write_generated.result c.write_generated.ensures.writes)

pub returns-in-Stress-clause-runs : goal.returns-in-Stress-clause-runs
returns-in-Stress-clause-runs g c =
    let shape = c.in-Stress.shape in
    let workers = c.in-Stress.workers in
    let files = g.S.Shelf.holds c.args.shelf.now in
    let is = rw c.in-Stress.is at c.requires.ranges in
    rw c.in-Stress.is
    (runs_generated (Stress shape workers) files _ _ _ _ (generated shape) (stress_text (generated shape) (timing_of (stress_options workers))) c.write_stress.result refl refl refl
    (takes_generated (Stress shape workers) shape files refl refl refl is.0) (refl, refl) refl c.write_stress.ensures.writes)

pub returns-in-Stress-clause-stops : goal.returns-in-Stress-clause-stops
returns-in-Stress-clause-stops g c =
    rw c.in-Stress.is (written_stops (Stress c.in-Stress.shape c.in-Stress.workers) (g.S.Shelf.holds c.args.shelf.now) _ _ _ _ _ _ _ c.write_stress.result c.write_stress.ensures.writes)

pub returns-in-Gen-clause-order : goal.returns-in-Gen-clause-order
returns-in-Gen-clause-order g c =
    rw c.in-Gen.is (written_order (Gen c.in-Gen.shape) (g.S.Shelf.holds c.args.shelf.now) _ _ _ _ _ _ _ c.write_generated.result refl c.write_generated.ensures.writes)

pub returns-in-Stress-clause-order : goal.returns-in-Stress-clause-order
returns-in-Stress-clause-order g c =
    rw c.in-Stress.is (written_order (Stress c.in-Stress.shape c.in-Stress.workers) (g.S.Shelf.holds c.args.shelf.now) _ _ _ _ _ _ _ c.write_stress.result refl c.write_stress.ensures.writes)

pub returns-in-Stall-clause-order : goal.returns-in-Stall-clause-order
returns-in-Stall-clause-order g c = let order = rw c.name_of.ensures at c.run_stall.ensures.order in rw c.in-Stall.is order

pub returns-in-Check-clause-order : goal.returns-in-Check-clause-order
returns-in-Check-clause-order g c = let order = rw c.name_of-in-Check.ensures at c.run_check.ensures.order in rw c.in-Check.is order

pub returns-in-Replay-clause-order : goal.returns-in-Replay-clause-order
returns-in-Replay-clause-order g c = let order = rw c.name_of-in-Replay.ensures at c.run_replay.ensures.order in rw c.in-Replay.is order

pub returns-in-Import-clause-order : goal.returns-in-Import-clause-order
returns-in-Import-clause-order g c = let order = rw c.name_of-in-Import.ensures at c.run_import.ensures.order in rw c.in-Import.is order

pub returns-in-Rules-clause-order : goal.returns-in-Rules-clause-order
returns-in-Rules-clause-order g c = let order = rw c.name_of-in-Rules.ensures at c.run_rules.ensures.order in rw c.in-Rules.is order

pub returns-in-Whatif-clause-order : goal.returns-in-Whatif-clause-order
returns-in-Whatif-clause-order g c = let order = rw c.name_of-in-Whatif.ensures at c.run_whatif.ensures.order in rw c.in-Whatif.is order
