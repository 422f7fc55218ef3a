use Rattle.std.proofs.Common.{◌≡◌}
use Rattle.run_spec.specs.Run.{ReadsFiles}
use Rattle.run_spec.specs.declared.command.Command.TheVariants.{Import, Replay, Rules, Whatif}
use Rattle.commands.proofs.GeneratedLaws.{makes}
use Rattle.run_outcomes.proofs.RunOrder.{stopped_order}
use Rattle.replay_core.proofs.Pieces.{prefix_of_puts}
use Rattle.replay_core.proofs.RunEnds.{completes, faults, headlined, headlined_alone, imports, refuses}
use Rattle.replay_core.proofs.RulesEnds.{drop_faults, outgrown, prints, prints_all, supposed, unwatched}
use Rattle.replay_core.proofs.entry.run.Goals as goal

pub returns-in-Ok-clause-headline : goal.returns-in-Ok-clause-headline
returns-in-Ok-clause-headline g c = λ name bytes options rules is shows bytes_read done.
    let same : c.in-Ok.command ≡ Replay name options = cc (c.in-Ok.ensures.exact, is) in
    let runs = rw (same, done) at c.run_buffered-status.ensures.runs in
    headlined name options (g.S.Shelf.holds c.args.shelf.now) _ _ _ _ runs bytes rules shows bytes_read

pub returns-in-Ok-clause-alone : goal.returns-in-Ok-clause-alone
returns-in-Ok-clause-alone g c = λ name bytes options rules is none shows bytes_read done.
    let same : c.in-Ok.command ≡ Replay name options = cc (c.in-Ok.ensures.exact, is) in
    let runs = rw (same, done) at c.run_buffered-status.ensures.runs in
    headlined_alone name options (g.S.Shelf.holds c.args.shelf.now) _ _ _ _ runs bytes rules none shows bytes_read

pub returns-in-Ok-clause-imported : goal.returns-in-Ok-clause-imported
returns-in-Ok-clause-imported g c = λ name bytes cpus is shows done.
    let same : c.in-Ok.command ≡ Import name cpus = cc (c.in-Ok.ensures.exact, is) in
    let runs = rw (same, done) at c.run_buffered-status.ensures.runs in
    imports name cpus (g.S.Shelf.holds c.args.shelf.now) _ _ _ _ runs bytes shows

pub returns-in-Ok-clause-printed : goal.returns-in-Ok-clause-printed
returns-in-Ok-clause-printed g c = λ name drop_in rules is shows done.
    let same : c.in-Ok.command ≡ Rules name drop_in = cc (c.in-Ok.ensures.exact, is) in
    let runs = rw (same, done) at c.run_buffered-status.ensures.runs in
    prints name drop_in (g.S.Shelf.holds c.args.shelf.now) _ _ _ _ runs rules shows

pub returns-in-Ok-clause-prints : goal.returns-in-Ok-clause-prints
returns-in-Ok-clause-prints g c = λ name drop_in is.
    let same : c.in-Ok.command ≡ Rules name drop_in = cc (c.in-Ok.ensures.exact, is) in
    let runs = rw same at c.run_buffered-status.ensures.runs in
    prints_all name drop_in (g.S.Shelf.holds c.args.shelf.now) _ _ _ _ c.run_buffered-status.result runs

pub returns-in-Ok-clause-supposed : goal.returns-in-Ok-clause-supposed
returns-in-Ok-clause-supposed g c = λ name bytes options rules is shows bytes_read done.
    let same : c.in-Ok.command ≡ Whatif name options = cc (c.in-Ok.ensures.exact, is) in
    let runs = rw (same, done) at c.run_buffered-status.ensures.runs in
    supposed name options (g.S.Shelf.holds c.args.shelf.now) _ _ _ _ runs bytes rules (unwatched _ name options is) shows bytes_read

pub returns-in-Ok-clause-outgrown : goal.returns-in-Ok-clause-outgrown
returns-in-Ok-clause-outgrown g c = λ name bytes options rules events is shows bytes_read large.
    let same : c.in-Ok.command ≡ Whatif name options = cc (c.in-Ok.ensures.exact, is) in
    let runs = rw (same, large) at c.run_buffered-status.ensures.runs in
    outgrown name options (g.S.Shelf.holds c.args.shelf.now) _ _ _ _ events runs bytes rules shows bytes_read

pub returns-in-Ok-clause-dropped : goal.returns-in-Ok-clause-dropped
returns-in-Ok-clause-dropped g c = λ command is.
    let same : c.in-Ok.command ≡ command = cc (c.in-Ok.ensures.exact, is) in
    rw (← same) (drop_faults c.in-Ok.command (g.S.Shelf.holds c.args.shelf.now) _ _ _ _ _ _ c.run_buffered-status.result c.run_buffered-status.ensures.runs c.run_buffered-status.ensures.order)

pub returns-in-Ok-clause-complete : goal.returns-in-Ok-clause-complete
returns-in-Ok-clause-complete g c = λ command is.
    let same : c.in-Ok.command ≡ command = cc (c.in-Ok.ensures.exact, is) in
    rw (← same) (completes c.in-Ok.command (g.S.Shelf.holds c.args.shelf.now) _ _ _ _ c.run_buffered-status.result c.run_buffered-status.ensures.runs)

pub returns-in-Ok-clause-faulty : goal.returns-in-Ok-clause-faulty
returns-in-Ok-clause-faulty g c = λ command is.
    let same : c.in-Ok.command ≡ command = cc (c.in-Ok.ensures.exact, is) in
    rw (← same) (faults c.in-Ok.command (g.S.Shelf.holds c.args.shelf.now) _ _ _ _ _ _ c.run_buffered-status.result c.run_buffered-status.ensures.runs c.run_buffered-status.ensures.order)

pub returns-in-Ok-clause-refuses : goal.returns-in-Ok-clause-refuses
returns-in-Ok-clause-refuses g c = λ command is.
    let same : c.in-Ok.command ≡ command = cc (c.in-Ok.ensures.exact, is) in
    rw (← same) (refuses c.in-Ok.command (g.S.Shelf.holds c.args.shelf.now) _ _ _ _ c.run_buffered-status.result c.run_buffered-status.ensures.runs)

pub returns-in-Ok-clause-made : goal.returns-in-Ok-clause-made
returns-in-Ok-clause-made g c = λ command is unread.
    let same : c.in-Ok.command ≡ command = cc (c.in-Ok.ensures.exact, is) in
    let none : ReadsFiles c.in-Ok.command → ⊥ = rw same unread in
    makes c.in-Ok.command (g.S.Shelf.holds c.args.shelf.now) _ _ _ _ c.run_buffered-status.result c.run_buffered-status.ensures.runs none

pub returns-in-Ok-clause-reads : goal.returns-in-Ok-clause-reads
returns-in-Ok-clause-reads g c = λ command is.
    let same : c.in-Ok.command ≡ command = cc (c.in-Ok.ensures.exact, is) in
    rw (← same) c.run_buffered-status.ensures.reads

pub returns-in-Ok-clause-stops : goal.returns-in-Ok-clause-stops
returns-in-Ok-clause-stops g c = λ command is.
    let same : c.in-Ok.command ≡ command = cc (c.in-Ok.ensures.exact, is) in
    rw (← same) c.run_buffered-status.ensures.stops

pub returns-in-Ok-clause-note_prefix : goal.returns-in-Ok-clause-note_prefix
returns-in-Ok-clause-note_prefix g c = rw c.in-Ok.ensures.exact (prefix_of_puts _ _ _ _ c.put_status.ensures.bytes)

pub returns-in-Ok-clause-order : goal.returns-in-Ok-clause-order
returns-in-Ok-clause-order g c = λ command is.
    let same : c.in-Ok.command ≡ command = cc (c.in-Ok.ensures.exact, is) in
    rw (← same) c.run_buffered-status.ensures.order

pub returns-in-Err-NoMemory-clause-order : goal.returns-in-Err-NoMemory-clause-order
returns-in-Err-NoMemory-clause-order g c = λ command is. stopped_order command (g.S.Shelf.holds c.args.shelf.now) _
