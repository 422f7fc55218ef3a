use Rattle.std.proofs.Common.{◌≡◌, [], refl, subst, sym, Some, None}
use Rattle.std.specs.Prelude.{Ok, Err, Result}
use Rattle.std.proofs.lemmas.List.{append-nil}
use Rattle.import_spec.specs.Events.{LineEvents}
use Rattle.import_spec.specs.Marked.{read_line}
use Rattle.import_spec.specs.declared.cause.ImportCause.{ImportCause}
use Rattle.ftrace_import.specs.Deeds.{events_by}
use Rattle.ftrace_import.specs.Gathers.{TakesLine, reached_in}
use Rattle.ftrace_import.proofs.Gathered.{take_bad, take_none, take_known}
use Rattle.ftrace_import.proofs.Sights.{line_seen}
use Rattle.ftrace_import.proofs.taking.take_line.Goals as goal

pub take_sighting-requires-clause-seen : goal.take_sighting-requires-clause-seen
take_sighting-requires-clause-seen c =
    let is : read_line c.args.line.now ≡ Ok (Some c.in-Ok-Some.sighting) = cc in
    line_seen c.args.line.now c.in-Ok-Some.sighting is

pub returns-in-Ok-Some : goal.returns-in-Ok-Some
returns-in-Ok-Some c =
    let is : read_line c.args.line.now ≡ Ok (Some c.in-Ok-Some.sighting) = cc in
    subst (λ (r : Result LineEvents ImportCause). TakesLine r c.args.g.now c.take_sighting.new.g c.take_sighting.result) (sym (take_known c.args.g.now.cpus (reached_in c.args.g.now) c.args.line.now c.in-Ok-Some.sighting (sym is))) c.take_sighting.ensures

pub returns-in-Ok-None : goal.returns-in-Ok-None
returns-in-Ok-None c =
    let is : read_line c.args.line.now ≡ Ok None = cc in
    record {
      suffix = record { events = []; reached = reached_in c.args.g.now };
      is = take_none c.args.g.now.cpus (reached_in c.args.g.now) c.args.line.now (sym is);
      kept = sym (append-nil (events_by c.args.g.now.kept.items));
      reached = refl;
      cpus = refl;
      so = c.requires;
    }

pub returns-in-Err : goal.returns-in-Err
returns-in-Err c =
    let is : read_line c.args.line.now ≡ Err c.in-Err.cause = cc in
    take_bad c.args.g.now.cpus (reached_in c.args.g.now) c.args.line.now c.in-Err.cause (sym is)
