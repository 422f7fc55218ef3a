use Rattle.std.proofs.Common.{Some, ap, ◌∙◌}
use Rattle.psi_oomd_main.proofs.Idle.{idle_keeps}
use Rattle.psi_oomd_main.proofs.end_of.Goals as goal

pub returns-in-Ok-clause-words : goal.returns-in-Ok-clause-words
returns-in-Ok-clause-words g c =
    let prefix = rw c.deref.ensures.value at c.run.ensures.note_prefix in
    let whole = rw c.deref.ensures.value at c.run.ensures.note in
    let runs = rw c.deref.ensures.value at c.run.ensures.runs in
    let unknown = rw c.deref.ensures.value at c.run.ensures.unknown in
    let complete = rw c.deref.ensures.value at c.run.ensures.complete in
    let prints = rw c.deref.ensures.value at c.run.ensures.prints in
    let made = rw c.deref.ensures.value at c.run.ensures.made in
    let faulty = rw c.deref.ensures.value at c.run.ensures.faulty in
    let dropped = rw c.deref.ensures.value at c.run.ensures.dropped in
    let refuses = rw c.deref.ensures.value at c.run.ensures.refuses in
    let few = rw c.deref.ensures.value at c.run.ensures.reads in
    let order = rw c.deref.ensures.value at c.run.ensures.order in
    let stops = rw c.deref.ensures.value at c.run.ensures.stops in
    let unread = rw c.deref.ensures.value at c.run.ensures.unread in
    let no_reads = rw c.deref.ensures.value at c.run.ensures.no_reads in
    rw c.in-Ok.is (
      c.run.result,
      record { code = c.exit_code.ensures; prefix = prefix; whole = whole },
      record {
        kept = λ command is. record {
          runs = runs command is;
          complete = complete command is;
          prints = λ name drop_in same. prints name drop_in (is ∙ ap (λ x. Some x) same);
          made = made command is;
          faulty = faulty command is;
          dropped = dropped command is;
          refuses = refuses command is;
          reads_few = few command is;
          order = order command is;
          stops = stops command is;
        };
        unknown = unknown;
        idle = λ none. record { bytes = unread none; log = no_reads none; keeps = idle_keeps _ _ c.run.result c.run.ensures.quiet (unknown none) };
      },
    )
