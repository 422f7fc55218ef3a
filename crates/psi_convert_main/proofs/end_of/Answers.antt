use Rattle.psi_convert_main.proofs.end_of.Goals as goal

pub returns-in-Ok-clause-words : goal.returns-in-Ok-clause-words
returns-in-Ok-clause-words g c =
    let prefix = rw c.deref.ensures.value at c.run.ensures.note_prefix in
    let whole = rw c.deref.ensures.value at c.run.ensures.note in
    let converts = rw c.deref.ensures.value at c.run.ensures.events in
    let order = rw c.deref.ensures.value at c.run.ensures.order in
    let missed = rw c.deref.ensures.value at c.run.ensures.missed in
    let lacking = rw c.deref.ensures.value at c.run.ensures.lacking in
    let unknown = rw c.deref.ensures.value at c.run.ensures.unknown in
    let usage = rw c.deref.ensures.value at c.run.ensures.usage in
    rw c.in-Ok.is (
      c.run.result,
      record { code = c.exit_code.ensures; prefix = prefix; whole = whole },
      record {
        converts = converts;
        counts = c.run.ensures.counts;
        order = order;
        missed = missed;
        lacking = lacking;
        unknown = unknown;
        usage = usage;
        quiet = c.run.ensures.quiet;
        unread = c.run.ensures.unread;
      },
    )
