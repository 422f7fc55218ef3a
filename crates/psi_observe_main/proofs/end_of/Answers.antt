use Rattle.psi_observe_main.proofs.Idle.{idle_keeps}
use Rattle.psi_observe_main.proofs.end_of.Goals as goal

pub returns-in-Ok-clause-words : goal.returns-in-Ok-clause-words
returns-in-Ok-clause-words g c =
    let prefix = rw c.deref.ensures.value at c.observe.ensures.note_prefix in
    let whole = rw c.deref.ensures.value at c.observe.ensures.note in
    let runs = rw c.deref.ensures.value at c.observe.ensures.runs in
    let usage = rw c.deref.ensures.value at c.observe.ensures.usage in
    let complete = rw c.deref.ensures.value at c.observe.ensures.complete in
    let many = rw c.deref.ensures.value at c.observe.ensures.many in
    let refuses = rw c.deref.ensures.value at c.observe.ensures.refuses in
    let order = rw c.deref.ensures.value at c.observe.ensures.order in
    let stops = rw c.deref.ensures.value at c.observe.ensures.stops in
    let unread = rw c.deref.ensures.value at c.observe.ensures.unread in
    let no_reads = rw c.deref.ensures.value at c.observe.ensures.no_reads in
    rw c.in-Ok.is (
      c.observe.result,
      record { code = c.exit_code.ensures; prefix = prefix; whole = whole },
      record {
        kept = λ request is. record {
          runs = runs request is;
          complete = complete request is;
          many = many request is;
          refuses = refuses request is;
          reads_few = c.observe.ensures.reads;
          order = order request is;
          stops = stops request is;
        };
        usage = usage;
        idle = λ none. record { bytes = unread none; log = no_reads none; keeps = idle_keeps _ _ c.observe.result c.observe.ensures.quiet (usage.1 none) };
      },
    )
