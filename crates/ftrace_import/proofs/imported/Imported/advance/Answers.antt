use Rattle.std.proofs.Common.{arith, refl, ◌+◌}
use Rattle.import_spec.specs.Import.{end_at}
use Rattle.ftrace_import.specs.Gathers.{reached_in}
use Rattle.ftrace_import.proofs.Lent.{end_lent, kept_lent, none_lent}
use Rattle.ftrace_import.proofs.imported.Imported.advance.Goals as goal

pub returns-then-at-count : goal.returns-then-at-count
returns-then-at-count c =
    let none = none_lent c.self.inside.gathering.kept.items (end_at (reached_in c.self.inside.gathering)) c.self.inside.at (grind arith) in
    rw (← c.self.view_is) (none, none)

pub returns-then-at-count-2 : goal.returns-then-at-count-2
returns-then-at-count-2 c =
    rw (← c.self.view_is, c.show_other-self-inside.ensures.result, c.show_other-self-inside.ensures.event)
    (end_lent c.self.inside.gathering.kept.items (end_at (reached_in c.self.inside.gathering)) c.self.inside.at (c.self.inside.at + 1) refl (grind arith))

pub returns : goal.returns
returns c =
    rw (← c.self.view_is, c.notify-self-inside.ensures.known)
    (kept_lent c.self.inside.gathering.kept.items (end_at (reached_in c.self.inside.gathering)) c.self.inside.at (c.self.inside.at + 1) c.index-kept.result.now refl (grind arith) c.index-kept.ensures)
