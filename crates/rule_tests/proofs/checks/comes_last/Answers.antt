use Rattle.std.proofs.Common.{◌≡◌, ◌∙◌, sym, true}
use Rattle.std.specs.Ordering.{is_lt, nat_cmp}
use Rattle.std.specs.Cmp.Lexicographic.{slice_cmp}
use Rattle.psi_spec.specs.Groups.{path_at}
use Rattle.rule_tests.proofs.Ascending.{ascend_more, less}
use Rattle.rule_tests.proofs.checks.comes_last.Goals as goal

pub returns-in-Some : goal.returns-in-Some
returns-in-Some c = λ is.
    let reading = c.args.reading.now in
    let last = c.in-Some.before.now in
    let test : is_lt (slice_cmp nat_cmp (path_at reading.lives last.slot.0) (path_at reading.lives c.args.group.now.slot.0)) ≡ true =
    rw (← c.path.ensures, ← c.path-in-Some.ensures) (sym c.lt.ensures ∙ is) in
    let groups = c.groups.ensures.groups in
    ascend_more reading.lives reading.seen.groups last c.args.group.now c.groups.ensures.within.order
    (rw groups at (c.in-Some.ensures.item.3.1 last)) (less _ test)
