use Rattle.std.proofs.Common.{◌≡◌, rules, ap, ◌∙◌, sym, subst}
use Rattle.crossbeam_utils.specs.Seq.{cell_view}
use Rattle.observer_log.specs.Board.{ArePublished, note_of, as_driver, as_observer, after_known}
use Rattle.observer_log.specs.declared.board.View.TheVariants.{Shown, Seen, Driver, Observer}
use Rattle.observer_log.proofs.BoardSteps.{compares, driver_heard, driver_hears, is_driver, is_observer, notes, observer_heard, observer_hears}
use Rattle.observer_log.proofs.board.Board.tell.Goals as goal

pub split_pass-seen-requires : goal.split_pass-seen-requires
split_pass-seen-requires g c = (search rules, (search rules, (search rules, notes _ _)))

pub join_pass-requires : goal.join_pass-requires
join_pass-requires g c = (search rules, (search rules, (search rules, driver_hears _ _ _ _ _ _ c.driver.invariant (c.split_pass-seen.ensures.given.1 ∙ ap note_of c.pass.invariant))))

pub load_as-requires : goal.load_as-requires
load_as-requires g c =
    let seen = c.split_pass-seen.ensures.given.1 ∙ ap note_of c.pass.invariant in
    let heard = driver_heard _ _ _ _ _ c.join_pass.ensures.1 c.driver.invariant seen in
    (search rules, (search rules, (search rules, compares _ _ _ heard)))

pub split_pass-shown-requires : goal.split_pass-shown-requires
split_pass-shown-requires g c = (search rules, (search rules, (search rules, notes _ _)))

pub join_pass-requires-2 : goal.join_pass-requires-2
join_pass-requires-2 g c =
    let seen = c.split_pass-seen.ensures.given.1 ∙ ap note_of c.pass.invariant in
    let heard = driver_heard _ _ _ _ _ c.join_pass.ensures.1 c.driver.invariant seen in
    let shown = c.split_pass-shown.ensures.given.1 ∙ ap note_of ((c.load_as.ensures.rule _ heard).0 ∙ heard) in
    (search rules, (search rules, (search rules, observer_hears _ _ _ _ _ _ (c.split_pass-seen.ensures.kept.1 ∙ c.pass.invariant) shown)))
