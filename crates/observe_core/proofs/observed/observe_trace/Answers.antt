use Rattle.std.proofs.Common.{◌∙◌, List, Some, ℕ, ap, refl, subst, sym}
use Rattle.run_spec.specs.Replay.{tick_count}
use Rattle.observer_log.specs.declared.entry.Entry.{Entry}
use Rattle.observer_log.specs.Entries.{AreOwn, list_of}
use Rattle.observe_spec.specs.Observed.{IsObservedText}
use Rattle.observe_spec.specs.Run.{options_on, timing_on}
use Rattle.observe_core.specs.Driving.{IsToBegin}
use Rattle.observe_core.specs.Printed.{printed}
use Rattle.observe_core.proofs.StartLaws.{begun, boards_are, counted_are, parts_are, reached_first, setting_of}
use Rattle.observe_core.proofs.TextLaws.{are_own, whole_text}
use Rattle.observe_core.proofs.TickLaws.{some_replay}
use Rattle.observe_core.proofs.observed.observe_trace.Goals as goal

pub make_observers-requires-clause-replay : goal.make_observers-requires-clause-replay
make_observers-requires-clause-replay g c =
    let planned = c.requires.planned in
    let path = c.args.request.now.path in
    let set = setting_of c.args.plans.now c.in_ok-replay.replay c.in_ok-board.board planned.0 path in
    some_replay set 0 c.in_ok-replay.replay
    (reached_first (options_on (Some path)) c.in_ok-replay.replay c.args.plans.now c.in_ok-board.board planned.0 c.args.version path refl c.in_ok-replay.ensures.plans planned.1 c.in_ok-replay.ensures.replay)

pub make_observers-requires-clause-rows : goal.make_observers-requires-clause-rows
make_observers-requires-clause-rows g c = c.in_ok-replay.ensures.rows

pub all_ticks-requires-clause-begin : goal.all_ticks-requires-clause-begin
all_ticks-requires-clause-begin g c κs within =
    let planned = c.requires.planned in
    let path = c.args.request.now.path in
    let set = setting_of c.args.plans.now c.in_ok-replay.replay c.in_ok-board.board planned.0 path in
    let begin =
    begun (options_on (Some path)) c.in_ok-replay.replay c.make_observers.new.replay c.args.plans.now c.in_ok-board.board planned.0 c.args.version path c.in_ok-observers.observers.items c.args.request.now.observers
    refl c.in_ok-replay.ensures.plans planned.1 c.in_ok-replay.ensures.replay c.in_ok-observers.ensures.same c.in_ok-observers.ensures.many c.in_ok-observers.ensures.new in
    let is : IsToBegin c.in_ok-board.board c.make_observers.new.replay c.in_ok-observers.observers.items = (set, refl, begin) in is

pub end_all-requires-clause-board : goal.end_all-requires-clause-board
end_all-requires-clause-board g c =
    let planned = c.requires.planned in
    let path = c.args.request.now.path in
    let set = setting_of c.args.plans.now c.in_ok-replay.replay c.in_ok-board.board planned.0 path in
    let begin =
    begun (options_on (Some path)) c.in_ok-replay.replay c.make_observers.new.replay c.args.plans.now c.in_ok-board.board planned.0 c.args.version path c.in_ok-observers.observers.items c.args.request.now.observers
    refl c.in_ok-replay.ensures.plans planned.1 c.in_ok-replay.ensures.replay c.in_ok-observers.ensures.same c.in_ok-observers.ensures.many c.in_ok-observers.ensures.new in
    let all = c.in_ok-observers-2.ensures.observed set refl begin in
    boards_are set (tick_count set.trace set.timing) c.in_ok-observers-2.observers.items all

pub end_all-requires-clause-parts : goal.end_all-requires-clause-parts
end_all-requires-clause-parts g c =
    let planned = c.requires.planned in
    let path = c.args.request.now.path in
    let set = setting_of c.args.plans.now c.in_ok-replay.replay c.in_ok-board.board planned.0 path in
    let begin =
    begun (options_on (Some path)) c.in_ok-replay.replay c.make_observers.new.replay c.args.plans.now c.in_ok-board.board planned.0 c.args.version path c.in_ok-observers.observers.items c.args.request.now.observers
    refl c.in_ok-replay.ensures.plans planned.1 c.in_ok-replay.ensures.replay c.in_ok-observers.ensures.same c.in_ok-observers.ensures.many c.in_ok-observers.ensures.new in
    let all = c.in_ok-observers-2.ensures.observed set refl begin in
    parts_are set (tick_count set.trace set.timing) c.in_ok-observers-2.observers.items all

pub end_all-requires-clause-counted : goal.end_all-requires-clause-counted
end_all-requires-clause-counted g c =
    let planned = c.requires.planned in
    let path = c.args.request.now.path in
    let set = setting_of c.args.plans.now c.in_ok-replay.replay c.in_ok-board.board planned.0 path in
    let begin =
    begun (options_on (Some path)) c.in_ok-replay.replay c.make_observers.new.replay c.args.plans.now c.in_ok-board.board planned.0 c.args.version path c.in_ok-observers.observers.items c.args.request.now.observers
    refl c.in_ok-replay.ensures.plans planned.1 c.in_ok-replay.ensures.replay c.in_ok-observers.ensures.same c.in_ok-observers.ensures.many c.in_ok-observers.ensures.new in
    let all = c.in_ok-observers-2.ensures.observed set refl begin in
    counted_are set (tick_count set.trace set.timing) c.in_ok-observers-2.observers.items all

pub ordered-requires-clause-own : goal.ordered-requires-clause-own
ordered-requires-clause-own g c =
    let planned = c.requires.planned in
    let path = c.args.request.now.path in
    let set = setting_of c.args.plans.now c.in_ok-replay.replay c.in_ok-board.board planned.0 path in
    let begin =
    begun (options_on (Some path)) c.in_ok-replay.replay c.make_observers.new.replay c.args.plans.now c.in_ok-board.board planned.0 c.args.version path c.in_ok-observers.observers.items c.args.request.now.observers
    refl c.in_ok-replay.ensures.plans planned.1 c.in_ok-replay.ensures.replay c.in_ok-observers.ensures.same c.in_ok-observers.ensures.many c.in_ok-observers.ensures.new in
    let all = c.in_ok-observers-2.ensures.observed set refl begin in
    let lists = c.deref.ensures.value ∙ c.in_ok-ended.ensures.own in
    subst AreOwn (sym lists) (are_own set (tick_count set.trace set.timing) c.in_ok-observers-2.observers.items all)

-- the printed text is a text of each trace that the plans represent
pub returns-clause-observed : goal.returns-clause-observed
returns-clause-observed g c = λ trace planned.
    let path = c.args.request.now.path in
    let set = setting_of c.args.plans.now c.in_ok-replay.replay c.in_ok-board.board trace path in
    let begin =
    begun (options_on (Some path)) c.in_ok-replay.replay c.make_observers.new.replay c.args.plans.now c.in_ok-board.board trace c.args.version path c.in_ok-observers.observers.items c.args.request.now.observers
    refl c.in_ok-replay.ensures.plans planned c.in_ok-replay.ensures.replay c.in_ok-observers.ensures.same c.in_ok-observers.ensures.many c.in_ok-observers.ensures.new in
    let all = c.in_ok-observers-2.ensures.observed set refl begin in
    let shown = c.in_ok-observers-2.ensures.shown set refl begin in
    let lists = c.deref.ensures.value ∙ c.in_ok-ended.ensures.own in
    let many = c.in_ok-observers-2.ensures.many ∙ c.in_ok-observers.ensures.many in
    let entries = c.in_ok-entries.entries.items in
    let states = c.in_ok-ended.ended.states.items in
    subst (λ (n : ℕ). IsObservedText trace (timing_on path) path n (printed entries states c.args.plans.now.finish)) many
    (whole_text set c.in_ok-observers-2.observers.items entries c.all_ticks.new.driver.states states planned.planned all shown
    (λ observer. c.in_ok-entries.ensures.own observer ∙ ap (λ (own : List (List Entry)). list_of own observer) lists) c.in_ok-ended.ensures.last c.in_ok-ended.ensures.many)
