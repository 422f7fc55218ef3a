use Rattle.std.proofs.Common.{◌≡◌, get_or, set, arith, refl, ap, ◌∙◌, below_more, get_or-set_other, get_or-set_same}
use Rattle.std.proofs.lemmas.List.{get_or_default}
use Rattle.tick_engine.specs.Step.{no_watch, watch_signals, watch_stepped}
use Rattle.tick_engine.proofs.StepLaws.{fired_more, map_all}
use Rattle.tick_engine.proofs.watch.step_all.Goals as goal

pub step-has_signalled-requires-clause-spec : goal.step-has_signalled-requires-clause-spec
step-has_signalled-requires-clause-spec c =
    let i = c.watches.number in
    let same : get_or c.watches.watches i c.index-watches-number.result ≡ get_or c.args.watches.now i no_watch =
    get_or_default c.watches.watches i c.index-watches-number.result no_watch (omega arith) ∙ c.watches.invariant.left i (omega arith) in
    rw same (c.requires.watches i no_watch (omega arith))

pub watches-preserved : goal.watches-preserved
watches-preserved c =
    let i = c.watches.number in
    let same : get_or c.watches.watches i c.index-watches-number.result ≡ get_or c.args.watches.now i no_watch =
    get_or_default c.watches.watches i c.index-watches-number.result no_watch (omega arith) ∙ c.watches.invariant.left i (omega arith) in
    let here : get_or (set c.watches.watches i c.step-has_signalled.new.self) i no_watch ≡ watch_stepped c.args.groups.now c.args.now (get_or c.args.watches.now i no_watch) =
    get_or-set_same c.watches.watches i c.step-has_signalled.new.self no_watch (omega arith) ∙ c.step-has_signalled.ensures.state ∙ ap (watch_stepped c.args.groups.now c.args.now) same in
    let signals : c.step-has_signalled.result ≡ watch_signals c.args.groups.now c.args.now (get_or c.args.watches.now i no_watch) = c.step-has_signalled.ensures.signals ∙ ap (watch_signals c.args.groups.now c.args.now) same in
    record {
      done = below_more _ i (λ k below. get_or-set_other c.watches.watches i k c.step-has_signalled.new.self no_watch (omega arith) ∙ c.watches.invariant.done k below) here;
      left = λ k above. get_or-set_other c.watches.watches i k c.step-has_signalled.new.self no_watch (omega arith) ∙ c.watches.invariant.left k (omega arith);
      fired = rw (c.add_where.ensures.items, c.watches.invariant.fired, signals, fired_more c.args.groups.now c.args.now c.args.watches.now i) refl;
      few = omega (arith, c.watches.invariant.few, c.add_where.ensures.few);
      room = omega (arith, c.watches.invariant.room, c.add_where.ensures.room);
    }

pub returns-clause-watches : goal.returns-clause-watches
returns-clause-watches c = map_all (watch_stepped c.args.groups.now c.args.now) c.args.watches.now c.watches.watches no_watch no_watch (omega arith) (λ i below. c.watches.invariant.done i (omega arith))
