use Rattle.rules_file.proofs.RulesRuns.{base_alone, base_ends, over_answers}
use Rattle.rules_file.proofs.RulesStops.{base_stops, over_stops}
use Rattle.rules_file.proofs.RulesOrder.{base_alone_order, base_order, over_order}
use Rattle.rules_file.proofs.rules.read_joined.Goals as goal

pub returns-in-Err-clause-answer : goal.returns-in-Err-clause-answer
returns-in-Err-clause-answer g c = base_ends c.args.name.now _ (g.S.Shelf.holds c.args.shelf.now) _ _ _ c.in-Err.ensures.answer

pub returns-in-Some-clause-answer : goal.returns-in-Some-clause-answer
returns-in-Some-clause-answer g c =
    let put = rw (c.name_of.ensures, c.in-Ok.ensures.unchanged) at c.read_over.ensures.answer in
    rw c.in-Some.is (over_answers c.args.name.now c.in-Some.drop_in (g.S.Shelf.holds c.args.shelf.now) _ _ _ c.in-Ok.base c.read_over.result c.in-Ok.ensures.answer put)

pub returns-in-None-clause-answer : goal.returns-in-None-clause-answer
returns-in-None-clause-answer g c =
    let bytes_read = c.in-Ok.ensures.answer in
    rw c.in-None.is (base_alone c.args.name.now (g.S.Shelf.holds c.args.shelf.now) _ _ c.in-Ok.base bytes_read, bytes_read.stays)

pub returns-in-Err-clause-stops : goal.returns-in-Err-clause-stops
returns-in-Err-clause-stops g c = base_stops c.args.name.now _ (g.S.Shelf.holds c.args.shelf.now) _ _ _ _ _ c.in-Err.ensures.answer c.in-Err.ensures.within

pub returns-in-Some-clause-stops : goal.returns-in-Some-clause-stops
returns-in-Some-clause-stops g c =
    let put = rw (c.name_of.ensures, c.in-Ok.ensures.unchanged) at c.read_over.ensures.answer in
    let more = rw (c.name_of.ensures, c.in-Ok.ensures.unchanged) at c.read_over.ensures.within in
    rw c.in-Some.is (over_stops c.in-Ok.base c.args.name.now c.in-Some.drop_in (g.S.Shelf.holds c.args.shelf.now) _ _ _ _ _ c.read_over.result put c.in-Ok.ensures.within more)

pub returns-in-Err-clause-order : goal.returns-in-Err-clause-order
returns-in-Err-clause-order g c = base_order c.args.name.now _ (g.S.Shelf.holds c.args.shelf.now) _ _ _ _ _ c.in-Err.ensures.answer c.in-Err.ensures.order

pub returns-in-Some-clause-order : goal.returns-in-Some-clause-order
returns-in-Some-clause-order g c =
    let put = rw (c.name_of.ensures, c.in-Ok.ensures.unchanged) at c.read_over.ensures.answer in
    let reads = rw c.name_of.ensures at c.read_over.ensures.order in
    rw c.in-Some.is (over_order c.in-Ok.base c.args.name.now c.in-Some.drop_in (g.S.Shelf.holds c.args.shelf.now) _ _ _ _ _ _ c.read_over.result c.in-Ok.ensures.answer put c.in-Ok.ensures.order reads)

pub returns-in-None-clause-order : goal.returns-in-None-clause-order
returns-in-None-clause-order g c = rw c.in-None.is (base_alone_order c.args.name.now _ _ c.in-Ok.ensures.order)
