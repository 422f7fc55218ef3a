use Rattle.rules_file.proofs.rules.read_rules.Goals as goal

pub returns-in-Err-clause-answer : goal.returns-in-Err-clause-answer
returns-in-Err-clause-answer g c =
    let answer = rw c.name_of.ensures at c.in-Err.ensures.answer in
    rw c.in-Some.is answer

pub returns-in-Err-clause-stops : goal.returns-in-Err-clause-stops
returns-in-Err-clause-stops g c =
    let stops = rw c.name_of.ensures at c.in-Err.ensures.stops in
    rw c.in-Some.is stops

pub returns-in-Ok-clause-order : goal.returns-in-Ok-clause-order
returns-in-Ok-clause-order g c =
    let order = rw c.name_of.ensures at c.in-Ok.ensures.order in
    rw c.in-Some.is order

pub returns-in-Err-clause-order : goal.returns-in-Err-clause-order
returns-in-Err-clause-order g c =
    let order = rw c.name_of.ensures at c.in-Err.ensures.order in
    rw c.in-Some.is order
