use Rattle.std.specs.Prelude.{Some, None}
use Rattle.pressure_text.proofs.Taken.{stripped}
use Rattle.pressure_text.proofs.read.Rest.skip.Goals as goal

pub returns-in-Some : goal.returns-in-Some
returns-in-Some c =
    rw (← c.self.view_is) (stripped c.args.text.now c.self.inside.bytes.now (Some c.in-Some.bytes) c.in-Some.ensures.cases)

pub returns-in-None : goal.returns-in-None
returns-in-None c =
    rw (← c.self.view_is) (stripped c.args.text.now c.self.inside.bytes.now None c.in-None.ensures.cases)
