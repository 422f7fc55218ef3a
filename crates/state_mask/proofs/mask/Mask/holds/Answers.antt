use Rattle.state_mask.proofs.Bits.{holds_known}
use Rattle.state_mask.proofs.mask.Mask.holds.Goals as goal

pub returns : goal.returns
returns c = rw (c.bit.ensures, ← c.self.view_is) (holds_known c.self.inside.0 c.args.state)
