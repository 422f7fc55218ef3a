-- Defines the invariant of a trigger: bounds on the numbers in its state.
use Rattle.std.specs.Prelude.{ℕ, ◌≤◌, Option, IfSome}
use Rattle.psi_spec.specs.Within.{last_moment}

-- `IsTrigger size growth last_event`: the length `size` (ns) of the window is between 0.5 s and 10
-- s. The growth (ns) in the previous window and the time (ns) of the last signal are at most
-- `last_moment`, the latest time that a trace can have.
pub record IsTrigger (size growth : ℕ) (last_event : Option ℕ) : Type 0 where
  pub long : 500000000 ≤ size
  pub short : size ≤ 10000000000
  pub previous : growth ≤ last_moment
  pub last : IfSome last_event (λ last. last ≤ last_moment)
