-- A test of an optional value.
use Rattle.std.specs.Prelude.{Option, None, Some, Bool, false}

-- Returns whether an optional value is present and satisfies `test`.
abbrev pub is_some_and : {A : Type 0} → Option A → (A → Bool) → Bool
is_some_and None test = false
is_some_and (Some a) test = test a
