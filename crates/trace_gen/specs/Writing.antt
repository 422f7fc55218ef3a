-- Defines the result of writing a generated text to a sink: success, a failed write, or a lack of
-- memory before the first write.
use Rattle.std.specs.Prelude.{◌≡◌, ℕ, List, Option, Result, Ok, Err}
use Rattle.std.specs.Io.KnownBytes.{Appends, Keeps}
use Rattle.outside.specs.Outside.{AppendsPrefix, Increased}
use Rattle.psi_base.specs.declared.event.Fault.{Fault}
use Rattle.psi_base.specs.declared.event.Fault.TheVariants.{NoMemory, Refused}
use Rattle.run_spec.specs.declared.command.Shape.{Shape}

-- `shape_by seed cpus groups events`: the shape with these numbers.
abbrev pub shape_by : ℕ → ℕ → ℕ → ℕ → Shape
shape_by seed cpus groups events =
    record { seed = seed; cpus = cpus; groups = groups; events = events }

-- `Misses text before now had has fault`: the text wasn't written completely. `before` and `now`
-- are the numbers of failed writes before and after the call, and `had` and `has` are the bytes of
-- the sink. After a failed write (`Refused`), a prefix of the text was written, and the number of
-- failed writes increased. After `NoMemory`, nothing was written, and that number is unchanged.
abbrev pub Misses : {E : Type 0} → List ℕ → ℕ → ℕ → Option (List ℕ) → Option (List ℕ) → Fault E
    → Type 0
Misses text before now had has (Refused failed) = AppendsPrefix had has text × Increased before now
Misses text before now had has (NoMemory _) = Keeps had has × (now ≡ before)

-- `WritesWhole text before now had has result`: either the whole text was written and the number of
-- failed writes is unchanged, or `result` is a fault (`Misses`). `before` and `now` are the numbers
-- of failed writes before and after the call, and `had` and `has` are the bytes of the sink.
abbrev pub WritesWhole :
    {T E : Type 0} → List ℕ → ℕ → ℕ → Option (List ℕ) → Option (List ℕ) → Result T (Fault E) → Type 0
WritesWhole text before now had has (Ok done) = Appends had has text × (now ≡ before)
WritesWhole text before now had has (Err fault) = Misses text before now had has fault
