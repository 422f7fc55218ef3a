-- The states of a group on a processor: their numbers, and the state for a resource and a level.
use Rattle.std.specs.Prelude.{ℕ}
use Rattle.psi_base.specs.declared.event.State.{State}
use Rattle.psi_base.specs.declared.event.State.TheVariants.{IoSome, IoFull, MemSome, MemFull, CpuSome, CpuFull, Nonidle}
use Rattle.psi_base.specs.declared.event.Res.{Res}
use Rattle.psi_base.specs.declared.event.Res.TheVariants.{Io, Memory, Cpu}
use Rattle.psi_base.specs.declared.event.Level.{Level}
use Rattle.psi_base.specs.declared.event.Level.TheVariants.{SomeStalled, FullStalled}

-- The number of a state, from 0 to 6.
abbrev pub state_number : State → ℕ
state_number IoSome = 0
state_number IoFull = 1
state_number MemSome = 2
state_number MemFull = 3
state_number CpuSome = 4
state_number CpuFull = 5
state_number Nonidle = 6

-- The state whose time a line of a pressure file reports. The parameters are the resource of the
-- file and the level of the line (`some` or `full`).
abbrev pub state_of : Res → Level → State
state_of Io SomeStalled = IoSome
state_of Io FullStalled = IoFull
state_of Memory SomeStalled = MemSome
state_of Memory FullStalled = MemFull
state_of Cpu SomeStalled = CpuSome
state_of Cpu FullStalled = CpuFull
