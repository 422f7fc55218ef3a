-- The error that a call returns if memory runs out.
use Rattle.psi_base.specs.declared.text.NoMemory as token

-- The only value of the error type for out of memory.
abbrev pub no_memory : token.NoMemory
no_memory = record { refused = tt }
