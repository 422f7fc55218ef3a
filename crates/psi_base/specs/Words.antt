-- The words in traces and outputs: one for each way to leave a processor, each preference, resource
-- and level.
use Rattle.std.specs.Prelude.{ℕ, List, [], ◌∷◌, codes, if◌then◌else◌, Option, None, Some}
use Rattle.std.specs.Str.{bytes_eq}
use Rattle.psi_base.specs.declared.event.How.{How}
use Rattle.psi_base.specs.declared.event.How.TheVariants.{Preempt, Sleep, IoWait, Exit, Idle}
use Rattle.psi_base.specs.declared.event.Preference.{Preference}
use Rattle.psi_base.specs.declared.event.Preference.TheVariants.{Prefer, Plain, Avoid}
use Rattle.psi_base.specs.declared.event.Res.{Res}
use Rattle.psi_base.specs.declared.event.Res.TheVariants.{Io, Memory, Cpu}
use Rattle.psi_base.specs.declared.event.Level.{Level}
use Rattle.psi_base.specs.declared.event.Level.TheVariants.{SomeStalled, FullStalled}

-- The word for the way in which the running task leaves its processor.
abbrev pub how_word : How → List ℕ
how_word Preempt = codes "preempt"
how_word Sleep = codes "sleep"
how_word IoWait = codes "iowait"
how_word Exit = codes "exit"
how_word Idle = codes "idle"

-- The word for a kill preference.
abbrev pub preference_word : Preference → List ℕ
preference_word Prefer = codes "prefer"
preference_word Avoid = codes "avoid"
preference_word Plain = codes "none"

-- The word for a resource.
abbrev pub resource_word : Res → List ℕ
resource_word Io = codes "io"
resource_word Memory = codes "memory"
resource_word Cpu = codes "cpu"

-- The word for a level: some or full.
abbrev pub level_word : Level → List ℕ
level_word SomeStalled = codes "some"
level_word FullStalled = codes "full"

-- All ways in which a task leaves its processor.
abbrev pub hows : List How
hows = Preempt ∷ Sleep ∷ IoWait ∷ Exit ∷ Idle ∷ []

-- All kill preferences.
abbrev pub preferences : List Preference
preferences = Prefer ∷ Avoid ∷ Plain ∷ []

-- All resources.
abbrev pub resources : List Res
resources = Io ∷ Memory ∷ Cpu ∷ []

-- Both levels.
abbrev pub levels : List Level
levels = SomeStalled ∷ FullStalled ∷ []

-- `named name values text`: the first of the values for which the function `name` returns the word
-- `text`, or `None` if there is no such value.
abbrev pub named : {A : Type 0} → (A → List ℕ) → List A → List ℕ → Option A
named name [] text = None
named name (x ∷ xs) text = if bytes_eq text (name x) then Some x else named name xs text
