-- The kinds of fields of an event line: the values of each kind, their ranges, and their spelling.
-- Each value has exactly one spelling.
use Rattle.std.specs.Prelude.{◌≡◌, ◌⊎◌, ℕ, ◌≤◌, ◌<◌, ◌^◌, List, [], ◌∷◌, nat_lt, nat_le, ◌&&◌, Bool, true, false, if◌then◌else◌, codes, decimal, Option, None, Some, IfSome, option_map}
use Rattle.psi_base.specs.Number.{number_of}
use Rattle.psi_base.specs.Path.{is_path}
pub use Rattle.psi_base.specs.Words.{named, how_word, preference_word, resource_word, level_word, hows, preferences, resources, levels}
use Rattle.psi_base.specs.declared.event.Pid.{Pid}
use Rattle.psi_base.specs.declared.event.Cpu.{Cpu}
use Rattle.psi_base.specs.declared.event.How.{How}
use Rattle.psi_base.specs.declared.event.Preference.{Preference}
use Rattle.psi_base.specs.declared.event.Res.{Res}
use Rattle.psi_base.specs.declared.event.Level.{Level}

-- The kinds of fields of an event line: a task (pid), the next task or none, a processor, a group's
-- path, how a task leaves its processor, a group's kill preference, a size or count of at most
-- 2^60, any 64-bit number, a resource, a level, or whether a group's accounting is on.
pub data Kind : Type 0 where
  pid : Kind
  next : Kind
  cpu : Kind
  path : Kind
  how : Kind
  preference : Kind
  amount : Kind
  number : Kind
  resource : Kind
  level : Kind
  account : Kind

-- The type of a field's value, for each kind of field.
abbrev pub Value : Kind → Type 0
Value pid = Pid
Value next = Option Pid
Value cpu = Cpu
Value path = List ℕ
Value how = How
Value preference = Preference
Value amount = ℕ
Value number = ℕ
Value resource = Res
Value level = Level
Value account = Bool

-- The pid is between 1 and 2^32 - 1.
abbrev pub IsPid : Pid → Type 0
IsPid task = (0 < task.0) × (task.0 < 2 ^ 32)

-- The value is in the range that a trace allows for a field of kind `kind`.
abbrev pub InRange : (kind : Kind) → Value kind → Type 0
InRange pid task = IsPid task
InRange next task = IfSome task IsPid
InRange cpu processor = processor.0 < 2 ^ 32
InRange path bytes = is_path bytes ≡ true
InRange how leaving = Unit {0}
InRange preference which = Unit {0}
InRange amount n = n ≤ 2 ^ 60
InRange number n = n < 2 ^ 64
InRange resource which = Unit {0}
InRange level which = Unit {0}
InRange account on = Unit {0}

-- The spelling of the next task: its pid, or 0 for no task.
abbrev pub next_word : Option Pid → List ℕ
next_word None = codes "0"
next_word (Some task) = decimal task.0

-- The spelling of a group's accounting: `on` or `off`.
abbrev pub account_word : Bool → List ℕ
account_word true = codes "on"
account_word false = codes "off"

-- The text of a field's value in an event line, for a field of kind `kind`.
abbrev pub word : (kind : Kind) → Value kind → List ℕ
word pid task = decimal task.0
word next task = next_word task
word cpu processor = decimal processor.0
word path bytes = bytes
word how leaving = how_word leaving
word preference which = preference_word which
word amount n = decimal n
word number n = decimal n
word resource which = resource_word which
word level which = level_word which
word account on = account_word on

-- The list contains the element `x`.
abbrev pub IsAmong : {A : Type 0} → A → List A → Type 0
IsAmong x [] = ⊥
IsAmong x (y ∷ ys) = (x ≡ y) ⊎ IsAmong x ys

-- `accepted_if holds number`: the optional number if it is present and satisfies the condition
-- `holds`, or `None` if not.
abbrev pub accepted_if : (ℕ → Bool) → Option ℕ → Option ℕ
accepted_if holds None = None
accepted_if holds (Some n) = if holds n then Some n else None

-- Parses the word `text` as a decimal number that satisfies the condition `holds`. The result is
-- `None` if the word isn't such a number.
abbrev pub number_in : (ℕ → Bool) → List ℕ → Option ℕ
number_in holds text = accepted_if holds (number_of text)

-- The task with pid `n`, or `None` for n = 0.
abbrev pub task_or_none : ℕ → Option Pid
task_or_none n = if nat_lt 0 n then Some (record { 0 = n }) else None

-- The settings of a group's accounting: on and off.
abbrev pub accounts : List Bool
accounts = true ∷ false ∷ []

-- Parses a word as the value of a field of kind `kind`. The result is `None` if the word spells no
-- value of this kind.
unfoldable pub value_of : (kind : Kind) → List ℕ → Option (Value kind)
value_of pid text = option_map (λ n. let task : Pid = record { 0 = n } in task) (number_in (λ n. nat_lt 0 n && nat_lt n (2 ^ 32)) text)
value_of next text = option_map task_or_none (number_in (λ n. nat_lt n (2 ^ 32)) text)
value_of cpu text = option_map (λ n. let processor : Cpu = record { 0 = n } in processor) (number_in (λ n. nat_lt n (2 ^ 32)) text)
value_of path text = if is_path text then Some text else None
value_of how text = named how_word hows text
value_of preference text = named preference_word preferences text
value_of amount text = number_in (λ n. nat_le n (2 ^ 60)) text
value_of number text = number_of text
value_of resource text = named resource_word resources text
value_of level text = named level_word levels text
value_of account text = named account_word accounts text
