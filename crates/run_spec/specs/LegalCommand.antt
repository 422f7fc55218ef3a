-- The invariant of every command that `command_of` parses: numbers are in range, and file names
-- aren't empty.
use Rattle.std.specs.Prelude.{◌≡◌, ◌≢◌, ℕ, ◌-◌, ◌^◌, ◌≤◌, ◌<◌, List, [], true, codes, Option, None, IfSome, IsSome}
use Rattle.psi_base.specs.Path.{is_path}
use Rattle.run_spec.specs.declared.command.Command.{Command}
use Rattle.run_spec.specs.declared.command.Command.TheVariants.{Stall, Check, Replay, Gen, Stress, Import, Rules, Whatif}
use Rattle.run_spec.specs.declared.command.Options.{Options}
use Rattle.run_spec.specs.declared.command.Shape.{Shape}

-- `IsWithin least most number`: the number is at least `least` and at most `most`.
abbrev pub IsWithin : ℕ → ℕ → ℕ → Type 0
IsWithin least most number = (least ≤ number) × (number ≤ most)

-- `IsOptionName named`: the file name `named` isn't empty and isn't `-` (standard input), or it is
-- `None`.
abbrev pub IsOptionName : Option (List ℕ) → Type 0
IsOptionName named = IfSome named (λ name. (name ≢ []) × (name ≢ codes "-"))

-- The options of `replay` and `whatif` are in range, and a drop-in file is named only together with
-- a rules file.
pub record AreOptions (options : Options) : Type 0 where
  pub rules : IsOptionName options.rules
  pub drop_in : IsOptionName options.drop_in
  pub over : options.rules ≡ None → options.drop_in ≡ None
  pub tick_ms : IsWithin 1 60000 options.tick_ms
  pub interval_s : IsWithin 1 3600 options.interval_s
  pub report_s : options.report_s ≤ 3600
  pub workers : IsWithin 1 64 options.workers
  pub live : IfSome options.live (λ path. is_path path ≡ true)
  pub live_count : IsWithin 1 16 options.live_count

-- The numbers of the shape of a generated trace are in range.
pub record IsShape (shape : Shape) : Type 0 where
  pub seed : shape.seed < 2 ^ 64
  pub cpus : IsWithin 1 64 shape.cpus
  pub groups : shape.groups ≤ 1000
  pub events : shape.events ≤ 3900000

-- All numbers of a command are in range, and no file name of the command is empty.
abbrev pub IsCommand : Command → Type 0
IsCommand (Stall trace) = trace ≢ []
IsCommand (Check trace tick_ms) = (trace ≢ []) × IsWithin 1 60000 tick_ms
IsCommand (Replay trace options) = (trace ≢ []) × AreOptions options
IsCommand (Gen shape) = IsShape shape
IsCommand (Stress shape workers) = IsShape shape × IsWithin 1 64 workers
IsCommand (Import file cpus) = (file ≢ []) × IsWithin 1 64 cpus
IsCommand (Rules file drop_in) = (file ≢ []) × IsOptionName drop_in
IsCommand (Whatif trace options) = (trace ≢ []) × AreOptions options × IsSome options.rules × (options.live ≡ None)
