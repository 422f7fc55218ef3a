-- The status of an import that fails. The crate ftrace_import defines which texts can be imported.
use Rattle.std.specs.Prelude.{◌≡◌}
use Rattle.run_spec.specs.declared.status.Status.{Status}
use Rattle.run_spec.specs.declared.status.Status.TheVariants as status
use Rattle.run_spec.specs.declared.status.Which.TheVariants.{ImportFile}
use Rattle.ftrace_import.specs.declared.text.ImportFault.{ImportFault}
use Rattle.ftrace_import.specs.declared.text.ImportFault.TheVariants as fault

-- `IsStatusOfImport fault result`: `result` is the status of a run that can't import its ftrace
-- text because of `fault`.
abbrev pub IsStatusOfImport : ImportFault → Status → Type 0
IsStatusOfImport (fault.Refused line why) result = result ≡ status.Import line why
IsStatusOfImport fault.NoFile result = result ≡ status.NoFile ImportFile
IsStatusOfImport fault.ReadFault result = result ≡ status.ReadFault
IsStatusOfImport (fault.NoMemory none) result = result ≡ status.NoMemory none
