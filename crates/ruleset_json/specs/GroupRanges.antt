-- Defines the ranges of the values in a group of detectors.
use Rattle.std.specs.Prelude.{List, IsUtf8}
use Rattle.ruleset_json.specs.declared.types.DetectorGroup.{DetectorGroup}
use Rattle.ruleset_json.specs.Ranges.{FitsList, FitsDetectors}

-- A group has at most 16 detectors, the arguments of its detectors are in range, and its name is
-- UTF-8.
abbrev pub FitsGroup : DetectorGroup → Type 0
FitsGroup group = FitsDetectors group.detectors × IsUtf8 group.name

abbrev pub FitsGroups : List DetectorGroup → Type 0
FitsGroups = FitsList FitsGroup 16
