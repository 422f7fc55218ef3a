-- Defines how one more reading changes the stored sizes of a group.
use Rattle.std.specs.Prelude.{ℕ, List, ◌∷◌, take, Option, None, Some}
use Rattle.kill_spec.specs.declared.reading.GroupReading.{GroupReading}

-- The stored sizes (bytes) of a group after a reading. If the group was live at the reading, its
-- size there is put before the earlier sizes, and at most four sizes remain.
abbrev pub newer_sizes : Option GroupReading → List ℕ → List ℕ
newer_sizes None sizes = sizes
newer_sizes (Some group) sizes = take 4 (group.current ∷ sizes)
