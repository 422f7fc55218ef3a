-- Defines a table of times with one row for each group, indexed by slot. For each processor, a row
-- has the group's times (ns) in the seven states, followed by the time (ns) that interrupts took
-- from the group.
use Rattle.std.specs.Prelude.{◌≡◌, ◌≢◌, ◌⊎◌, All, ℕ, ◌*◌, ◌<◌, List, [], length, map, take, drop, replicate, slice_index_or, slice_set}
use Rattle.std.specs.List.{range_with_len}

-- The eight times of a group on a processor: seven states and interrupts. All of them are 0.
abbrev pub no_times : List ℕ
no_times = replicate 8 0

-- A table of times for `slots` groups on `cpus` processors, in which all times are 0.
abbrev pub new_table : ℕ → ℕ → List (List (List ℕ))
new_table cpus slots = replicate slots (replicate cpus no_times)

-- The table has an entry for the group in slot `group` on processor `processor`.
pub record IsPlace (table : List (List (List ℕ))) (group processor : ℕ) : Type 0 where
  pub slot : group < length table
  pub cpu : processor < length (slice_index_or table group [])

-- The table after the times of the group in slot `slot` on processor `cpu` were set to `times`.
abbrev pub put_times : List (List (List ℕ)) → ℕ → ℕ → List ℕ → List (List (List ℕ))
put_times table slot cpu times = slice_set table slot (slice_set (slice_index_or table slot []) cpu times)

-- The row of the group in slot `slot`. `flat` is the concatenation of all rows, and each row has
-- `cpus` entries.
abbrev pub row_in : ℕ → List (List ℕ) → ℕ → List (List ℕ)
row_in cpus flat slot = take cpus (drop (slot * cpus) flat)

-- The table with the rows in `flat`, which is the concatenation of `slots` rows of `cpus` entries.
abbrev pub rows_of : ℕ → ℕ → List (List ℕ) → List (List (List ℕ))
rows_of cpus slots flat = map (row_in cpus flat) (range_with_len 0 slots)

-- The times of the group in slot `slot` on processor `cpu`, or the empty list if the table has no
-- such entry.
abbrev pub times_at : List (List (List ℕ)) → ℕ → ℕ → List ℕ
times_at table slot cpu = slice_index_or (slice_index_or table slot []) cpu []

-- The table has `slots` rows, and each row has `cpus` entries.
pub record HasSizes (cpus slots : ℕ) (table : List (List (List ℕ))) : Type 0 where
  pub slots_are : length table ≡ slots
  pub cpus_are : All (λ row. length row ≡ cpus) table

-- Both tables have the same number of rows, and the rows of each slot have the same number of
-- entries.
pub record HaveSameSizes (table other : List (List (List ℕ))) : Type 0 where
  pub slots : length table ≡ length other
  pub cpus : (slot : ℕ) → length (slice_index_or table slot []) ≡ length (slice_index_or other slot [])

-- ---- laws of tables

-- Laws about the size of a table of times. A new table has the requested size, and setting times
-- doesn't change the size. Two tables for the same number of groups and the same number of
-- processors have the same size. A table has an entry for each slot below `slots` on each processor
-- below `cpus`.
pub record KeepsSizes : Type 0 where
  pub new : (cpus slots : ℕ) → HasSizes cpus slots (new_table cpus slots)
  pub set : (cpus slots : ℕ) (table : List (List (List ℕ))) (slot cpu : ℕ) (times : List ℕ) → HasSizes cpus slots table
      → HasSizes cpus slots (put_times table slot cpu times)
  pub same : (cpus slots : ℕ) (table other : List (List (List ℕ))) → HasSizes cpus slots table → HasSizes cpus slots other
      → HaveSameSizes table other
  pub place : (cpus slots : ℕ) (table : List (List (List ℕ))) (slot cpu : ℕ) → HasSizes cpus slots table → slot < slots → cpu < cpus
      → IsPlace table slot cpu

-- After the times of a group on a processor are set, the table has these times for this group and
-- processor, and unchanged times for all others.
pub record SetsOnePlace : Type 0 where
  pub here : (table : List (List (List ℕ))) (slot cpu : ℕ) (times : List ℕ) → IsPlace table slot cpu
      → times_at (put_times table slot cpu times) slot cpu ≡ times
  pub elsewhere : (table : List (List (List ℕ))) (slot cpu : ℕ) (times : List ℕ) (other_slot other_cpu : ℕ) → IsPlace table slot cpu
      → (other_slot ≢ slot) ⊎ (other_cpu ≢ cpu) →
      times_at (put_times table slot cpu times) other_slot other_cpu ≡ times_at table other_slot other_cpu
