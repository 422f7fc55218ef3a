-- Defines the results of the calls of a shelf (a store of files) and of a sink (an output), and how
-- the calls change the failure counts and the contents.
use Rattle.std.specs.Prelude.{◌≡◌, ◌⊎◌, ℕ, ◌+◌, ◌-◌, ◌^◌, ◌≤◌, ◌<◌, List, [], ◌∷◌, ◌++◌, length, take, drop, Option, None, Some, Result, Ok, Err, OnOk, OnErr, ⊤, if◌then◌else◌}
use Rattle.std.specs.Str.{bytes_eq}

-- The names and contents of files. If two files have the same name, the first file is used.
abbrev pub Files : Type 0
Files = List (List ℕ × List ℕ)

-- The bytes of the file with name `name`, or `None` if the list contains no such file.
abbrev pub bytes_of : Files → List ℕ → Option (List ℕ)
bytes_of [] name = None
bytes_of (file ∷ files) name = if bytes_eq file.0 name then Some file.1 else bytes_of files name

-- A 64-bit count increased: `now` is greater than `before`, or is at the maximum.
abbrev pub Increased : ℕ → ℕ → Type 0
Increased before now = (before < now) ⊎ (now ≡ 2 ^ 64 - 1)

-- A failure count increased from `before` to `now` if `result` is a failure, and is unchanged if
-- not.
pub record HasCause {T E : Type 0} (before now : ℕ) (result : Result T E) : Type 0 where
  pub later : before ≤ now
  pub failed : OnErr result (Increased before now)
  pub same : OnOk result (now ≡ before)

-- The content of the file with name `name`. The result is `None` if the contents of the shelf
-- aren't known or don't include such a file.
abbrev pub content_of : Option Files → List ℕ → Option (List ℕ)
content_of None name = None
content_of (Some files) name = bytes_of files name

-- The contents of the shelf are known, and include no file with name `name`.
abbrev pub IsAbsent : Option Files → List ℕ → Type 0
IsAbsent None name = ⊥
IsAbsent (Some files) name = bytes_of files name ≡ None

-- The `n` bytes of a file from offset `at` were read into the beginning of the buffer, whose bytes
-- changed from `before` to `into`. The number `n` is 0 only at the end of the file.
pub record ReadsBytes (bytes : List ℕ) (at n : ℕ) (before into : List ℕ) : Type 0 where
  pub read : take n into ≡ take n (drop at bytes)
  pub inside : n ≤ length bytes - at
  pub end : n ≡ 0 → 0 < length into → length bytes ≤ at
  pub rest : drop n into ≡ drop n before

-- The number of bytes that a read returned, or 0 if the read failed.
abbrev pub count_read : {E : Type 0} → Result ℕ E → ℕ
count_read (Ok n) = n
count_read (Err fault) = 0

-- The failure counts of a shelf: the number of failed reads, and the number of reads of missing
-- files.
pub record ShelfCounts : Type 0 where
  pub faults : ℕ
  pub absent : ℕ

-- `counts_of faults absent`: the failure counts of a shelf, made from these two numbers.
abbrev pub counts_of : ℕ → ℕ → ShelfCounts
counts_of faults absent = record { faults = faults; absent = absent }

-- The failure counts of a shelf never decrease. The count of failed reads increased if and only if
-- `HasFailed` holds. The count of missing files increased if and only if `HasMissed` holds. A count
-- at its maximum of 2^64 - 1 stays there.
pub record HasCauses (before now : ShelfCounts) (HasFailed HasMissed : Type 0) : Type 0 where
  pub faults_later : before.faults ≤ now.faults
  pub absent_later : before.absent ≤ now.absent
  pub failed : HasFailed → Increased before.faults now.faults
  pub missed : HasMissed → Increased before.absent now.absent
  pub faults_same : ¬ HasFailed → now.faults ≡ before.faults
  pub absent_same : ¬ HasMissed → now.absent ≡ before.absent

-- If the content of a sink is known, a prefix of `bytes` was appended to it.
abbrev pub AppendsPrefix : Option (List ℕ) → Option (List ℕ) → List ℕ → Type 0
AppendsPrefix None new bytes = ⊤
AppendsPrefix (Some had) None bytes = ⊥
AppendsPrefix (Some had) (Some has) bytes = has ≡ had ++ take (length has - length had) bytes

-- The length of a content, or 0 if the content is unknown (`None`).
abbrev pub known_count : Option (List ℕ) → ℕ
known_count None = 0
known_count (Some bytes) = length bytes

-- The sink to which another sink forwards its bytes. It is represented by a number that identifies
-- the borrowed sink, and by the length of its content (0 if the content is unknown).
pub record Inner : Type 0 where
  pub name : ℕ
  pub count : ℕ

-- `inner_of name has`: the representation of an inner sink. `name` is the number that identifies
-- the borrowed sink, and `has` is its content, or `None` if the content is unknown.
abbrev pub inner_of : ℕ → Option (List ℕ) → Inner
inner_of name has = record { name = name; count = known_count has }

-- The inner sink of a sink that forwards its bytes to no other sink.
abbrev pub no_inner : Inner
no_inner = inner_of 0 None

-- `before` and `now` represent the same inner sink, and its content hasn't become shorter.
pub record SameInner (before now : Inner) : Type 0 where
  pub same : now.name ≡ before.name
  pub more : before.count ≤ now.count
