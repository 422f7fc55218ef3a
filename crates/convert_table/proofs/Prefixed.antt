-- Fields after those that were read, and the number of parts of a text.
use Rattle.std.proofs.Common.{ℕ, ◌+◌, ◌≤◌, List, [], ◌∷◌, ◌++◌, length, arith, Option, None, Some, Bool, true, false}
use Rattle.std.specs.Prelude.{◌==◌, if◌then◌else◌}
use Rattle.psi_base.specs.Path.{onto_first, parts_at}
use Rattle.page_spec.specs.declared.layout.Field.{Field}

-- fields before those that were found
abbrev pub prefixed : List Field → Option (List Field) → Option (List Field)
prefixed prefix None = None
prefixed prefix (Some fields) = Some (prefix ++ fields)

-- one more byte makes at most one more part
more_parts : (test : Bool) (byte n : ℕ) (parts : List (List ℕ)) → length parts ≤ n + 1 → length (if test then [] ∷ parts else onto_first byte parts) ≤ n + 1 + 1
more_parts true byte n parts few = omega arith
more_parts false byte n [] few = omega arith
more_parts false byte n (part ∷ parts) few = omega arith

-- a text has at most one more part than bytes
pub count_parts : (at : ℕ) (bytes : List ℕ) → length (parts_at at bytes) ≤ length bytes + 1
unfolding parts_at
count_parts at [] = omega arith
count_parts at (byte ∷ bytes) =
    let more : length (if byte == at then [] ∷ parts_at at bytes else onto_first byte (parts_at at bytes)) ≤ length bytes + 1 + 1 = more_parts (byte == at) byte (length bytes) (parts_at at bytes) (count_parts at bytes) in
    omega arith
