-- Proves properties of texts that are written one after another.
use Rattle.std.proofs.Common.{◌≡◌, ℕ, List, [], ◌∷◌, ◌++◌, ◌/◌, sym, ap, map, append_assoc}
use Rattle.std.specs.Prelude.{codes, decimal, slice_index, Option, Result, Ok, Err}
use Rattle.std.specs.List.{flat_map}
use Rattle.std.specs.Io.KnownBytes.{Appends}
use Rattle.std.proofs.lemmas.List.{append-nil}
use Rattle.outside.specs.Outside.{AppendsPrefix}
use Rattle.outside.specs.Calls.{PutsAll}
use Rattle.outside.proofs.Grows.{Appends-none, Appends-then, AppendsPrefix-then}
use Rattle.psi_base.specs.declared.event.Level.{Level}
use Rattle.psi_spec.specs.Fields.{level_word}
use Rattle.psi_spec.specs.Grammar.{joined}
use Rattle.pressure_spec.specs.File.{file_line, percent_text}
use Rattle.pressure_text.specs.Pieces.{spaced_number}

-- A prefix of the first text is a prefix of both texts together.
pub prefix_of_both : (old new : Option (List ℕ)) (xs ys : List ℕ) → AppendsPrefix old new xs →
    AppendsPrefix old new (xs ++ ys)
prefix_of_both old new xs ys prefix = AppendsPrefix-then old old new [] xs ys (Appends-none old) prefix

-- The first text, followed by a prefix of the second text, is a prefix of both texts together.
pub prefix_then : (old mid new : Option (List ℕ)) (xs ys : List ℕ) → Appends old mid xs →
    AppendsPrefix mid new ys → AppendsPrefix old new (xs ++ ys)
prefix_then old mid new xs ys first prefix =
    let all : xs ++ (ys ++ []) ≡ xs ++ ys = ap (λ zs. xs ++ zs) (append-nil ys) in
    rw (← all) (AppendsPrefix-then old mid new xs ys [] first prefix)

-- If `xs` was appended, and then `ys` or a prefix of `ys` was appended, then `xs ++ ys` or a prefix
-- of it was appended in total.
pub puts_then : {T E : Type 0} →
    (old mid new : Option (List ℕ)) (result : Result T E) (xs ys : List ℕ) → Appends old mid xs →
    PutsAll mid new result ys → PutsAll old new result (xs ++ ys)
puts_then old mid new (Ok value) xs ys first put = Appends-then old mid new xs ys first put
puts_then old mid new (Err fault) xs ys first put = prefix_then old mid new xs ys first put

-- A word and numbers, joined with single spaces, are the word and each number after a space.
pub joined_numbers : (word ns : List ℕ) → joined (word ∷ map decimal ns) ≡ word ++ flat_map spaced_number ns
joined_numbers word [] = sym (append-nil word)
joined_numbers word (n ∷ ns) = ap (λ w. word ++ 32 ∷ w) (joined_numbers (decimal n) ns)

-- The rewrite rules for a line that ends with numbers.
pub ruleset times = (append_assoc, joined_numbers)

-- The bytes of a line of a pressure file, as a concatenation of its pieces.
pub file_pieces : (level : Level) (averages : List ℕ) (total : ℕ) →
    level_word level ++ (codes " avg10=" ++ (percent_text (slice_index averages 0) ++ (codes " avg60=" ++ (percent_text (slice_index averages 1)
    ++ (codes " avg300=" ++ (percent_text (slice_index averages 2) ++ (codes " total=" ++ (decimal (total / 1000) ++ (codes "\n" ++ []))))))))) ≡ file_line level averages total
file_pieces level averages total = simp append_assoc
