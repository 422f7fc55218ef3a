-- Proves properties of texts that are written in pieces.
use Rattle.std.proofs.Common.{◌≡◌, ℕ, List, [], ◌++◌, ap}
use Rattle.std.specs.Prelude.{Option, Result, Ok, Err}
use Rattle.std.specs.Io.KnownBytes.{Appends}
use Rattle.std.proofs.lemmas.List.{append-nil}
use Rattle.outside.specs.Outside.{AppendsPrefix}
use Rattle.outside.specs.Calls.{PutsAll}
use Rattle.outside.proofs.Grows.{Appends-none, Appends-then, AppendsPrefix-then}

-- A prefix of the first text is a prefix of both texts together.
pub prefix_of_both : (old new : Option (List ℕ)) (xs ys : List ℕ) → AppendsPrefix old new xs → AppendsPrefix old new (xs ++ ys)
prefix_of_both old new xs ys prefix = AppendsPrefix-then old old new [] xs ys (Appends-none old) prefix

-- The first text, followed by a prefix of the second text, is a prefix of both texts together.
pub prefix_then : (old mid new : Option (List ℕ)) (xs ys : List ℕ) → Appends old mid xs → AppendsPrefix mid new ys → AppendsPrefix old new (xs ++ ys)
prefix_then old mid new xs ys first prefix =
    let all : xs ++ (ys ++ []) ≡ xs ++ ys = ap (λ zs. xs ++ zs) (append-nil ys) in
    rw (← all) (AppendsPrefix-then old mid new xs ys [] first prefix)

-- If `xs` was appended, and then `ys` or a prefix of `ys` was appended, then `xs ++ ys` or a prefix
-- of it was appended in total.
pub puts_then : {T E : Type 0} → (old mid new : Option (List ℕ)) (result : Result T E) (xs ys : List ℕ) → Appends old mid xs → PutsAll mid new result ys → PutsAll old new result (xs ++ ys)
puts_then old mid new (Ok value) xs ys first put = Appends-then old mid new xs ys first put
puts_then old mid new (Err fault) xs ys first put = prefix_then old mid new xs ys first put
