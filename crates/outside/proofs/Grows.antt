-- How the content of a sink grows, piece by piece.
use Rattle.std.proofs.Common.{◌≡◌, ℕ, ◌+◌, ◌<◌, List, [], ◌++◌, length, take, drop, get_or, sym, ap, ◌∙◌, arith, append_assoc, length-append, ◌-◌}
use Rattle.std.specs.Prelude.{Option, None, Some, Result, Ok, Err, IsErr}
use Rattle.std.specs.Io.KnownBytes.{Appends}
use Rattle.std.proofs.Math.Seq.{take-add}
use Rattle.std.proofs.lemmas.List.{append-nil}
use Rattle.std.proofs.lemmas.Grind.{flat_map-append}
use Rattle.std.specs.List.{flat_map}
use Rattle.std.proofs.Math.Seq.{take-append_seam}
use Rattle.std.proofs.lemmas.List.{take-append-drop, drop_more}
use Rattle.outside.specs.Outside.{AppendsPrefix}
use Rattle.outside.specs.Calls.{PutsAll}

-- nothing was sent
pub Appends-none : (old : Option (List ℕ)) → Appends old old []
Appends-none None = tt
Appends-none (Some xs) = sym (append-nil xs)

-- one piece was sent, and then another
pub Appends-then : (old mid new : Option (List ℕ)) (xs ys : List ℕ) → Appends old mid xs → Appends mid new ys → Appends old new (xs ++ ys)
Appends-then None mid new xs ys a b = tt
Appends-then (Some bs) None new xs ys a b = absurd a
Appends-then (Some bs) (Some cs) None xs ys a b = absurd b
Appends-then (Some bs) (Some cs) (Some ds) xs ys a b = b ∙ ap (λ zs. zs ++ ys) a ∙ append_assoc bs xs ys

-- the first bytes of a text were sent, and then some of the next
pub Appends-more : (old mid new : Option (List ℕ)) (bytes piece : List ℕ) (at n : ℕ) → Appends old mid (take at bytes) → piece ≡ drop at bytes → Appends mid new (take n piece) → Appends old new (take (at + n) bytes)
Appends-more old mid new bytes piece at n a same b =
    rw (take-add at n bytes) (Appends-then old mid new (take at bytes) (take n (drop at bytes)) a (rw same at b))

-- the rest after the first bytes, if these grew by a prefix of all
prefix_of : (had prefix rest has : List ℕ) → has ≡ had ++ prefix → has ≡ had ++ take (length has - length had) (prefix ++ rest)
prefix_of had prefix rest has same =
    let long : length has - length had ≡ length prefix = omega (arith, length-append had prefix, ap length same) in
    rw long (rw take-append_seam same)

-- known bytes that grew by a prefix of the bytes
pub AppendsPrefix-of : (old new : Option (List ℕ)) (prefix rest whole : List ℕ) → Appends old new prefix → whole ≡ prefix ++ rest → AppendsPrefix old new whole
AppendsPrefix-of None new prefix rest whole a same = tt
AppendsPrefix-of (Some had) None prefix rest whole a same = absurd a
AppendsPrefix-of (Some had) (Some has) prefix rest whole a same = rw same (prefix_of had prefix rest has a)

-- a prefix of the rest after the first bytes makes a prefix of all
pub prefix_after : (had xs ys rest has : List ℕ) → has ≡ (had ++ xs) ++ take (length has - length (had ++ xs)) ys → has ≡ had ++ take (length has - length had) ((xs ++ ys) ++ rest)
prefix_after had xs ys rest has grew =
    let n = length has - length (had ++ xs) in
    let split : (xs ++ ys) ++ rest ≡ (xs ++ take n ys) ++ (drop n ys ++ rest) =
    ap (λ zs. (xs ++ zs) ++ rest) (sym (take-append-drop n ys)) ∙ simp append_assoc in
    rw split (prefix_of had (xs ++ take n ys) (drop n ys ++ rest) has (grew ∙ append_assoc had xs (take n ys)))

-- the part that was sent first, followed by a prefix of the rest, is a prefix of all
pub AppendsPrefix-then : (old mid new : Option (List ℕ)) (xs ys rest : List ℕ) → Appends old mid xs → AppendsPrefix mid new ys → AppendsPrefix old new (xs ++ (ys ++ rest))
AppendsPrefix-then None mid new xs ys rest a prefix = tt
AppendsPrefix-then (Some had) None new xs ys rest a prefix = absurd a
AppendsPrefix-then (Some had) (Some mid) None xs ys rest a prefix = absurd prefix
AppendsPrefix-then (Some had) (Some mid) (Some has) xs ys rest a prefix =
    let moved : has ≡ (had ++ xs) ++ take (length has - length (had ++ xs)) ys = rw a at prefix in
    rw (sym (append_assoc xs ys rest)) (prefix_after had xs ys rest has moved)

-- a prefix of the first bytes is a prefix of all
pub prefix_first : (had ys rest has : List ℕ) → has ≡ had ++ take (length has - length had) ys → has ≡ had ++ take (length has - length had) (ys ++ rest)
prefix_first had ys rest has grew =
    let n = length has - length had in
    let split : ys ++ rest ≡ take n ys ++ (drop n ys ++ rest) =
    ap (λ zs. zs ++ rest) (sym (take-append-drop n ys)) ∙ simp append_assoc in
    rw split (prefix_of had (take n ys) (drop n ys ++ rest) has grew)

-- the first bytes followed by a prefix of the last bytes are a prefix of all
pub prefix_last : (had xs ys has : List ℕ) → has ≡ (had ++ xs) ++ take (length has - length (had ++ xs)) ys → has ≡ had ++ take (length has - length had) (xs ++ ys)
prefix_last had xs ys has grew =
    rw (sym (append-nil (xs ++ ys))) (prefix_after had xs ys [] has grew)

-- the part that was sent first, followed by a prefix of the remaining bytes, is a prefix of all
pub AppendsPrefix-last : (old mid new : Option (List ℕ)) (xs ys : List ℕ) → Appends old mid xs → AppendsPrefix mid new ys → AppendsPrefix old new (xs ++ ys)
AppendsPrefix-last old mid new xs ys a prefix =
    let all : AppendsPrefix old new (xs ++ (ys ++ [])) = AppendsPrefix-then old mid new xs ys [] a prefix in
    rw (append-nil ys) at all

-- the state after a failed call
pub PutsAll-failed : {T E : Type 0} → (old new : Option (List ℕ)) (result : Result T E) (bytes : List ℕ) → IsErr result → AppendsPrefix old new bytes → PutsAll old new result bytes
PutsAll-failed old new (Ok value) bytes failed prefix = cc
PutsAll-failed old new (Err fault) bytes failed prefix = prefix

-- the pieces before one, that piece, and the pieces after it
pub flat_map-at : {X : Type 0} → (f : X → List ℕ) (xs : List X) (i : ℕ) (d : X) → i < length xs → flat_map f xs ≡ flat_map f (take i xs) ++ (f (get_or xs i d) ++ flat_map f (drop (i + 1) xs))
flat_map-at f xs i d inside =
    ap (flat_map f) (sym (take-append-drop i xs)) ∙ flat_map-append f (take i xs) (drop i xs) ∙ ap (λ ys. flat_map f (take i xs) ++ flat_map f ys) (drop_more xs i d inside)

-- for a loop over the bytes of one piece
pub ruleset growth = (Appends-none, Appends-more)

-- for calls in order: `put_all(..)?; put_number(..)?; put_each(..)`, whose text is that of the
-- calls, joined
pub ruleset chain = (append_assoc, prefix_first, prefix_after, prefix_last)
