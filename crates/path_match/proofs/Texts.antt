-- Proofs about the text of patterns, as it is written.
use Rattle.std.proofs.Common.{◌≡◌, ◌≤◌, ℕ, arith, length, take, List, [], ◌∷◌, ◌++◌, Bool, true, false, refl, sym, ap, ◌∙◌, append_assoc}
use Rattle.std.specs.Prelude.{codes, if◌then◌else◌, map}
use Rattle.std.specs.Str.{bytes_eq}
use Rattle.std.proofs.lemmas.List.{append-nil, length-take, take-append-le}
use Rattle.std.proofs.lemmas.Slice.Eq.{bytes_eq-Decides}
use Rattle.path_match.specs.Match.{components, after_slash, pattern_text, patterns_text}
use Rattle.path_match.proofs.PatternLaws.{spells_parts}

slashless_if : (b : Bool) (text : List ℕ) → bytes_eq text (codes "/") ≡ b → pattern_text (components text) ≡ (if b then codes "/" else after_slash text)
unfolding components
slashless_if true text is = rw is refl
slashless_if false text is = rw is (spells_parts (after_slash text))

-- the text of a parsed pattern is the original text without an optional leading slash
pub slashless : (text : List ℕ) → pattern_text (components text) ≡ (if bytes_eq text (codes "/") then codes "/" else after_slash text)
slashless text = slashless_if _ text refl

-- the text of the root's pattern is the original text
pub root_text : (text : List ℕ) → bytes_eq text (codes "/") ≡ true → text ≡ pattern_text (components text)
root_text text is = (bytes_eq-Decides text (codes "/")).0 is ∙ sym (slashless_if true text is)

-- the text that is written after the first pattern
abbrev pub suffix : List (List ℕ) → List ℕ
suffix [] = []
suffix (part ∷ parts) = 44 ∷ (pattern_text (components part) ++ suffix parts)

pub text_from : (part : List ℕ) (parts : List (List ℕ)) → patterns_text (map components (part ∷ parts)) ≡ pattern_text (components part) ++ suffix parts
text_from part [] = sym (append-nil _)
text_from part (next ∷ parts) = ap (λ rest. pattern_text (components part) ++ 44 ∷ rest) (text_from next parts)

-- the written text after the first pattern
pub text_began : (whole parts : List (List ℕ)) (first before now piece : List ℕ) → whole ≡ first ∷ parts → piece ≡ pattern_text (components first) → now ≡ before ++ piece
    → now ++ suffix parts ≡ before ++ patterns_text (map components whole)
text_began whole parts first before now piece is text put = rw (put, is, text, text_from first parts) (append_assoc before (pattern_text (components first)) (suffix parts))

-- a prefix is unchanged when more is appended
pub prefix_more : (prefix text more : List ℕ) → take (length prefix) text ≡ prefix → take (length prefix) (text ++ more) ≡ prefix
prefix_more prefix text more is =
    let long : length prefix ≤ length text = grind (arith, length-take (length prefix) text, ap length is) in
    take-append-le (length prefix) text more long ∙ is
