-- Proofs about header lines, which are split after `cpus=`.
use Rattle.std.proofs.Common.{◌≡◌, ◌≢◌, ℕ, ◌^◌, ◌<◌, ◌≤◌, List, [], ◌∷◌, ◌++◌, length, take, drop, refl, sym, ap, ◌∙◌, arith, true, false, get_or, take-append-drop, inl, inr, ⊎_elim}
use Rattle.std.specs.Prelude.{Option, None, Some, decimal, codes}
use Rattle.std.specs.Str.{bytes_eq}
use Rattle.std.proofs.lemmas.Slice.Eq.{bytes_eq-Decides}
use Rattle.std.proofs.Math.Seq.{take-append_seam}
use Rattle.std.proofs.lemmas.Fmt.{decimal_digit, decimal_injective}
use Rattle.psi_spec.specs.Fields.{IsAmong}
use Rattle.psi_spec.specs.Grammar.{Header, One, Two, Version, header, header_of, version_number, versions}
use Rattle.psi_spec.specs.Header.{IsVersion, header_with, version_of}
use Rattle.trace_laws.proofs.GrammarWords.{decimal_short}
use Rattle.trace_laws.proofs.GrammarHeaders.{headers_spelled}
use Rattle.psi_trace.specs.Heads.{before_cpus}

-- ---- the bytes of a header

pub header-before : (version n : ℕ) → header version n ≡ before_cpus version ++ decimal n
unfolding header
header-before version n = refl

-- The bytes before the number of processors in the first version.
abbrev pub first_before : List ℕ
first_before = codes "psitrace 1 cpus="

-- The bytes before the number of processors in the second version.
abbrev pub second_before : List ℕ
second_before = codes "psitrace 2 cpus="

pub before-first : (version : ℕ) → version ≡ 1 → before_cpus version ≡ first_before
before-first version is = ap before_cpus is ∙ ap (λ digits. codes "psitrace " ++ digits ++ codes " cpus=") (decimal_digit 1 (omega arith))

pub before-second : (version : ℕ) → version ≡ 2 → before_cpus version ≡ second_before
before-second version is = ap before_cpus is ∙ ap (λ digits. codes "psitrace " ++ digits ++ codes " cpus=") (decimal_digit 2 (omega arith))

-- A header of the first version is its prefix and a number.
pub header-prefix : (n : ℕ) → header 1 n ≡ first_before ++ decimal n
header-prefix n = header-before 1 n ∙ ap (λ bytes. bytes ++ decimal n) (before-first 1 refl)

-- A header of the first version has at most 36 bytes.
pub header_short : (n : ℕ) → n < 2 ^ 64 → length (header 1 n) ≤ 36
header_short n fits = rw (header-prefix n) (let short = decimal_short n fits in omega (arith, short))

-- ---- prefixes

-- A line that begins with a known prefix is the prefix and the rest.
pub with_prefix : (line prefix rest known : List ℕ) → prefix ≡ known → bytes_eq (take (length prefix) line) prefix ≡ true → rest ≡ drop (length prefix) line → line ≡ known ++ rest
with_prefix line prefix rest known same starts is =
    sym (take-append-drop (length prefix) line) ∙ ap (λ bytes. bytes ++ drop (length prefix) line) ((bytes_eq-Decides (take (length prefix) line) prefix).0 starts) ∙ ap (λ bytes. prefix ++ bytes) (sym is) ∙ ap (λ bytes. bytes ++ rest) same

-- A line that doesn't begin with a known prefix isn't the prefix and any rest.
without_prefix : (line prefix known rest : List ℕ) → prefix ≡ known → bytes_eq (take (length prefix) line) prefix ≡ false → line ≢ known ++ rest
without_prefix line prefix known rest same other is =
    let starts : take (length prefix) line ≡ prefix = ap (take (length prefix)) is ∙ ap (λ bytes. take (length bytes) (known ++ rest)) same ∙ take-append_seam known rest ∙ sym same in
    let equal = (bytes_eq-Decides (take (length prefix) line) prefix).1 starts in cc

-- A line with neither prefix isn't a header.
pub no_prefix_of : (line one two : List ℕ) → one ≡ first_before → two ≡ second_before → bytes_eq (take (length one) line) one ≡ false → bytes_eq (take (length two) line) two ≡ false → (version n : ℕ) → IsVersion version → line ≢ header version n
no_prefix_of line one two first second not_first not_second version n is spelled = ⊎_elim
    (λ same. without_prefix line one first_before (decimal n) first not_first (spelled ∙ header-before version n ∙ ap (λ bytes. bytes ++ decimal n) (before-first version same)))
    (λ same. without_prefix line two second_before (decimal n) second not_second (spelled ∙ header-before version n ∙ ap (λ bytes. bytes ++ decimal n) (before-second version same)))
    is

-- ---- headers that are accepted

number_again : (version : ℕ) → IsVersion version → version_number (version_of version) ≡ version
number_again version is = ⊎_elim (λ same. rw same refl) (λ same. rw same refl) is

among : (version : Version) → IsAmong version versions
among One = inl refl
among Two = inr (inl refl)

-- The number of a version is 1 or 2.
pub is_version : (version : Version) → IsVersion (version_number version)
is_version One = inl refl
is_version Two = inr refl

-- A header with 1 to 64 processors is accepted.
pub header_of-some : (line : List ℕ) (version n : ℕ) → IsVersion version → line ≡ header version n → 1 ≤ n → n ≤ 64 → header_of versions line ≡ Some (header_with version n)
header_of-some line version n known is low high =
    (headers_spelled versions line (header_with version n)).1 (among (version_of version), low, high, is ∙ ap (λ number. header number n) (sym (number_again version known)))

no_header : (line : List ℕ) (read : Option Header) → header_of versions line ≡ read → ((version n : ℕ) → IsVersion version → 1 ≤ n → n ≤ 64 → line ≢ header version n) → read ≡ None
no_header line None is none = refl
no_header line (Some head) is none =
    let spells = (headers_spelled versions line head).0 is in
    absurd (none (version_number head.version) head.cpus (is_version head.version) spells.1 spells.2 spells.3)

pub header_of-none : (line : List ℕ) → ((version n : ℕ) → IsVersion version → 1 ≤ n → n ≤ 64 → line ≢ header version n) → header_of versions line ≡ None
header_of-none line none = no_header line (header_of versions line) refl none

-- ---- headers by the bytes after their prefixes

prefix_same : (prefix xs ys : List ℕ) → prefix ++ xs ≡ prefix ++ ys → xs ≡ ys
prefix_same [] xs ys is = is
prefix_same (byte ∷ prefix) xs ys is = prefix_same prefix xs ys cc

-- Lines of the two versions differ in their tenth byte.
versions_differ : (xs ys : List ℕ) → first_before ++ xs ≡ second_before ++ ys → ⊥
versions_differ xs ys is = let bytes : 49 ≡ 50 = ap (λ text. get_or text 9 0) is in omega (arith, bytes)

same_suffix : (version other : ℕ) (xs ys : List ℕ) → IsVersion version → IsVersion other → before_cpus version ++ xs ≡ before_cpus other ++ ys → xs ≡ ys
same_suffix version other xs ys is also same =
    let known : (number : ℕ) (prefix text : List ℕ) → before_cpus number ≡ prefix → before_cpus number ++ text ≡ prefix ++ text = λ number prefix text so. ap (λ bytes. bytes ++ text) so in
    ⊎_elim
    (λ one. ⊎_elim
    (λ first. prefix_same first_before xs ys (sym (known version first_before xs (before-first version one)) ∙ same ∙ known other first_before ys (before-first other first)))
    (λ second. absurd (versions_differ xs ys (sym (known version first_before xs (before-first version one)) ∙ same ∙ known other second_before ys (before-second other second))))
    also)
    (λ two. ⊎_elim
    (λ first. absurd (versions_differ ys xs (sym (known other first_before ys (before-first other first)) ∙ sym same ∙ known version second_before xs (before-second version two))))
    (λ second. prefix_same second_before xs ys (sym (known version second_before xs (before-second version two)) ∙ same ∙ known other second_before ys (before-second other second)))
    also)
    is

-- A line isn't a header if no number follows its prefix.
pub header_of-wrong : (line : List ℕ) (version : ℕ) (rest : List ℕ) → IsVersion version → line ≡ before_cpus version ++ rest → ((n : ℕ) → n < 2 ^ 64 → rest ≡ decimal n → ⊥) → header_of versions line ≡ None
header_of-wrong line version rest known cut none =
    header_of-none line (λ other n is low high spelled. none n (omega (arith, high)) (same_suffix version other rest (decimal n) known is (sym cut ∙ spelled ∙ header-before other n)))

-- A line isn't a header if its number of processors isn't between 1 and 64.
pub header_of-other : (line : List ℕ) (version n : ℕ) (rest : List ℕ) → IsVersion version → line ≡ before_cpus version ++ rest → rest ≡ decimal n → n < 2 ^ 64 → (1 ≤ n → 64 < n) → header_of versions line ≡ None
header_of-other line version n rest known cut is fits out =
    header_of-none line (λ other m also low high spelled.
    let same = decimal_injective n m fits (omega (arith, high)) (sym is ∙ same_suffix version other rest (decimal m) known also (sym cut ∙ spelled ∙ header-before other m)) in
    omega (arith, same, out, low, high))

-- ---- headers that were parsed

pub header_found : (line : List ℕ) (version n : ℕ) → IsVersion version → header_of versions line ≡ Some (header_with version n) → IsVersion version × (1 ≤ n) × (n ≤ 64) × (line ≡ header version n)
header_found line version n known is =
    let spells = (headers_spelled versions line (header_with version n)).0 is in
    (known, spells.1, spells.2, spells.3 ∙ ap (λ number. header number n) (number_again version known))

pub header_missed : (line : List ℕ) → header_of versions line ≡ None → (version n : ℕ) → IsVersion version → 1 ≤ n → n ≤ 64 → line ≢ header version n
header_missed line is version n known low high spelled = let some = header_of-some line version n known spelled low high in cc
