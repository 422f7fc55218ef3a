-- Proofs that a header line is accepted exactly if it is the spelling of a header.
use Rattle.std.proofs.Common.{◌≡◌, ◌≢◌, ◌⊎◌, inl, inr, ⊎_elim, subst, ◌==◌, map, ℕ, zero, suc, ◌+◌, ◌^◌, ◌<◌, ◌≤◌, List, [], ◌∷◌, ◌++◌, length, refl, sym, ap, ◌∙◌, arith, false, get_or, append_assoc, length-append}
use Rattle.std.specs.Prelude.{decimal, codes}
use Rattle.std.specs.List.{flat_map, range_with_len}
use Rattle.std.proofs.lemmas.Bool.Decides.{eqb_tells, nat_tests}
use Rattle.std.proofs.lemmas.Fmt.{decimal_digit, decimal_injective}
use Rattle.psi_base.proofs.PartLaws.{HasNone}
use Rattle.psi_spec.specs.Fields.{IsAmong, named}
use Rattle.psi_spec.specs.Grammar.{Header, One, Two, Version, header, header_line, header_of, headers_of, joined, version_number}
use Rattle.psi_spec.specs.LineLaws.{HeadedByLine, HeadersSpelled}
use Rattle.trace_laws.proofs.GrammarFields.{named_again, named_among, named_spells}
use Rattle.trace_laws.proofs.GrammarParts.{AreWords, joined-no_newline}
use Rattle.trace_laws.proofs.GrammarWords.{decimal_printed, decimal_short}

cons_same : (a b : ℕ) (xs ys : List ℕ) → a ∷ xs ≡ b ∷ ys → xs ≡ ys
cons_same a b xs ys is = cc

prefix_same : (prefix xs ys : List ℕ) → prefix ++ xs ≡ prefix ++ ys → xs ≡ ys
prefix_same [] xs ys is = is
prefix_same (byte ∷ prefix) xs ys is = prefix_same prefix xs ys (cons_same byte byte (prefix ++ xs) (prefix ++ ys) is)

-- headers of different numbers of processors differ
pub header-injective : (version m n : ℕ) → m < 2 ^ 64 → n < 2 ^ 64 → header version m ≡ header version n → m ≡ n
unfolding header
header-injective version m n small fits is =
    decimal_injective m n small fits (prefix_same (codes "psitrace " ++ decimal version ++ codes " cpus=") (decimal m) (decimal n) is)

-- ---- headers of a list of versions

abbrev made : Version → ℕ → Header
made version cpus = record { version = version; cpus = cpus }

-- an element of one list is an element of both lists joined
among_prefix : {A : Type 0} (x : A) (xs ys : List A) → IsAmong x xs → IsAmong x (xs ++ ys)
among_prefix x [] ys among = absurd among
among_prefix x (y ∷ xs) ys among = ⊎_elim (λ same. inl same) (λ there. inr (among_prefix x xs ys there)) among

among_back : {A : Type 0} (x : A) (xs ys : List A) → IsAmong x ys → IsAmong x (xs ++ ys)
among_back x [] ys among = among
among_back x (y ∷ xs) ys among = inr (among_back x xs ys among)

among_either : {A : Type 0} (x : A) (xs ys : List A) → IsAmong x (xs ++ ys) → IsAmong x xs ⊎ IsAmong x ys
among_either x [] ys among = inr among
among_either x (y ∷ xs) ys among = ⊎_elim (λ same. inl (inl same)) (λ there. ⊎_elim (λ prefix. inl (inr prefix)) (λ back. inr back) (among_either x xs ys there)) among

-- each header of a version has this version, and a number of processors in the range
ranged : (version : Version) (low n : ℕ) (head : Header) → IsAmong head (map (made version) (range_with_len low n)) → (head.version ≡ version) × (low ≤ head.cpus) × (head.cpus < low + n)
ranged version low zero head among = absurd among
ranged version low (suc n) head among = ⊎_elim
    (λ same. let cpus : head.cpus ≡ low = ap (λ (h : Header). h.cpus) same in (ap (λ (h : Header). h.version) same, omega (arith, cpus), omega (arith, cpus)))
    (λ there. let later = ranged version (low + 1) n head there in (later.0, omega (arith, later.1), omega (arith, later.2)))
    among

in_range : (version : Version) (low n cpus : ℕ) → low ≤ cpus → cpus < low + n → IsAmong (made version cpus) (map (made version) (range_with_len low n))
in_range version low zero cpus from below = absurd (omega (arith, from, below))
in_range version low (suc n) cpus from below = ⊎_elim
    (λ same. inl (ap (made version) same.1))
    (λ other. inr (in_range version (low + 1) n cpus (let apart = (eqb_shows_apart cpus low other.0) in omega (arith, from, apart)) (omega (arith, below))))
    (eqb_tells cpus low)
  where
    eqb_shows_apart : (a b : ℕ) → (a == b) ≡ false → a ≢ b
    eqb_shows_apart a b differ same = grind (arith, nat_tests)

headed_by : (versions : List Version) (head : Header) → IsAmong head (flat_map headers_of versions) → IsAmong head.version versions × (1 ≤ head.cpus) × (head.cpus ≤ 64)
headed_by [] head among = absurd among
headed_by (version ∷ versions) head among = ⊎_elim
    (λ here. let range = ranged version 1 64 head here in (inl range.0, range.1, omega (arith, range.2)))
    (λ there. let later = headed_by versions head there in (inr later.0, later.1, later.2))
    (among_either head (headers_of version) (flat_map headers_of versions) among)

heads : (versions : List Version) (head : Header) → IsAmong head.version versions → 1 ≤ head.cpus → head.cpus ≤ 64 → IsAmong head (flat_map headers_of versions)
heads [] head known low high = absurd known
heads (version ∷ versions) head known low high = ⊎_elim
    (λ same. among_prefix head (headers_of version) (flat_map headers_of versions) (subst (λ v. IsAmong head (headers_of v)) same (in_range head.version 1 64 head.cpus low (omega (arith, high)))))
    (λ there. among_back head (headers_of version) (flat_map headers_of versions) (heads versions head there low high))
    known

-- numbers that begin with the digits 1 and 2 differ, so headers of different versions differ
digits_differ : (first second : ℕ) (xs ys : List ℕ) → first ≡ 1 → second ≡ 2 → decimal first ++ xs ≡ decimal second ++ ys → ⊥
digits_differ first second xs ys one two is =
    let heads : 49 ∷ xs ≡ 50 ∷ ys = ap (λ d. d ++ xs) (sym (decimal_digit 1 (omega arith))) ∙ ap (λ n. decimal n ++ xs) (sym one) ∙ is ∙ ap (λ n. decimal n ++ ys) two ∙ ap (λ d. d ++ ys) (decimal_digit 2 (omega arith)) in
    let bytes : 49 ≡ 50 = ap (λ text. get_or text 0 0) heads in
    omega (arith, bytes)

numbers_differ : (m n : ℕ) → header 1 m ≡ header 2 n → ⊥
unfolding header
numbers_differ m n is =
    digits_differ 1 2 (codes " cpus=" ++ decimal m) (codes " cpus=" ++ decimal n) refl refl
    (sym (append_assoc (decimal 1) (codes " cpus=") (decimal m)) ∙ prefix_same (codes "psitrace ") _ _ is ∙ append_assoc (decimal 2) (codes " cpus=") (decimal n))

version_same : (one other : Version) (m n : ℕ) → header (version_number one) m ≡ header (version_number other) n → one ≡ other
version_same One One m n is = refl
version_same One Two m n is = absurd (numbers_differ m n is)
version_same Two One m n is = absurd (numbers_differ n m (sym is))
version_same Two Two m n is = refl

header_same : (one other : Header) → one.cpus < 2 ^ 64 → other.cpus < 2 ^ 64 → header_line one ≡ header_line other → one ≡ other
header_same one other small fits is =
    let version : one.version ≡ other.version = version_same one.version other.version one.cpus other.cpus is in
    let same : one.cpus ≡ other.cpus = header-injective (version_number one.version) one.cpus other.cpus small fits (is ∙ ap (λ v. header (version_number v) other.cpus) (sym version)) in
    ap (λ v. let h : Header = record { version = v; cpus = one.cpus } in h) version ∙ ap (λ n. let h : Header = record { version = other.version; cpus = n } in h) same

header_words : (version cpus : ℕ) → header version cpus ≡ joined (codes "psitrace" ∷ decimal version ∷ (codes "cpus=" ++ decimal cpus) ∷ [])
unfolding header
header_words version cpus = ap (λ bytes. codes "psitrace " ++ bytes) (append_assoc (decimal version) (codes " cpus=") (decimal cpus))

header_printed : (version cpus : ℕ) → version < 2 ^ 64 → cpus < 2 ^ 64 → AreWords (codes "psitrace" ∷ decimal version ∷ (codes "cpus=" ++ decimal cpus) ∷ [])
header_printed version cpus fits small = (refl, (decimal_printed version fits, (decimal_printed cpus small, tt)))

-- a header has no newline
pub header-no_newline : (version cpus : ℕ) → version < 2 ^ 64 → cpus < 2 ^ 64 → HasNone 10 (header version cpus) (length (header version cpus))
header-no_newline version cpus fits small =
    rw (header_words version cpus) (joined-no_newline (codes "psitrace" ∷ decimal version ∷ (codes "cpus=" ++ decimal cpus) ∷ []) (header_printed version cpus fits small))

-- a header has at most 512 bytes, which is the limit of a line
pub length-header-le : (version cpus : ℕ) → version < 2 ^ 64 → cpus < 2 ^ 64 → length (header version cpus) ≤ 512
unfolding header
length-header-le version cpus fits small =
    omega (arith, length-append (codes "psitrace " ++ decimal version ++ codes " cpus=") (decimal cpus), length-append (codes "psitrace " ++ decimal version) (codes " cpus="), decimal_short version fits, decimal_short cpus small)

pub headers_spelled : HeadersSpelled
unfolding header_of
headers_spelled versions line head = (
  λ is.
      let known = headed_by versions head (named_among header_line (flat_map headers_of versions) line head is) in
      (known.0, known.1, known.2, named_spells header_line (flat_map headers_of versions) line head is),
  λ spells.
      ap (named header_line (flat_map headers_of versions)) spells.3
      ∙ named_again header_line (flat_map headers_of versions) head
      (λ other among is. let range = headed_by versions other among in header_same head other (omega (arith, spells.2)) (omega (arith, range.2)) is)
      (heads versions head spells.0 spells.1 spells.2),
)

pub headed_by_line : HeadedByLine
headed_by_line version cpus fits small = record { one = header-no_newline version cpus fits small; short = length-header-le version cpus fits small }
