-- Proofs that a path, as a pattern, matches itself and no other path.
use Rattle.std.proofs.Common.{◌≡◌, ℕ, List, [], ◌∷◌, length, refl, sym, ap, ◌∙◌, arith, true, ⊎_elim, subst}
use Rattle.std.specs.Prelude.{◌==◌, nat_lt, slice_index, drop, codes}
use Rattle.std.specs.List.{join_with_byte, list_all}
use Rattle.std.proofs.lemmas.Bool.{and_parts, and_from, or_cases, eq-eqb, ne_eqb, eqb-true}
use Rattle.std.proofs.lemmas.Slice.Eq.{bytes_eq-Decides}
use Rattle.psi_base.specs.Path.{parts_at, is_path, is_path_byte, is_component}
use Rattle.path_match.specs.Match.{components, is_component_match, are_matches, begins}
use Rattle.path_match.specs.Laws.{PathMatchesItself}
use Rattle.path_match.proofs.MatchLaws.{components-root, pattern_shows}
use Rattle.path_match.proofs.JoinedParts.{joined_by-parts}
use Rattle.path_match.proofs.PatternLaws.{components-slash}

-- ---- the components of a path

-- a path is determined by its components, which are well formed
record HasComponents (path : List ℕ) : Type 0 where
  formed : list_all is_component (components path) ≡ true
  text : 47 ∷ join_with_byte 47 (components path) ≡ path

of_root : (path : List ℕ) → path ≡ codes "/" → HasComponents path
of_root path is = record { formed = rw (is, components-root) refl; text = rw (is, components-root) refl }

of_bytes : (byte : ℕ) (bytes : List ℕ) → list_all is_component (parts_at 47 (byte ∷ bytes)) ≡ true → HasComponents (47 ∷ byte ∷ bytes)
of_bytes byte bytes good = record {
  formed = rw (components-slash byte bytes) good;
  text = rw (components-slash byte bytes) (ap (λ bs. 47 ∷ bs) (joined_by-parts 47 (byte ∷ bytes)));
}

of_parts : (path : List ℕ) → slice_index path 0 ≡ 47 → list_all is_component (parts_at 47 (drop 1 path)) ≡ true → HasComponents path
of_parts [] is good = absurd (omega (arith, is))
of_parts (first ∷ []) is good = of_root (first ∷ []) (ap (λ b. b ∷ []) is)
of_parts (first ∷ byte ∷ bytes) is good = subst (λ (b : ℕ). HasComponents (b ∷ byte ∷ bytes)) (sym is) (of_bytes byte bytes good)

has_components : (path : List ℕ) → is_path path ≡ true → HasComponents path
unfolding is_path
has_components path is = ⊎_elim
    (λ root. of_root path ((bytes_eq-Decides path (codes "/")).0 root))
    (λ other.
    let last = and_parts _ _ other in
    let prefix = and_parts _ _ last.0 in
    let first = and_parts _ _ prefix.0 in
    of_parts path (eqb-true (slice_index path 0) 47 first.0) last.1)
    (or_cases _ _ is)

-- ---- a pattern without a star matches only itself

plain_bytes : (part : List ℕ) → is_component part ≡ true → list_all is_path_byte part ≡ true
plain_bytes part good = (and_parts (nat_lt 0 (length part)) (list_all is_path_byte part) (and_parts _ _ (and_parts _ _ good).0).0).1

byte_test : (c : ℕ) (pattern bytes : List ℕ) → is_path_byte c ≡ true → is_component_match (c ∷ pattern) bytes ≡ begins c (is_component_match pattern) bytes
byte_test c pattern bytes known = rw (ne_eqb c 42 (λ star. let is : is_path_byte c ≡ is_path_byte 42 = ap is_path_byte star in absurd cc)) refl

same_bytes : (pattern bytes : List ℕ) → list_all is_path_byte pattern ≡ true → is_component_match pattern bytes ≡ true → pattern ≡ bytes
same_bytes [] [] plain matched = refl
same_bytes [] (byte ∷ bytes) plain matched = absurd cc
same_bytes (c ∷ pattern) [] plain matched =
    let is = byte_test c pattern [] (and_parts (is_path_byte c) (list_all is_path_byte pattern) plain).0 in absurd cc
same_bytes (c ∷ pattern) (byte ∷ bytes) plain matched =
    let known = and_parts (is_path_byte c) (list_all is_path_byte pattern) plain in
    let both = and_parts (c == byte) (is_component_match pattern bytes) (sym (byte_test c pattern (byte ∷ bytes) known.0) ∙ matched) in
    let first = eqb-true c byte both.0 in
    let rest = same_bytes pattern bytes known.1 both.1 in cc

itself : (pattern : List ℕ) → list_all is_path_byte pattern ≡ true → is_component_match pattern pattern ≡ true
itself [] plain = refl
itself (c ∷ pattern) plain =
    let known = and_parts (is_path_byte c) (list_all is_path_byte pattern) plain in
    byte_test c pattern (c ∷ pattern) known.0 ∙ and_from (c == c) (is_component_match pattern pattern) (eq-eqb c c refl) (itself pattern known.1)

same_parts : (pattern parts : List (List ℕ)) → list_all is_component pattern ≡ true → are_matches pattern parts ≡ true → pattern ≡ parts
same_parts [] [] plain matched = refl
same_parts [] (part ∷ parts) plain matched = absurd cc
same_parts (component ∷ pattern) [] plain matched = absurd cc
same_parts (component ∷ pattern) (part ∷ parts) plain matched =
    let known = and_parts (is_component component) (list_all is_component pattern) plain in
    let both = and_parts (is_component_match component part) (are_matches pattern parts) matched in
    let first = same_bytes component part (plain_bytes component known.0) both.0 in
    let rest = same_parts pattern parts known.1 both.1 in cc

themselves : (pattern : List (List ℕ)) → list_all is_component pattern ≡ true → are_matches pattern pattern ≡ true
themselves [] plain = refl
themselves (component ∷ pattern) plain =
    let known = and_parts (is_component component) (list_all is_component pattern) plain in
    and_from (is_component_match component component) (are_matches pattern pattern) (itself component (plain_bytes component known.0)) (themselves pattern known.1)

pub path_matches_itself : PathMatchesItself
path_matches_itself text path is_text is_path =
    let mine = has_components text is_text in
    let other = has_components path is_path in
    let shows = pattern_shows (components text) path in (
      λ matches.
          let same = same_parts (components text) (components path) mine.formed (shows.1 matches) in
          sym other.text ∙ ap (λ parts. 47 ∷ join_with_byte 47 parts) (sym same) ∙ mine.text,
      λ is. shows.0 (rw is (themselves (components text) mine.formed)),
    )
