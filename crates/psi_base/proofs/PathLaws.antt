-- Paths are ASCII.
use Rattle.std.proofs.Common.{◌≡◌, ℕ, zero, suc, ◌<◌, List, [], ◌∷◌, refl, ap, sym, ◌∙◌, subst, Bool, true, false, arith, length, drop}
use Rattle.std.specs.Prelude.{nat_le, nat_lt, slice_index, ◌==◌, ◌&&◌, ◌||◌, not, codes, if◌then◌else◌}
use Rattle.std.specs.List.{list_all}
use Rattle.std.specs.Str.{bytes_eq, IsAscii}
use Rattle.std.proofs.lemmas.Bool.Decides.{nat_tests}
use Rattle.std.proofs.lemmas.Str.{IsUtf8-from_ascii}
use Rattle.std.proofs.lemmas.Slice.Eq.{bytes_eq-Decides}
use Rattle.psi_base.specs.Path.{is_path, is_path_byte, is_component, parts_at, onto_first}

-- every byte that a path may contain is ASCII
byte_ascii : (c : ℕ) → is_path_byte c ≡ true → c < 128
byte_ascii c h = grind (arith, nat_tests)

-- both of two tests hold if their conjunction does
both_true : (a b : Bool) → (a && b) ≡ true → (a ≡ true) × (b ≡ true)
both_true true b h = (refl, h)
both_true false b h = absurd (cc h)

-- the second of four tests holds if their conjunction does
second_of : (a b c d : Bool) → (a && b && c && d) ≡ true → b ≡ true
second_of true true c d h = refl
second_of true false c d h = absurd (cc h)
second_of false b c d h = absurd (cc h)

-- the first and the last of four tests hold if their conjunction does
ends_of : (a b c d : Bool) → (a && b && c && d) ≡ true → (a ≡ true) × (d ≡ true)
ends_of true true true d h = (refl, h)
ends_of true true false d h = absurd (cc h)
ends_of true false c d h = absurd (cc h)
ends_of false b c d h = absurd (cc h)

-- if the parts with a byte prepended have only path bytes, so do the byte and the parts
onto : (byte : ℕ) (parts : List (List ℕ)) → list_all (list_all is_path_byte) (onto_first byte parts) ≡ true → (is_path_byte byte ≡ true) × (list_all (list_all is_path_byte) parts ≡ true)
onto byte [] h = let first = both_true (is_path_byte byte && true) true h in ((both_true (is_path_byte byte) true first.0).0, refl)
onto byte (part ∷ parts) h =
    let all = both_true (is_path_byte byte && list_all is_path_byte part) (list_all (list_all is_path_byte) parts) h in
    let first = both_true (is_path_byte byte) (list_all is_path_byte part) all.0 in
    (first.0, ap (λ b. b && list_all (list_all is_path_byte) parts) first.1 ∙ all.1)

-- ASCII bytes with an ASCII byte prepended are ASCII
pub cons_ascii : (byte : ℕ) (bytes : List ℕ) → byte < 128 → IsAscii bytes → IsAscii (byte ∷ bytes)
cons_ascii byte bytes first rest zero = first
cons_ascii byte bytes first rest (suc i) = rest i

-- the root's path is ASCII
pub root_ascii : IsAscii (codes "/")
root_ascii zero = omega arith
root_ascii (suc i) = omega arith

-- bytes are ASCII if their parts between slashes have only path bytes
parts_ascii : (bytes : List ℕ) → list_all (list_all is_path_byte) (parts_at 47 bytes) ≡ true → IsAscii bytes
unfolding parts_at
parts_ascii [] h = λ i. omega arith
parts_ascii (byte ∷ bytes) h =
    elim (byte == 47) as (λ b. (byte == 47) ≡ b → list_all (list_all is_path_byte) (if b then [] ∷ parts_at 47 bytes else onto_first byte (parts_at 47 bytes)) ≡ true → IsAscii (byte ∷ bytes)) [
      | true ↦ λ is all. cons_ascii byte bytes (grind (arith, nat_tests)) (parts_ascii bytes all)
      | false ↦ λ _ all. let both = onto byte (parts_at 47 bytes) all in cons_ascii byte bytes (byte_ascii byte both.0) (parts_ascii bytes both.1)
    ] refl h

-- components have only path bytes
components : (parts : List (List ℕ)) → list_all is_component parts ≡ true → list_all (list_all is_path_byte) parts ≡ true
components [] h = refl
components (part ∷ parts) h =
    let both = both_true (is_component part) (list_all is_component parts) h in
    let here = second_of (nat_lt 0 (length part)) (list_all is_path_byte part) (not (bytes_eq part (codes "."))) (not (bytes_eq part (codes ".."))) both.0 in
    ap (λ b. b && list_all (list_all is_path_byte) parts) here ∙ components parts both.1

-- a slash followed by components is ASCII
after_slash : (bytes : List ℕ) → (slice_index bytes 0 == 47) ≡ true → list_all is_component (parts_at 47 (drop 1 bytes)) ≡ true → IsAscii bytes
after_slash [] slash all = λ i. omega arith
after_slash (byte ∷ bytes) slash all = cons_ascii byte bytes (grind (arith, nat_tests)) (parts_ascii bytes (components (parts_at 47 bytes) all))

-- a path is ASCII
pub path_ascii : (bytes : List ℕ) → is_path bytes ≡ true → IsAscii bytes
unfolding is_path
path_ascii bytes h =
    elim (bytes_eq bytes (codes "/")) as (λ b. bytes_eq bytes (codes "/") ≡ b → (b || (slice_index bytes 0 == 47 && nat_le (length bytes) 255 && nat_le (length (parts_at 47 (drop 1 bytes))) 32 && list_all is_component (parts_at 47 (drop 1 bytes)))) ≡ true → IsAscii bytes) [
      | true ↦ λ is _. subst IsAscii (sym ((bytes_eq-Decides bytes (codes "/")).0 is)) root_ascii
      | false ↦ λ _ all.
          let ends = ends_of (slice_index bytes 0 == 47) (nat_le (length bytes) 255) (nat_le (length (parts_at 47 (drop 1 bytes))) 32) (list_all is_component (parts_at 47 (drop 1 bytes))) all in
          after_slash bytes ends.0 ends.1
    ] refl h

pub ruleset texts = (path_ascii, IsUtf8-from_ascii)
