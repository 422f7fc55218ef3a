-- Proves that a search for the last slash computes the path of the parent.
use Rattle.std.proofs.Common.{◌≡◌, ◌≢◌, ℕ, zero, suc, ◌+◌, ◌<◌, ◌≤◌, List, [], ◌∷◌, refl, ap, ◌∙◌, Bool, true, false, arith, length, take, get_or}
use Rattle.std.specs.Prelude.{◌==◌, ◌||◌, codes, if◌then◌else◌}
use Rattle.std.specs.List.{list_any}
use Rattle.std.specs.Str.{IsAscii}
use Rattle.std.proofs.lemmas.Bool.Decides.{nat_tests}
use Rattle.std.proofs.lemmas.Str.{IsUtf8-from_ascii}
use Rattle.psi_base.proofs.PathLaws.{cons_ascii, root_ascii}
use Rattle.psi_spec.specs.World.{before_last_slash, or_root, parent_path}

-- Whether the byte is a slash.
abbrev is_slash : ℕ → Bool
is_slash b = b == 47

-- `HasNoSlash bytes from`: no byte from index `from` on is a slash.
abbrev pub HasNoSlash : List ℕ → ℕ → Type 0
HasNoSlash bytes at = (k : ℕ) → at ≤ k → k < length bytes → get_or bytes k 0 ≢ 47

-- A disjunction of two false tests is false.
neither : (a b : Bool) → a ≡ false → b ≡ false → (a || b) ≡ false
neither false b h k = k
neither true b h k = cc h

-- A disjunction with a true second test is true.
either : (a b : Bool) → b ≡ true → (a || b) ≡ true
either true b h = refl
either false b h = h

-- A byte other than 47 fails the test for a slash.
not_slash : (b : ℕ) → b ≢ 47 → is_slash b ≡ false
not_slash b other = grind (arith, nat_tests)

-- If the bytes contain no slash, the search finds none.
none_found : (bytes : List ℕ) → HasNoSlash bytes 0 → list_any is_slash bytes ≡ false
none_found [] none = refl
none_found (byte ∷ bytes) none =
    neither (is_slash byte) (list_any is_slash bytes) (not_slash byte (none 0 (omega arith) (omega arith))) (none_found bytes (λ k low room. none (suc k) (omega arith) (omega (arith, room))))

-- If the bytes contain a slash, the search finds one.
some_found : (bytes : List ℕ) (at : ℕ) → at < length bytes → get_or bytes at 0 ≡ 47 → list_any is_slash bytes ≡ true
some_found [] at room is = absurd (omega (arith, room))
some_found (byte ∷ bytes) zero room is = ap (λ b. is_slash b || list_any is_slash bytes) is
some_found (byte ∷ bytes) (suc at) room is = either (is_slash byte) (list_any is_slash bytes) (some_found bytes at (omega (arith, room)) is)

-- If the last slash is at index `at`, the bytes before the last slash are the first `at` bytes.
cut_at : (bytes : List ℕ) (at : ℕ) → at < length bytes → get_or bytes at 0 ≡ 47 → HasNoSlash bytes (at + 1) → before_last_slash bytes ≡ take at bytes
cut_at [] at room is none = absurd (omega (arith, room))
cut_at (byte ∷ bytes) zero room is none =
    ap (λ b. if b then byte ∷ before_last_slash bytes else []) (none_found bytes (λ k low inside. none (suc k) (omega arith) (omega (arith, inside))))
cut_at (byte ∷ bytes) (suc at) room is none =
    ap (λ b. if b then byte ∷ before_last_slash bytes else []) (some_found bytes at (omega (arith, room)) is)
    ∙ ap (λ bs. byte ∷ bs) (cut_at bytes at (omega (arith, room)) is (λ k low inside. none (suc k) (omega (arith, low)) (omega (arith, inside))))

-- If there is no slash, there are no bytes before the last slash.
uncut : (bytes : List ℕ) → HasNoSlash bytes 0 → before_last_slash bytes ≡ []
uncut [] none = refl
uncut (byte ∷ bytes) none =
    ap (λ b. if b then byte ∷ before_last_slash bytes else []) (none_found bytes (λ k low inside. none (suc k) (omega arith) (omega (arith, inside))))

-- The parent's path consists of the bytes before the last slash, or is the root's path if there are
-- none.
pub above_cut : (bytes : List ℕ) (at : ℕ) → at < length bytes → get_or bytes at 0 ≡ 47 → HasNoSlash bytes (at + 1) → parent_path bytes ≡ or_root (take at bytes)
above_cut bytes at room is none = ap or_root (cut_at bytes at room is none)

-- If there is no slash, the parent's path is the root's path.
pub above_none : (bytes : List ℕ) → HasNoSlash bytes 0 → parent_path bytes ≡ codes "/"
above_none bytes none = ap or_root (uncut bytes none)

pub ruleset slashes = (above_cut, above_none)

-- ---- ASCII

-- If a path is ASCII, its bytes before the last slash are ASCII.
cut_ascii : (bytes : List ℕ) → IsAscii bytes → IsAscii (before_last_slash bytes)
cut_ascii [] all = all
cut_ascii (byte ∷ bytes) all =
    elim (list_any is_slash bytes) as (λ b. IsAscii (if b then byte ∷ before_last_slash bytes else [])) [
      | true ↦ cons_ascii byte (before_last_slash bytes) (all 0) (cut_ascii bytes (λ i. all (suc i)))
      | false ↦ λ i. omega arith
    ]

-- The root's path, which replaces empty bytes, is ASCII.
root_or_ascii : (bytes : List ℕ) → IsAscii bytes → IsAscii (or_root bytes)
root_or_ascii [] all = root_ascii
root_or_ascii (byte ∷ bytes) all = all

-- If a path is ASCII, the path of the parent is ASCII.
pub above_ascii : (bytes : List ℕ) → IsAscii bytes → IsAscii (parent_path bytes)
above_ascii bytes all = root_or_ascii (before_last_slash bytes) (cut_ascii bytes all)

pub ruleset texts = (above_ascii, IsUtf8-from_ascii)
