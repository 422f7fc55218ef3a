-- Proofs about splitting bytes at their first newline.
use Rattle.std.proofs.Common.{◌≡◌, ◌≢◌, ℕ, zero, suc, ◌+◌, ◌<◌, List, [], ◌∷◌, ◌++◌, length, ap, ◌∙◌, arith, ◌⊎◌, inl, inr, ⊎_elim}
use Rattle.std.proofs.lemmas.Bool.Decides.{eqb_tells}
use Rattle.std.proofs.lemmas.List.{length-append}
use Rattle.psi_base.specs.Path.{parts_at}
use Rattle.psi_base.proofs.PartLaws.{HasNone, parts_at-line}

-- the bytes up to the first `at`, and the bytes after it
pub record Cut (at : ℕ) (bytes : List ℕ) : Type 0 where
  pub line : List ℕ
  pub suffix : List ℕ
  pub none : HasNone at line (length line)
  pub whole : bytes ≡ line ++ at ∷ suffix

none_more : (at byte : ℕ) (bytes : List ℕ) → byte ≢ at → HasNone at bytes (length bytes) → HasNone at (byte ∷ bytes) (length (byte ∷ bytes))
none_more at byte bytes other none zero below = other
none_more at byte bytes other none (suc k) below = none k (omega (arith, below))

-- bytes don't contain `at`, or are split at the first one
pub cut : (at : ℕ) (bytes : List ℕ) → HasNone at bytes (length bytes) ⊎ Cut at bytes
cut at [] = inl (λ k below. absurd (omega (arith, below)))
cut at (byte ∷ bytes) = ⊎_elim
    (λ same. inr (record { line = []; suffix = bytes; none = λ k below. absurd (omega (arith, below)); whole = ap (λ b. b ∷ bytes) same.1 }))
    (λ other. ⊎_elim
    (λ none. inl (none_more at byte bytes other.1 none))
    (λ c. inr (record { line = byte ∷ c.line; suffix = c.suffix; none = none_more at byte c.line other.1 c.none; whole = ap (λ bs. byte ∷ bs) c.whole }))
    (cut at bytes))
    (eqb_tells byte at)

pub cut_shorter : (at : ℕ) (bytes : List ℕ) (c : Cut at bytes) → length c.suffix < length bytes
cut_shorter at bytes c =
    let len : length bytes ≡ length c.line + length (at ∷ c.suffix) = ap length c.whole ∙ length-append c.line (at ∷ c.suffix) in
    omega (arith, len)

pub cut_parts : (at : ℕ) (bytes : List ℕ) (c : Cut at bytes) → parts_at at bytes ≡ c.line ∷ parts_at at c.suffix
cut_parts at bytes c = rw c.whole (parts_at-line at c.line c.suffix c.none)
