-- Proofs about the message for a rejected line, which is written in pieces.
use Rattle.std.proofs.Common.{◌≡◌, ℕ, [], ◌++◌, sym, ap, append_assoc}
use Rattle.std.specs.Prelude.{codes, decimal, None, Some}
use Rattle.std.proofs.lemmas.List.{append-nil}
use Rattle.psi_base.specs.declared.event.Cause.{Cause}
use Rattle.run_spec.specs.Text.{cause_name, field_number, field_text}
use Rattle.run_spec.specs.Status.{refusal_text}

-- For a cause without a field, the five written pieces form the message.
pub refusal_none : (line : ℕ) (why : Cause) → field_number why ≡ None → codes "trace line " ++ (decimal line ++ (codes ": " ++ (cause_name why ++ (codes "\n" ++ [])))) ≡ refusal_text line why
refusal_none line why none =
    let name : cause_name why ++ codes "\n" ≡ (cause_name why ++ field_text (field_number why)) ++ codes "\n" = rw none (ap (λ n. n ++ codes "\n") (sym (append-nil (cause_name why)))) in
    ap (λ t. codes "trace line " ++ (decimal line ++ (codes ": " ++ t))) name

-- For a cause with a field, the seven written pieces form the message.
pub refusal_some : (line field : ℕ) (why : Cause) → field_number why ≡ Some field → codes "trace line " ++ (decimal line ++ (codes ": " ++ (cause_name why ++ (codes " " ++ (decimal field ++ (codes "\n" ++ [])))))) ≡ refusal_text line why
refusal_some line field why some =
    let name : cause_name why ++ (codes " " ++ (decimal field ++ codes "\n")) ≡ (cause_name why ++ field_text (field_number why)) ++ codes "\n" = rw some (sym (append_assoc (cause_name why) (codes " " ++ decimal field) (codes "\n"))) in
    ap (λ t. codes "trace line " ++ (decimal line ++ (codes ": " ++ t))) name
