-- Proofs about the marks of lines, as the code finds them.
use Rattle.std.proofs.Common.{◌≡◌, ◌≢◌, ℕ, ◌+◌, ◌-◌, List, refl, ap, ◌∙◌, sym, arith, true, false, Option, None, Some, ◌==◌, length, drop, take, get_or, inl, inr}
use Rattle.std.specs.Prelude.{codes, is_some, option_map, Ok}
use Rattle.std.proofs.lemmas.Bool.{cases_lt, ne_eqb}
use Rattle.std.proofs.lemmas.List.{get_or-drop}
use Rattle.memchr.specs.Find.{Nowhere, Passes, is_byte}
use Rattle.psi_base.specs.OptionSteps.{◌>>=◌}
use Rattle.import_spec.specs.Places.{begins_with, first_place}
use Rattle.import_spec.specs.Laws.{NonePasses}
use Rattle.import_spec.specs.Marked.{Mark, Marked, begins_marked, if_formed, mark_of, marked_of, read_line, read_marked, sighting_of}
use Rattle.ftrace_import.specs.declared.marked.ShortMark.{ShortMark}
use Rattle.ftrace_import.specs.Bytes.{IsFirstMark, mark_parts, parted}
use Rattle.ftrace_import.proofs.Bytes.{begins_other, prefix, passed_by}

-- Bytes that don't begin with a colon don't begin with a mark.
unmarked : (rest : List ℕ) → (58 == get_or rest 0 0) ≡ false → mark_of rest ≡ None
unfolding mark_of
unmarked rest other =
    rw (begins_other (codes ": sched_switch: ") rest (omega arith) other, begins_other (codes ": sched_wakeup: ") rest (omega arith) other, begins_other (codes ": sched_wakeup_new: ") rest (omega arith) other, begins_other (codes ": sched_migrate_task: ") rest (omega arith) other) refl

no_colon : (line : List ℕ) (at : ℕ) → get_or line at 0 ≢ 58 → mark_of (drop at line) ≡ None
no_colon line at other = unmarked (drop at line) (ne_eqb 58 (get_or (drop at line) 0 0) (λ same. other (sym (prefix line at) ∙ sym same)))

-- There is a mark here.
pub marked_here : (o : Option Mark) (short : ShortMark) → option_map mark_parts o ≡ Some short → is_some o ≡ true
marked_here None short is = absurd (cc is)
marked_here (Some m) short is = refl

pub unmarked_here : (o : Option Mark) → option_map mark_parts o ≡ None → is_some o ≡ false
unmarked_here None is = refl
unmarked_here (Some m) is = absurd (cc is)

-- No mark begins at a byte that the search for a colon passed over.
pub none_before : (line rest : List ℕ) (from count : ℕ) → rest ≡ drop from line → Nowhere (Passes (is_byte 58) rest) 0 count → NonePasses begins_marked line 0 from → NonePasses begins_marked line 0 (from + count)
none_before line rest from count is off none k low under =
    elim (cases_lt k from) [
      | inl early ↦ none k low early
      | inr late ↦
          let back : from + (k - from) ≡ k = omega (arith, late) in
          let other = passed_by 58 (get_or rest (k - from) 0) (off (k - from) (omega arith) (omega (arith, under, late))) in
          let same = ap (λ bytes. get_or bytes (k - from) 0) is ∙ get_or-drop from line (k - from) 0 ∙ ap (λ n. get_or line n 0) back in
          ap is_some (no_colon line k (λ colon. other (same ∙ colon)))
    ]

-- ---- a line

marked_as : (line : List ℕ) (at : ℕ) (o : Option Mark) (short : ShortMark) → option_map mark_parts o ≡ Some short → (o >>= (λ (found : Mark). let r : Option Marked = Some (record { kind = found.kind; head = take at line; tail = drop (at + length found.text) line }) in r)) ≡ Some (parted line at short)
marked_as line at None short is = absurd (cc is)
marked_as line at (Some m) short is =
    let same : mark_parts m ≡ short = cc is in
    ap (λ (p : ShortMark). let r : Option Marked = Some (parted line at p) in r) same

pub read_comment : (line : List ℕ) → begins_with (codes "#") line ≡ true → read_line line ≡ Ok None
unfolding read_line marked_of
read_comment line is = rw is refl

pub read_unmarked : (line : List ℕ) → begins_with (codes "#") line ≡ false → first_place begins_marked line ≡ None → read_line line ≡ Ok None
unfolding read_line marked_of
read_unmarked line off none = rw (off, none) refl

pub read_found : (line : List ℕ) (at : ℕ) (short : ShortMark) → begins_with (codes "#") line ≡ false → IsFirstMark line at short → read_line line ≡ if_formed (sighting_of (parted line at short))
unfolding read_line marked_of
read_found line at short off mark =
    let found = marked_as line at (mark_of (drop at line)) short mark.mark in
    rw (off, mark.first) (ap read_marked found)
