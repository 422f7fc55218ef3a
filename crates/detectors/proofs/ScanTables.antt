-- Proves that the table of scan counts is correct after the groups of a reading are stored.
use Rattle.std.proofs.Common.{◌≡◌, ℕ, ◌<◌, List, [], ◌∷◌, ◌++◌, length, ⊎_elim, refl, sym, ap, ◌∙◌}
use Rattle.std.proofs.Common.{◌+◌, eq-eqb, get_or, set, take, get_or-set_same, get_or-set_other}
use Rattle.std.specs.Prelude.{◌==◌, true, false, find, Option, None, Some}
use Rattle.std.specs.Option.{option_or}
use Rattle.std.proofs.lemmas.Bool.{cases_eq, ne_eqb}
use Rattle.std.proofs.lemmas.List.{take_more}
use Rattle.std.proofs.lemmas.List.Folds.{find-append}
use Rattle.psi_base.specs.declared.event.Preference.TheVariants.{Prefer}
use Rattle.kill_spec.specs.declared.reading.GroupReading.{GroupReading}
use Rattle.detectors.specs.Tables.{scan_in, scan_of}

-- A dummy group, used as the default for an index past the end of a list.
abbrev pub no_group : GroupReading
no_group = record {
  slot = record { 0 = 0 };
  averages = [];
  current = 0;
  swap = 0;
  scan = 0;
  preference = Prefer;
  populated = false;
}

-- The first group in slot `slot`.
abbrev pub in_slot : ℕ → List GroupReading → Option GroupReading
in_slot slot groups = find (λ (group : GroupReading). group.slot.0 == slot) groups

-- Storing the count of one more group gives the count of the first group, whether or not an earlier
-- group has the same slot.
same_put : (held : Option ℕ) (first : Option GroupReading) (group : GroupReading) →
    held ≡ scan_of first →
    option_or held (Some group.scan) ≡ scan_of (option_or first (Some group))
same_put held None group is = rw is refl
same_put held (Some first) group is = rw is refl

same_kept : (held : Option ℕ) (first : Option GroupReading) → held ≡ scan_of first →
    held ≡ scan_of (option_or first None)
same_kept held None is = is
same_kept held (Some first) is = is

-- The first group in a slot is still found after a group is appended.
found_here : (slot : ℕ) (group : GroupReading) → (group.slot.0 == slot) ≡ true →
    in_slot slot (group ∷ []) ≡ Some group
found_here slot group is = rw is refl

not_found : (slot : ℕ) (group : GroupReading) → (group.slot.0 == slot) ≡ false →
    in_slot slot (group ∷ []) ≡ None
not_found slot group is = rw is refl

put_at : (scans : List (Option ℕ)) (slot at : ℕ) (put : Option ℕ) → at ≡ slot → at < length scans →
    scan_in (set scans at put) slot ≡ put
put_at scans slot at put same inside = rw (← same) (get_or-set_same scans at put None inside)

-- The table stays correct after the count of one more group is stored, which happens only if no
-- earlier group has its slot.
pub scan_more : (scans : List (Option ℕ)) (groups : List GroupReading) (group : GroupReading) →
    group.slot.0 < length scans →
    ((slot : ℕ) → scan_in scans slot ≡ scan_of (in_slot slot groups)) →
    (slot : ℕ) → scan_in (set scans group.slot.0 (option_or (scan_in scans group.slot.0) (Some group.scan))) slot
    ≡ scan_of (in_slot slot (groups ++ group ∷ []))
scan_more scans groups group inside each slot =
    let joined = find-append (λ (g : GroupReading). g.slot.0 == slot) groups (group ∷ []) in
    let put = option_or (scan_in scans group.slot.0) (Some group.scan) in
    ⊎_elim
    (λ same.
    put_at scans slot group.slot.0 put same inside
    ∙ same_put (scan_in scans group.slot.0) (in_slot slot groups) group (ap (scan_in scans) same ∙ each slot)
    ∙ sym (ap scan_of (joined ∙ ap (option_or (in_slot slot groups)) (found_here slot group (eq-eqb group.slot.0 slot same)))))
    (λ other.
    get_or-set_other scans group.slot.0 slot put None (λ is. other (sym is))
    ∙ same_kept (scan_in scans slot) (in_slot slot groups) (each slot)
    ∙ sym (ap scan_of (joined ∙ ap (option_or (in_slot slot groups)) (not_found slot group (ne_eqb group.slot.0 slot other)))))
    (cases_eq group.slot.0 slot)

-- The table stays correct after one step of the loop over the groups.
pub scan_next : (scans : List (Option ℕ)) (groups : List GroupReading) (i : ℕ) (d : GroupReading) (put : Option ℕ) →
    i < length groups → (get_or groups i d).slot.0 < length scans →
    put ≡ option_or (scan_in scans (get_or groups i d).slot.0) (Some (get_or groups i d).scan) →
    ((slot : ℕ) → scan_in scans slot ≡ scan_of (in_slot slot (take i groups))) →
    (slot : ℕ) → scan_in (set scans (get_or groups i d).slot.0 put) slot ≡ scan_of (in_slot slot (take (i + 1) groups))
scan_next scans groups i d put within inside is each slot =
    rw (take_more groups i d within, is) (scan_more scans (take i groups) (get_or groups i d) inside each slot)
