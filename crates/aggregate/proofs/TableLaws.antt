-- Proves properties of tables whose rows are stored one after another in one list.
use Rattle.std.proofs.Common.{◌≡◌, ◌≢◌, ℕ, ◌+◌, ◌-◌, ◌*◌, ◌≤◌, ◌<◌, List, [], ◌++◌, length, take, drop, get_or, set, replicate, refl, sym, ap, ◌∙◌, arith, ◌⊎◌, ⊎_elim}
use Rattle.std.proofs.Math.Nat.{mul-le-mul_right}
use Rattle.std.proofs.Math.Seq.{take-set-lt}
use Rattle.std.proofs.lemmas.List.{append_assoc, drop-append-le, drop-drop, drop-take, drop_at, get_or_past, length-append, length-take-le, take-append-le, take-take, take_at, length-take, length-drop, length-set, length-replicate, take-set-le, drop-set-lt, drop-set-add, take-replicate, drop-replicate, get_or-replicate, get_or-set_same, get_or-set_other}
use Rattle.std.proofs.lemmas.List.FromFn.{fill_by_all, get_or-map-range_with_len, length-map-range_with_len}
use Rattle.aggregate.specs.Table.{row_in, rows_of, new_table, no_times, put_times, times_at, HasSizes, HaveSameSizes, IsPlace, KeepsSizes, SetsOnePlace}

-- A row ends at or before the end of all rows.
pub row_end : (slot slots cpus : ℕ) → slot < slots → slot * cpus + cpus ≤ slots * cpus
row_end slot slots cpus below =
    let next : slot + 1 ≤ slots = omega arith in
    let all : (slot + 1) * cpus ≤ slots * cpus = mul-le-mul_right cpus next in
    omega (arith, all)

pub get_or-rows_of : (cpus slots : ℕ) (flat : List (List ℕ)) (slot : ℕ) (d : List (List ℕ)) → slot < slots → get_or (rows_of cpus slots flat) slot d ≡ row_in cpus flat slot
get_or-rows_of cpus slots flat slot d below = get_or-map-range_with_len (row_in cpus flat) 0 slots slot slot d below (omega arith)

pub length-rows_of : (cpus slots : ℕ) (flat : List (List ℕ)) → length (rows_of cpus slots flat) ≡ slots
length-rows_of cpus slots flat = length-map-range_with_len (row_in cpus flat) 0 slots

pub length-row_in : (cpus slots : ℕ) (flat : List (List ℕ)) (slot : ℕ) → length flat ≡ slots * cpus → slot < slots → length (row_in cpus flat slot) ≡ cpus
length-row_in cpus slots flat slot long below = simp (length-take, length-drop) (omega (arith, row_end slot slots cpus below, long))

-- A new table has only zeros.
pub rows_of-replicate : (cpus slots : ℕ) (times : List ℕ) → rows_of cpus slots (replicate (slots * cpus) times) ≡ replicate slots (replicate cpus times)
rows_of-replicate cpus slots times =
    sym (fill_by_all (row_in cpus (replicate (slots * cpus) times)) (replicate slots (replicate cpus times)) slots [] (length-replicate slots (replicate cpus times)) (λ slot below.
    let room : cpus ≤ slots * cpus - slot * cpus = omega (arith, row_end slot slots cpus below) in
    rw (get_or-replicate slots slot (replicate cpus times) [] below, drop-replicate (slot * cpus) (slots * cpus) times, take-replicate cpus (slots * cpus - slot * cpus) times room) refl))

-- After the times on a processor are set, the row of the group has these times and is otherwise
-- unchanged.
row_set : (cpus slots : ℕ) (flat : List (List ℕ)) (slot cpu : ℕ) (times : List ℕ) → cpu < cpus → row_in cpus (set flat (slot * cpus + cpu) times) slot ≡ set (row_in cpus flat slot) cpu times
row_set cpus slots flat slot cpu times inside = rw (drop-set-add (slot * cpus) flat cpu times, take-set-lt cpus (drop (slot * cpus) flat) cpu times inside) refl

-- Setting the times on a processor in one row doesn't change the other rows.
row_kept : (cpus slots : ℕ) (flat : List (List ℕ)) (slot cpu : ℕ) (times : List ℕ) (other : ℕ) → cpu < cpus → other ≢ slot → row_in cpus (set flat (slot * cpus + cpu) times) other ≡ row_in cpus flat other
row_kept cpus slots flat slot cpu times other inside apart =
    let case : (other < slot) ⊎ (slot < other) = grind (arith, apart) in
    ⊎_elim
    (λ below.
    let end = row_end other slot cpus below in
    let place : slot * cpus + cpu ≡ other * cpus + (slot * cpus + cpu - other * cpus) = omega (arith, end) in
    let past : cpus ≤ slot * cpus + cpu - other * cpus = omega (arith, end) in
    rw (place, drop-set-add (other * cpus) flat (slot * cpus + cpu - other * cpus) times, take-set-le cpus (drop (other * cpus) flat) (slot * cpus + cpu - other * cpus) times past) refl)
    (λ above.
    let prefix : slot * cpus + cpu < other * cpus = omega (arith, row_end slot other cpus above) in
    rw (drop-set-lt (other * cpus) flat (slot * cpus + cpu) times prefix) refl)
    case

-- Setting the times of a group on a processor changes only the row of the group.
pub rows_of-set : (cpus slots : ℕ) (flat : List (List ℕ)) (slot cpu : ℕ) (times : List ℕ) → slot < slots → cpu < cpus →
    rows_of cpus slots (set flat (slot * cpus + cpu) times) ≡ set (rows_of cpus slots flat) slot (set (get_or (rows_of cpus slots flat) slot []) cpu times)
rows_of-set cpus slots flat slot cpu times below inside =
    let rows = rows_of cpus slots flat in
    let row = set (get_or rows slot []) cpu times in
    let long : length rows ≡ slots = length-rows_of cpus slots flat in
    let there : slot < length rows = omega (arith, long) in
    sym (fill_by_all (row_in cpus (set flat (slot * cpus + cpu) times)) (set rows slot row) slots [] (length-set rows slot row ∙ long) (λ other within.
    let case : (other ≡ slot) ⊎ (other ≢ slot) = grind arith in
    ⊎_elim
    (λ same. rw same (get_or-set_same rows slot row [] there
    ∙ ap (λ (r : List (List ℕ)). set r cpu times) (get_or-rows_of cpus slots flat slot [] below)
    ∙ sym (row_set cpus slots flat slot cpu times inside)))
    (λ apart. get_or-set_other rows slot other row [] apart ∙ get_or-rows_of cpus slots flat other [] within ∙ sym (row_kept cpus slots flat slot cpu times other inside apart))
    case))

-- Replacing a row doesn't change the other rows.
row_beside : (cpus slots : ℕ) (flat row : List (List ℕ)) (slot other : ℕ) → length flat ≡ slots * cpus → slot < slots → length row ≡ cpus → other < slots → other ≢ slot →
    row_in cpus (take (slot * cpus) flat ++ (row ++ drop (slot * cpus + cpus) flat)) other ≡ row_in cpus flat other
row_beside cpus slots flat row slot other long below wide within apart =
    let start = slot * cpus in
    let rest = drop (start + cpus) flat in
    let here = other * cpus in
    let end = row_end slot slots cpus below in
    let prefix : length (take start flat) ≡ start = length-take-le start flat (omega (arith, long, end)) in
    let case : (other < slot) ⊎ (slot < other) = grind (arith, apart) in
    ⊎_elim
    (λ before.
    let ends = row_end other slot cpus before in
    let more : here + (start - here) ≡ start = omega (arith, ends) in
    let cut : drop here (take start flat) ≡ take (start - here) (drop here flat) = ap (λ n. drop here (take n flat)) (sym more) ∙ drop-take here (start - here) flat in
    let room : cpus ≤ start - here = omega (arith, ends) in
    let wide_left : cpus ≤ length (drop here (take start flat)) = simp (length-drop) (omega (arith, prefix, ends)) in
    ap (take cpus) (drop-append-le here (take start flat) (row ++ rest) (omega (arith, prefix, ends)))
    ∙ take-append-le cpus (drop here (take start flat)) (row ++ rest) wide_left
    ∙ ap (take cpus) cut ∙ take-take cpus (start - here) (drop here flat) room)
    (λ suffix.
    let starts = row_end slot other cpus suffix in
    let both : length (take start flat ++ row) ≡ start + cpus = length-append (take start flat) row ∙ ap (λ n. n + length row) prefix ∙ ap (λ n. start + n) wide in
    let more : start + cpus + (here - (start + cpus)) ≡ here = omega (arith, starts) in
    let seam : drop (start + cpus) (take start flat ++ (row ++ rest)) ≡ rest = ap (drop (start + cpus)) (sym (append_assoc (take start flat) row rest)) ∙ drop_at (take start flat ++ row) rest (start + cpus) both in
    let split : drop here (take start flat ++ (row ++ rest)) ≡ drop (here - (start + cpus)) (drop (start + cpus) (take start flat ++ (row ++ rest))) = ap (λ n. drop n (take start flat ++ (row ++ rest))) (sym more) ∙ sym (drop-drop (here - (start + cpus)) (start + cpus) (take start flat ++ (row ++ rest))) in
    ap (take cpus) (split ∙ ap (drop (here - (start + cpus))) seam ∙ drop-drop (here - (start + cpus)) (start + cpus) flat ∙ ap (λ n. drop n flat) more))
    case

-- A list in which a whole row is replaced is the table with this row.
pub rows_of-taken : (cpus slots : ℕ) (flat row : List (List ℕ)) (slot : ℕ) → length flat ≡ slots * cpus → slot < slots → length row ≡ cpus →
    rows_of cpus slots (take (slot * cpus) flat ++ (row ++ drop (slot * cpus + cpus) flat)) ≡ set (rows_of cpus slots flat) slot row
rows_of-taken cpus slots flat row slot long below wide =
    let start = slot * cpus in
    let rest = drop (start + cpus) flat in
    let new = take start flat ++ (row ++ rest) in
    let rows = rows_of cpus slots flat in
    let many : length rows ≡ slots = length-rows_of cpus slots flat in
    let end = row_end slot slots cpus below in
    let prefix : length (take start flat) ≡ start = length-take-le start flat (omega (arith, long, end)) in
    let place : slot < length rows = omega (arith, below, many) in
    sym (fill_by_all (row_in cpus new) (set rows slot row) slots [] (length-set rows slot row ∙ many) (λ other within.
    let case : (other ≡ slot) ⊎ (other ≢ slot) = grind arith in
    ⊎_elim
    (λ same. rw same (get_or-set_same rows slot row [] place
    ∙ sym (ap (take cpus) (drop_at (take start flat) (row ++ rest) start prefix) ∙ take_at row rest cpus wide)))
    (λ apart.
    let kept : row_in cpus new other ≡ row_in cpus flat other = row_beside cpus slots flat row slot other long below wide within apart in
    get_or-set_other rows slot other row [] apart ∙ get_or-rows_of cpus slots flat other [] within ∙ sym kept)
    case))

-- ---- tables as callers see them

new_has : (cpus slots : ℕ) → HasSizes cpus slots (new_table cpus slots)
new_has cpus slots = record {
  slots_are = length-replicate slots (replicate cpus no_times);
  cpus_are = λ slot d below.
      let inside : slot < slots = omega (arith, length-replicate slots (replicate cpus no_times)) in
      rw (get_or-replicate slots slot (replicate cpus no_times) d inside) (length-replicate cpus no_times);
}

put_has : (cpus slots : ℕ) (table : List (List (List ℕ))) (slot cpu : ℕ) (times : List ℕ) → HasSizes cpus slots table → HasSizes cpus slots (put_times table slot cpu times)
put_has cpus slots table slot cpu times has =
    let row = set (get_or table slot []) cpu times in
    let long : length (put_times table slot cpu times) ≡ length table = length-set table slot row in
    record {
      slots_are = long ∙ has.slots_are;
      cpus_are = λ other d below.
          let inside : other < length table = omega (arith, long) in
          let case : (other ≡ slot) ⊎ (other ≢ slot) = grind arith in
          ⊎_elim
          (λ same.
          let there : slot < length table = omega (arith, same, inside) in
          rw same (ap length (get_or-set_same table slot row d there) ∙ length-set (get_or table slot []) cpu times ∙ has.cpus_are slot [] there))
          (λ apart. rw (get_or-set_other table slot other row d apart) (has.cpus_are other d inside))
          case;
    }

pub sizes_same : (cpus slots : ℕ) (table other : List (List (List ℕ))) → HasSizes cpus slots table → HasSizes cpus slots other → HaveSameSizes table other
sizes_same cpus slots table other has also = record {
  slots = has.slots_are ∙ sym also.slots_are;
  cpus = λ slot.
      let inside : slot < slots → length (get_or table slot []) ≡ length (get_or other slot []) = λ below. has.cpus_are slot [] (omega (arith, has.slots_are)) ∙ sym (also.cpus_are slot [] (omega (arith, also.slots_are))) in
      let past : slots ≤ slot → length (get_or table slot []) ≡ length (get_or other slot []) = λ above. rw (get_or_past table slot [] (omega (arith, has.slots_are)), get_or_past other slot [] (omega (arith, also.slots_are))) refl in
      let case : (slot < slots) ⊎ (slots ≤ slot) = grind arith in
      ⊎_elim inside past case;
}

pub keeps_sizes : KeepsSizes
keeps_sizes = record {
  new = new_has;
  set = put_has;
  same = sizes_same;
  place = λ cpus slots table slot cpu has below within.
      let there : slot < length table = omega (arith, has.slots_are, below) in
      record { slot = there; cpu = omega (arith, has.cpus_are slot [] there, within) };
}

put_here : (table : List (List (List ℕ))) (slot cpu : ℕ) (times : List ℕ) → IsPlace table slot cpu → times_at (put_times table slot cpu times) slot cpu ≡ times
put_here table slot cpu times is =
    ap (λ (r : List (List ℕ)). get_or r cpu []) (get_or-set_same table slot (set (get_or table slot []) cpu times) [] is.slot) ∙ get_or-set_same (get_or table slot []) cpu times [] is.cpu

put_elsewhere : (table : List (List (List ℕ))) (slot cpu : ℕ) (times : List ℕ) (other_slot other_cpu : ℕ) → IsPlace table slot cpu → (other_slot ≢ slot) ⊎ (other_cpu ≢ cpu) →
    times_at (put_times table slot cpu times) other_slot other_cpu ≡ times_at table other_slot other_cpu
put_elsewhere table slot cpu times other_slot other_cpu is apart =
    let row = set (get_or table slot []) cpu times in
    let case : (other_slot ≡ slot) ⊎ (other_slot ≢ slot) = grind arith in
    ⊎_elim
    (λ same.
    let cpus : other_cpu ≢ cpu = ⊎_elim (λ slots. absurd (slots same)) (λ other. other) apart in
    rw (same, get_or-set_same table slot row [] is.slot) (get_or-set_other (get_or table slot []) cpu other_cpu times [] cpus))
    (λ other. ap (λ (r : List (List ℕ)). get_or r other_cpu []) (get_or-set_other table slot other_slot row [] other))
    case

pub sets_one_place : SetsOnePlace
sets_one_place = record { here = put_here; elsewhere = put_elsewhere }
