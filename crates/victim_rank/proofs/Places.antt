-- Proves properties of the stored sizes of groups, which are indexed by slot.
use Rattle.std.proofs.Common.{◌≡◌, ℕ, zero, suc, ◌+◌, ◌<◌, ◌≤◌, List, [], ◌∷◌, length, get_or, set}
use Rattle.std.proofs.Common.{take, drop, refl, sym, ap, ◌∙◌, arith, add-one}
use Rattle.std.specs.Prelude.{Option, None, map, option_map, replicate}
use Rattle.std.proofs.lemmas.List.{get_or-map, length-take-le, length-replicate, map-set, take-take}
use Rattle.std.proofs.lemmas.List.{take_all}
use Rattle.psi_spec.specs.declared.machine.GroupLife.{GroupLife}
use Rattle.kill_spec.specs.declared.reading.GroupReading.{GroupReading}
use Rattle.kill_spec.specs.Readings.{Reading, group_in}
use Rattle.kill_spec.specs.LegalReadings.{IsReading}
use Rattle.kill_spec.specs.Victims.{sizes_in}
use Rattle.victim_rank.specs.declared.past.Sizes.{Sizes}
use Rattle.victim_rank.specs.Pasts.{IsPastOf, Kept, PastTakes, sizes_of}
use Rattle.victim_rank.specs.Tables.{newer_sizes}
use Rattle.victim_rank.proofs.Tables.{newer_history, scans_taken, sizes_taken, taken, with_scan}
use Rattle.victim_rank.proofs.Tables.{with_size}

-- ---- one more size

first_three : (bytes : List ℕ) → length bytes ≡ 4 →
    take 3 bytes ≡ get_or bytes 0 0 ∷ get_or bytes 1 0 ∷ get_or bytes 2 0 ∷ []
first_three [] long = absurd (omega (arith, long))
first_three (a ∷ []) long = absurd (omega (arith, long))
first_three (a ∷ b ∷ []) long = absurd (omega (arith, long))
first_three (a ∷ b ∷ c ∷ bytes) long = refl

pub one_more : (newest count : ℕ) (bytes : List ℕ) → count < 4 → length bytes ≡ 4 →
    take (count + 1) (newest ∷ get_or bytes 0 0 ∷ get_or bytes 1 0 ∷ get_or bytes 2 0 ∷ []) ≡ newest
    ∷ take 3 (take count bytes)
one_more newest count bytes few long =
    let short : length (take count bytes) ≤ 3 =
    omega (arith, length-take-le count bytes (omega (arith, few, long)), few) in
    rw (← first_three bytes long) (rw (add-one count)
    (ap (λ rest. newest ∷ rest) (take-take count 3 bytes (omega (arith, few)) ∙
    sym (take_all 3 (take count bytes) short))))

-- ---- no sizes

pub map-replicate : {A B : Type 0} (f : A → B) (n : ℕ) (a : A) →
    map f (replicate n a) ≡ replicate n (f a)
map-replicate f zero a = refl
map-replicate f (suc n) a = ap (λ rest. f a ∷ rest) (map-replicate f n a)

pub get_or-replicate_default : {A : Type 0} (n i : ℕ) (d : A) → get_or (replicate n d) i d ≡ d
get_or-replicate_default zero i d = refl
get_or-replicate_default (suc n) zero d = refl
get_or-replicate_default (suc n) (suc i) d = get_or-replicate_default n i d

-- ---- one more group

pub size_step : (sizes : List Sizes) (groups : List GroupReading) (i : ℕ) (group : GroupReading)
    (new d : Sizes) →
    drop i groups ≡ group ∷ drop (i + 1) groups → group.slot.0 < length sizes →
    sizes_of new ≡ take 4 (group.current ∷ sizes_of (get_or sizes group.slot.0 d)) →
    taken with_size [] (map sizes_of (set sizes group.slot.0 new)) (drop (i + 1) groups) ≡ taken
    with_size [] (map sizes_of sizes) (drop i groups)
size_step sizes groups i group new d rest within added =
    let next : map sizes_of (set sizes group.slot.0 new) ≡ set (map sizes_of sizes) group.slot.0
    (with_size group (get_or (map sizes_of sizes) group.slot.0 [])) =
    map-set sizes_of sizes group.slot.0 new ∙ ap (set (map sizes_of sizes) group.slot.0)
    (added ∙ ap (with_size group) (sym (get_or-map sizes_of sizes group.slot.0 d [] within))) in
    rw (rest, next) refl

-- ---- at the end of the groups

pub sizes_end : (lives : List GroupLife) (reading : Reading) → IsReading lives reading →
    (before after : List (List ℕ)) → length before ≡ length lives →
    after ≡ taken with_size [] before reading.groups →
    (slot : ℕ) → get_or after slot [] ≡ newer_sizes (group_in reading slot) (get_or before slot [])
sizes_end lives reading is before after long whole slot =
    ap (λ (sizes : List (List ℕ)). get_or sizes slot []) whole ∙
    sizes_taken lives reading is before long slot

pub scans_end : (lives : List GroupLife) (reading : Reading) → IsReading lives reading →
    (count : ℕ) (after : List (Option ℕ)) → count ≡ length lives →
    after ≡ taken with_scan None (replicate count None) reading.groups →
    (slot : ℕ) → get_or after slot None ≡ option_map (λ (group : GroupReading). group.scan)
    (group_in reading slot)
scans_end lives reading is count after long whole slot =
    ap (λ (scans : List (Option ℕ)). get_or scans slot None) whole
    ∙ scans_taken lives reading is (replicate count None) (length-replicate count None ∙ long)
    (λ place. get_or-replicate_default count place None) slot

-- ---- the stored past represents the readings

pub none_yet : (slots : ℕ) (kept : Kept) → kept.sizes ≡ replicate slots [] →
    kept.scans ≡ replicate slots None → IsPastOf kept []
none_yet slots kept sizes scans = record {
  sizes = λ slot. ap (λ (sizes : List (List ℕ)). get_or sizes slot []) sizes ∙
      get_or-replicate_default slots slot [];
  scans = λ slot. ap (λ (scans : List (Option ℕ)). get_or scans slot None) scans ∙
      get_or-replicate_default slots slot None;
}

pub one_reading_more : (old new : Kept) (now : Reading) →
    ((slot : ℕ) → get_or new.sizes slot [] ≡ newer_sizes (group_in now slot)
    (get_or old.sizes slot [])) →
    ((slot : ℕ) → get_or new.scans slot None ≡ option_map (λ (group : GroupReading). group.scan)
    (group_in now slot)) →
    PastTakes old now new
one_reading_more old new now sizes scans history past = record {
  sizes = λ slot. sizes slot ∙ ap (newer_sizes (group_in now slot)) (past.sizes slot) ∙
      newer_history (group_in now slot) (sizes_in slot history);
  scans = scans;
}
