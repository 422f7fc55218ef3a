-- Proves that the map from paths to slots has the live groups in the order of their paths.
use Rattle.std.proofs.Common.{◌≡◌, ℕ, ◌+◌, ◌<◌, ◌≤◌, List, [], ◌∷◌, refl, ap, ◌∙◌, sym, Bool, true, false, Bor, length, map, drop, get_or}
use Rattle.std.specs.Prelude.{not, if◌then◌else◌, is_some}
use Rattle.std.specs.Ordering.{nat_cmp}
use Rattle.std.specs.Cmp.Lexicographic.{slice_cmp}
use Rattle.std.specs.declared.cmp.Ordering.{Ordering}
use Rattle.std.specs.declared.cmp.Ordering.TheVariants.{Less, Equal, Greater}
use Rattle.std.specs.BTreeMap.{insert_entry}
use Rattle.std.specs.FinMap as fin
use Rattle.std.specs.Map.{values_of}
use Rattle.std.proofs.lemmas.List.{drop_more, drop_all}
use Rattle.psi_base.specs.declared.event.Slot.{Slot}
use Rattle.psi_spec.specs.declared.machine.GroupLife.{GroupLife}
use Rattle.psi_spec.specs.Groups.{live_from, in_order}
use Rattle.group_tree.specs.Tree.{slot_at, paths_and_slots}

-- ---- a map's entries

-- Compares two borrowed paths by their bytes.
abbrev pub by_path : Bor (List ℕ) → Bor (List ℕ) → Ordering
by_path x y = slice_cmp nat_cmp x.now y.now

-- Selects one of three values by the result of a comparison.
abbrev ordered : {A : Type 0} → Ordering → A → A → A → A
ordered Less a b c = a
ordered Equal a b c = b
ordered Greater a b c = c

-- Inserting an entry with a borrowed path is the same as inserting it with the bytes of the path.
named_put : (es : List (Bor (List ℕ) × Slot)) (k : Bor (List ℕ)) (v : Slot) → paths_and_slots (insert_entry by_path es k v) ≡ fin.put (slice_cmp nat_cmp) k.now v.0 (paths_and_slots es)
named_put [] k v = refl
named_put (e ∷ es) k v =
    elim (slice_cmp nat_cmp k.now e.0.now) as (λ r. paths_and_slots (ordered r ((k, v) ∷ e ∷ es) ((e.0, v) ∷ es) (e ∷ insert_entry by_path es k v)) ≡ ordered r ((k.now, v.0) ∷ paths_and_slots (e ∷ es)) ((e.0.now, v.0) ∷ paths_and_slots es) ((e.0.now, e.1.0) ∷ fin.put (slice_cmp nat_cmp) k.now v.0 (paths_and_slots es))) [
      | Less ↦ refl
      | Equal ↦ refl
      | Greater ↦ ap (λ ps. (e.0.now, e.1.0) ∷ ps) (named_put es k v)
    ]

-- ---- from the last group to the first

-- Returns the live groups with slots from `slot` on, in the order of their paths.
abbrev pub live_rest : List GroupLife → ℕ → List (List ℕ × ℕ)
live_rest groups slot = in_order (live_from slot (drop slot groups))

-- Adds the group in one more slot to the live groups with greater slots.
rest_step : (groups : List GroupLife) (slot : ℕ) (life : GroupLife) → slot < length groups → life ≡ get_or groups slot life → (gone : Bool) → is_some life.gone ≡ gone → live_rest groups slot ≡ (if not gone then fin.put (slice_cmp nat_cmp) life.path slot (live_rest groups (slot + 1)) else live_rest groups (slot + 1))
rest_step groups slot life room is true gone =
    ap (λ gs. in_order (live_from slot gs)) (drop_more groups slot life room ∙ ap (λ (g : GroupLife). g ∷ drop (slot + 1) groups) (sym is))
    ∙ ap (λ b. in_order (if not b then (life.path, slot) ∷ live_from (slot + 1) (drop (slot + 1) groups) else live_from (slot + 1) (drop (slot + 1) groups))) gone
rest_step groups slot life room is false gone =
    ap (λ gs. in_order (live_from slot gs)) (drop_more groups slot life room ∙ ap (λ (g : GroupLife). g ∷ drop (slot + 1) groups) (sym is))
    ∙ ap (λ b. in_order (if not b then (life.path, slot) ∷ live_from (slot + 1) (drop (slot + 1) groups) else live_from (slot + 1) (drop (slot + 1) groups))) gone

-- Passing a removed group leaves the map correct.
pub past_removed : (groups : List GroupLife) (slot : ℕ) (life : GroupLife) (es : List (Bor (List ℕ) × Slot)) → slot < length groups → life ≡ get_or groups slot life → is_some life.gone ≡ true → paths_and_slots es ≡ live_rest groups (slot + 1) → paths_and_slots es ≡ live_rest groups slot
past_removed groups slot life es room is gone rest = rest ∙ sym (rest_step groups slot life room is true gone)

-- Inserting a live group leaves the map correct.
pub past_live : (groups : List GroupLife) (slot : ℕ) (life : GroupLife) (es : List (Bor (List ℕ) × Slot)) (key : Bor (List ℕ)) → slot < length groups → life ≡ get_or groups slot life → is_some life.gone ≡ false → key.now ≡ life.path → paths_and_slots es ≡ live_rest groups (slot + 1) → paths_and_slots (insert_entry by_path es key (slot_at slot)) ≡ live_rest groups slot
past_live groups slot life es key room is live same rest =
    named_put es key (slot_at slot)
    ∙ ap (λ path. fin.put (slice_cmp nat_cmp) path slot (paths_and_slots es)) same
    ∙ ap (fin.put (slice_cmp nat_cmp) life.path slot) rest
    ∙ sym (rest_step groups slot life room is false live)

-- There are no live groups past the last slot.
pub none_left : (groups : List GroupLife) (n : ℕ) → length groups ≤ n → live_rest groups n ≡ []
none_left groups n past = ap (λ gs. in_order (live_from n gs)) (drop_all n groups past)

-- ---- the slots alone

-- The slots of the pairs are the values of the map, in the order of the paths.
pub slots_of : (es : List (Bor (List ℕ) × Slot)) → map (λ (pair : List ℕ × ℕ). slot_at pair.1) (paths_and_slots es) ≡ values_of es
slots_of [] = refl
slots_of (e ∷ es) = ap (λ slots. e.1 ∷ slots) (slots_of es)
