-- Proofs that switching the accounting of a group changes nothing else of any group.
use Rattle.std.proofs.Common.{◌≡◌, ℕ, ◌+◌, List, [], ◌∷◌, refl, ap, ◌∙◌, sym, Bool, true, false, Option, None, Some, map}
use Rattle.std.specs.Prelude.{◌&&◌, if◌then◌else◌, slice_get}
use Rattle.std.specs.Option.{option_map}
use Rattle.std.specs.Str.{bytes_eq}
use Rattle.std.proofs.lemmas.Option.{slice_get-map}
use Rattle.std.proofs.lemmas.Slice.Eq.{bytes_eq-Decides}
use Rattle.psi_spec.specs.declared.machine.GroupLife.{GroupLife}
use Rattle.psi_spec.specs.World.{root, is_live, is_root, slot_from, slot_of, marked_switched}
use Rattle.psi_spec.specs.Stall.{number_of_slot, parents_of}
use Rattle.psi_spec.specs.LegalGroups.{IsOneLive}

-- a property that doesn't depend on the accounting is the same after it is switched
pub switched_leaves : {A : Type 0} (f : GroupLife → A) → ((group : GroupLife) (on : Bool) → f (record group { on = on }) ≡ f group) → (path : List ℕ) (on : Bool) (group : GroupLife) → f (marked_switched path on group) ≡ f group
switched_leaves f left path on group =
    elim (is_live group && bytes_eq group.path path) as (λ b. f (if b then record group { on = on } else group) ≡ f group) [ true ↦ left group on | false ↦ refl ]

-- so is such a property of all groups
pub all_left : {A : Type 0} (f : GroupLife → A) → ((group : GroupLife) (on : Bool) → f (record group { on = on }) ≡ f group) → (path : List ℕ) (on : Bool) (groups : List GroupLife) → map f (map (marked_switched path on) groups) ≡ map f groups
all_left f left path on [] = refl
all_left f left path on (group ∷ groups) =
    let here = switched_leaves f left path on group in
    let rest = all_left f left path on groups in
    cc (here, rest)

-- switching accounting doesn't change any parent
pub parents_switched : (path : List ℕ) (on : Bool) (groups : List GroupLife) → parents_of (map (marked_switched path on) groups) ≡ parents_of groups
parents_switched path on groups = all_left (λ (group : GroupLife). number_of_slot group.parent) (λ group on. refl) path on groups

-- switching accounting doesn't change any path
pub paths_switched : (path : List ℕ) (on : Bool) (groups : List GroupLife) → map (λ (group : GroupLife). group.path) (map (marked_switched path on) groups) ≡ map (λ (group : GroupLife). group.path) groups
paths_switched path on groups = all_left (λ (group : GroupLife). group.path) (λ group on. refl) path on groups

-- switching accounting doesn't change the lookup of a path
pub switched_found : (from : ℕ) (path : List ℕ) (on : Bool) (groups : List GroupLife) (other : List ℕ) → slot_from from (map (marked_switched path on) groups) other ≡ slot_from from groups other
switched_found from path on [] other = refl
switched_found from path on (group ∷ groups) other =
    let here : (is_live (marked_switched path on group) && bytes_eq (marked_switched path on group).path other) ≡ (is_live group && bytes_eq group.path other) =
    switched_leaves (λ (g : GroupLife). is_live g && bytes_eq g.path other) (λ group on. refl) path on group in
    let rest = switched_found (from + 1) path on groups other in
    ap (λ b. if b then Some from else slot_from (from + 1) (map (marked_switched path on) groups) other) here
    ∙ ap (λ o. if is_live group && bytes_eq group.path other then Some from else o) rest

-- a group in the mapped list comes from a group in the original list
pub mapped_back : (f : GroupLife → GroupLife) (o : Option GroupLife) (new : GroupLife) → option_map f o ≡ Some new → (old : GroupLife) × (o ≡ Some old) × (f old ≡ new)
mapped_back f None new is = absurd (cc is)
mapped_back f (Some old) new is = (old, refl, cc is)

-- after accounting is switched, looking up the path of a live group still finds it
pub one_live_switched : (path : List ℕ) (on : Bool) (groups : List GroupLife) → IsOneLive groups → IsOneLive (map (marked_switched path on) groups)
one_live_switched path on groups one slot new is live =
    let old = mapped_back (marked_switched path on) (slice_get groups slot) new (sym (slice_get-map (marked_switched path on) groups slot) ∙ is) in
    let was : is_live old.0 ≡ true = sym (switched_leaves is_live (λ group on. refl) path on old.0) ∙ ap is_live old.2 ∙ live in
    let path_is : old.0.path ≡ new.path = sym (switched_leaves (λ (g : GroupLife). g.path) (λ group on. refl) path on old.0) ∙ ap (λ (g : GroupLife). g.path) old.2 in
    switched_found 0 path on groups new.path
    ∙ ap (slot_of groups) (sym path_is)
    ∙ one slot old.0 old.1 was

-- switching the accounting of a group other than the root doesn't change the root
pub root_unswitched : (path : List ℕ) (on : Bool) → is_root path ≡ false → marked_switched path on root ≡ root
root_unswitched path on other =
    elim (bytes_eq root.path path) as (λ b. bytes_eq root.path path ≡ b → (if b then record root { on = on } else root) ≡ root) [
      | true ↦ λ is. let it : is_root path ≡ true = (bytes_eq-Decides path root.path).1 (sym ((bytes_eq-Decides root.path path).0 is)) in absurd (cc (sym it ∙ other))
      | false ↦ λ _. refl
    ] refl
