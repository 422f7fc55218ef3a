-- Proofs about the slot of a path at a time, from the lives of all groups.
use Rattle.std.proofs.Common.{◌≡◌, ℕ, suc, ◌+◌, List, [], ◌∷◌, refl, ap, ◌∙◌, Bool, cond, Option, None, Some, length, map, take}
use Rattle.std.specs.Prelude.{◌&&◌, slice_get}
use Rattle.std.specs.Str.{bytes_eq}
use Rattle.psi_base.specs.Missing.{is_some_and}
use Rattle.psi_spec.specs.declared.machine.GroupLife.{GroupLife}
use Rattle.psi_spec.specs.World.{after, is_live, slot_from, up_to}
use Rattle.psi_spec.specs.Groups.{is_live_at}
use Rattle.plan_laws.proofs.MomentsLives.{groups_keep_slots, lives_show_live}
use Rattle.run_laws.specs.Live.{SlotByLives, live_slot}

-- the lives of all groups determine which of some groups are live at a time
abbrev ShowsLives : List GroupLife → List GroupLife → ℕ → Type 0
ShowsLives some all at = (slot : ℕ) → is_some_and (slice_get some slot) is_live ≡ is_some_and (slice_get all slot) (λ life. is_live_at life at)

-- the paths of some groups are the first paths of all groups
abbrev HasPaths : List GroupLife → List GroupLife → Type 0
HasPaths some all = map (λ (life : GroupLife). life.path) some ≡ take (length some) (map (λ (life : GroupLife). life.path) all)

-- if no group is live, no path has a slot
none_live : (slot : ℕ) (all : List GroupLife) (path : List ℕ) (at : ℕ) → ShowsLives [] all at → None ≡ live_slot slot all path at
none_live slot [] path at shows = refl
none_live slot (life ∷ all) path at shows =
    ap (λ b. cond (b && bytes_eq life.path path) (Some slot) None) (shows 0)
    ∙ ap (λ o. cond (is_live_at life at && bytes_eq life.path path) (Some slot) o) (none_live (slot + 1) all path at (λ k. shows (suc k)))

-- two groups that are live at the same times and have the same path are found at the same slot
slot_here : (slot : ℕ) (path : List ℕ) (b c : Bool) (one other : List ℕ) (o p : Option ℕ) → b ≡ c → one ≡ other → o ≡ p
    → cond (b && bytes_eq one path) (Some slot) o ≡ cond (c && bytes_eq other path) (Some slot) p
slot_here slot path b c one other o p live named rest = cc (live, named, rest)

slot_among : (slot : ℕ) (some all : List GroupLife) (path : List ℕ) (at : ℕ) → ShowsLives some all at → HasPaths some all → slot_from slot some path ≡ live_slot slot all path at
slot_among slot [] all path at shows paths = none_live slot all path at shows
slot_among slot (one ∷ some) [] path at shows paths = absurd (cc paths)
slot_among slot (one ∷ some) (life ∷ all) path at shows paths =
    slot_here slot path (is_live one) (is_live_at life at) one.path life.path (slot_from (slot + 1) some path) (live_slot (slot + 1) all path at)
    (shows 0) (cc paths) (slot_among (slot + 1) some all path at (λ k. shows (suc k)) (cc paths))

pub slot_by_lives : SlotByLives
slot_by_lives limits events legal path at =
    slot_among 0 (after (up_to events at)).groups (after events).groups path at (lives_show_live limits events legal at) (groups_keep_slots limits events legal at).paths
