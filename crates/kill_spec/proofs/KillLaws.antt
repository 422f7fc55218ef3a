-- Proofs about kills: which action's victim each kill is, and how far apart chain-ending kills are.
use Rattle.std.proofs.Common.{◌≡◌, ℕ, zero, suc, ◌+◌, ◌≤◌, List, [], ◌∷◌, refl, sym, ap, subst, Bool, true, false, None, Some, arith, ◌⊎◌, ⊎_elim, inl, inr}
use Rattle.std.specs.Prelude.{find, ◌&&◌, not, slice_get, Contains, if◌then◌else◌}
use Rattle.psi_spec.specs.declared.machine.GroupLife.{GroupLife}
use Rattle.ruleset_json.specs.declared.types.Action.{Action}
use Rattle.ruleset_json.specs.declared.types.Rule.{Rule}
use Rattle.kill_spec.specs.declared.reading.GroupReading.{GroupReading}
use Rattle.kill_spec.specs.declared.kill.Kill.{Kill}
use Rattle.kill_spec.specs.Readings.{Reading}
use Rattle.kill_spec.specs.Detectors.{ruleset_fires}
use Rattle.kill_spec.specs.Victims.{after_of, victim}
use Rattle.kill_spec.specs.Kills.{and_then, chain, delay_of, ends_chain, is_resting, kill_by, kill_of, kills_at, kills_of, last_ending}
use Rattle.kill_spec.specs.Laws.{EndedBy, EndingsApart, EndsOnce, KillsAreOfActions}

-- ---- lists

-- an element of `x ∷ xs` is `x` or an element of `xs`
contains_cons : {X : Type 0} → (x : X) (xs : List X) (y : X) → Contains (x ∷ xs) y → (x ≡ y) ⊎ Contains xs y
contains_cons x xs y (zero, few, is) = inl is
contains_cons x xs y (suc i, few, is) = inr (i, omega (arith, few), is)

-- an empty list contains nothing
contains_none : {X : Type 0} → (y : X) (P : Type 0) → Contains [] y → P
contains_none y P (i, few, is) = absurd (omega (arith, few))

-- an element that a search finds is in the list and passes the test
find_found : {X : Type 0} → (test : X → Bool) (xs : List X) (x : X) → find test xs ≡ Some x → Contains xs x × (test x ≡ true)
find_found test [] x is = absurd (cc is)
find_found test (first ∷ xs) x is =
    elim (test first) as (λ b. test first ≡ b → (if b then Some first else find test xs) ≡ Some x → Contains (first ∷ xs) x × (test x ≡ true)) [
      | true ↦ λ passes found. let same : first ≡ x = cc found in ((0, omega arith, same), subst (λ y. test y ≡ true) same passes)
      | false ↦ λ _ found. let rest = find_found test xs x found in ((suc rest.0.0, omega (arith, rest.0.1), rest.0.2), rest.1)
    ] refl is

-- ---- chains

-- the actions `rest` are in the list `actions` from index `act` on
abbrev IsPlacedFrom : List Action → ℕ → List Action → Type 0
IsPlacedFrom actions act rest = (i : ℕ) → slice_get actions (act + i) ≡ slice_get rest i

is_next_in : (actions : List Action) (act : ℕ) (first : Action) (rest : List Action) → IsPlacedFrom actions act (first ∷ rest) → IsPlacedFrom actions (act + 1) rest
is_next_in actions act first rest here i = let e : act + 1 + i ≡ act + suc i = omega arith in rw e (here (suc i))

here_in : (actions : List Action) (act : ℕ) (first : Action) (rest : List Action) → IsPlacedFrom actions act (first ∷ rest) → slice_get actions act ≡ Some first
here_in actions act first rest here = let e : act ≡ act + 0 = omega arith in rw e (here 0)

all_represent : (actions : List Action) → IsPlacedFrom actions 0 actions
all_represent actions i = let e : 0 + i ≡ i = omega arith in rw e refl

-- a kill of a chain belongs to one of the chain's actions, and kills that action's victim
record IsOfChain (lives : List GroupLife) (number : ℕ) (actions : List Action) (now : Reading) (past : List Reading) (kill : Kill) : Type 0 where
  pub at : kill.at ≡ now.at
  pub rule_is : kill.rule ≡ number
  pub act : Action
  pub by : slice_get actions kill.action ≡ Some act
  pub group : GroupReading
  pub chosen : victim lives act now past ≡ Some group
  pub slot : kill.victim ≡ group.slot

chain_kills : (lives : List GroupLife) (number act : ℕ) (actions rest : List Action) (now : Reading) (past : List Reading) (kill : Kill) → IsPlacedFrom actions act rest → Contains (chain lives number act rest now past) kill → IsOfChain lives number actions now past kill
chain_kills lives number act actions [] now past kill here has = contains_none kill _ has
chain_kills lives number act actions (first ∷ rest) now past kill here has =
    let next : List Kill = chain lives number (act + 1) rest now past in
    let later = chain_kills lives number (act + 1) actions rest now past kill (is_next_in actions act first rest here) in
    elim (victim lives first now past) as (λ v. victim lives first now past ≡ v → Contains (and_then (after_of first).always_continue (kill_by number act now v) next) kill → IsOfChain lives number actions now past kill) [
      | None ↦ λ _ c. later c
      | Some group ↦ λ chosen c. ⊎_elim
          (λ same. subst (λ k. IsOfChain lives number actions now past k) same
          (record { at = refl; rule_is = refl; act = first; by = here_in actions act first rest here; group = group; chosen = chosen; slot = refl }))
          (λ suffix. elim (after_of first).always_continue as (λ b. Contains (if b then next else []) kill → IsOfChain lives number actions now past kill) [
            | true ↦ λ c. later c
            | false ↦ λ c. contains_none kill _ c
          ] suffix)
          (contains_cons _ _ kill c)
    ] refl has

-- a chain has at most one kill that ends it, so a search for the first one finds it
one_ending : (lives : List GroupLife) (number act : ℕ) (actions rest : List Action) (now : Reading) (past : List Reading) (kill : Kill) → IsPlacedFrom actions act rest → Contains (chain lives number act rest now past) kill → ends_chain actions kill ≡ true → find (ends_chain actions) (chain lives number act rest now past) ≡ Some kill
one_ending lives number act actions [] now past kill here has ends = contains_none kill _ has
one_ending lives number act actions (first ∷ rest) now past kill here has ends =
    let next : List Kill = chain lives number (act + 1) rest now past in
    let later : Contains next kill → find (ends_chain actions) next ≡ Some kill = λ c. one_ending lives number (act + 1) actions rest now past kill (is_next_in actions act first rest here) c ends in
    elim (victim lives first now past) as (λ v. Contains (and_then (after_of first).always_continue (kill_by number act now v) next) kill → find (ends_chain actions) (and_then (after_of first).always_continue (kill_by number act now v) next) ≡ Some kill) [
      | None ↦ λ c. later c
      | Some group ↦ λ c.
          let mine : ends_chain actions (kill_of now.at number act group) ≡ not (after_of first).always_continue = rw (here_in actions act first rest here) refl in
          elim (after_of first).always_continue as (λ b. ends_chain actions (kill_of now.at number act group) ≡ not b → Contains (kill_of now.at number act group ∷ (if b then next else [])) kill → find (ends_chain actions) (kill_of now.at number act group ∷ (if b then next else [])) ≡ Some kill) [
            | true ↦ λ mine c. rw mine (⊎_elim
                (λ same. let not_mine : ends_chain actions kill ≡ false = subst (λ k. ends_chain actions k ≡ false) same mine in absurd (cc (ends, not_mine)))
                later
                (contains_cons _ _ kill c))
            | false ↦ λ mine c. rw mine (⊎_elim (λ same. ap Some same) (λ none. contains_none kill _ none) (contains_cons _ [] kill c))
          ] mine c
    ] has

-- ---- the kills of a ruleset at a reading

-- a ruleset with a kill at a reading fires there and doesn't pause, and its chain contains the kill
record IsTaken (lives : List GroupLife) (number : ℕ) (rule : Rule) (now : Reading) (past : List Reading) (earlier : List (List Kill)) (kill : Kill) : Type 0 where
  pub fired : ruleset_fires lives rule now past ≡ true
  pub rests : is_resting rule.actions now.at (last_ending rule.actions earlier) ≡ false
  pub has : Contains (chain lives number 0 rule.actions now past) kill
  pub whole : kills_at lives number rule now past earlier ≡ chain lives number 0 rule.actions now past

taken : (lives : List GroupLife) (number : ℕ) (rule : Rule) (now : Reading) (past : List Reading) (earlier : List (List Kill)) (kill : Kill) → Contains (kills_at lives number rule now past earlier) kill → IsTaken lives number rule now past earlier kill
taken lives number rule now past earlier kill =
    let whole : List Kill = chain lives number 0 rule.actions now past in
    elim (ruleset_fires lives rule now past) as (λ f. ruleset_fires lives rule now past ≡ f → Contains (if f && not (is_resting rule.actions now.at (last_ending rule.actions earlier)) then whole else []) kill → IsTaken lives number rule now past earlier kill) [
      | false ↦ λ _ c. contains_none kill _ c
      | true ↦ λ fired. elim (is_resting rule.actions now.at (last_ending rule.actions earlier)) as (λ p. is_resting rule.actions now.at (last_ending rule.actions earlier) ≡ p → Contains (if not p then whole else []) kill → IsTaken lives number rule now past earlier kill) [
        | true ↦ λ _ c. contains_none kill _ c
        | false ↦ λ rests c. record { fired = fired; rests = rests; has = c; whole = rw (fired, rests) refl }
      ] refl
    ] refl

pub of_actions : KillsAreOfActions
unfolding kills_of
of_actions lives number rule now past kill has =
    let t = taken lives number rule now past (kills_of lives number rule past) kill has in
    let k = chain_kills lives number 0 rule.actions rule.actions now past kill (all_represent rule.actions) t.has in
    record { at = k.at; rule_is = k.rule_is; act = k.act; by = k.by; group = k.group; chosen = k.chosen; slot = k.slot; fired = t.fired }

-- ---- pauses of rulesets

-- the time (ns) at which the pause after a kill ends
abbrev rest_of : List Action → Kill → ℕ
rest_of actions kill = kill.at + delay_of (slice_get actions kill.action)

-- the pause after the latest chain-ending kill of the lists ends no earlier than the pause after
-- `kill`
record IsOutlasted (actions : List Action) (lists : List (List Kill)) (kill : Kill) : Type 0 where
  pub last : Kill
  pub is_last : last_ending actions lists ≡ Some last
  pub longer : rest_of actions kill ≤ rest_of actions last

-- if a ruleset doesn't pause at time `at`, the pause after its latest chain-ending kill has ended
over : (actions : List Action) (at : ℕ) (last : Kill) → is_resting actions at (Some last) ≡ false → rest_of actions last ≤ at
over actions at last is = grind (arith, is)

outlasted : (lives : List GroupLife) (number : ℕ) (rule : Rule) (readings : List Reading) (kill : Kill) → EndedBy lives number rule readings kill → IsOutlasted rule.actions (kills_of lives number rule readings) kill
unfolding kills_of
outlasted lives number rule [] kill ((i, kills, few, is, has), ends) = absurd (omega (arith, few))
outlasted lives number rule (now ∷ past) kill ((zero, kills, few, is, has), ends) =
    let earlier : List (List Kill) = kills_of lives number rule past in
    let here : Contains (kills_at lives number rule now past earlier) kill = subst (λ k. Contains k kill) (sym is) has in
    let t = taken lives number rule now past earlier kill here in
    let found = one_ending lives number 0 rule.actions rule.actions now past kill (all_represent rule.actions) t.has ends in
    record { last = kill; is_last = rw (t.whole, found) refl; longer = omega arith }
outlasted lives number rule (now ∷ past) kill ((suc i, kills, few, is, has), ends) =
    let earlier : List (List Kill) = kills_of lives number rule past in
    let before = outlasted lives number rule past kill ((i, kills, omega (arith, few), is, has), ends) in
    elim (find (ends_chain rule.actions) (kills_at lives number rule now past earlier)) as (λ f. find (ends_chain rule.actions) (kills_at lives number rule now past earlier) ≡ f → IsOutlasted rule.actions (kills_at lives number rule now past earlier ∷ earlier) kill) [
      | None ↦ λ none. record { last = before.last; is_last = rw (none, before.is_last) refl; longer = before.longer }
      | Some newest ↦ λ found.
          let t = taken lives number rule now past earlier newest (find_found _ _ newest found).0 in
          let k = chain_kills lives number 0 rule.actions rule.actions now past newest (all_represent rule.actions) t.has in
          let free : is_resting rule.actions now.at (Some before.last) ≡ false = subst (λ l. is_resting rule.actions now.at l ≡ false) before.is_last t.rests in
          let past_it = over rule.actions now.at before.last free in
          record { last = newest; is_last = rw found refl; longer = omega (arith, past_it, before.longer, k.at) }
    ] refl

pub apart : EndingsApart
apart lives number rule now past first second are ended has ends =
    let before = outlasted lives number rule past first ended in
    let t = taken lives number rule now past (kills_of lives number rule past) second has in
    let k = chain_kills lives number 0 rule.actions rule.actions now past second (all_represent rule.actions) t.has in
    let free : is_resting rule.actions now.at (Some before.last) ≡ false = subst (λ l. is_resting rule.actions now.at l ≡ false) before.is_last t.rests in
    let past_it = over rule.actions now.at before.last free in
    omega (arith, past_it, before.longer, k.at)

pub once : EndsOnce
unfolding kills_of
once lives number rule now past first second has_first has_second first_ends second_ends =
    let t = taken lives number rule now past (kills_of lives number rule past) first has_first in
    let u = taken lives number rule now past (kills_of lives number rule past) second has_second in
    let found_first = one_ending lives number 0 rule.actions rule.actions now past first (all_represent rule.actions) t.has first_ends in
    let found_second = one_ending lives number 0 rule.actions rule.actions now past second (all_represent rule.actions) u.has second_ends in
    cc (found_first, found_second)
