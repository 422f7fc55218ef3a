-- Proves how a chain of actions continues after an action, and which delay follows it.
use Rattle.std.proofs.Common.{◌≡◌, ℕ, ◌+◌, ◌<◌, ◌≤◌, List, [], ◌∷◌, ◌++◌, length, drop, get_or, refl, sym, ◌∙◌, ap, subst, true, false, Option, None, Some}
use Rattle.std.specs.Prelude.{find, slice_get, option_map}
use Rattle.std.proofs.lemmas.List.{append-nil, drop_all, drop_more}
use Rattle.std.proofs.lemmas.Option.{slice_get_read}
use Rattle.psi_spec.specs.declared.machine.GroupLife.{GroupLife}
use Rattle.ruleset_json.specs.declared.types.Action.{Action}
use Rattle.kill_spec.specs.declared.reading.GroupReading.{GroupReading}
use Rattle.kill_spec.specs.declared.kill.Kill.{Kill}
use Rattle.kill_spec.specs.Readings.{Reading}
use Rattle.kill_spec.specs.Detectors.{of_seconds}
use Rattle.kill_spec.specs.Victims.{after_of, victim}
use Rattle.kill_spec.specs.Kills.{and_then, chain, ends_chain, kill_by, kill_of}
use Rattle.kill_engine.specs.Rulesets.{rest_of}

-- The kills of a chain from the action at index `act` to the end of the chain.
abbrev pub suffix : List GroupLife → ℕ → List Action → Reading → List Reading → ℕ → List Kill
suffix lives number actions now past act = chain lives number act (drop act actions) now past

-- The kill of the action at index `act`, or `None` if it has no victim.
abbrev pub turn : List GroupLife → ℕ → Reading → List Reading → ℕ → Action → Option Kill
turn lives number now past act action = kill_by number act now (victim lives action now past)

-- The action is at index `act` in the list of actions.
abbrev pub IsPlacedAt : List Action → ℕ → Action → Type 0
IsPlacedAt actions act action = action ≡ get_or actions act action

-- The chain from an action on is the kill of that action, followed by the chain from the next
-- action unless the kill ends the chain.
turn_next : (lives : List GroupLife) (number : ℕ) (actions : List Action) (now : Reading) (past : List Reading) (act : ℕ) (action : Action) → act < length actions → IsPlacedAt actions act action →
    suffix lives number actions now past act ≡ and_then (after_of action).always_continue (turn lives number now past act action) (suffix lives number actions now past (act + 1))
turn_next lives number actions now past act action below here = rw (drop_more actions act action below, sym here) refl

-- If an action has no victim, the chain continues with the next action.
pub passes : (lives : List GroupLife) (number : ℕ) (actions : List Action) (now : Reading) (past : List Reading) (act : ℕ) (action : Action) → act < length actions → IsPlacedAt actions act action →
    None ≡ turn lives number now past act action →
    suffix lives number actions now past (act + 1) ≡ suffix lives number actions now past act
passes lives number actions now past act action below here none = rw (turn_next lives number actions now past act action below here, sym none) refl

-- There are no kills after the last action.
none_following : (lives : List GroupLife) (number : ℕ) (actions : List Action) (now : Reading) (past : List Reading) (act : ℕ) → length actions ≤ act → suffix lives number actions now past act ≡ []
none_following lives number actions now past act over = ap (λ rest. chain lives number act rest now past) (drop_all act actions over)

-- After the last action, the kills found are the kills of the whole chain.
pub all_found : (lives : List GroupLife) (number : ℕ) (actions : List Action) (now : Reading) (past : List Reading) (act : ℕ) (found all : List Kill) → length actions ≤ act →
    found ++ suffix lives number actions now past act ≡ all → found ≡ all
all_found lives number actions now past act found all over is =
    sym (append-nil found) ∙ ap (λ kills. found ++ kills) (sym (none_following lives number actions now past act over)) ∙ is

-- After the last action, no further kill ends the chain.
pub none_rests : (lives : List GroupLife) (number : ℕ) (actions : List Action) (now : Reading) (past : List Reading) (act : ℕ) → length actions ≤ act →
    None ≡ option_map (rest_of actions) (find (ends_chain actions) (suffix lives number actions now past act))
none_rests lives number actions now past act over = rw (none_following lives number actions now past act over) refl

-- The kill has the time of the reading and the index of its action.
record IsOf (now : Reading) (act : ℕ) (kill : Kill) : Type 0 where
  pub at : kill.at ≡ now.at
  pub by : kill.action ≡ act

is_of : (number act : ℕ) (now : Reading) (chosen : Option GroupReading) (kill : Kill) → Some kill ≡ kill_by number act now chosen → IsOf now act kill
is_of number act now None kill is = absurd (cc is)
is_of number act now (Some group) kill is =
    let same : kill_of now.at number act group ≡ kill = cc is in
    subst (λ k. IsOf now act k) same (record { at = refl; by = refl })

-- The index in a kill is the index of the kill's action.
again : (actions : List Action) (act : ℕ) (action : Action) (kill : Kill) → act < length actions → IsPlacedAt actions act action → kill.action ≡ act → slice_get actions kill.action ≡ Some action
again actions act action kill below here by = rw by (slice_get_read actions (length actions) act action refl below here)

-- After a kill by an action with `always_continue`, the chain continues with the next action.
pub goes_on : (lives : List GroupLife) (number : ℕ) (actions : List Action) (now : Reading) (past : List Reading) (act : ℕ) (action : Action) (kill : Kill) → act < length actions → IsPlacedAt actions act action →
    Some kill ≡ turn lives number now past act action → (after_of action).always_continue ≡ true →
    suffix lives number actions now past act ≡ kill ∷ suffix lives number actions now past (act + 1)
goes_on lives number actions now past act action kill below here killed on = rw (turn_next lives number actions now past act action below here, sym killed, on) refl

-- A kill by an action with `always_continue` doesn't end the chain.
pub not_ended : (lives : List GroupLife) (number : ℕ) (actions : List Action) (now : Reading) (past : List Reading) (act : ℕ) (action : Action) (kill : Kill) → act < length actions → IsPlacedAt actions act action →
    Some kill ≡ turn lives number now past act action → (after_of action).always_continue ≡ true →
    find (ends_chain actions) (suffix lives number actions now past (act + 1)) ≡ find (ends_chain actions) (suffix lives number actions now past act)
not_ended lives number actions now past act action kill below here killed on =
    let of = is_of number act now (victim lives action now past) kill killed in
    let mine : ends_chain actions kill ≡ false = rw (again actions act action kill below here of.by, on) refl in
    rw (goes_on lives number actions now past act action kill below here killed on, mine) refl

-- A kill by an action without `always_continue` ends the chain.
pub stops : (lives : List GroupLife) (number : ℕ) (actions : List Action) (now : Reading) (past : List Reading) (act : ℕ) (action : Action) (kill : Kill) → act < length actions → IsPlacedAt actions act action →
    Some kill ≡ turn lives number now past act action → (after_of action).always_continue ≡ false →
    suffix lives number actions now past act ≡ kill ∷ []
stops lives number actions now past act action kill below here killed off = rw (turn_next lives number actions now past act action below here, sym killed, off) refl

-- After a kill that ends the chain, the ruleset rests for the delay of the action.
pub rests : (lives : List GroupLife) (number : ℕ) (actions : List Action) (now : Reading) (past : List Reading) (act : ℕ) (action : Action) (kill : Kill) (until : ℕ) → act < length actions → IsPlacedAt actions act action →
    Some kill ≡ turn lives number now past act action → (after_of action).always_continue ≡ false → until ≡ kill.at + of_seconds (after_of action).delay_s →
    Some until ≡ option_map (rest_of actions) (find (ends_chain actions) (suffix lives number actions now past act))
rests lives number actions now past act action kill until below here killed off is =
    let of = is_of number act now (victim lives action now past) kill killed in
    let found = again actions act action kill below here of.by in
    let mine : ends_chain actions kill ≡ true = rw (found, off) refl in
    rw (stops lives number actions now past act action kill below here killed off, mine, found, is) refl
