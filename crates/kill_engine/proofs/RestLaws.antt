-- Proves when a ruleset runs its actions, and when the delay after them ends.
use Rattle.std.proofs.Common.{◌≡◌, ℕ, List, [], ◌∷◌, refl, sym, true, false, arith, Option, None, Some}
use Rattle.std.specs.Prelude.{find, nat_lt, not, ◌&&◌, option_map, if◌then◌else◌}
use Rattle.psi_spec.specs.declared.machine.GroupLife.{GroupLife}
use Rattle.ruleset_json.specs.declared.types.Action.{Action}
use Rattle.ruleset_json.specs.declared.types.Rule.{Rule}
use Rattle.kill_spec.specs.declared.kill.Kill.{Kill}
use Rattle.kill_spec.specs.Readings.{Reading}
use Rattle.kill_spec.specs.Detectors.{ruleset_fires}
use Rattle.kill_spec.specs.Victims.{◌or_else◌}
use Rattle.kill_spec.specs.Kills.{chain, ends_chain, is_resting, kills_at, last_ending}
use Rattle.kill_engine.specs.Rulesets.{rest_after, rest_of}

-- A ruleset rests if and only if the end of its delay is later than the current time.
pub paused : (actions : List Action) (at : ℕ) (last : Option Kill) → nat_lt at (rest_after actions last) ≡ is_resting actions at last
paused actions at None = grind arith
paused actions at (Some kill) = refl

-- A ruleset that doesn't fire has no kills.
pub not_fired : (lives : List GroupLife) (number : ℕ) (rule : Rule) (now : Reading) (past : List Reading) (earlier : List (List Kill)) → ruleset_fires lives rule now past ≡ false → kills_at lives number rule now past earlier ≡ []
not_fired lives number rule now past earlier off = rw off refl

-- A resting ruleset has no kills.
pub rested : (lives : List GroupLife) (number : ℕ) (rule : Rule) (now : Reading) (past : List Reading) (earlier : List (List Kill)) → nat_lt now.at (rest_after rule.actions (last_ending rule.actions earlier)) ≡ true → kills_at lives number rule now past earlier ≡ []
rested lives number rule now past earlier resting =
    let is : is_resting rule.actions now.at (last_ending rule.actions earlier) ≡ true = rw (sym (paused rule.actions now.at (last_ending rule.actions earlier))) resting in
    elim (ruleset_fires lives rule now past) as (λ f. (if f && not (is_resting rule.actions now.at (last_ending rule.actions earlier)) then chain lives number 0 rule.actions now past else []) ≡ []) [
      | true ↦ rw is refl
      | false ↦ refl
    ]

-- A ruleset that fires and isn't resting has the kills of its chain.
pub taken : (lives : List GroupLife) (number : ℕ) (rule : Rule) (now : Reading) (past : List Reading) (earlier : List (List Kill)) → ruleset_fires lives rule now past ≡ true → nat_lt now.at (rest_after rule.actions (last_ending rule.actions earlier)) ≡ false → kills_at lives number rule now past earlier ≡ chain lives number 0 rule.actions now past
taken lives number rule now past earlier fired over =
    let is : is_resting rule.actions now.at (last_ending rule.actions earlier) ≡ false = rw (sym (paused rule.actions now.at (last_ending rule.actions earlier))) over in
    rw (fired, is) refl

-- Without kills, the end of the delay doesn't change.
pub kept : (actions : List Action) (kills : List Kill) (earlier : List (List Kill)) → kills ≡ [] → rest_after actions (last_ending actions (kills ∷ earlier)) ≡ rest_after actions (last_ending actions earlier)
kept actions kills earlier none = rw none refl

-- If no kill ended the chain, the end of the delay doesn't change.
pub kept_on : (actions : List Action) (kills : List Kill) (earlier : List (List Kill)) → None ≡ option_map (rest_of actions) (find (ends_chain actions) kills) → rest_after actions (last_ending actions (kills ∷ earlier)) ≡ rest_after actions (last_ending actions earlier)
kept_on actions kills earlier none =
    elim (find (ends_chain actions) kills) as (λ f. None ≡ option_map (rest_of actions) f → rest_after actions (f or_else last_ending actions earlier) ≡ rest_after actions (last_ending actions earlier)) [
      | None ↦ λ _. refl
      | Some kill ↦ λ is. absurd (cc is)
    ] none

-- If a kill ended the chain, the ruleset rests until the end of that kill's delay.
pub renewed : (actions : List Action) (kills : List Kill) (earlier : List (List Kill)) (until : ℕ) → Some until ≡ option_map (rest_of actions) (find (ends_chain actions) kills) → until ≡ rest_after actions (last_ending actions (kills ∷ earlier))
renewed actions kills earlier until some =
    elim (find (ends_chain actions) kills) as (λ f. Some until ≡ option_map (rest_of actions) f → until ≡ rest_after actions (f or_else last_ending actions earlier)) [
      | None ↦ λ is. absurd (cc is)
      | Some kill ↦ λ is. cc is
    ] some
