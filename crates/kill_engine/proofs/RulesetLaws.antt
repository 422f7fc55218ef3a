-- Proves properties of lists of rulesets. A ruleset represents a list of readings if taking these
-- readings leads to its state.
use Rattle.std.proofs.Common.{◌≡◌, ℕ, zero, suc, ◌+◌, ◌<◌, List, [], ◌∷◌, ◌++◌, length, drop, get_or, refl, sym, ap, subst, arith, None}
use Rattle.std.specs.Prelude.{All}
use Rattle.psi_spec.specs.declared.machine.GroupLife.{GroupLife}
use Rattle.ruleset_json.specs.declared.types.DetectorGroup.{DetectorGroup}
use Rattle.ruleset_json.specs.declared.types.DetectorSpec.{DetectorSpec}
use Rattle.ruleset_json.specs.declared.types.Rule.{Rule}
use Rattle.kill_spec.specs.Readings.{Reading}
use Rattle.detectors.specs.Views.{DetectorView}
use Rattle.detectors.specs.Stands.{Represents}
use Rattle.kill_engine.specs.Rulesets.{DetectorsRepresent, IsAt, IsRulesetAt, RulesetRepresents, RulesetView}
use Rattle.kill_engine.specs.Killers.{RulesetsRepresent}
use Rattle.kill_engine.proofs.ZipLaws.{zipped_all}

-- Appending a ruleset and its rule preserves the relation between rulesets and rules.
pub rulesets_push : (lives : List GroupLife) (history : List Reading) (number : ℕ) (states : List RulesetView) (rules : List Rule) (state : RulesetView) (rule : Rule) →
    RulesetsRepresent lives history number states rules → ((n : ℕ) → RulesetRepresents lives history n state rule) →
    RulesetsRepresent lives history number (states ++ state ∷ []) (rules ++ rule ∷ [])
rulesets_push lives history number [] [] state rule represents each = (each number, tt)
rulesets_push lives history number [] (first ∷ rules) state rule represents each = absurd represents
rulesets_push lives history number (first ∷ states) [] state rule represents each = absurd represents
rulesets_push lives history number (first ∷ states) (one ∷ rules) state rule represents each = (represents.0, rulesets_push lives history (number + 1) states rules state rule represents.1 each)

-- `rule` is the rule of the ruleset at index `i`. The rules after it belong to the later rulesets.
pub record IsRuled (lives : List GroupLife) (history : List Reading) (number : ℕ) (states : List RulesetView) (rules : List Rule) (i : ℕ) : Type 0 where
  pub rule : Rule
  pub rest : drop i rules ≡ rule ∷ drop (i + 1) rules
  pub stands : (d : RulesetView) → RulesetRepresents lives history (number + i) (get_or states i d) rule

pub ruled_at : (lives : List GroupLife) (history : List Reading) (number : ℕ) (states : List RulesetView) (rules : List Rule) (i : ℕ) →
    RulesetsRepresent lives history number states rules → i < length states → IsRuled lives history number states rules i
ruled_at lives history number [] rules i represents below = absurd (omega (arith, below))
ruled_at lives history number (first ∷ states) [] i represents below = absurd represents
ruled_at lives history number (first ∷ states) (one ∷ rules) zero represents below =
    let e : number + 0 ≡ number = omega arith in
    record { rule = one; rest = refl; stands = λ d. rw e represents.0 }
ruled_at lives history number (first ∷ states) (one ∷ rules) (suc i) represents below =
    let later = ruled_at lives history (number + 1) states rules i represents.1 (omega (arith, below)) in
    let e : suc i + 1 ≡ suc (i + 1) = omega arith in
    let n : number + suc i ≡ number + 1 + i = omega arith in
    record { rule = later.rule; rest = rw e later.rest; stands = λ d. rw n (later.stands d) }

-- There is no rule after the rule of the last ruleset.
pub ruled_end : (lives : List GroupLife) (history : List Reading) (number : ℕ) (states : List RulesetView) (rules : List Rule) →
    RulesetsRepresent lives history number states rules → drop (length states) rules ≡ []
ruled_end lives history number [] [] represents = refl
ruled_end lives history number [] (one ∷ rules) represents = absurd represents
ruled_end lives history number (first ∷ states) [] represents = absurd represents
ruled_end lives history number (first ∷ states) (one ∷ rules) represents = ruled_end lives history (number + 1) states rules represents.1

-- If each ruleset's new state is the state after the later readings, the new states of the whole
-- list are.
pub ruled_map : (lives : List GroupLife) (before after : List Reading) (number : ℕ) (old new : List RulesetView) (rules : List Rule) →
    length new ≡ length old →
    ((k : ℕ) (d : RulesetView) (rule : Rule) → k < length old → RulesetRepresents lives before (number + k) (get_or old k d) rule → RulesetRepresents lives after (number + k) (get_or new k d) rule) →
    RulesetsRepresent lives before number old rules → RulesetsRepresent lives after number new rules
ruled_map lives before after number [] [] [] long each represents = tt
ruled_map lives before after number [] [] (one ∷ rules) long each represents = absurd represents
ruled_map lives before after number [] (n ∷ new) rules long each represents = absurd (omega (arith, long))
ruled_map lives before after number (o ∷ old) [] rules long each represents = absurd (omega (arith, long))
ruled_map lives before after number (o ∷ old) (n ∷ new) [] long each represents = absurd represents
ruled_map lives before after number (o ∷ old) (n ∷ new) (one ∷ rules) long each represents =
    let e : number + 0 ≡ number = omega arith in
    let first : RulesetRepresents lives before (number + 0) o one → RulesetRepresents lives after (number + 0) n one = each 0 o one (omega arith) in (
      subst (λ m. RulesetRepresents lives after m n one) e (first (subst (λ m. RulesetRepresents lives before m o one) (sym e) represents.0)),
      ruled_map lives before after (number + 1) old new rules (omega (arith, long))
          (λ k d rule below is.
          let m : number + 1 + k ≡ number + suc k = omega arith in
          rw m (each (suc k) d rule (omega (arith, below)) (subst (λ m. RulesetRepresents lives before m (get_or old k d) rule) m is)))
          represents.1,
    )

-- There are as many rulesets as rules.
pub ruled_count : (lives : List GroupLife) (history : List Reading) (number : ℕ) (states : List RulesetView) (rules : List Rule) →
    RulesetsRepresent lives history number states rules → length states ≡ length rules
ruled_count lives history number [] [] represents = refl
ruled_count lives history number [] (one ∷ rules) represents = absurd represents
ruled_count lives history number (first ∷ states) [] represents = absurd represents
ruled_count lives history number (first ∷ states) (one ∷ rules) represents = ap suc (ruled_count lives history (number + 1) states rules represents.1)

-- Before the first reading, the detectors of a group have taken no reading.
detectors_begun : (lives : List GroupLife) (detectors : List DetectorView) (specs : List DetectorSpec) → DetectorsRepresent lives [] detectors specs → All (IsAt None (length lives)) detectors
detectors_begun lives detectors specs represents =
    zipped_all (λ (detector : DetectorView) (spec : DetectorSpec). Represents detector lives spec []) (IsAt None (length lives)) detectors specs represents
    (λ detector spec stands. record { last = stands.last; places = stands.slots })

-- Before the first reading, the detectors of all rulesets have taken no reading.
pub begun : (lives : List GroupLife) (number : ℕ) (states : List RulesetView) (rules : List Rule) → RulesetsRepresent lives [] number states rules → All (λ state. IsRulesetAt None (length lives) state) states
begun lives number states rules represents k d below =
    let r = ruled_at lives [] number states rules k represents below in
    let state : RulesetView = get_or states k d in
    zipped_all (λ (group : List DetectorView) (spec : DetectorGroup). DetectorsRepresent lives [] group spec.detectors) (λ (group : List DetectorView). All (IsAt None (length lives)) group) state.groups r.rule.groups (r.stands d).groups
    (λ group spec stands. detectors_begun lives group spec.detectors stands)
