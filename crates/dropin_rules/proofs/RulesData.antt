-- Proves that parsing the JSON data of rules returns the rules.
use Rattle.std.proofs.Common.{◌≡◌, ℕ, suc, ◌+◌, ◌≤◌, List, [], ◌∷◌, Result, Ok, Some, length, refl, arith}
use Rattle.std.specs.Prelude.{All, IsUtf8, map}
use Rattle.std.proofs.lemmas.Bool.{le-ltb}
use Rattle.std.proofs.lemmas.List.{length-map}
use Rattle.serde_json.specs.Data.{Data, string}
use Rattle.serde_json.specs.Read as json
use Rattle.ruleset_json.specs.declared.fault.Place.{Place}
use Rattle.ruleset_json.specs.declared.fault.Place.TheVariants as place
use Rattle.ruleset_json.specs.declared.fault.RulesFault.{RulesFault}
use Rattle.ruleset_json.specs.declared.types.DetectorGroup.{DetectorGroup}
use Rattle.ruleset_json.specs.declared.types.Rule.{Rule}
use Rattle.ruleset_json.specs.Arguments.{argument_at}
use Rattle.ruleset_json.specs.GroupRanges.{FitsGroup, FitsGroups}
use Rattle.ruleset_json.specs.Names.{key_word}
use Rattle.ruleset_json.specs.Ranges.{FitsAction, FitsActions, FitsDetector}
use Rattle.ruleset_json.specs.RuleRanges.{FitsRule, FitsRules}
use Rattle.ruleset_json.specs.Rules.{action_in, actions_at, detector_in, each, group_at, groups_at, list_at, rule_at, rules_of, rulesets_in}
use Rattle.ruleset_json.proofs.Views.{data_read, listed_items}
use Rattle.dropin_rules.specs.HasPatterns.{ActionHasPatterns, DetectorHasPatterns, GroupHasPatterns, RuleHasPatterns, RulesHavePatterns}
use Rattle.dropin_rules.specs.RulesText.{action_data, detector_data, group_data, list_data, rule_data, rules_data, rules_text}
use Rattle.dropin_rules.proofs.PluginData.{action_again, detector_again}

-- If parsing the data of each element returns the element, parsing the data of a list returns the
-- list.
each_again : {A : Type 0} (P : A → Type 0) (f : ℕ → Data → Result A RulesFault) (data_of : A → Data) → ((i : ℕ) (x : A) → P x → f i (data_of x) ≡ Ok x)
    → (i : ℕ) (xs : List A) → All P xs → each f i (map data_of xs) ≡ Ok xs
each_again P f data_of again i [] all = refl
each_again P f data_of again i (x ∷ xs) all =
    rw (again i x (all 0 x (omega arith)), each_again P f data_of again (i + 1) xs (λ k d below. all (suc k) d (omega arith))) refl

list_again : (at : Place) (most : ℕ) (ds : List Data) → length ds ≤ most → list_at at most (list_data ds) ≡ Ok ds
unfolding list_at
list_again at most ds few = rw (listed_items ds, le-ltb most (length ds) few) refl

mapped_again : {A : Type 0} (at : Place) (most : ℕ) (data_of : A → Data) (xs : List A) → length xs ≤ most → list_at at most (list_data (map data_of xs)) ≡ Ok (map data_of xs)
mapped_again at most data_of xs few = list_again at most (map data_of xs) (rw (length-map xs data_of) few)

detectors_again : (i j : ℕ) (group : DetectorGroup) → FitsGroup group → GroupHasPatterns group → each (λ k. detector_in (place.Detector i j k)) 0 (map detector_data group.detectors) ≡ Ok group.detectors
detectors_again i j group fits are =
    each_again (λ d. FitsDetector d × DetectorHasPatterns d) (λ k. detector_in (place.Detector i j k)) detector_data
    (λ k d both. detector_again (place.Detector i j k) d both.0 both.1) 0 group.detectors (λ k d below. (fits.0.each k d below, are k d below))

group_again : (i j : ℕ) (group : DetectorGroup) → FitsGroup group → GroupHasPatterns group → group_at i j (group_data group) ≡ Ok group
unfolding group_at
group_again i j group fits are =
    let few : length (string group.name ∷ map detector_data group.detectors) ≤ 17 = omega (arith, fits.0.few, length-map group.detectors detector_data) in
    rw (list_again (place.Group i j) 17 (string group.name ∷ map detector_data group.detectors) few)
    (rw (detectors_again i j group fits are) refl)

groups_again : (i : ℕ) (rule : Rule) → FitsGroups rule.groups → All GroupHasPatterns rule.groups → groups_at i (rule_data rule) ≡ Ok rule.groups
groups_again i rule fits are =
    rw (mapped_again (place.Rule i) 16 group_data rule.groups fits.few)
    (each_again (λ group. FitsGroup group × GroupHasPatterns group) (group_at i) group_data
    (λ j group both. group_again i j group both.0 both.1) 0 rule.groups (λ k d below. (fits.each k d below, are k d below)))

actions_again : (i delay : ℕ) (rule : Rule) → FitsActions rule.actions → All ActionHasPatterns rule.actions → actions_at i delay (rule_data rule) ≡ Ok rule.actions
actions_again i delay rule fits are =
    rw (mapped_again (place.Rule i) 16 action_data rule.actions fits.few)
    (each_again (λ a. FitsAction a × ActionHasPatterns a) (λ k. action_in delay (place.Action i k)) action_data
    (λ k a both. action_again (place.Action i k) delay a both.0 both.1) 0 rule.actions (λ k d below. (fits.each k d below, are k d below)))

rule_again : (i : ℕ) (rule : Rule) → FitsRule rule → RuleHasPatterns rule → rule_at i (rule_data rule) ≡ Ok rule
unfolding rule_at argument_at key_word
rule_again i rule fits are = rw (groups_again i rule fits.0 are.0, actions_again i 15 rule fits.1 are.1) refl

rulesets_again : (rules : List Rule) → FitsRules rules → rulesets_in (rules_data rules) ≡ Ok (map rule_data rules)
unfolding rulesets_in
rulesets_again rules fits = mapped_again place.Whole 64 rule_data rules fits.few

-- If parsing the text of rules as JSON returns the data of the rules, parsing the text as rules
-- returns the rules.
pub rules_again : (rules : List Rule) → FitsRules rules → RulesHavePatterns rules → IsUtf8 (rules_text rules) → json.read (rules_text rules) ≡ Some (rules_data rules)
    → length (rules_text rules) ≤ 1048576 → rules_of (rules_text rules) ≡ Ok (record { rules = rules })
unfolding rules_of
rules_again rules fits are utf8 is short =
    rw (
      le-ltb 1048576 (length (rules_text rules)) short,
      data_read (rules_text rules) (rules_data rules) utf8 is,
      rulesets_again rules fits,
      each_again (λ rule. FitsRule rule × RuleHasPatterns rule) rule_at rule_data (λ i rule both. rule_again i rule both.0 both.1) 0 rules (λ k d below. (fits.each k d below, are k d below)),
    ) refl
