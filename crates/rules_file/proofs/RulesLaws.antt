-- Proves that the prefix that is read of a rules file or a drop-in file gives the same result as
-- the whole file.
use Rattle.std.proofs.Common.{◌≡◌, ℕ, ◌<◌, ◌≤◌, List, length, take, sym, ap, ◌∙◌, arith, length-take, Result, Ok}
use Rattle.std.specs.Prelude.{nat_lt}
use Rattle.std.proofs.lemmas.List.{take_all}
use Rattle.kill_spec.proofs.Foremost.{by_test}
use Rattle.ruleset_json.specs.declared.fault.Place.TheVariants as place
use Rattle.ruleset_json.specs.declared.fault.RulesCause.TheVariants as cause
use Rattle.ruleset_json.specs.declared.fault.RulesFault.{RulesFault}
use Rattle.ruleset_json.specs.declared.types.Part.{Part}
use Rattle.ruleset_json.specs.declared.types.Rules.{Rules}
use Rattle.psi_base.specs.ResultSteps.{◌>>=◌}
use Rattle.ruleset_json.specs.Arguments.{refused_for}
use Rattle.ruleset_json.specs.Rules.{each, rule_at, rules_of, rulesets_of}
use Rattle.ruleset_json.specs.Parts.{part_at, parts_of}
use Rattle.dropin_rules.specs.Joined.{dropped_in, parts_joined, parts_read}

-- A file longer than the size limit is rejected.
long : (bytes : List ℕ) → 1048576 < length bytes → rulesets_of bytes ≡ refused_for place.Whole cause.TooLong
long bytes more = grind (arith, more)

-- A prefix that is longer than the size limit gives the same result as the whole file.
of_cut : (most : ℕ) (bytes : List ℕ) → 1048576 < most → rulesets_of (take most bytes) ≡ rulesets_of bytes
of_cut most bytes enough = by_test _ (nat_lt most (length bytes))
    (λ more.
    let beyond : most < length bytes = grind (arith, more) in
    let short : length (take most bytes) ≡ most = omega (arith, beyond, length-take most bytes) in
    long (take most bytes) (omega (arith, short, enough)) ∙ sym (long bytes (omega (arith, beyond, enough))))
    (λ few.
    let within : length bytes ≤ most = grind (arith, few) in
    ap rulesets_of (take_all most bytes within))

-- The prefix of a file gives the same list of rulesets, or the same fault, as the whole file.
lists_of_prefix : (bytes : List ℕ) → rulesets_of (take 1048577 bytes) ≡ rulesets_of bytes
lists_of_prefix bytes = of_cut 1048577 bytes (omega arith)

-- The prefix of a rules file gives the same rules, or the same fault, as the whole file.
pub of_prefix : (bytes : List ℕ) → rules_of (take 1048577 bytes) ≡ rules_of bytes
unfolding rules_of
of_prefix bytes = ap (λ items. items >>= (λ ds. each rule_at 0 ds >>= (λ rules. let made : Result Rules RulesFault = Ok (record { rules = rules }) in made))) (lists_of_prefix bytes)

-- The prefix of a drop-in file gives the same rulesets, or the same fault, as the whole file.
parts_of_prefix : (bytes : List ℕ) → parts_of (take 1048577 bytes) ≡ parts_of bytes
unfolding parts_of
parts_of_prefix bytes = ap (λ items. items >>= (λ ds. each part_at 0 ds)) (lists_of_prefix bytes)

-- Applying the prefix of a drop-in file gives the same rules, or the same fault, as applying the
-- whole file.
pub over_of_prefix : (base : Rules) (bytes : List ℕ) → dropped_in base (take 1048577 bytes) ≡ dropped_in base bytes
unfolding dropped_in
over_of_prefix base bytes = ap (λ (parts : Result (List Part) RulesFault). parts_read parts >>= parts_joined base) (parts_of_prefix bytes)
