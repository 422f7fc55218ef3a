-- Proofs about adding arguments to a `clap` command.
use Rattle.std.proofs.Common.{◌≡◌, ℕ, ◌<◌, ◌≤◌, ◌+◌, ◌++◌, ◌∷◌, List, [], Result, Ok, Err, IfOk}
use Rattle.std.proofs.Common.{Bor, false, length, map, take, ap, sym, ◌∙◌, get_or}
use Rattle.std.proofs.lemmas.List.{map_more, take_all, map-append}
use Rattle.clap.specs.Words.{AddsArg, rule_of, with_rule, Rule, App}
use Rattle.clap.specs.Simple.{app_of}
use Rattle.clap.specs.declared.builder.arg.Arg.{Arg}
use Rattle.clap.specs.declared.builder.command.Command.{Command}
use Rattle.psi_words.specs.Clap.{plain_shape, plain_app, option_rule, positional_rule}
use Rattle.psi_words.specs.Reads.{names_in}

-- the command with these rules
abbrev pub app_with : List Rule → App
app_with rules = record { top = plain_shape rules; subs = [] }

-- the rules of options with these names
abbrev pub option_rules : List (Bor (List ℕ)) → List Rule
option_rules names = map option_rule (names_in names)

added : (old : Command) (a : Arg) (new : Command) (rules : List Rule) (r : Rule)
    → AddsArg old a new → a.global ≡ false → rule_of a ≡ r → app_of old ≡ app_with rules
    → app_of new ≡ app_with (rules ++ r ∷ [])
added old a new rules r adds local is app =
    adds.shape local ∙ (ap (λ x. with_rule x (rule_of a)) app ∙ ap (with_rule (app_with rules)) is)

-- the rules after one more option is added
pub option_added : (old : Command) (a : Arg) (new : Command) (names : List (Bor (List ℕ))) (i : ℕ)
    (d : Bor (List ℕ)) → i < length names → AddsArg old a new → a.global ≡ false
    → rule_of a ≡ option_rule (get_or names i d).now
    → app_of old ≡ app_with (option_rules (take i names))
    → app_of new ≡ app_with (option_rules (take (i + 1) names))
option_added old a new names i d inside adds local is app =
    added old a new _ _ adds local is app
    ∙ ap app_with (sym (ap (map option_rule)
    (map_more (λ (name : Bor (List ℕ)). name.now) names i d inside) ∙ map-append option_rule _ _))

all_options : (old : Command) (a : Arg) (new : Command) (names : List (Bor (List ℕ))) (i : ℕ)
    → length names ≤ i → AddsArg old a new → a.global ≡ false → rule_of a ≡ positional_rule
    → app_of old ≡ app_with (option_rules (take i names))
    → app_of new ≡ plain_app (names_in names)
all_options old a new names i past adds local is app =
    added old a new _ _ adds local is
    (app ∙ ap (λ ns. app_with (option_rules ns)) (take_all i names past))

pub positional_added : {E : Type 0} (old : Command) (a : Arg) (new : Result Command E)
    (names : List (Bor (List ℕ))) (i : ℕ) → length names ≤ i → IfOk new (AddsArg old a)
    → a.global ≡ false → rule_of a ≡ positional_rule
    → app_of old ≡ app_with (option_rules (take i names))
    → IfOk new (λ c. app_of c ≡ plain_app (names_in names))
positional_added old a (Ok c) names i past adds local is app =
    all_options old a c names i past adds local is app
positional_added old a (Err e) names i past adds local is app = tt
