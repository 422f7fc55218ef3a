use Rattle.std.proofs.Common.{◌≡◌, ℕ, ◌++◌, ◌∷◌, List, [], true, Some, None, map, refl, ap}
use Rattle.std.specs.List.{list_all}
use Rattle.clap.specs.Walk.{Rule, arg_by_short, arg_by_index}
use Rattle.clap.specs.Simple.{built, filled, filled_from, with_index}
use Rattle.psi_words.specs.Clap.{option_rule, positional_rule, plain_app}

-- the rule of an option after the command is built
abbrev pub built_option : List ℕ → Rule
built_option name = filled (option_rule name)

abbrev pub built_positional : Rule
built_positional = with_index 1 (filled positional_rule)

abbrev pub built_rules : List (List ℕ) → List Rule
built_rules names = map built_option names ++ built_positional ∷ []

pub filled_all : (names : List (List ℕ))
    → filled_from 1 (map option_rule names ++ positional_rule ∷ []) ≡ built_rules names
filled_all [] = refl
filled_all (n ∷ ns) = ap (λ rs. built_option n ∷ rs) (filled_all ns)

pub by_short : (names : List (List ℕ)) (x : ℕ) → arg_by_short (built_rules names) x ≡ None
by_short [] x = refl
by_short (n ∷ ns) x = by_short ns x

pub by_index_1 : (names : List (List ℕ))
    → arg_by_index (built_rules names) 1 ≡ Some built_positional
by_index_1 [] = refl
by_index_1 (n ∷ ns) = by_index_1 ns

pub by_index_2 : (names : List (List ℕ)) → arg_by_index (built_rules names) 2 ≡ None
by_index_2 [] = refl
by_index_2 (n ∷ ns) = by_index_2 ns

pub simple_all : (names : List (List ℕ)) → list_all (λ a. a.is_simple) (built_rules names) ≡ true
simple_all [] = refl
simple_all (n ∷ ns) = simple_all ns

pub built_shape : (names : List (List ℕ)) → (built (plain_app names)).top.rules ≡ built_rules names
built_shape names = filled_all names
