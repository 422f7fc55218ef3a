-- Proofs that every command that `command_of` parses is in range.
use Rattle.std.proofs.Common.{◌≡◌, ◌≢◌, ℕ, ◌<◌, ◌≤◌, ◌^◌, ◌-◌, ◌∷◌, ◌&&◌, List, [], Bool, true}
use Rattle.std.proofs.Common.{false, not, Option, Some, None, nat_le, refl, sym, ap, subst}
use Rattle.std.proofs.Common.{◌∙◌, true≢false, arith, if◌then◌else◌}
use Rattle.std.specs.Prelude.{find, IfSome, codes, is_some, ⊤}
use Rattle.std.specs.Str.{bytes_eq}
use Rattle.std.proofs.lemmas.Slice.Eq.{bytes_eq-Decides}
use Rattle.psi_base.specs.Number.{number_of}
use Rattle.psi_base.specs.Path.{is_path}
use Rattle.run_spec.specs.declared.command.Command.{Command}
use Rattle.run_spec.specs.declared.command.Options.{Options}
use Rattle.run_spec.specs.declared.command.Shape.{Shape}
use Rattle.run_spec.specs.declared.command.Command.TheVariants.{Stall, Check, Replay, Gen, Stress, Import, Rules, Whatif}
use Rattle.std.proofs.Common.{lit≤}
use Rattle.psi_base.specs.OptionSteps.{◌>>=◌}
use Rattle.run_spec.specs.Words.{ParsedWords, at_word, parsed_from, option_value, is_name, number_within, number_or}
use Rattle.run_spec.specs.Words.{needed, trace_option, rules_option, drop_in_option, live_option, tick_option, workers_option}
use Rattle.run_spec.specs.Words.{options_of, shape_of, stall_of, check_of, replay_of, gen_of}
use Rattle.run_spec.specs.Words.{stress_of, import_command_of, rules_command_of, whatif_of, CommandForm, forms, command_of}
use Rattle.run_spec.specs.LegalCommand.{IsOptionName, IsWithin, AreOptions, IsShape}
use Rattle.run_spec.specs.LegalCommand.{IsCommand}
use Rattle.run_spec.specs.Laws.{SpelledInRange}

-- if `r >>= f` has a value, then `r` has one, and `f` maps it to that value
pub bind_some : {A B : Type 0} (r : Option A) (f : A → Option B) (y : B) → r >>= f ≡ Some y
    → (x : A) × (r ≡ Some x) × (f x ≡ Some y)
bind_some None f y is = absurd (true≢false (sym (ap is_some is)))
bind_some (Some x) f y is = (x, refl, is)

-- if `if b then Some x else None` is `Some y`, then `b` is true and `x` is `y`
pub if_some : {A : Type 0} (b : Bool) (x y : A) → (if b then Some x else None) ≡ Some y
    → (b ≡ true) × (x ≡ y)
if_some true x y is = (refl, cc)
if_some false x y is = absurd (true≢false (sym (ap is_some is)))

-- ---- option values

within_ranges : (least most : ℕ) (text : List ℕ) (n : ℕ) → number_within least most text ≡ Some n
    → IsWithin least most n
within_ranges least most text n is =
    let found = bind_some (number_of text) _ n is in
    let tests = if_some (nat_le least found.0 && nat_le found.0 most) found.0 n found.2 in
    subst (IsWithin least most) tests.1 (grind arith)

or_ranges : (default least most : ℕ) (parsed : Option (List ℕ)) (n : ℕ) → IsWithin least most default
    → number_or default least most parsed ≡ Some n → IsWithin least most n
or_ranges default least most None n inside is =
    let same : default ≡ n = cc in subst (IsWithin least most) same inside
or_ranges default least most (Some text) n inside is = within_ranges least most text n is

name_ranges : (name : List ℕ) → is_name name ≡ true → name ≢ []
name_ranges name is none = absurd (true≢false (sym is ∙ ap is_name none))

trace_ranges : (parsed : ParsedWords) (trace : List ℕ) → trace_option parsed ≡ Some trace → trace ≢ []
trace_ranges parsed trace is =
    let found = bind_some parsed.positional _ trace is in
    let tests = if_some (is_name found.0) found.0 trace found.2 in
    subst (λ name. name ≢ []) tests.1 (name_ranges found.0 tests.0)

both_true : (a b : Bool) → a && b ≡ true → (a ≡ true) × (b ≡ true)
both_true true b is = (refl, is)
both_true false b is = absurd (true≢false (sym is))

rules_ranges : (parsed : Option (List ℕ)) (rules : Option (List ℕ)) → rules_option parsed ≡ Some rules
    → IsOptionName rules
rules_ranges None rules is =
    let same : None ≡ rules = cc in
    subst (λ r. IfSome r (λ name. (name ≢ []) × (name ≢ codes "-"))) same tt
rules_ranges (Some name) rules is =
    let tests = if_some (is_name name && not (bytes_eq name (codes "-"))) (Some name) rules is in
    let both = both_true (is_name name) (not (bytes_eq name (codes "-"))) tests.0 in
    subst (λ r. IfSome r (λ name. (name ≢ []) × (name ≢ codes "-"))) tests.1 (
      name_ranges name both.0,
      λ dash. absurd
          (true≢false (sym both.1 ∙ ap not ((bytes_eq-Decides name (codes "-")).1 dash))),
    )

-- a parsed drop-in file has a valid name, and comes only with a rules file
drop_in_ranges : (rules parsed : Option (List ℕ)) (drop_in : Option (List ℕ)) → drop_in_option rules parsed ≡ Some drop_in
    → IsOptionName drop_in × (rules ≡ None → drop_in ≡ None)
drop_in_ranges rules None drop_in is =
    let same : None ≡ drop_in = cc in (subst IsOptionName same tt, λ _. sym same)
drop_in_ranges None (Some name) drop_in is = absurd (true≢false (sym (ap is_some is)))
drop_in_ranges (Some rules) (Some name) drop_in is =
    (rules_ranges (Some name) drop_in is, λ none. absurd (true≢false (ap is_some none)))

live_ranges : (parsed : Option (List ℕ)) (live : Option (List ℕ)) → live_option parsed ≡ Some live
    → IfSome live (λ path. is_path path ≡ true)
live_ranges None live is =
    let same : None ≡ live = cc in subst (λ r. IfSome r (λ path. is_path path ≡ true)) same tt
live_ranges (Some path) live is =
    let tests = if_some (is_path path) (Some path) live is in
    subst (λ r. IfSome r (λ path. is_path path ≡ true)) tests.1 tests.0

-- ---- one function per command

tick_ranges : (parsed : ParsedWords) (n : ℕ) → tick_option parsed ≡ Some n → IsWithin 1 60000 n
tick_ranges parsed n is = or_ranges 2000 1 60000 _ n (lit≤ tt, lit≤ tt) is

workers_ranges : (parsed : ParsedWords) (n : ℕ) → workers_option parsed ≡ Some n → IsWithin 1 64 n
workers_ranges parsed n is = or_ranges 64 1 64 _ n (lit≤ tt, lit≤ tt) is

pub stall_ranges : (parsed : ParsedWords) (command : Command) → stall_of parsed ≡ Some command
    → IsCommand command
unfolding stall_of
stall_ranges parsed command is =
    let trace = bind_some (trace_option parsed) _ command is in
    let same : Stall trace.0 ≡ command = cc trace.2 in
    subst IsCommand same (trace_ranges parsed trace.0 trace.1)

pub check_ranges : (parsed : ParsedWords) (command : Command) → check_of parsed ≡ Some command
    → IsCommand command
unfolding check_of
check_ranges parsed command is =
    let trace = bind_some (trace_option parsed) _ command is in
    let tick = bind_some (tick_option parsed) _ command trace.2 in
    let same : Check trace.0 tick.0 ≡ command = cc tick.2 in
    subst IsCommand same (trace_ranges parsed trace.0 trace.1, tick_ranges parsed tick.0 tick.1)

options_ranges : (parsed : ParsedWords) (options : Options) → options_of parsed ≡ Some options
    → AreOptions options
unfolding options_of
options_ranges parsed options is =
    let rules = bind_some (rules_option (option_value (codes "rules") parsed)) _ options is in
    let drop_in = bind_some (drop_in_option rules.0 (option_value (codes "drop-in") parsed)) _ options rules.2 in
    let tick = bind_some (tick_option parsed) _ options drop_in.2 in
    let interval =
    bind_some (number_or 5 1 3600 (option_value (codes "interval-s") parsed)) _ options tick.2 in
    let report =
    bind_some (number_or 10 0 3600 (option_value (codes "report-s") parsed)) _ options interval.2 in
    let workers = bind_some (workers_option parsed) _ options report.2 in
    let live = bind_some (live_option (option_value (codes "live") parsed)) _ options workers.2 in
    let count =
    bind_some (number_or 1 1 16 (option_value (codes "live-count") parsed)) _ options live.2 in
    let same : record {
      rules = rules.0;
      drop_in = drop_in.0;
      tick_ms = tick.0;
      interval_s = interval.0;
      report_s =
          report.0;
      workers = workers.0;
      live = live.0;
      live_count = count.0;
    }
    ≡ options = cc count.2 in
    let over = drop_in_ranges rules.0 (option_value (codes "drop-in") parsed) drop_in.0 drop_in.1 in
    subst AreOptions same (record {
      rules = rules_ranges (option_value (codes "rules") parsed) rules.0 rules.1;
      drop_in = over.0;
      over = over.1;
      tick_ms = tick_ranges parsed tick.0 tick.1;
      interval_s = or_ranges 5 1 3600 _ interval.0 (lit≤ tt, lit≤ tt) interval.1;
      report_s = (or_ranges 10 0 3600 _ report.0 (lit≤ tt, lit≤ tt) report.1).1;
      workers = workers_ranges parsed workers.0 workers.1;
      live = live_ranges (option_value (codes "live") parsed) live.0 live.1;
      live_count = or_ranges 1 1 16 _ count.0 (lit≤ tt, lit≤ tt) count.1;
    })

pub replay_ranges : (parsed : ParsedWords) (command : Command) → replay_of parsed ≡ Some command
    → IsCommand command
unfolding replay_of
replay_ranges parsed command is =
    let trace = bind_some (trace_option parsed) _ command is in
    let options = bind_some (options_of parsed) _ command trace.2 in
    let same : Replay trace.0 options.0 ≡ command = cc options.2 in
    subst IsCommand same (
      trace_ranges parsed trace.0 trace.1,
      options_ranges parsed options.0
          options.1,
    )

needed_ranges : (least most : ℕ) (value : Option (List ℕ)) (n : ℕ)
    → needed least most value ≡ Some n → IsWithin least most n
needed_ranges least most None n is = absurd (true≢false (sym (ap is_some is)))
needed_ranges least most (Some text) n is = within_ranges least most text n is

below_all : (n : ℕ) → n ≤ 2 ^ 64 - 1 → n < 2 ^ 64
below_all n inside = omega arith

shape_ranges : (parsed : ParsedWords) (shape : Shape) → shape_of parsed ≡ Some shape → IsShape shape
unfolding shape_of
shape_ranges parsed shape is =
    let options = bind_some (if is_some parsed.positional then None else Some parsed) _ shape is in
    let seed =
    bind_some (needed 0 (2 ^ 64 - 1) (option_value (codes "seed") options.0)) _ shape options.2 in
    let cpus = bind_some (needed 1 64 (option_value (codes "cpus") options.0)) _ shape seed.2 in
    let groups = bind_some (needed 0 1000 (option_value (codes "groups") options.0)) _ shape cpus.2 in
    let events =
    bind_some (needed 0 3900000 (option_value (codes "events") options.0)) _ shape groups.2 in
    let same : record { seed = seed.0; cpus = cpus.0; groups = groups.0; events = events.0 }
    ≡ shape = cc events.2 in
    subst IsShape same (record {
      seed = below_all seed.0 (needed_ranges 0 (2 ^ 64 - 1) (option_value (codes "seed") options.0)
          seed.0 seed.1).1;
      cpus = needed_ranges 1 64 (option_value (codes "cpus") options.0) cpus.0 cpus.1;
      groups = (needed_ranges 0 1000 (option_value (codes "groups") options.0) groups.0 groups.1).1;
      events = (needed_ranges 0 3900000 (option_value (codes "events") options.0) events.0 events.1).1;
    })

pub gen_ranges : (parsed : ParsedWords) (command : Command) → gen_of parsed ≡ Some command
    → IsCommand command
unfolding gen_of
gen_ranges parsed command is =
    let shape = bind_some (shape_of parsed) _ command is in
    let same : Gen shape.0 ≡ command = cc shape.2 in
    subst IsCommand same (shape_ranges parsed shape.0 shape.1)

pub stress_ranges : (parsed : ParsedWords) (command : Command) → stress_of parsed ≡ Some command
    → IsCommand command
unfolding stress_of
stress_ranges parsed command is =
    let shape = bind_some (shape_of parsed) _ command is in
    let workers = bind_some (workers_option parsed) _ command shape.2 in
    let same : Stress shape.0 workers.0 ≡ command = cc workers.2 in
    subst IsCommand same (
      shape_ranges parsed shape.0 shape.1,
      workers_ranges parsed workers.0
          workers.1,
    )

pub import_ranges : (parsed : ParsedWords) (command : Command) → import_command_of parsed ≡ Some command
    → IsCommand command
unfolding import_command_of
import_ranges parsed command is =
    let file = bind_some (trace_option parsed) _ command is in
    let cpus = bind_some (needed 1 64 (option_value (codes "cpus") parsed)) _ command file.2 in
    let same : Import file.0 cpus.0 ≡ command = cc cpus.2 in
    subst IsCommand same (
      trace_ranges parsed file.0 file.1,
      needed_ranges 1 64 (option_value (codes "cpus") parsed) cpus.0 cpus.1,
    )

pub rules_command_ranges : (parsed : ParsedWords) (command : Command) → rules_command_of parsed ≡ Some command
    → IsCommand command
unfolding rules_command_of
rules_command_ranges parsed command is =
    let file = bind_some (trace_option parsed) _ command is in
    let drop_in = bind_some (rules_option (option_value (codes "drop-in") parsed)) _ command file.2 in
    let same : Rules file.0 drop_in.0 ≡ command = cc drop_in.2 in
    subst IsCommand same (
      trace_ranges parsed file.0 file.1,
      rules_ranges (option_value (codes "drop-in") parsed) drop_in.0 drop_in.1,
    )

-- a value that passes the test for `None` is `None`
none_there : {A : Type 0} (o : Option A) → not (is_some o) ≡ true → o ≡ None
none_there None is = refl
none_there (Some x) is = absurd (true≢false (sym is))

pub whatif_ranges : (parsed : ParsedWords) (command : Command) → whatif_of parsed ≡ Some command
    → IsCommand command
unfolding whatif_of
whatif_ranges parsed command is =
    let trace = bind_some (trace_option parsed) _ command is in
    let options = bind_some (options_of parsed) _ command trace.2 in
    let tests = if_some (is_some options.0.rules && not (is_some options.0.live)) (Whatif trace.0 options.0) command options.2 in
    let both = both_true (is_some options.0.rules) (not (is_some options.0.live)) tests.0 in
    subst IsCommand tests.1 (
      trace_ranges parsed trace.0 trace.1,
      options_ranges parsed options.0 options.1,
      both.0,
      none_there options.0.live both.1,
    )

-- ---- all commands

-- the property `P` holds for the function of each command
abbrev pub OfEach : ((ParsedWords → Option Command) → Type 0) → List CommandForm → Type 0
OfEach P [] = ⊤
OfEach P (form ∷ forms) = P form.command × OfEach P forms

found_here : (P : (ParsedWords → Option Command) → Type 0) (other form : CommandForm) (rest : Option CommandForm)
    (b : Bool) → (if b then Some other else rest) ≡ Some form → P other.command
    → (rest ≡ Some form → P form.command) → P form.command
found_here P other form rest true is here later =
    let same : other ≡ form = cc in subst (λ (f : CommandForm). P f.command) same here
found_here P other form rest false is here later = later is

pub each_found : (P : (ParsedWords → Option Command) → Type 0) (first : List ℕ) (forms : List CommandForm)
    (form : CommandForm) → OfEach P forms → find (λ form. bytes_eq first form.word) forms ≡ Some form
    → P form.command
each_found P first [] form each is = absurd (true≢false (sym (ap is_some is)))
each_found P first (other ∷ forms) form each is =
    found_here P other form (find (λ form. bytes_eq first form.word) forms)
    (bytes_eq first other.word) is each.0 (each_found P first forms form each.1)

abbrev pub GivesCommands : (ParsedWords → Option Command) → Type 0
GivesCommands read =
    (parsed : ParsedWords) (command : Command) → read parsed ≡ Some command → IsCommand command

all_ranges : OfEach GivesCommands forms
all_ranges = (stall_ranges, (check_ranges, (replay_ranges, (gen_ranges, (stress_ranges, (import_ranges, (rules_command_ranges, (whatif_ranges, tt))))))))

pub command_ranges : SpelledInRange
unfolding command_of
command_ranges [] command is = absurd (true≢false (sym (ap is_some is)))
command_ranges (first ∷ words) command is =
    let form = bind_some (find (λ (form : CommandForm). bytes_eq first form.word) forms) _ command is in
    let parsed = bind_some (parsed_from form.0.options at_word words) _ command form.2 in
    each_found GivesCommands first forms form.0 all_ranges form.1 parsed.0 command parsed.2
