-- Proofs of upper bounds on the number of read calls.
use Rattle.std.proofs.Common.{◌≡◌, ℕ, zero, suc, ◌+◌, ◌≤◌, List, [], ◌∷◌, ◌++◌, length, refl, sym, ap, ◌∙◌, subst, append_assoc, arith, Option, None, Some, Result, Ok, Err, true}
use Rattle.std.specs.Prelude.{is_some}
use Rattle.std.proofs.lemmas.List.{append-nil, length-append}
use Rattle.outside.specs.Outside.{count_read}
use Rattle.outside.specs.Reads.{AreReads, Progress, ReadCall, ReadsEach, after_read}
use Rattle.outside.specs.Reads.Progress.{Next, Over}
use Rattle.outside.specs.declared.shelf.ShelfFault.{ShelfFault}
use Rattle.run_spec.specs.declared.command.Command.{Command}
use Rattle.run_spec.specs.declared.status.Status.TheVariants as status
use Rattle.run_spec.specs.declared.status.Which.{Which}
use Rattle.run_spec.specs.declared.status.Which.TheVariants.{DropInFile, ImportFile, RulesFile, TraceFile}
use Rattle.run_spec.specs.Laws.{CallsAreFew, CommandCallsAreFew, FileCallsAreFew, bytes_in}
use Rattle.run_spec.specs.Outputs.{drop_in_name, file_of, rules_name, source_name}
use Rattle.run_spec.specs.ReadOrder.{FailsAt, listed, names_before, names_in_order, names_of_rules}
use Rattle.run_spec.proofs.Missing.{from_import, from_trace}

-- ---- one file

-- no read call follows the last call for a file
over_none : (name : List ℕ) (fault : Option ShelfFault) (calls : List ReadCall) (to : Progress) → AreReads name (Over fault) calls to → length calls ≤ bytes_in calls
over_none name fault [] to reads = omega arith
over_none name fault (call ∷ calls) to reads = absurd reads

-- each read call for a file except the last returned at least one byte
calls_few : (name : List ℕ) (from : Progress) (calls : List ReadCall) (to : Progress) → AreReads name from calls to → length calls ≤ bytes_in calls + 1
calls_few name from [] to reads = omega arith
calls_few name (Over fault) (call ∷ calls) to reads = absurd reads
calls_few name (Next at) (call ∷ calls) to reads = go call.outcome reads.3 (λ from rest. calls_few name from calls to rest)
  where
    go : (outcome : Result ℕ ShelfFault) → AreReads name (after_read at outcome) calls to → ((from : Progress) → AreReads name from calls to → length calls ≤ bytes_in calls + 1)
        → length (call ∷ calls) ≤ count_read outcome + bytes_in calls + 1
    go (Ok zero) rest few = let none = over_none name None calls to rest in omega (arith, none)
    go (Ok (suc n)) rest few = let more = few (Next (at + suc n)) rest in omega (arith, more)
    go (Err fault) rest few = let none = over_none name (Some fault) calls to rest in omega (arith, none)

pub file_calls : FileCallsAreFew
file_calls name before now fault reads = record {
  calls = reads.reads.calls;
  grown = reads.reads.grown;
  few = calls_few name (Next 0) reads.reads.calls reads.progress reads.reads.in_order;
}

-- ---- several files

bytes_append : (xs ys : List ReadCall) → bytes_in (xs ++ ys) ≡ bytes_in xs + bytes_in ys
bytes_append [] ys = omega arith
bytes_append (call ∷ xs) ys = let rest = bytes_append xs ys in omega (arith, rest)

-- a log without new calls satisfies the bound 0
no_calls : (log : List ReadCall) → CallsAreFew 0 log log
no_calls log = record { calls = []; grown = sym (append-nil log); few = omega arith }

-- the bounds of two consecutive parts of the log add up
calls_add : (m n : ℕ) (before middle now : List ReadCall) → CallsAreFew m before middle → CallsAreFew n middle now → CallsAreFew (m + n) before now
calls_add m n before middle now first then = record {
  calls = first.calls ++ then.calls;
  grown = then.grown ∙ ap (λ log. log ++ then.calls) first.grown ∙ append_assoc before first.calls then.calls;
  few = let bytes = bytes_append first.calls then.calls in let long = length-append first.calls then.calls in omega (arith, bytes, long, first.few, then.few);
}

-- a bound may be increased
calls_within : (m n : ℕ) (before now : List ReadCall) → m ≤ n → CallsAreFew m before now → CallsAreFew n before now
calls_within m n before now least few = record { calls = few.calls; grown = few.grown; few = omega (arith, least, few.few) }

each_calls : (names : List (List ℕ)) (before now : List ReadCall) → ReadsEach names before now → CallsAreFew (length names) before now
each_calls [] before now reads = subst (CallsAreFew 0 before) (sym reads) (no_calls before)
each_calls (name ∷ names) before now reads =
    calls_within (1 + length names) (length (name ∷ names)) before now (omega arith) (calls_add 1 (length names) before reads.0 now (file_calls name before reads.0 None reads.1) (each_calls names reads.0 now reads.2))

-- ---- a command

-- the list of a given name has one element
one_listed : (named : Option (List ℕ)) (name : List ℕ) → named ≡ Some name → length (listed named) ≡ 1
one_listed named name is = ap (λ n. length (listed n)) is

-- the number of a command's files is the sum for the rules file, the drop-in file and the trace or
-- ftrace text
many_names : (command : Command) → length (names_in_order command) ≡ length (listed (rules_name command)) + length (listed (drop_in_name command)) + length (listed (source_name command))
many_names command =
    let rules = length-append (listed (rules_name command)) (listed (drop_in_name command)) in
    let all = length-append (names_of_rules (rules_name command) (drop_in_name command)) (listed (source_name command)) in
    omega (arith, rules, all)

-- the files before a command's file `which`, and that file itself, are among the command's files
names_within : (command : Command) (which : Which) (name : List ℕ) → file_of command which ≡ Some name → length (names_before command which) + 1 ≤ length (names_in_order command)
names_within command RulesFile name named = let one = one_listed (rules_name command) name named in let many = many_names command in omega (arith, one, many)
names_within command DropInFile name named = let one = one_listed (drop_in_name command) name named in let many = many_names command in omega (arith, one, many)
names_within command TraceFile name named =
    let source : source_name command ≡ Some name = ap (file_of command) (from_trace command (subst (λ n. is_some n ≡ true) (sym named) refl)) ∙ named in
    let one = one_listed (source_name command) name source in
    let rules = length-append (listed (rules_name command)) (listed (drop_in_name command)) in
    let many = many_names command in
    omega (arith, one, rules, many)
names_within command ImportFile name named =
    let source : source_name command ≡ Some name = ap (file_of command) (from_import command (subst (λ n. is_some n ≡ true) (sym named) refl)) ∙ named in
    let one = one_listed (source_name command) name source in
    let rules = length-append (listed (rules_name command)) (listed (drop_in_name command)) in
    let many = many_names command in
    omega (arith, one, rules, many)

fails_calls : (command : Command) (before now : List ReadCall) (which : Which) (fault : ShelfFault) → FailsAt command before now which fault → CallsAreFew (length (names_in_order command)) before now
fails_calls command before now which fault fails =
    calls_within (length (names_before command which) + 1) (length (names_in_order command)) before now (names_within command which fails.0 fails.2)
    (calls_add (length (names_before command which)) 1 before fails.1 now (each_calls (names_before command which) before fails.1 fails.3) (file_calls fails.0 fails.1 now (Some fault) fails.4))

all_calls : (command : Command) (before now : List ReadCall) → ReadsEach (names_in_order command) before now → CallsAreFew (length (names_in_order command)) before now
all_calls command before now reads = each_calls (names_in_order command) before now reads

pub command_calls : CommandCallsAreFew
command_calls command files before now status.ReadFault order = fails_calls command before now order.0 _ order.1
command_calls command files before now (status.NoFile which) order = fails_calls command before now which _ order
command_calls command files before now (status.Rules fault) order =
    let many = many_names command in
    calls_within (length (listed (rules_name command))) (length (names_in_order command)) before now (omega (arith, many)) (each_calls (listed (rules_name command)) before now order)
command_calls command files before now (status.DropIn fault) order =
    let names = names_of_rules (rules_name command) (drop_in_name command) in
    let rules = length-append (listed (rules_name command)) (listed (drop_in_name command)) in
    let many = many_names command in
    calls_within (length names) (length (names_in_order command)) before now (omega (arith, rules, many)) (each_calls names before now order)
command_calls command files before now status.Done order = all_calls command before now order
command_calls command files before now status.Usage order = all_calls command before now order
command_calls command files before now (status.Trace line why) order = all_calls command before now order
command_calls command files before now status.WriteFault order = all_calls command before now order
command_calls command files before now (status.NoMemory none) order = all_calls command before now order
command_calls command files before now (status.Import line why) order = all_calls command before now order
command_calls command files before now (status.TooLarge events) order = all_calls command before now order
