-- Proofs about the content of a marked line: pids are in range, and a running task never leaves by
-- `idle`.
use Rattle.std.proofs.Common.{◌≡◌, ℕ, ◌^◌, ◌<◌, List, [], ◌∷◌, refl, ◌∙◌, subst, arith, cond, Bool, true, false, Option, None, Some, ◌==◌}
use Rattle.std.specs.Prelude.{IfSome, codes, drop, length, nat_lt, take, Result, Ok, ◌+◌, ◌||◌}
use Rattle.std.specs.List.{before_first}
use Rattle.std.proofs.lemmas.Bool.Decides.{nat_tests}
use Rattle.psi_base.specs.declared.event.How.{How}
use Rattle.psi_base.specs.declared.event.How.TheVariants.{Exit, IoWait, Preempt, Sleep}
use Rattle.psi_base.specs.declared.event.Pid.{Pid}
use Rattle.psi_spec.specs.Fields.{IsPid}
use Rattle.import_spec.specs.declared.cause.ImportCause.{ImportCause}
use Rattle.import_spec.specs.declared.seen.LineKind.{LineKind}
use Rattle.import_spec.specs.declared.seen.LineKind.TheVariants as kind
use Rattle.import_spec.specs.declared.seen.Seen.{Seen}
use Rattle.import_spec.specs.declared.seen.Sighting.{Sighting}
use Rattle.psi_base.specs.OptionSteps.{◌>>=◌}
use Rattle.import_spec.specs.Places.{begins_with, after_last, last_place}
use Rattle.import_spec.specs.Tails.{cpu_in, field_in, how_in, if_small, is_space, short_number, pid_in, time_in}
use Rattle.import_spec.specs.Marked.{Marked, if_formed, marked_of, migration_in, read_line, read_marked, seen_in, sighting_of, switch_in, wakeup_in}
use Rattle.ftrace_import.specs.Stands.{IsSeen, Leaves}

-- A sequence of two steps succeeds only if both do.
pub record Bound {A B : Type 0} (o : Option A) (f : A → Option B) (y : B) : Type 0 where
  pub value : A
  pub first : o ≡ Some value
  pub then : f value ≡ Some y

pub bound : {A B : Type 0} (o : Option A) (f : A → Option B) (y : B) → (o >>= f) ≡ Some y → Bound o f y
bound None f y is = absurd (cc is)
bound (Some x) f y is = record { value = x; first = refl; then = is }

-- Equal options have equal values.
pub some_same : {A : Type 0} (x y : A) → Some x ≡ Some y → x ≡ y
some_same x y is = cc is

small_is : (m n : ℕ) → if_small m ≡ Some n → n < 2 ^ 32
small_is m n is =
    elim (nat_lt m (2 ^ 32)) as (λ b. nat_lt m (2 ^ 32) ≡ b → cond b (Some m) None ≡ Some n → n < 2 ^ 32) [
      | true ↦ λ low found. let same : m ≡ n = cc found in grind (arith, nat_tests)
      | false ↦ λ _ found. absurd (cc found)
    ] refl is

field_small : (key part : List ℕ) (n : ℕ) → field_in key part ≡ Some n → n < 2 ^ 32
unfolding field_in
field_small key part n is =
    let first = bound (after_last key part) _ n is in
    let second = bound (short_number 10 (before_first is_space first.value)) _ n first.then in
    small_is second.value n second.then

pid_fits : (n : ℕ) → n < 2 ^ 32 → IfSome (pid_in n) IsPid
pid_fits n low =
    elim (n == 0) as (λ b. (n == 0) ≡ b → IfSome (let o : Option Pid = cond b None (Some (record { 0 = n })) in o) IsPid) [
      | true ↦ λ _. tt
      | false ↦ λ other. let some : 0 < n = grind (arith, nat_tests) in (some, low)
    ] refl

leaves_all : (a b c : Bool) → Leaves (cond a Preempt (cond b IoWait (cond c Exit Sleep)))
leaves_all true b c o some = rw some refl
leaves_all false true c o some = rw some refl
leaves_all false false true o some = rw some refl
leaves_all false false false o some = rw some refl

how_leaves : (state : List ℕ) (how : How) → how_in state ≡ Some how → Leaves how
unfolding how_in
how_leaves [] how is = absurd (cc is)
how_leaves (first ∷ rest) how is = subst Leaves (some_same _ how is) (leaves_all (first == 82) (first == 68) (first == 88 || first == 90))

switch_seen : (cpu : ℕ) (tail : List ℕ) (what : Seen) → switch_in cpu tail ≡ Some what → IsSeen what
unfolding switch_in
switch_seen cpu tail what is =
    let arrow = bound (last_place (begins_with (codes " ==> ")) tail) _ what is in
    let previous = bound (field_in (codes " prev_pid=") (take arrow.value tail)) _ what arrow.then in
    let state = bound (after_last (codes " prev_state=") (take arrow.value tail)) _ what previous.then in
    let how = bound (how_in state.value) _ what state.then in
    let next = bound (field_in (codes " next_pid=") (drop (arrow.value + length (codes " ==> ")) tail)) _ what how.then in
    subst IsSeen (some_same _ what next.then) (pid_fits next.value (field_small (codes " next_pid=") (drop (arrow.value + length (codes " ==> ")) tail) next.value next.first), how_leaves state.value how.value how.first)

pid_here : (n : ℕ) (pid : Pid) → n < 2 ^ 32 → pid_in n ≡ Some pid → IsPid pid
pid_here n pid low is = let fits = pid_fits n low in rw is at fits

wakeup_seen : (tail : List ℕ) (what : Seen) → wakeup_in tail ≡ Some what → IsSeen what
unfolding wakeup_in
wakeup_seen tail what is =
    let number = bound (field_in (codes " pid=") tail) _ what is in
    let pid = bound (pid_in number.value) _ what number.then in
    let target = bound (field_in (codes " target_cpu=") tail) _ what pid.then in
    subst IsSeen (some_same _ what target.then) (pid_here number.value pid.value (field_small (codes " pid=") tail number.value number.first) pid.first)

migration_seen : (tail : List ℕ) (what : Seen) → migration_in tail ≡ Some what → IsSeen what
unfolding migration_in
migration_seen tail what is =
    let number = bound (field_in (codes " pid=") tail) _ what is in
    let pid = bound (pid_in number.value) _ what number.then in
    let target = bound (field_in (codes " dest_cpu=") tail) _ what pid.then in
    subst IsSeen (some_same _ what target.then) (pid_here number.value pid.value (field_small (codes " pid=") tail number.value number.first) pid.first)

kind_seen : (which : LineKind) (cpu : ℕ) (tail : List ℕ) (what : Seen) → seen_in which cpu tail ≡ Some what → IsSeen what
kind_seen kind.Switch cpu tail what is = switch_seen cpu tail what is
kind_seen kind.Wakeup cpu tail what is = wakeup_seen tail what is
kind_seen kind.Migration cpu tail what is = migration_seen tail what is

sighting_seen : (line : Marked) (sighting : Sighting) → sighting_of line ≡ Some sighting → IsSeen sighting.seen
unfolding sighting_of
sighting_seen line sighting is =
    let time = bound (time_in line.head) _ sighting is in
    let cpu = bound (cpu_in line.head) _ sighting time.then in
    let what = bound (seen_in line.kind cpu.value line.tail) _ sighting cpu.then in
    subst (λ (s : Sighting). IsSeen s.seen) (some_same _ sighting what.then) (kind_seen line.kind cpu.value line.tail what.value what.first)

-- The content of a line that was parsed is the content of its mark, head and tail.
if_seen : (line : Marked) (sighting : Sighting) (o : Option Sighting) → sighting_of line ≡ o → (let r : Result (Option Sighting) ImportCause = if_formed o in r) ≡ Ok (Some sighting) → IsSeen sighting.seen
if_seen line sighting None is found = absurd (cc found)
if_seen line sighting (Some other) is found = sighting_seen line sighting (is ∙ cc found)

marked_seen : (sighting : Sighting) (o : Option Marked) → read_marked o ≡ Ok (Some sighting) → IsSeen sighting.seen
marked_seen sighting None found = absurd (cc found)
marked_seen sighting (Some line) found = if_seen line sighting (sighting_of line) refl found

pub line_seen : (line : List ℕ) (sighting : Sighting) → read_line line ≡ Ok (Some sighting) → IsSeen sighting.seen
unfolding read_line
line_seen line sighting found = marked_seen sighting (marked_of line) found
