-- The states of a list of tasks by its counts, and masks by their states.
use Rattle.std.proofs.Common.{◌≡◌, ℕ, zero, suc, ◌+◌, ◌≤◌, ◌<◌, refl, ap, ◌∙◌, sym, Bool, true, false, arith, nat_lt, ◌==◌}
use Rattle.std.specs.Prelude.{◌&&◌, ◌||◌, not, if◌then◌else◌}
use Rattle.std.specs.List.{list_any, list_all}
use Rattle.std.specs.Int.{bit_at}
use Rattle.std.proofs.lemmas.Bool.Decides.{nat_tests}
use Rattle.std.proofs.lemmas.Nat.Bits.{same_from_bits_below, bit_at-lt}
use Rattle.psi_base.specs.declared.event.State.{State}
use Rattle.psi_base.specs.declared.event.State.TheVariants.{IoSome, IoFull, MemSome, MemFull, CpuSome, CpuFull, Nonidle}
use Rattle.psi_spec.specs.Stall.{holds_of, waits, queues, runs, stalls, is_up}
use Rattle.psi_counts.specs.Counts.{how_many, shows, counts_among, runs_stalled, mask_holds, CountsShow, MasksAreTheirStates}
use Rattle.psi_counts.proofs.CountLaws.{one, any_counted, all_counted, up_counted, any_either, running_stalled_any}

zero_test : (n : ℕ) → not (nat_lt 0 n) ≡ (n == 0)
zero_test n = grind (arith, nat_tests)

one_or_none : (n : ℕ) (on : Bool) → n ≤ 1 → on ≡ nat_lt 0 n → n ≡ one on
one_or_none n true few is = grind (arith, nat_tests)
one_or_none n false few is = grind (arith, nat_tests)

ready_test : (up ready running : ℕ) (on : Bool) → up ≡ ready + running → running ≡ one on → nat_lt 0 ready ≡ (if on then nat_lt 1 up else nat_lt 0 up)
ready_test up ready running true u r = grind (arith, nat_tests)
ready_test up ready running false u r = grind (arith, nat_tests)

and_no : (a : Bool) → (a && false) ≡ false
and_no true = refl
and_no false = refl

full_test : (up ready running : ℕ) (on : Bool) → up ≡ ready + running → running ≡ one on → (nat_lt 0 ready && not on) ≡ (nat_lt 0 up && not on)
full_test up ready running true u r = and_no (nat_lt 0 ready) ∙ sym (and_no (nat_lt 0 up))
full_test up ready running false u r = ap (λ n. nat_lt 0 n && true) (let same : ready ≡ up = omega (arith, u, r) in same)

-- a running stalled task is itself a stalled one, so that the test for one needs no test beside it
stalled_beside : (some all running : Bool) → (running ≡ true → some ≡ true) → (some && (all || running)) ≡ ((some && all) || running)
stalled_beside true all running h = refl
stalled_beside false all true h = h refl
stalled_beside false all false h = refl

pub counts_show : CountsShow
counts_show tasks on stuck reported state =
    let running : how_many runs tasks ≡ one on = one_or_none (how_many runs tasks) on reported.at_most_one (reported.one_runs ∙ any_counted runs tasks) in
    elim state as (λ s. holds_of s tasks ≡ shows s (counts_among tasks) on stuck) [
      | IoSome ↦ any_counted waits tasks
      | IoFull ↦ rw (any_counted waits tasks, any_counted is_up tasks, zero_test (how_many is_up tasks)) refl
      | MemSome ↦ any_counted stalls tasks
      | MemFull ↦
          stalled_beside (list_any stalls tasks) (list_all (λ task. not (is_up task) || stalls task) tasks) (list_any runs_stalled tasks) (running_stalled_any tasks)
          ∙ rw (any_counted stalls tasks, all_counted tasks, sym reported.it_is_stalled) refl
      | CpuSome ↦ any_counted queues tasks ∙ ready_test _ _ _ on (up_counted tasks) running
      | CpuFull ↦ rw (any_counted queues tasks, sym reported.one_runs) (full_test _ _ _ on (up_counted tasks) running)
      | Nonidle ↦ rw (any_either (λ t. waits t || stalls t) is_up tasks, any_either waits stalls tasks, any_counted waits tasks, any_counted stalls tasks, any_counted is_up tasks) refl
    ]

same_small : (x y : ℕ) → x < 2 → y < 2 → (x == 1) ≡ (y == 1) → x ≡ y
same_small x y few others same = grind (arith, nat_tests)

-- a bit is known by the test of it
same_bit : (a b i : ℕ) → (bit_at a i == 1) ≡ (bit_at b i == 1) → bit_at a i ≡ bit_at b i
same_bit a b i same =
    let few = bit_at-lt a i in
    let others = bit_at-lt b i in
    same_small (bit_at a i) (bit_at b i) few others same

same_bits : (a b : ℕ) → ((state : State) → mask_holds a state ≡ mask_holds b state) → (i : ℕ) → i < 7 → bit_at a i ≡ bit_at b i
same_bits a b same zero h = same_bit a b 0 (same IoSome)
same_bits a b same (suc zero) h = same_bit a b 1 (same IoFull)
same_bits a b same (suc (suc zero)) h = same_bit a b 2 (same MemSome)
same_bits a b same (suc (suc (suc zero))) h = same_bit a b 3 (same MemFull)
same_bits a b same (suc (suc (suc (suc zero)))) h = same_bit a b 4 (same CpuSome)
same_bits a b same (suc (suc (suc (suc (suc zero))))) h = same_bit a b 5 (same CpuFull)
same_bits a b same (suc (suc (suc (suc (suc (suc zero)))))) h = same_bit a b 6 (same Nonidle)
same_bits a b same (suc (suc (suc (suc (suc (suc (suc n))))))) h = absurd (omega arith)

pub masks_are_their_states : MasksAreTheirStates
masks_are_their_states one other is_one is_other same = same_from_bits_below 7 one other is_one is_other (same_bits one other same)
