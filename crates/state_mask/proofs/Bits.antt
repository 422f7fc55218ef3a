-- Proofs about the bits of a mask, one for each state.
use Rattle.std.proofs.Common.{◌≡◌, ℕ, zero, suc, ◌*◌, ◌^◌, ◌<◌, true, false, arith, nat_eq, ◌==◌, bit_and}
use Rattle.std.specs.Prelude.{not}
use Rattle.std.specs.Int.{bit_at}
use Rattle.std.proofs.lemmas.Bool.Decides.{nat_tests}
use Rattle.std.proofs.lemmas.Nat.{pow_pos}
use Rattle.std.proofs.lemmas.Nat.Bits.{and_pow, bit_at-lt}
use Rattle.psi_base.specs.declared.event.State.{State}
use Rattle.psi_spec.specs.Stall.{state_number}
use Rattle.psi_counts.specs.Counts.{mask_holds}

small_bit : (bit power : ℕ) → bit < 2 → 0 < power → not (nat_eq (bit * power) 0) ≡ (bit == 1)
small_bit zero power few some = let goal : not (nat_eq (0 * power) 0) ≡ false = grind (arith, nat_tests) in goal
small_bit (suc zero) power few some = let goal : not (nat_eq (1 * power) 0) ≡ true = grind (arith, nat_tests) in goal
small_bit (suc (suc n)) power few some = absurd (omega arith)

-- A mask has a state exactly if it shares a set bit with the state's power of two.
pub holds_known : (mask : ℕ) (state : State) → not (nat_eq (bit_and mask (2 ^ state_number state)) 0) ≡ mask_holds mask state
holds_known mask state = rw (and_pow mask (state_number state)) (small_bit (bit_at mask (state_number state)) (2 ^ state_number state) (bit_at-lt mask (state_number state)) (pow_pos (state_number state)))
