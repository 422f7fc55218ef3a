-- Proves properties of a set of pids that grows event by event.
use Rattle.std.proofs.Common.{◌≡◌, ℕ, List, refl, ap, ◌∙◌, sym, cond, Bool, true, false, ◌==◌, ⊎_elim}
use Rattle.std.specs.Prelude.{◌&&◌, ◌||◌}
use Rattle.std.specs.List.{list_any}
use Rattle.std.specs.BTreeMap.{is_at}
use Rattle.std.specs.Ordering.{nat_cmp}
use Rattle.std.specs.Cmp.{unsigned_tied}
use Rattle.std.proofs.lemmas.Bool.Decides.{eqb_tells}
use Rattle.psi_spec.specs.World.{World}
use Rattle.whatif_spec.specs.Without.{is_pid_among}
use Rattle.whatif_trace.specs.Left.{is_member}
use Rattle.whatif_trace.proofs.Killed.{among_keys, flipped}

either_or : (b c : Bool) → cond b true c ≡ (c || (b && true))
either_or true true = refl
either_or true false = refl
either_or false true = refl
either_or false false = refl

-- After an insertion, the set has the new pid and the earlier pids.
pub put_in : (old new : List ℕ) (pid : ℕ) → ((k : ℕ) → list_any (is_at (nat_cmp k)) new ≡ cond (is_at (nat_cmp pid) k) true (list_any (is_at (nat_cmp k)) old)) → (k : ℕ) → is_pid_among new k ≡ (is_pid_among old k || (k == pid && true))
put_in old new pid is k =
    sym (among_keys new k) ∙ is k ∙ ap (λ b. cond b true (list_any (is_at (nat_cmp k)) old)) (unsigned_tied pid k ∙ flipped pid k)
    ∙ ap (cond (k == pid) true) (among_keys old k) ∙ either_or (k == pid) (is_pid_among old k)

or_nothing : (b c : Bool) → b ≡ (b || (c && false))
or_nothing true c = refl
or_nothing false true = refl
or_nothing false false = refl

-- Without an insertion, the set doesn't change.
pub none_in : (old : List ℕ) (pid k : ℕ) → is_pid_among old k ≡ (is_pid_among old k || (k == pid && false))
none_in old pid k = or_nothing (is_pid_among old k) (k == pid)

-- Whether a pid is a member depends only on the task with that pid.
pub same_member : (w : World) (slot k pid : ℕ) → (k == pid && is_member w slot pid) ≡ (k == pid && is_member w slot k)
same_member w slot k pid = ⊎_elim (λ same. ap (λ n. k == pid && is_member w slot n) (sym same.1)) (λ other. rw other.0 refl) (eqb_tells k pid)

by_cases : (old x r m : Bool) → ((old || (x && m)) || (r && m)) ≡ (old || ((x || r) && m))
by_cases true x r m = refl
by_cases false true true true = refl
by_cases false true true false = refl
by_cases false true false true = refl
by_cases false true false false = refl
by_cases false false r m = refl

-- One more event preserves the loop invariant.
pub one_more : (old new x r m all : Bool) → new ≡ (old || (x && m)) → (old || ((x || r) && m)) ≡ all → (new || (r && m)) ≡ all
one_more old new x r m all is held = ap (λ b. b || (r && m)) is ∙ by_cases old x r m ∙ held

or_false : (b : Bool) → (b || false) ≡ b
or_false true = refl
or_false false = refl

-- After the last event, the loop invariant gives the result.
pub all_looked : (among m all : Bool) → (among || (false && m)) ≡ all → among ≡ all
all_looked among m all is = sym (or_false among) ∙ is
