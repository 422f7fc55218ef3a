-- Proofs about legal events: the conditions that don't apply to them. Also small lemmas about
-- tests.
use Rattle.std.proofs.Common.{◌≡◌, ℕ, zero, suc, List, [], ◌∷◌, refl, subst, Bool, true, false, cond, Option, None, Some}
use Rattle.std.specs.Prelude.{find, ◌&&◌, not, is_some, slice_get}
use Rattle.psi_base.specs.declared.event.Event.{Event}
use Rattle.psi_base.specs.declared.event.Cause.{Cause}
use Rattle.psi_base.specs.declared.event.Cause.TheVariants as cause
use Rattle.psi_spec.specs.World.{World, Limits}
use Rattle.psi_spec.specs.Refusal.{cause_of, applies, cause_order}

-- ---- causes that don't apply

-- if a search for a cause finds none, no cause of the list applies
pub passed : (test : Cause → Bool) (causes : List Cause) (at : ℕ) (why : Cause) → find test causes ≡ None → slice_get causes at ≡ Some why → test why ≡ false
passed test [] at why none is = absurd (cc is)
passed test (first ∷ causes) zero why none is =
    elim (test first) as (λ b. test first ≡ b → cond b (Some first) (find test causes) ≡ None → test why ≡ false) [
      | true ↦ λ _ i. absurd (cc i)
      | false ↦ λ off _. let same : first ≡ why = cc is in subst (λ c. test c ≡ false) same off
    ] refl none
passed test (first ∷ causes) (suc at) why none is =
    elim (test first) as (λ b. cond b (Some first) (find test causes) ≡ None → test why ≡ false) [
      | true ↦ λ i. absurd (cc i)
      | false ↦ λ i. passed test causes at why i is
    ] none

-- some of the causes that don't apply to a legal event
pub record NoneIn (limits : Limits) (w : World) (event : Event) : Type 0 where
  pub unknown_group : applies cause.UnknownGroup limits w event ≡ false
  pub unknown_task : applies cause.UnknownTask limits w event ≡ false
  pub task_exists : applies cause.TaskExists limits w event ≡ false
  pub bad_cpu : applies cause.BadCpu limits w event ≡ false
  pub not_ready : applies cause.NotReady limits w event ≡ false
  pub wrong_how : applies cause.WrongHow limits w event ≡ false

-- no cause applies to a legal event
pub none_found_in : (limits : Limits) (w : World) (event : Event) → cause_of limits w event ≡ None → NoneIn limits w event
unfolding cause_of
none_found_in limits w event legal =
    let off : (at : ℕ) (why : Cause) → slice_get cause_order at ≡ Some why → applies why limits w event ≡ false = λ at why is. passed (λ why. applies why limits w event) cause_order at why legal is in
    record {
      unknown_group = off 8 cause.UnknownGroup refl;
      unknown_task = off 13 cause.UnknownTask refl;
      task_exists = off 14 cause.TaskExists refl;
      bad_cpu = off 16 cause.BadCpu refl;
      not_ready = off 18 cause.NotReady refl;
      wrong_how = off 20 cause.WrongHow refl;
    }

-- if `not b` is false, `b` is true
pub not_false : (b : Bool) → not b ≡ false → b ≡ true
not_false true h = refl
not_false false h = cc h

-- an option without a value is `None`
pub is_none : {A : Type 0} (o : Option A) → is_some o ≡ false → o ≡ None
is_none None h = refl
is_none (Some x) h = cc h

-- if a conjunction is true, its first test is true
pub first_true : (a b : Bool) → (a && b) ≡ true → a ≡ true
first_true true b h = refl
first_true false b h = h

-- if a conjunction is true, its second test is true
pub second_true : (a b : Bool) → (a && b) ≡ true → b ≡ true
second_true true b h = h
second_true false b h = cc h
