-- Proves that the changed task after a legal act may replace the task before the act
-- (`MayReplace`).
use Rattle.std.proofs.Common.{◌≡◌, ℕ, ◌<◌, refl, ◌∙◌, sym, Bool, false, Option, None, Some, length, List, ◌==◌}
use Rattle.std.specs.Prelude.{IfSome, not}
use Rattle.psi_base.specs.declared.event.Slot.{Slot}
use Rattle.psi_base.specs.Missing.{is_some_and}
use Rattle.psi_spec.specs.declared.machine.Mode.{Mode}
use Rattle.psi_spec.specs.declared.machine.Mode.TheVariants.{Blocked, Waiting, Ready, Running}
use Rattle.psi_spec.specs.declared.machine.Task.{Task}
use Rattle.psi_spec.specs.World.{Tasks, is_active, is_ready, is_running, prepared_changes, task_of}
use Rattle.psi_counts.specs.Touch.{changed}
use Rattle.psi_spec.proofs.RefusalLaws.{not_false}
use Rattle.task_table.proofs.Index.{and_false, ready_still}
use Rattle.task_table.proofs.MemberLaws.{member_room}
use Rattle.task_table.specs.Named.{MayReplaceIf}
use Rattle.task_table.specs.Stands.{AreMembers}

-- The list of task numbers has an entry for the slot of each live task.
pub live_room : (members : List ℕ) (tasks : Tasks) (pid : ℕ) (o : Option Task) → AreMembers members tasks → o ≡ task_of tasks pid → IfSome o (λ t. t.slot.0 < length members)
live_room members tasks pid None are is = tt
live_room members tasks pid (Some t) are is = member_room members tasks pid t are (sym is)

-- A mode other than ready and running isn't running.
inactive : (m : Mode) → is_active m ≡ false → is_running m ≡ false
inactive Running h = h
inactive Ready h = refl
inactive Blocked h = refl
inactive Waiting h = refl

-- A task that is neither ready nor running isn't running.
pub blocked_off : (o : Option Task) → is_some_and o (λ t. is_active t.mode) ≡ false → IfSome o (λ t. is_running t.mode ≡ false)
blocked_off None h = tt
blocked_off (Some t) h = inactive t.mode h

-- A ready task isn't running.
pub not_running : (o : Option Task) → is_some_and o (λ t. not (is_ready t.mode)) ≡ false → IfSome o (λ t. is_running t.mode ≡ false)
not_running None h = tt
not_running (Some t) h = ready_still t.mode (not_false (is_ready t.mode) h)

-- A task that isn't running may become ready on a processor.
pub may_ready : (slots cpu : ℕ) (o : Option Task) → IfSome o (λ t. is_running t.mode ≡ false) → IfSome o (λ t. t.slot.0 < slots) → MayReplaceIf slots o (changed (prepared_changes cpu) o)
may_ready slots cpu None off room = tt
may_ready slots cpu (Some t) off room = record {
  runs = λ c. and_false (cpu == c) false refl ∙ sym (and_false (t.cpu.0 == c) (is_running t.mode) off);
  room = room;
}

-- A task may enter or leave a memory stall.
pub may_stall : (slots : ℕ) (stalled : Bool) (o : Option Task) → IfSome o (λ t. t.slot.0 < slots) → MayReplaceIf slots o (changed (λ t. record t { stalled = stalled }) o)
may_stall slots stalled None room = tt
may_stall slots stalled (Some t) room = record { runs = λ c. refl; room = room }

-- A task may move to another group.
pub may_move : (slots : ℕ) (slot : Slot) (o : Option Task) → slot.0 < slots → MayReplaceIf slots o (changed (λ t. record t { slot = slot }) o)
may_move slots slot None room = tt
may_move slots slot (Some t) room = record { runs = λ c. refl; room = room }
