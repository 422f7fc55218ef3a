-- Proves properties of the lines of triggers, kills and reports, which are written one after
-- another.
use Rattle.std.proofs.Common.{◌≡◌, ◌<◌, ℕ, ◌+◌, List, [], ◌∷◌, ◌++◌, length, take, drop, get_or, sym, ap, ◌∙◌}
use Rattle.std.specs.Prelude.{slice_get}
use Rattle.std.specs.List.{flat_map}
use Rattle.std.proofs.lemmas.List.{append-nil, get_or-map}
use Rattle.std.proofs.lemmas.List.Concat.{flat_map-cons}
use Rattle.std.proofs.lemmas.List.Folds.{flat_map-map}
use Rattle.std.proofs.lemmas.Option.{slice_get-get_or}
use Rattle.outside.proofs.Grows.{flat_map-at}
use Rattle.psi_base.specs.declared.event.Res.{Res}
use Rattle.psi_base.specs.declared.event.Res.TheVariants.{Io, Memory, Cpu as CpuRes}
use Rattle.psi_base.specs.declared.event.Slot.{Slot}
use Rattle.psi_base.specs.declared.event.TriggerSpec.{TriggerSpec}
use Rattle.psi_spec.specs.declared.machine.GroupLife.{GroupLife}
use Rattle.psi_spec.specs.Fields.{resources}
use Rattle.psi_spec.specs.Groups.{path_at}
use Rattle.kill_spec.specs.declared.kill.Kill.{Kill}
use Rattle.run_laws.proofs.Pieces.{taken_more}
use Rattle.run_spec.specs.Lines.{event_line, kill_line}
use Rattle.run_spec.specs.Replay.{signal_line}
use Rattle.group_tree.specs.Tree.{numbers_of}

-- ---- one piece after another

-- The texts of the slots up to and including index `i` are the texts of the slots before it, and
-- its own text.
pub numbers_more : (f : ℕ → List ℕ) (slots : List Slot) (i : ℕ) (d : Slot) → i < length slots → flat_map f (numbers_of (take (i + 1) slots)) ≡ flat_map f (numbers_of (take i slots)) ++ f (get_or slots i d).0
numbers_more f slots i d inside =
    flat_map-map f (λ (slot : Slot). slot.0) (take (i + 1) slots) ∙ taken_more (λ (slot : Slot). f slot.0) slots i d inside
    ∙ ap (λ t. t ++ f (get_or slots i d).0) (sym (flat_map-map f (λ (slot : Slot). slot.0) (take i slots)))

-- The texts of all slots are the texts of the slots before index `i`, its own text, and the texts
-- after it.
pub numbers_at : (f : ℕ → List ℕ) (slots : List Slot) (i : ℕ) (d : Slot) → i < length slots
    → flat_map f (numbers_of slots) ≡ flat_map f (numbers_of (take i slots)) ++ (f (get_or slots i d).0 ++ flat_map (λ (slot : Slot). f slot.0) (drop (i + 1) slots))
numbers_at f slots i d inside =
    flat_map-map f (λ (slot : Slot). slot.0) slots ∙ flat_map-at (λ (slot : Slot). f slot.0) slots i d inside
    ∙ ap (λ t. t ++ (f (get_or slots i d).0 ++ flat_map (λ (slot : Slot). f slot.0) (drop (i + 1) slots))) (sym (flat_map-map f (λ (slot : Slot). slot.0) (take i slots)))

-- ---- signals

-- The line of a trigger, looked up by its index.
pub signal_is : (at : ℕ) (lives : List GroupLife) (triggers : List TriggerSpec) (number : ℕ) (d : TriggerSpec) (e : GroupLife) → number < length triggers → (get_or triggers number d).slot.0 < length lives
    → signal_line at lives number (slice_get triggers number) ≡ event_line at number (get_or lives (get_or triggers number d).slot.0 e).path (get_or triggers number d)
signal_is at lives triggers number d e inside room =
    ap (signal_line at lives number) (slice_get-get_or triggers number d inside) ∙ ap (λ path. event_line at number path (get_or triggers number d)) (get_or-map (λ (l : GroupLife). l.path) lives (get_or triggers number d).slot.0 e [] room)

-- The line of a kill, with the path of its victim.
pub kill_is : (lives : List GroupLife) (kill : Kill) (e : GroupLife) → kill.victim.0 < length lives
    → kill_line kill.at kill.rule kill.action (path_at lives kill.victim.0) ≡ kill_line kill.at kill.rule kill.action (get_or lives kill.victim.0 e).path
kill_is lives kill e room = ap (kill_line kill.at kill.rule kill.action) (get_or-map (λ (l : GroupLife). l.path) lives kill.victim.0 e [] room)

-- ---- reports

-- The texts for all resources are the texts for IO, memory and CPU, in this order.
pub by_resource : (f : Res → List ℕ) → flat_map f resources ≡ f Io ++ (f Memory ++ f CpuRes)
by_resource f =
    flat_map-cons f Io (Memory ∷ CpuRes ∷ []) ∙ ap (λ t. f Io ++ t) (flat_map-cons f Memory (CpuRes ∷ []) ∙ ap (λ t. f Memory ++ t) (flat_map-cons f CpuRes [] ∙ append-nil (f CpuRes)))
