-- Proves that the stored parts make up the remaining trace.
use Rattle.std.proofs.Common.{◌≡◌, ℕ, ◌+◌, ◌<◌, List, ◌++◌, ◌∙◌, Option, None, drop, take}
use Rattle.std.specs.Prelude.{replicate}
use Rattle.psi_base.specs.declared.event.Event.{Event}
use Rattle.psi_base.specs.declared.event.Pid.{Pid}
use Rattle.psi_spec.specs.Trace.{IsAccepted}
use Rattle.psi_spec.specs.World.{Limits, World, after}
use Rattle.whatif_spec.specs.Without.{members, without}
use Rattle.whatif_trace.specs.Left.{exits_left, prefix_length, rest_left, turned_by}
use Rattle.whatif_trace.proofs.Cutting.{cut_is, split_at}
use Rattle.whatif_trace.proofs.Together.{cut_at}

pub join : (limits : Limits) (events : List Event) (at victim n : ℕ) (prefix rest a b c : List Event) (w : World) (runners : List (Option Pid)) (dead pids : List ℕ) → IsAccepted limits events → at < (after events).last → n ≡ prefix_length at events → prefix ≡ take n events → rest ≡ drop n events
    → w ≡ after prefix → runners ≡ turned_by (replicate limits.cpus None) prefix → dead ≡ members w victim → pids ≡ dead
    → a ≡ prefix → b ≡ a ++ exits_left (at + 1) w.tasks runners pids → c ≡ b ++ rest_left dead runners rest → c ≡ without events at victim
join limits events at victim n prefix rest a b c w runners dead pids accepted before count prefix_is rest_is world_is runners_are dead_are pids_are first second third =
    let split = split_at limits events at n (cut_at limits events at accepted.legal accepted.ends before) count in
    rw (third, second, first, pids_are, dead_are, runners_are, world_is, prefix_is ∙ split.prefix, rest_is ∙ split.rest) (cut_is limits events at victim accepted before)
