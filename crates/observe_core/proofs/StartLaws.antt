-- Proofs about a replay and its observers before the first tick, and about properties of observers
-- that never change.
use Rattle.std.proofs.Common.{◌≡◌, ℕ, ◌<◌, List, [], length, refl, sym, ◌∙◌, subst, arith, Option, Some}
use Rattle.std.specs.Prelude.{slice_index_or}
use Rattle.std.specs.List.{All}
use Rattle.atomic_table.specs.Seated.{TableId}
use Rattle.psi_spec.specs.Header.{version_of}
use Rattle.psi_spec.specs.Trace.{Trace}
use Rattle.run_spec.specs.declared.command.Options.{Options}
use Rattle.run_spec.specs.Outputs.{timing_of, watch_of}
use Rattle.proc_plan.specs.Plans.{PlansView}
use Rattle.replay_rules.specs.Planned.{IsPlanned}
use Rattle.replay_ticks.specs.Replays.{IsReplay, ReplayView, requested_by}
use Rattle.observe_spec.specs.Run.{options_on, timing_on}
use Rattle.observe_core.specs.Observing.{ObserverView}
use Rattle.observe_core.specs.Driving.{AreCounted, HaveObserved, IsNew, IsObserved, IsReached, MayBegin, Setting}
use Rattle.observe_core.specs.Results.{IsPlannedFor}
use Rattle.observe_core.proofs.TickLaws.{observed_first}

-- the setting of a new replay of a trace, with a board
abbrev pub setting_of : PlansView → ReplayView → TableId → Trace → List ℕ → Setting
setting_of plans replay board trace path = record { plans = plans; rows = replay.crew.rows; board = board; trace = trace; timing = timing_on path; path = path }

-- a replay with observers requests samples
pub some_requested : (options : Options) (path : List ℕ) → options ≡ options_on (Some path) → 0 < requested_by (watch_of options)
some_requested options path is = subst (λ (o : Options). 0 < requested_by (watch_of o)) (sym is) (omega arith)

-- a new replay is at the state before the first tick
pub reached_first : (options : Options) (replay : ReplayView) (plans : PlansView) (board : TableId) (trace : Trace) (version : ℕ) (path : List ℕ) → options ≡ options_on (Some path) → replay.plans ≡ plans → IsPlannedFor plans trace version path
    → ((trace : Trace) → IsPlanned plans trace (timing_of options) → version_of version ≡ trace.version → IsReplay replay trace (timing_of options) [] 0) → IsReached (setting_of plans replay board trace path) replay 0
reached_first options replay plans board trace version path is same planned new =
    let made = subst (λ (o : Options). IsPlanned plans trace (timing_of o) → version_of version ≡ trace.version → IsReplay replay trace (timing_of o) [] 0) is (new trace) in
    record {
      plans_are = same;
      rows_are = refl;
      replayed = made planned.planned planned.version;
      watch = refl;
    }

-- new observers have observed nothing, if creating them left the replay unchanged
pub begun : (options : Options) (old new : ReplayView) (plans : PlansView) (board : TableId) (trace : Trace) (version : ℕ) (path : List ℕ) (observers : List ObserverView) (count : ℕ) → options ≡ options_on (Some path) → old.plans ≡ plans
    → IsPlannedFor plans trace version path → ((trace : Trace) → IsPlanned plans trace (timing_of options) → version_of version ≡ trace.version → IsReplay old trace (timing_of options) [] 0) → new ≡ old → length observers ≡ count
    → ((set : Setting) → MayBegin set old → set.board ≡ board → (number : ℕ) (d : ObserverView) → number < count → IsNew set number (slice_index_or observers number d)) → IsObserved (setting_of plans old board trace path) new observers 0
begun options old new plans board trace version path observers count is same planned first stays many each =
    let set = setting_of plans old board trace path in
    let reached = reached_first options old plans board trace version path is same planned first in
    let may : MayBegin set old = record { plans_are = same; rows_are = refl } in
    subst (λ (replay : ReplayView). IsObserved set replay observers 0) (sym stays) (observed_first set old observers reached (λ k d below. each set may refl k d (omega (arith, below, many))))

-- each observer reads the board, has one part of the ledger, and its share counts its entries
pub boards_are : (set : Setting) (i : ℕ) (observers : List ObserverView) → HaveObserved set i observers → All (λ (observer : ObserverView). observer.pass.board ≡ set.board) observers
boards_are set i observers all = λ k d below. (all k d below).placed.board_is

pub parts_are : (set : Setting) (i : ℕ) (observers : List ObserverView) → HaveObserved set i observers → All (λ (observer : ObserverView). observer.parts ≡ 1) observers
parts_are set i observers all = λ k d below. (all k d below).placed.backed

pub counted_are : (set : Setting) (i : ℕ) (observers : List ObserverView) → HaveObserved set i observers → AreCounted observers
counted_are set i observers all = λ k d below. (all k d below).counted
