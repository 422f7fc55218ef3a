-- Proofs that psi_observe accepts the same traces as `replay`, and reports a missing trace.
use Rattle.std.proofs.Common.{◌≡◌, ◌⊎◌, inl, inr, ℕ, Bool, true, false, true≢false, List, [], ◌∷◌, refl, sym, ◌∙◌, Option, None, Some}
use Rattle.std.specs.Prelude.{codes, ◌==◌, ◌&&◌, not}
use Rattle.psi_base.specs.Memory.{no_memory}
use Rattle.outside.specs.Outside.{Files, IsAbsent}
use Rattle.run_spec.specs.declared.command.Command.TheVariants.{Replay}
use Rattle.run_spec.specs.Words.{command_of, is_name, options_of, replay_of}
use Rattle.observe_spec.specs.declared.status.ObserveStatus.{ObserveStatus}
use Rattle.observe_spec.specs.declared.status.ObserveStatus.TheVariants as status
use Rattle.observe_spec.specs.Run.{ObservingEnds, options_on}
use Rattle.observe_spec.specs.Laws.{MissingTraceShows, ReplayHasThese, TracesAreThoseOfReplay}

pub missing_trace_shows : MissingTraceShows
missing_trace_shows request files old new status.Done ends lacks = absurd (ends.2 lacks)
missing_trace_shows request files old new status.WriteFault ends lacks = absurd (ends.2 lacks)
missing_trace_shows request files old new (status.Trace line why) ends lacks = absurd (ends.1 lacks)
missing_trace_shows request files old new (status.TooManySamples samples) ends lacks = absurd (ends.1 lacks)
missing_trace_shows request files old new status.NoFile ends lacks = inl refl
missing_trace_shows request files old new status.ReadFault ends lacks = inr (inl refl)
missing_trace_shows request files old new (status.NoMemory _) ends lacks = inr (inr refl)
missing_trace_shows request files old new status.Usage ends lacks = absurd ends

pub traces_are_those_of_replay : TracesAreThoseOfReplay
traces_are_those_of_replay name bytes = refl

and_false : (a : Bool) → a && false ≡ false
and_false true = refl
and_false false = refl

-- if a conjunction is true, its first test is true
first_holds : (a b : Bool) → a && b ≡ true → a ≡ true
first_holds true b both = refl
first_holds false b both = both

pub replay_has_these : ReplayHasThese
unfolding command_of options_of replay_of
replay_has_these [] is = absurd (cc)
replay_has_these (byte ∷ []) is = refl
replay_has_these (first ∷ second ∷ rest) is = go (first == 45) refl
  where
    go : (b : Bool) → first == 45 ≡ b →
        command_of (codes "replay" ∷ (first ∷ second ∷ rest) ∷ []) ≡ Some (Replay (first ∷ second ∷ rest) (options_on None))
    go true dashed = absurd (true≢false (sym (rw dashed at is) ∙ and_false (is_name (first ∷ second ∷ rest))))
    go false plain = rw (plain, first_holds (is_name (first ∷ second ∷ rest)) (not (first == 45)) is) refl
