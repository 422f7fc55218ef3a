-- Proofs that each generated text is accepted.
use Rattle.std.proofs.Common.{refl, arith, inl, map}
use Rattle.std.specs.List.{range_with_len}
use Rattle.std.proofs.lemmas.List.{length-append}
use Rattle.std.proofs.lemmas.List.FromFn.{length-map-range_with_len}
use Rattle.psi_spec.specs.World.{after, first_world}
use Rattle.run_spec.specs.declared.command.Shape.{Shape}
use Rattle.run_spec.specs.Generated.{at_start, random_events, first_events, generated, made_group, made_task, task_count}
use Rattle.run_spec.specs.LegalCommand.{IsShape}
use Rattle.trace_gen.specs.Generating.{GeneratedCount, GeneratedIsTrace, limits_in}
use Rattle.trace_gen.proofs.Following.{Go, ends_after, events_count, events_end, events_go, go_on}
use Rattle.trace_gen.proofs.FirstEvents.{founded}

-- All events of a generated trace can be written as trace lines and are legal from the first world.
pub generated_go : (shape : Shape) → IsShape shape → Go (limits_in shape) first_world (generated shape).events
generated_go shape shaped =
    let first = founded shape shaped in
    go_on (limits_in shape) first_world (first_events shape) (random_events shape shape.events (after (first_events shape)) shape.seed) first.go
    (events_go shape shaped shape.events 0 (omega arith) (after (first_events shape)) first.later shape.seed)

pub generated_is_trace : GeneratedIsTrace
generated_is_trace shape shaped =
    let go = generated_go shape shaped in
    record {
      text = refl;
      version = inl refl;
      cpus = shaped.cpus;
      known = go.known;
      accepted = record {
        fit = go.fit;
        legal = go.legal;
        ends = ends_after (first_events shape) (random_events shape shape.events (after (first_events shape)) shape.seed) (events_end shape shape.events (after (first_events shape)) shape.seed);
      };
    }

pub generated_count : GeneratedCount
generated_count shape =
    let groups = length-map-range_with_len (λ number. at_start (made_group number)) 0 shape.groups in
    let tasks = length-map-range_with_len (λ pid. at_start (made_task shape pid)) 1 (task_count shape) in
    let first = length-append (map (λ number. at_start (made_group number)) (range_with_len 0 shape.groups)) (map (λ pid. at_start (made_task shape pid)) (range_with_len 1 (task_count shape))) in
    let all = length-append (first_events shape) (random_events shape shape.events (after (first_events shape)) shape.seed) in
    let rest = events_count shape shape.events (after (first_events shape)) shape.seed in
    omega (arith, groups, tasks, first, all, rest)
