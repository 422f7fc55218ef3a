use Rattle.std.proofs.Common.{◌≡◌, ◌+◌, ◌∙◌, ap, arith, None, Some, drop, length}
use Rattle.std.specs.Prelude.{option_map}
use Rattle.std.proofs.lemmas.List.{length-drop, take_rest}
use Rattle.import_spec.specs.Marked.{begins_marked, mark_of}
use Rattle.ftrace_import.specs.Bytes.{mark_parts}
use Rattle.ftrace_import.proofs.Bytes.{first_found, first_missing, none_up}
use Rattle.ftrace_import.proofs.Marks.{marked_here, none_before, unmarked_here}
use Rattle.ftrace_import.proofs.marked.first_mark.Goals as goal

pub places-preserved : goal.places-preserved
places-preserved c =
    let line = c.args.line.now in
    let at = c.places.from + c.in-Some.next in
    let size = ap length (take_rest line c.places.from) ∙ length-drop c.places.from line in
    let within = c.in-Some.ensures.0.high in
    let here : option_map mark_parts (mark_of (drop at line)) ≡ None = cc (take_rest line at) in
    record {
      inside = omega (arith, within, size);
      none = none_up begins_marked line at (none_before line _ c.places.from c.in-Some.next (take_rest line c.places.from) c.in-Some.ensures.0.before c.places.invariant.none) (unmarked_here (mark_of (drop at line)) here);
    }

pub returns-in-Some-mark_of-clause-some : goal.returns-in-Some-mark_of-clause-some
returns-in-Some-mark_of-clause-some c =
    let line = c.args.line.now in
    let at = c.places.from + c.in-Some.next in
    let size = ap length (take_rest line c.places.from) ∙ length-drop c.places.from line in
    let rest = ap length (take_rest line at) ∙ length-drop at line in
    let within = c.in-Some.ensures.0.high in
    let here : option_map mark_parts (mark_of (drop at line)) ≡ Some c.in-Some-mark_of.mark = cc (take_rest line at) in
    record {
      first = first_found begins_marked line at (omega (arith, within, size)) (none_before line _ c.places.from c.in-Some.next (take_rest line c.places.from) c.in-Some.ensures.0.before c.places.invariant.none) (marked_here (mark_of (drop at line)) c.in-Some-mark_of.mark here);
      mark = here;
      inside = omega (arith, within, size, rest, c.in-Some-mark_of.ensures.inside);
    }

pub returns-clause-none : goal.returns-clause-none
returns-clause-none c _ =
    let line = c.args.line.now in
    let size = ap length (take_rest line c.places.from) ∙ length-drop c.places.from line in
    first_missing begins_marked line _ (omega (arith, size)) (none_before line _ c.places.from _ (take_rest line c.places.from) c.in_default.ensures c.places.invariant.none)
