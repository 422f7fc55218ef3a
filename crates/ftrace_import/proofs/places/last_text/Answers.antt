use Rattle.std.proofs.Common.{◌≡◌, ◌+◌, arith, refl, sym, true, false, drop, length}
use Rattle.std.proofs.lemmas.List.{length-take-le, take_rest}
use Rattle.import_spec.specs.Places.{begins_with}
use Rattle.ftrace_import.proofs.Bytes.{last_found, last_missing, none_at_end, none_down, none_passed, text_fits}
use Rattle.ftrace_import.proofs.places.last_text.Goals as goal

pub places-init : goal.places-init
places-init c = record {
  inside = omega arith;
  none = none_at_end (begins_with c.args.text.now) c.args.bytes.now _ (omega arith);
}

pub places-preserved : goal.places-preserved
places-preserved c =
    let bytes = c.args.bytes.now in
    let text = c.args.text.now in
    let at = c.in-Some.at in
    let size = length-take-le c.places.end bytes c.places.invariant.inside in
    let within = c.in-Some.ensures.0.high in
    let here : begins_with text (drop at bytes) ≡ false = cc (take_rest bytes at) in
    record {
      inside = omega (arith, within, size, c.places.invariant.inside);
      none = none_down (begins_with text) bytes (at + 1) at (length bytes) refl (none_passed text bytes (at + 1) c.places.end c.requires.some c.places.invariant.inside c.in-Some.ensures.0.after c.places.invariant.none) here;
    }

pub returns-then-starts_with-clause-last : goal.returns-then-starts_with-clause-last
returns-then-starts_with-clause-last c =
    let bytes = c.args.bytes.now in
    let text = c.args.text.now in
    let at = c.in-Some.at in
    let size = length-take-le c.places.end bytes c.places.invariant.inside in
    let within = c.in-Some.ensures.0.high in
    let here : begins_with text (drop at bytes) ≡ true = cc (take_rest bytes at) in
    sym (last_found (begins_with text) bytes (at + 1) at refl (omega (arith, within, size, c.places.invariant.inside)) (none_passed text bytes (at + 1) c.places.end c.requires.some c.places.invariant.inside c.in-Some.ensures.0.after c.places.invariant.none) here)

pub returns-then-starts_with-clause-inside : goal.returns-then-starts_with-clause-inside
returns-then-starts_with-clause-inside c =
    let bytes = c.args.bytes.now in
    let at = c.in-Some.at in
    let size = length-take-le c.places.end bytes c.places.invariant.inside in
    let within = c.in-Some.ensures.0.high in
    let here : begins_with c.args.text.now (drop at bytes) ≡ true = cc (take_rest bytes at) in
    text_fits c.args.text.now bytes at (omega (arith, within, size, c.places.invariant.inside)) here

pub returns-clause-last : goal.returns-clause-last
returns-clause-last c =
    let bytes = c.args.bytes.now in
    let text = c.args.text.now in
    sym (last_missing (begins_with text) bytes 0 refl (none_passed text bytes 0 c.places.end c.requires.some c.places.invariant.inside c.in_default.ensures c.places.invariant.none))
