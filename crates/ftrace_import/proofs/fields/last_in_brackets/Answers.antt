use Rattle.std.proofs.Common.{◌-◌, arith}
use Rattle.std.proofs.lemmas.List.{take_rest}
use Rattle.import_spec.specs.Tails.{is_bracketed}
use Rattle.ftrace_import.proofs.Bytes.{bracket_found, last_missing, none_at_end}
use Rattle.ftrace_import.proofs.fields.last_in_brackets.Goals as goal

pub places-init : goal.places-init
places-init c = record {
  inside = omega arith;
  none = none_at_end is_bracketed c.args.bytes.now _ (omega arith);
}

pub returns-in-Some-clause-some : goal.returns-in-Some-clause-some
returns-in-Some-clause-some c =
    bracket_found c.args.bytes.now _ c.places.at (c.places.at - 1) c.in-Some.count (take_rest c.args.bytes.now (c.places.at - 1)) (omega arith) c.places.invariant.inside c.places.invariant.none c.in-Some.ensures.digits c.in-Some.ensures.inside

pub returns-clause-none : goal.returns-clause-none
returns-clause-none c _ = last_missing is_bracketed c.args.bytes.now c.places.at (omega arith) c.places.invariant.none
