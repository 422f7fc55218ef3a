use Rattle.psi_trace.proofs.Prefixes.{verb_prefix}
use Rattle.psi_trace.proofs.prefix.task_act_in.Goals as goal

pub returns-in-Some : goal.returns-in-Some
returns-in-Some c =
    let found = c.in-Some in
    let cut = found.ensures.cases in
    rw (verb_prefix c.args.bytes.now c.as_slice.result.now found.fields.now _ c.as_slice.ensures cut.0 cut.1) c.switch_in.ensures

pub returns-in-Some-strip_prefix : goal.returns-in-Some-strip_prefix
returns-in-Some-strip_prefix c =
    let found = c.in-Some-strip_prefix in
    let cut = found.ensures.cases in
    rw (verb_prefix c.args.bytes.now c.as_slice-2.result.now found.fields.now _ c.as_slice-2.ensures cut.0 cut.1) c.wake_in.ensures

pub returns-in-Some-strip_prefix-2 : goal.returns-in-Some-strip_prefix-2
returns-in-Some-strip_prefix-2 c =
    let found = c.in-Some-strip_prefix-2 in
    let cut = found.ensures.cases in
    rw (verb_prefix c.args.bytes.now c.as_slice-3.result.now found.fields.now _ c.as_slice-3.ensures cut.0 cut.1) c.stall_in.ensures

pub returns-in-Some-strip_prefix-3 : goal.returns-in-Some-strip_prefix-3
returns-in-Some-strip_prefix-3 c =
    let found = c.in-Some-strip_prefix-3 in
    let cut = found.ensures.cases in
    rw (verb_prefix c.args.bytes.now c.as_slice-4.result.now found.fields.now _ c.as_slice-4.ensures cut.0 cut.1) c.unstall_in.ensures

pub returns-in-Some-strip_prefix-4 : goal.returns-in-Some-strip_prefix-4
returns-in-Some-strip_prefix-4 c =
    let found = c.in-Some-strip_prefix-4 in
    let cut = found.ensures.cases in
    rw (verb_prefix c.args.bytes.now c.as_slice-5.result.now found.fields.now _ c.as_slice-5.ensures cut.0 cut.1) c.migrate_in.ensures
