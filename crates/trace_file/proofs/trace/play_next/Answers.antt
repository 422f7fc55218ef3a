use Rattle.std.proofs.Common.{ap, subst}
use Rattle.std.specs.Prelude.{Ok, Err}
use Rattle.outside.specs.Outside.{content_of}
use Rattle.psi_lines.specs.Lines.{Reader, left}
use Rattle.psi_spec.specs.Grammar.{spelling}
use Rattle.psi_spec.specs.Header.{version_of}
use Rattle.psi_trace.specs.Prefix.{BeginsBufferWith}
use Rattle.trace_player.specs.Playing.{PlayerTakes}
use Rattle.trace_file.specs.Reads.{Legally, verbs_in}
use Rattle.trace_file.proofs.LineLaws as laws
use Rattle.trace_file.proofs.StopLaws as stop
use Rattle.trace_file.proofs.OrderLaws as order
use Rattle.outside.proofs.ReadOrder.{no_reads}
use Rattle.trace_file.proofs.trace.play_next.Goals as goal

pub returns-in-Ok-clause-content : goal.returns-in-Ok-clause-content
returns-in-Ok-clause-content g c =
    let verbs = verbs_in c.args.version in
    let before = g.P.Player.Played c.args.player.now in
    let after = g.P.Player.Played c.take_prefix.new.player in
    let found = c.in-Some.ensures.prefix in
    let prefix = subst (λ buffered. BeginsBufferWith buffered found.event c.in-Some.played.count) c.buffered.ensures found.prefix in
    let takes = subst (λ answer. PlayerTakes before after found.event answer) c.in-Ok.is found.takes in
    laws.line_played verbs (Legally verbs before) (Legally verbs after) c.args.lines.now.number (spelling found.event) (left c.args.lines.now) (left c.pass.new.self) (content_of (g.S.Shelf.holds c.args.shelf.now) c.args.lines.now.name) tt (laws.prefix_takes (version_of c.args.version) before after c.args.lines.now.buffered found.event c.in-Some.played.count (Ok tt) prefix takes)
    (λ bytes shows. laws.prefix_begins c.args.lines.now c.pass.new.self found.event c.in-Some.played.count bytes prefix (ap (λ (l : Reader). l.buffered) c.pass.ensures.rest) (ap (λ (l : Reader). l.at) c.pass.ensures.rest))

pub returns-in-Err-clause-content : goal.returns-in-Err-clause-content
returns-in-Err-clause-content g c =
    let verbs = verbs_in c.args.version in
    let before = g.P.Player.Played c.args.player.now in
    let after = g.P.Player.Played c.take_prefix.new.player in
    let found = c.in-Some.ensures.prefix in
    let prefix = subst (λ buffered. BeginsBufferWith buffered found.event c.in-Some.played.count) c.buffered.ensures found.prefix in
    let takes = subst (λ answer. PlayerTakes before after found.event answer) c.in-Err.is found.takes in
    laws.line_faulted verbs (Legally verbs before) (Legally verbs after) c.args.lines.now.number (spelling found.event) (left c.args.lines.now) (left c.pass.new.self) (content_of (g.S.Shelf.holds c.args.shelf.now) c.args.lines.now.name) c.in-Err.fault _ (rw c.number-line.ensures at c.fault_at.ensures) (laws.prefix_takes (version_of c.args.version) before after c.args.lines.now.buffered found.event c.in-Some.played.count (Err c.in-Err.fault) prefix takes)
    (λ bytes shows. laws.prefix_begins c.args.lines.now c.pass.new.self found.event c.in-Some.played.count bytes prefix (ap (λ (l : Reader). l.buffered) c.pass.ensures.rest) (ap (λ (l : Reader). l.at) c.pass.ensures.rest))

-- If no line was played, the player is unchanged.
pub returns-in_default-clause-content : goal.returns-in_default-clause-content
returns-in_default-clause-content g c = rw c.in_default.ensures.same at c.next_event.ensures.content

pub returns-in-Ok-clause-stays : goal.returns-in-Ok-clause-stays
returns-in-Ok-clause-stays g c =
    let found = c.in-Some.ensures.prefix in
    let prefix = subst (λ buffered. BeginsBufferWith buffered found.event c.in-Some.played.count) c.buffered.ensures found.prefix in
    stop.passed_taken (content_of (g.S.Shelf.holds c.args.shelf.now) c.args.lines.now.name) c.args.lines.now c.pass.new.self (spelling found.event) tt
    (λ bytes shows. laws.prefix_begins c.args.lines.now c.pass.new.self found.event c.in-Some.played.count bytes prefix (ap (λ (l : Reader). l.buffered) c.pass.ensures.rest) (ap (λ (l : Reader). l.at) c.pass.ensures.rest)) (ap (λ (l : Reader). l.number) c.pass.ensures.rest)

pub returns-in-Err-clause-stays : goal.returns-in-Err-clause-stays
returns-in-Err-clause-stays g c =
    let found = c.in-Some.ensures.prefix in
    let prefix = subst (λ buffered. BeginsBufferWith buffered found.event c.in-Some.played.count) c.buffered.ensures found.prefix in
    stop.passed_faulted (content_of (g.S.Shelf.holds c.args.shelf.now) c.args.lines.now.name) c.args.lines.now c.pass.new.self (spelling found.event) c.in-Err.fault _
    (λ bytes shows. laws.prefix_begins c.args.lines.now c.pass.new.self found.event c.in-Some.played.count bytes prefix (ap (λ (l : Reader). l.buffered) c.pass.ensures.rest) (ap (λ (l : Reader). l.at) c.pass.ensures.rest)) (ap (λ (l : Reader). l.number) c.pass.ensures.rest)
    (rw c.number-line.ensures at c.fault_at.ensures)

pub returns-in-Ok-clause-order : goal.returns-in-Ok-clause-order
returns-in-Ok-clause-order g c = order.stays_there _ _ _ _ (ap (λ (l : Reader). l.at) c.pass.ensures.rest)

pub returns-in-Err-clause-order : goal.returns-in-Err-clause-order
returns-in-Err-clause-order g c = order.faulted_order _ _ _ _ _ _ c.in-Err.fault _ (no_reads _ _ _) c.fault_at.ensures
