use Rattle.std.proofs.Common.{◌≡◌, ◌≢◌, ℕ, List, ◌+◌, ◌*◌, ◌∙◌, ap, subst, sym}
use Rattle.psi_counts.specs.Clock.{ClockView, words_of}
use Rattle.clock_row.specs.Words.{AreClock, ArePut, mask_at, words_at}
use Rattle.clock_row.specs.Seats.{as_writer, writer_on}
use Rattle.clock_row.specs.declared.view.View.{View}
use Rattle.clock_row.proofs.Turns.{done_on, slot_done, slot_turns, stays_done, stored_nothing, stored_twice, turning_on, way_goes_on}
use Rattle.clock_row.proofs.change.turn_slot.Goals as goal

pub returns-then-own_word-from-clause-turning : goal.returns-then-own_word-from-clause-turning
returns-then-own_word-from-clause-turning c =
    let w = writer_on c.args.seat.now in let slot : ℕ = c.args.slot.0 in let t = c.requires.turning in let here = c.own_word.new.seat in let after = c.put_words.new.seat in
    let put : ArePut (9 * slot) 9 (words_of c.args.clock.now) w.body (writer_on after).body = subst (λ (z : List ℕ × View). ArePut (9 * slot) 9 z.0 (as_writer z.1).body (writer_on after).body) (λ i. (c.to_words.ensures.words i, c.own_word.ensures.view i)) c.put_words.ensures.words in
    let stored = stored_twice c.args.seat.now here after (stored_nothing c.args.seat.now here t.writer c.own_word.ensures.view) c.put_words.ensures.view in
    turning_on _ c.args.seat.now after t (c.put_words.ensures.seat.0 ∙ c.own_word.ensures.seat.0, c.put_words.ensures.seat.1 ∙ c.own_word.ensures.seat.1) stored
    (way_goes_on w.plan w.count slot c.args.clock.now w.body (writer_on after).body c.requires.slot t.way c.requires.clock put)

pub returns-then-own_word-from-clause-turned : goal.returns-then-own_word-from-clause-turned
returns-then-own_word-from-clause-turned c =
    let w = writer_on c.args.seat.now in let slot : ℕ = c.args.slot.0 in let t = c.requires.turning in let here = c.own_word.new.seat in let after = c.put_words.new.seat in
    let put : ArePut (9 * slot) 9 (words_of c.args.clock.now) w.body (writer_on after).body = subst (λ (z : List ℕ × View). ArePut (9 * slot) 9 z.0 (as_writer z.1).body (writer_on after).body) (λ i. (c.to_words.ensures.words i, c.own_word.ensures.view i)) c.put_words.ensures.words in
    let stored = stored_twice c.args.seat.now here after (stored_nothing c.args.seat.now here t.writer c.own_word.ensures.view) c.put_words.ensures.view in
    let mask : c.clock.inside.mask ≡ c.args.clock.now.mask = ap (λ (v : ClockView). v.mask) c.clock.view_is in
    let other : mask_at w.body slot ≢ c.args.clock.now.mask = λ same. c.if-own_word-from.true (c.own_word.ensures.word ∙ (same ∙ (sym mask ∙ (sym c.bits.ensures.value ∙ sym c.from.ensures)))) in
    record {
      seat = (c.put_words.ensures.seat.0 ∙ c.own_word.ensures.seat.0, c.put_words.ensures.seat.1 ∙ c.own_word.ensures.seat.1);
      stored = stored;
      goes = slot_turns w.plan w.count slot c.args.clock.now w.body (writer_on after).body c.requires.slot t.way c.requires.clock put other;
    }

pub returns-then-own_word-from-clause-done : goal.returns-then-own_word-from-clause-done
returns-then-own_word-from-clause-done c =
    let w = writer_on c.args.seat.now in let slot : ℕ = c.args.slot.0 in let t = c.requires.turning in let here = c.own_word.new.seat in let after = c.put_words.new.seat in
    let put : ArePut (9 * slot) 9 (words_of c.args.clock.now) w.body (writer_on after).body = subst (λ (z : List ℕ × View). ArePut (9 * slot) 9 z.0 (as_writer z.1).body (writer_on after).body) (λ i. (c.to_words.ensures.words i, c.own_word.ensures.view i)) c.put_words.ensures.words in
    let stored = stored_twice c.args.seat.now here after (stored_nothing c.args.seat.now here t.writer c.own_word.ensures.view) c.put_words.ensures.view in
    done_on c.args.seat.now after slot stored (slot_done w.plan w.count slot c.args.clock.now w.body (writer_on after).body c.requires.slot t.way c.requires.clock put)

pub returns-else-own_word-from-clause-done : goal.returns-else-own_word-from-clause-done
returns-else-own_word-from-clause-done c =
    let w = writer_on c.args.seat.now in let slot : ℕ = c.args.slot.0 in let t = c.requires.turning in
    let mask : c.clock.inside.mask ≡ c.args.clock.now.mask = ap (λ (v : ClockView). v.mask) c.clock.view_is in
    let same : mask_at w.body slot ≡ c.args.clock.now.mask = sym c.own_word.ensures.word ∙ (c.if-own_word-from.false ∙ (c.from.ensures ∙ (c.bits.ensures.value ∙ mask))) in
    done_on c.args.seat.now c.own_word.new.seat slot (stored_nothing c.args.seat.now c.own_word.new.seat t.writer c.own_word.ensures.view)
    (subst (λ (v : View). AreClock w.plan slot (w.count + 1) (words_at (as_writer v).body slot)) (sym c.own_word.ensures.view)
    (stays_done w.plan w.count slot w.body c.args.clock.now t.whole t.next c.requires.slot t.way c.requires.clock same))
