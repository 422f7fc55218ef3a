use Rattle.std.proofs.Common.{rules, ◌≡◌, ◌<◌, ◌++◌, ◌∷◌, ◌∙◌, [], get_or, length, subst, sym, ap, arith}
use Rattle.std.specs.Prelude.{not, true, vec_capacity}
use Rattle.std.specs.Result.{is_ok}
use Rattle.std.proofs.lemmas.Grind.{common_steps}
use Rattle.psi_spec.specs.Stall.{number_of_slot}
use Rattle.kill_spec.specs.LegalReadings.{IsGroupReading}
use Rattle.kill_spec.specs.Victims.{names_slot}
use Rattle.detectors.specs.Inner.{is_child}
use Rattle.detectors.specs.Views.{ReadingView, reading_of, seen_at}
use Rattle.detectors.proofs.Placing.{are_more, fewer, parent_is, places_kept, room_for_all, room_for_child}
use Rattle.detectors.proofs.reading.Reading.push.Goals as goal

pub overflow_cast-place : goal.overflow_cast-place
overflow_cast-place c =
    let old = c.self.inside in
    let lives = old.lives.items in
    let groups = old.groups.items in
    let more = are_more (reading_of lives (seen_at old.at old.host groups)) c.args.self.now c.args.group
    c.self.view_is c.self.invariant.1 c.requires.group c.requires.order in
    let less = fewer lives groups c.args.group more in
    let few = c.self.invariant.1.few in
    let place : c.len-place.result ≡ length groups = search rules in
    grind (arith, common_steps)

pub push-requires : goal.push-requires
push-requires c =
    let old = c.self.inside in
    let lives = old.lives.items in
    let groups = old.groups.items in
    let more = are_more (reading_of lives (seen_at old.at old.host groups)) c.args.self.now c.args.group
    c.self.view_is c.self.invariant.1 c.requires.group c.requires.order in
    room_for_all lives groups c.args.group old.all c.self.invariant.2.each more

pub place_below-requires : goal.place_below-requires
place_below-requires c = λ slot d within names.
    let old = c.self.inside in
    let lives = old.lives.items in
    let groups = old.groups.items in
    let more = are_more (reading_of lives (seen_at old.at old.host groups)) c.args.self.now c.args.group
    c.self.view_is c.self.invariant.1 c.requires.group c.requires.order in
    let P : ReadingView → Type 0 = λ reading. IsGroupReading (length reading.lives) c.args.group in
    let inside = (subst P (sym c.self.view_is) c.requires.group).slot in
    let parent = parent_is lives c.args.group.slot.0 c.index.result.now c.index.ensures inside in
    let child : is_child lives slot c.args.group ≡ true = ap (names_slot slot) (sym parent) ∙ names in
    let here : slot < length lives = subst (λ n. slot < n) c.self.invariant.2.slots within in
    room_for_child lives groups c.args.group slot (get_or old.below.items slot d)
    (c.self.invariant.2.children slot d here) more child

pub unreachable-requires : goal.unreachable-requires
unreachable-requires c =
    let old = c.self.inside in
    let lives = old.lives.items in
    let groups = old.groups.items in
    let more = are_more (reading_of lives (seen_at old.at old.host groups)) c.args.self.now c.args.group
    c.self.view_is c.self.invariant.1 c.requires.group c.requires.order in
    let less = fewer lives groups c.args.group more in
    let free : length groups < vec_capacity old.groups = omega (arith, less, c.self.invariant.0.room) in
    grind (arith, common_steps)

pub invariant_of-self : goal.invariant_of-self
invariant_of-self c =
    let old = c.self.inside in
    let lives = old.lives.items in
    let groups = old.groups.items in
    let more = are_more (reading_of lives (seen_at old.at old.host groups)) c.args.self.now c.args.group
    c.self.view_is c.self.invariant.1 c.requires.group c.requires.order in
    let P : ReadingView → Type 0 = λ reading. IsGroupReading (length reading.lives) c.args.group in
    let inside = (subst P (sym c.self.view_is) c.requires.group).slot in
    let parent = parent_is lives c.args.group.slot.0 c.index.result.now c.index.ensures inside in
    let place : c.len-place.result ≡ length groups = search rules in
    let done : is_ok c.push-2.result ≡ true =
    c.is_err.ensures.negation ∙ ap not c.if-is_err.false in
    let items : c.push-2.new.self.items ≡ groups ++ c.args.group ∷ [] = rw done at c.push-2.ensures.items in
    rw items (
      record { room = omega (arith, c.self.invariant.0.room, c.push-2.ensures.capacity) },
      record {
        few = c.self.invariant.1.few;
        within = record { host = c.self.invariant.1.within.host; each = more.fit; order = more.order };
      },
      places_kept lives groups c.args.group (number_of_slot c.index.result.now.parent) c.len-place.result old.all c.push.new.self
          old.below.items c.place_below.new.below.items c.self.invariant.2 place parent c.push.ensures
          c.place_below.ensures.slots c.place_below.ensures.each,
    )
