use Rattle.std.proofs.Common.{◌≡◌, ◌<◌, ◌≤◌, ◌∙◌, ◌+◌, ◌++◌, ◌∷◌, [], ℕ, length, set, take, List, Vec, Some, ap, get_or, sym, subst, arith, rules}
use Rattle.std.proofs.lemmas.List.{take_all}
use Rattle.observer_log.specs.Entries.{list_of, entry_content}
use Rattle.observer_log.specs.Journal.{AreInOrder, IsTaken, place_of}
use Rattle.observer_log.proofs.Taken.{all_taken, each_whole, in_order, list_at, next_same, next_there, no_list, no_more, not_both, place_at, taken_push}
use Rattle.observer_log.proofs.order.in_order.Goals as goal

pub returns-then-observer-own-clause-none : goal.returns-then-observer-own-clause-none
returns-then-observer-own-clause-none c = λ _ agrees.
    let e = c.entry-item.result in
    no_list c.args.own.now e.observer (place_of c.entries.places.items e.observer) (search rules)
    (next_there c.args.journal.now c.args.own.now c.entries.places.items c.entries.taken.items c.entries.entry-index e c.entries.invariant (search rules) c.entry-item.is agrees)

pub returns-then-place-list-clause-none : goal.returns-then-place-list-clause-none
returns-then-place-list-clause-none c = λ _ agrees.
    let e = c.entry-item.result in
    let i = c.entries.invariant in
    let known : e.observer < length c.entries.places.items = search rules in
    let place = place_at c.entries.places.items e.observer c.index-place.result.now known c.index-place.ensures in
    let list = c.entries-list.ensures ∙ list_at c.args.own.now e.observer c.index-own-observer.result (search rules) c.index-own-observer.is in
    let past : length (list_of c.args.own.now e.observer) ≤ place_of c.entries.places.items e.observer = rw (sym list, sym place) c.if-place-list.true in
    no_more (place_of c.entries.places.items e.observer) (length (list_of c.args.own.now e.observer)) past
    (next_there c.args.journal.now c.args.own.now c.entries.places.items c.entries.taken.items c.entries.entry-index e i (search rules) c.entry-item.is agrees)

pub returns-then-not-say_same-clause-none : goal.returns-then-not-say_same-clause-none
returns-then-not-say_same-clause-none c = λ _ agrees.
    let e = c.entry-item.result in
    let x = c.index-list-place.result in
    let i = c.entries.invariant in
    let known : e.observer < length c.entries.places.items = search rules in
    let place = place_at c.entries.places.items e.observer c.index-place.result.now known c.index-place.ensures in
    let list = c.entries-list.ensures ∙ list_at c.args.own.now e.observer c.index-own-observer.result (search rules) c.index-own-observer.is in
    let next : x ≡ get_or (list_of c.args.own.now e.observer) (place_of c.entries.places.items e.observer) x = rw (sym list, sym place) c.index-list-place.is in
    let same = next_same c.args.journal.now c.args.own.now c.entries.places.items c.entries.taken.items c.entries.entry-index e x i (search rules) c.entry-item.is agrees next in
    not_both c.say_same.result (c.say_same.ensures.1 same) c.if-not-say_same.true

pub entries-preserved : goal.entries-preserved
entries-preserved c =
    let e = c.entry-item.result in
    let x = c.index-list-place.result in
    let i = c.entries.invariant in
    let known : e.observer < length c.entries.places.items = search rules in
    let place = place_at c.entries.places.items e.observer c.index-place.result.now known c.index-place.ensures in
    let list = c.entries-list.ensures ∙ list_at c.args.own.now e.observer c.index-own-observer.result (search rules) c.index-own-observer.is in
    let next : x ≡ get_or (list_of c.args.own.now e.observer) (place_of c.entries.places.items e.observer) x = rw (sym list, sym place) c.index-list-place.is in
    let short : place_of c.entries.places.items e.observer < length (list_of c.args.own.now e.observer) = rw (sym list, sym place) c.if-place-list.false in
    let same : entry_content e ≡ entry_content x = search rules in
    subst (λ (z : ℕ × List _). IsTaken (take (c.entries.entry-index + 1) c.args.journal.now) c.args.own.now (set c.entries.places.items e.observer (z.0 + 1)) z.1) (λ k. (sym place k, sym c.in_ok-push.ensures.items k))
    (taken_push c.args.journal.now c.args.own.now c.entries.places.items c.entries.taken.items c.entries.entry-index e x i c.requires (search rules) c.entry-item.is (search rules) short next same)

pub returns-then-index-entries-clause-none : goal.returns-then-index-entries-clause-none
returns-then-index-entries-clause-none c = λ _ agrees.
    let o = c.lists.observer in
    let all : take c.entries.entry-index c.args.journal.now ≡ c.args.journal.now = take_all c.entries.entry-index c.args.journal.now c.entries-test.false in
    let i = subst (λ l. IsTaken l c.args.own.now c.entries.places.items c.entries.taken.items) all c.entries.invariant in
    let place = place_at c.entries.places.items o c.index.result.now (search rules) c.index.ensures in
    let list = c.entries-in-lists.ensures ∙ list_at c.args.own.now o c.index-own-observer-in-lists.result (search rules) c.index-own-observer-in-lists.is in
    c.if-index-entries.true (place ∙ (all_taken c.args.journal.now c.args.own.now c.entries.places.items c.entries.taken.items o i agrees ∙ sym (ap length list)))

pub returns-clause-some : goal.returns-clause-some
returns-clause-some c = λ entries is.
    let all : take c.entries.entry-index c.args.journal.now ≡ c.args.journal.now = take_all c.entries.entry-index c.args.journal.now c.entries-test.false in
    let i = subst (λ l. IsTaken l c.args.own.now c.entries.places.items c.entries.taken.items) all c.entries.invariant in
    let whole : (o : ℕ) → o < length c.args.own.now → place_of c.entries.places.items o ≡ length (list_of c.args.own.now o) = λ o inside. c.lists.invariant o (omega (arith, c.lists-test.false)) in
    let same : c.entries.taken ≡ entries = cc in
    subst (λ (v : Vec _ _). AreInOrder c.args.journal.now c.args.own.now v.items) same
    (in_order c.args.journal.now c.args.own.now c.entries.places.items c.entries.taken.items i (each_whole c.args.own.now c.entries.places.items i.all whole))
