-- Lines that were sent, and those of the items that are left.
use Rattle.std.proofs.Common.{◌≡◌, ℕ, List, [], ◌∷◌, ◌++◌, refl, sym, ap, ◌∙◌, append_assoc, Option, map}
use Rattle.std.specs.Io.KnownBytes.{Appends}
use Rattle.std.proofs.lemmas.List.{append-nil}
use Rattle.std.proofs.lemmas.Grind.{flat_map-append}
use Rattle.std.specs.List.{flat_map}
use Rattle.outside.specs.Outside.{AppendsPrefix}
use Rattle.outside.proofs.Grows.{Appends-none, Appends-then, AppendsPrefix-last, AppendsPrefix-then}
use Rattle.std.proofs.Common.{◌+◌, ◌≤◌, ◌<◌, length, subst, Ok, Err}
use Rattle.std.specs.Prelude.{Result}
use Rattle.std.proofs.lemmas.Bool.{le-ltb, lt-ltb}
use Rattle.page_spec.specs.declared.cause.ByteFault.{ByteFault}
use Rattle.page_spec.specs.declared.cause.PageCause.TheVariants.{TooLong}
use Rattle.page_spec.specs.declared.layout.Layout.{Layout}
use Rattle.page_spec.specs.Items.{Found, Item, after_items, byte_fault, events_of, faulty, losses_at, page_found}
use Rattle.page_spec.specs.Lines.{item_text, items_text}
use Rattle.page_spec.specs.Records.{Record, lost_before, page_time, records_of, used_of}
use Rattle.event_lines.specs.Puts.{PutsFound}
use Rattle.event_lines.specs.declared.page.PageStop.{PageStop}
use Rattle.event_lines.specs.declared.page.PageStop.TheVariants.{Refused, WriteFault}

-- values, each mapped and then written
pub flat_map-map : {X Y A : Type 0} → (f : X → Y) (g : Y → List A) (xs : List X) → flat_map g (map f xs) ≡ flat_map (λ x. g (f x)) xs
flat_map-map f g [] = refl
flat_map-map f g (x ∷ xs) = ap (λ rest. g (f x) ++ rest) (flat_map-map f g xs)

-- items after items are items after both
pub after_both : {F : Type 0} → (xs ys : List Item) (rest : Found F) → after_items xs (after_items ys rest) ≡ after_items (xs ++ ys) rest
after_both xs ys rest = ap (λ items. record { items = items; fault = rest.fault }) (sym (append_assoc xs ys rest.items))

-- some of the lines of what was found were sent, and these are left
pub record AreSent {F : Type 0} (old new : Option (List ℕ)) (cpu : ℕ) (left all : Found F) : Type 0 where
  pub sent : List Item
  pub grew : Appends old new (items_text cpu sent)
  pub rest : all ≡ after_items sent left

-- none yet
pub none_sent : {F : Type 0} → (has : Option (List ℕ)) (cpu : ℕ) (all : Found F) → AreSent has has cpu all all
none_sent has cpu all = record { sent = []; grew = Appends-none has; rest = refl }

-- more items
pub more_sent : {F : Type 0} → (old mid new : Option (List ℕ)) (cpu : ℕ) (items : List Item) (before left all : Found F) → AreSent old mid cpu before all
    → before ≡ after_items items left → Appends mid new (items_text cpu items) → AreSent old new cpu left all
more_sent old mid new cpu items before left all so is more = record {
  sent = so.sent ++ items;
  grew = rw (flat_map-append (item_text cpu) so.sent items) (Appends-then old mid new (items_text cpu so.sent) (items_text cpu items) so.grew more);
  rest = so.rest ∙ ap (after_items so.sent) is ∙ after_both so.sent items left;
}

-- all that was found
pub all_sent : {F : Type 0} → (old new : Option (List ℕ)) (cpu : ℕ) (left all : Found F) → AreSent old new cpu left all → left.items ≡ [] → Appends old new (items_text cpu all.items)
all_sent old new cpu left all so none =
    let whole : all.items ≡ so.sent = ap (λ (f : Found _). f.items) so.rest ∙ ap (λ items. so.sent ++ items) none ∙ append-nil so.sent in
    rw whole so.grew

-- the fault after them
pub fault_left : {F : Type 0} → (old new : Option (List ℕ)) (cpu : ℕ) (left all : Found F) → AreSent old new cpu left all → all.fault ≡ left.fault
fault_left old new cpu left all so = ap (λ (f : Found _). f.fault) so.rest

-- a prefix of the next lines
pub prefix_sent : {F : Type 0} → (old mid new : Option (List ℕ)) (cpu : ℕ) (items : List Item) (before left all : Found F) → AreSent old mid cpu before all
    → before ≡ after_items items left → AppendsPrefix mid new (items_text cpu items) → AppendsPrefix old new (items_text cpu all.items)
prefix_sent old mid new cpu items before left all so is prefix =
    let parts : all.items ≡ so.sent ++ (items ++ left.items) = ap (λ (f : Found _). f.items) so.rest ∙ ap (λ (f : Found _). so.sent ++ f.items) is in
    let whole : items_text cpu all.items ≡ items_text cpu so.sent ++ (items_text cpu items ++ items_text cpu left.items) =
    ap (items_text cpu) parts ∙ flat_map-append (item_text cpu) so.sent (items ++ left.items)
    ∙ ap (λ text. items_text cpu so.sent ++ text) (flat_map-append (item_text cpu) items left.items) in
    rw whole (AppendsPrefix-then old mid new (items_text cpu so.sent) (items_text cpu items) (items_text cpu left.items) so.grew prefix)

-- one item
item_alone : (cpu : ℕ) (item : Item) → items_text cpu (item ∷ []) ≡ item_text cpu item
item_alone cpu item = append-nil (item_text cpu item)

-- one more item
pub one_sent : {F : Type 0} → (old mid new : Option (List ℕ)) (cpu : ℕ) (item : Item) (before left all : Found F) → AreSent old mid cpu before all
    → before ≡ after_items (item ∷ []) left → Appends mid new (item_text cpu item) → AreSent old new cpu left all
one_sent old mid new cpu item before left all so is more = more_sent old mid new cpu (item ∷ []) before left all so is (rw (item_alone cpu item) more)

-- a prefix of the next line, after which a write failed
pub one_failed : (T : Type 0) (old mid new : Option (List ℕ)) (cpu : ℕ) (item : Item) (before left all : Found ByteFault) (stop : PageStop) → AreSent old mid cpu before all
    → before ≡ after_items (item ∷ []) left → AppendsPrefix mid new (item_text cpu item) → stop ≡ WriteFault → PutsFound {T = T} old new cpu all (Err stop)
one_failed T old mid new cpu item before left all stop so is prefix failed =
    subst (λ (s : PageStop). PutsFound {T = T} old new cpu all (Err s)) (sym failed)
    (prefix_sent old mid new cpu (item ∷ []) before left all so is (rw (item_alone cpu item) prefix))

-- ---- a page

-- a page whose records fit
page_fits : (layout : Layout) (page : List ℕ) → layout.header + used_of page ≤ length page
    → page_found layout page ≡ after_items (losses_at (page_time page) (lost_before layout.header page)) (events_of layout (records_of layout.header page))
unfolding page_found
page_fits layout page fits = rw (le-ltb (length page) (layout.header + used_of page) fits) refl

-- the same, from the header that was read
pub page_is : (layout : Layout) (page : List ℕ) (time : ℕ) (lost : Option ℕ) (records : List Record) → time ≡ page_time page → lost ≡ lost_before layout.header page
    → records ≡ records_of layout.header page → layout.header + used_of page ≤ length page
    → page_found layout page ≡ after_items (losses_at time lost) (events_of layout records)
page_is layout page time lost records timed losses recorded fits = rw (timed, losses, recorded) (page_fits layout page fits)

-- the lines of items and of what follows them
pub both_texts : {F : Type 0} → (cpu : ℕ) (items : List Item) (rest all : Found F) → all ≡ after_items items rest → items_text cpu all.items ≡ items_text cpu items ++ items_text cpu rest.items
both_texts cpu items rest all is = ap (λ (f : Found _). items_text cpu f.items) is ∙ flat_map-append (item_text cpu) items rest.items

-- items, and then what follows them
pub puts_after : {T : Type 0} → (old mid new : Option (List ℕ)) (cpu : ℕ) (items : List Item) (rest all : Found ByteFault) (result : Result T PageStop)
    → Appends old mid (items_text cpu items) → all ≡ after_items items rest → PutsFound mid new cpu rest result → PutsFound old new cpu all result
puts_after old mid new cpu items rest all (Ok done) first is puts =
    (ap (λ (f : Found ByteFault). f.fault) is ∙ puts.0, rw (both_texts cpu items rest all is) (Appends-then old mid new (items_text cpu items) (items_text cpu rest.items) first puts.1))
puts_after old mid new cpu items rest all (Err (Refused why)) first is puts =
    (ap (λ (f : Found ByteFault). f.fault) is ∙ puts.0, rw (both_texts cpu items rest all is) (Appends-then old mid new (items_text cpu items) (items_text cpu rest.items) first puts.1))
puts_after old mid new cpu items rest all (Err WriteFault) first is puts =
    rw (both_texts cpu items rest all is) (AppendsPrefix-last old mid new (items_text cpu items) (items_text cpu rest.items) first puts)

-- a prefix of the first items' lines, after which a write failed
pub first_failed : (T : Type 0) (old new : Option (List ℕ)) (cpu : ℕ) (items : List Item) (rest all : Found ByteFault) (stop : PageStop) → all ≡ after_items items rest
    → AppendsPrefix old new (items_text cpu items) → stop ≡ WriteFault → PutsFound {T = T} old new cpu all (Err stop)
first_failed T old new cpu items rest all stop is prefix failed =
    subst (λ (s : PageStop). PutsFound {T = T} old new cpu all (Err s)) (sym failed)
    (prefix_sent old old new cpu items all rest all (none_sent old cpu all) is prefix)

-- a page whose records don't fit
page_long : (layout : Layout) (page : List ℕ) → length page < layout.header + used_of page → page_found layout page ≡ faulty (byte_fault 8 TooLong)
unfolding page_found
page_long layout page long = rw (lt-ltb (length page) (layout.header + used_of page) long) refl

-- it is rejected, and nothing was written
pub page_refused : (T : Type 0) (has : Option (List ℕ)) (cpu : ℕ) (layout : Layout) (page : List ℕ) (why : ByteFault) (stop : PageStop) → why ≡ byte_fault 8 TooLong
    → length page < layout.header + used_of page → stop ≡ Refused why → PutsFound {T = T} has has cpu (page_found layout page) (Err stop)
page_refused T has cpu layout page why stop is long refused =
    let stops : stop ≡ Refused (byte_fault 8 TooLong) = refused ∙ ap (λ w. Refused w) is in
    subst (λ (found : Found ByteFault). PutsFound {T = T} has has cpu found (Err stop)) (sym (page_long layout page long))
    (subst (λ (s : PageStop). PutsFound {T = T} has has cpu (faulty (byte_fault 8 TooLong)) (Err s)) (sym stops) (refl, Appends-none has))
