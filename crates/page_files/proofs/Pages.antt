-- The pages of a file, one after another.
use Rattle.std.proofs.Common.{◌≡◌, ℕ, zero, suc, ◌+◌, ◌-◌, ◌*◌, ◌<◌, ◌≤◌, List, [], ◌∷◌, length, take, drop, Bool, true, false, refl, sym, ap, ◌∙◌, arith, length-drop, Option, None, Some, Err}
use Rattle.std.specs.Prelude.{nat_lt, option_map}
use Rattle.std.specs.Io.KnownBytes.{Appends}
use Rattle.std.proofs.lemmas.Bool.{le-leb, le-ltb, lt-leb, lt-ltb, ltb-false, ltb-true}
use Rattle.std.proofs.lemmas.List.{append-nil, drop-drop}
use Rattle.outside.specs.Outside.{AppendsPrefix}
use Rattle.outside.proofs.Grows.{AppendsPrefix-of}
use Rattle.page_spec.specs.declared.cause.ByteFault.{ByteFault}
use Rattle.page_spec.specs.declared.cause.PageCause.TheVariants.{TooMany}
use Rattle.page_spec.specs.declared.layout.Layout.{Layout}
use Rattle.page_spec.specs.Items.{Found, Item, PageFault, after_items, byte_fault, fault_at, faulty, most_pages, nothing, page_found, pages_found, pages_in, pages_of, then_unless}
use Rattle.page_spec.specs.Lines.{items_text}
use Rattle.event_lines.specs.Puts.{PutsFound}
use Rattle.event_lines.specs.declared.page.PageStop.{PageStop}
use Rattle.event_lines.specs.declared.page.PageStop.TheVariants as stop
use Rattle.event_lines.proofs.Sent.{AreSent, all_sent, both_texts, fault_left, more_sent, prefix_sent}
use Rattle.page_files.specs.Puts.{PutsFile, stop_at}

-- no whole page is left
none_in : (n size : ℕ) (bytes : List ℕ) → length bytes < size → pages_in n size bytes ≡ []
unfolding pages_in
none_in zero size bytes few = refl
none_in (suc n) size bytes few = rw (lt-ltb (length bytes) size few) refl

-- one whole page is left, and more
one_in : (n size : ℕ) (bytes : List ℕ) → size ≤ length bytes → pages_in (suc n) size bytes ≡ take size bytes ∷ pages_in n size (drop size bytes)
unfolding pages_in
one_in n size bytes whole = rw (le-ltb (length bytes) size whole) refl

less_or_more : (a b : ℕ) (P : Type 0) → (a < b → P) → (b ≤ a → P) → P
less_or_more a b P less more = by_test (nat_lt a b) refl
  where
    by_test : (test : Bool) → nat_lt a b ≡ test → P
    by_test true is = less (omega (arith, ltb-true a b is))
    by_test false is = more (omega (arith, ltb-false a b is))

-- any number of steps that is large enough gives the same pages
enough : (n m size : ℕ) (bytes : List ℕ) → 0 < size → length bytes ≤ n → length bytes ≤ m → pages_in n size bytes ≡ pages_in m size bytes
enough zero m size bytes some left right = none_in zero size bytes (omega arith) ∙ sym (none_in m size bytes (omega arith))
enough (suc n) zero size bytes some left right = none_in (suc n) size bytes (omega arith) ∙ sym (none_in zero size bytes (omega arith))
enough (suc n) (suc m) size bytes some left right =
    less_or_more (length bytes) size (pages_in (suc n) size bytes ≡ pages_in (suc m) size bytes)
    (λ few. none_in (suc n) size bytes few ∙ sym (none_in (suc m) size bytes few))
    (λ whole. one_in n size bytes whole
    ∙ ap (λ pages. take size bytes ∷ pages) (enough n m size (drop size bytes) some (omega (arith, some, left, whole, length-drop size bytes)) (omega (arith, some, right, whole, length-drop size bytes)))
    ∙ sym (one_in m size bytes whole))

-- the first page, and those after it
one_page : (size : ℕ) (bytes : List ℕ) → 0 < size → size ≤ length bytes → pages_of size bytes ≡ take size bytes ∷ pages_of size (drop size bytes)
one_page size bytes some whole =
    enough (length bytes) (suc (length bytes)) size bytes some (omega arith) (omega arith) ∙ one_in (length bytes) size bytes whole
    ∙ ap (λ pages. take size bytes ∷ pages) (enough (length bytes) (length (drop size bytes)) size (drop size bytes) some (omega (arith, length-drop size bytes)) (omega arith))

-- the place of the next page
next_place : (size number : ℕ) (whole : List ℕ) → drop size (drop (number * size) whole) ≡ drop ((number + 1) * size) whole
next_place size number whole = drop-drop size (number * size) whole ∙ ap (λ at. drop at whole) (let place : number * size + size ≡ (number + 1) * size = grind arith in place)

-- the pages of a file from the one with a number on
abbrev pub pages_from : ℕ → ℕ → List ℕ → List (List ℕ)
pages_from size number whole = pages_of size (drop (number * size) whole)

-- what they have, if there is none
pub no_page : (layout : Layout) (number : ℕ) (whole : List ℕ) → length (drop (number * layout.page) whole) < layout.page → pages_found layout number (pages_from layout.page number whole) ≡ nothing
unfolding pages_found
no_page layout number whole few = rw (none_in (length (drop (number * layout.page) whole)) layout.page (drop (number * layout.page) whole) few) refl

found_first : (layout : Layout) (number : ℕ) (page : List ℕ) (pages : List (List ℕ)) → number < most_pages
    → pages_found layout number (page ∷ pages) ≡ then_unless (page_found layout page).items (option_map (fault_at number) (page_found layout page).fault) (pages_found layout (number + 1) pages)
unfolding pages_found
found_first layout number page pages below = rw (lt-leb most_pages number below) refl

found_beyond : (layout : Layout) (number : ℕ) (page : List ℕ) (pages : List (List ℕ)) → most_pages ≤ number → pages_found layout number (page ∷ pages) ≡ faulty (fault_at number (byte_fault 0 TooMany))
unfolding pages_found
found_beyond layout number page pages beyond = rw (le-leb most_pages number beyond) refl

-- what they have, if there is one
pub next_page : (layout : Layout) (number : ℕ) (page whole : List ℕ) → 0 < layout.page → number < most_pages → (page ≡ take layout.page (drop (number * layout.page) whole)) × (layout.page ≤ length (drop (number * layout.page) whole))
    → pages_found layout number (pages_from layout.page number whole)
    ≡ then_unless (page_found layout page).items (option_map (fault_at number) (page_found layout page).fault) (pages_found layout (number + 1) (pages_from layout.page (number + 1) whole))
next_page layout number page whole some below filled =
    ap (pages_found layout number) (one_page layout.page (drop (number * layout.page) whole) some filled.1
    ∙ ap (λ pages. take layout.page (drop (number * layout.page) whole) ∷ pages) (ap (pages_of layout.page) (next_place layout.page number whole))
    ∙ ap (λ first. first ∷ pages_from layout.page (number + 1) whole) (sym filled.0))
    ∙ found_first layout number page (pages_from layout.page (number + 1) whole) below

-- what they have, if there are too many
pub beyond_page : (layout : Layout) (number : ℕ) (whole : List ℕ) → 0 < layout.page → most_pages ≤ number → layout.page ≤ length (drop (number * layout.page) whole)
    → pages_found layout number (pages_from layout.page number whole) ≡ faulty (fault_at number (byte_fault 0 TooMany))
beyond_page layout number whole some beyond filled =
    ap (pages_found layout number) (one_page layout.page (drop (number * layout.page) whole) some filled)
    ∙ found_beyond layout number (take layout.page (drop (number * layout.page) whole)) (pages_of layout.page (drop layout.page (drop (number * layout.page) whole))) beyond

-- ---- what was sent

-- a whole page was written without a fault
pub page_sent : (old mid new : Option (List ℕ)) (cpu number : ℕ) (found : Found ByteFault) (before rest all : Found PageFault) → AreSent old mid cpu before all
    → before ≡ then_unless found.items (option_map (fault_at number) found.fault) rest → (found.fault ≡ None) × Appends mid new (items_text cpu found.items) → AreSent old new cpu rest all
page_sent old mid new cpu number found before rest all so is puts =
    more_sent old mid new cpu found.items before rest all so (is ∙ ap (λ fault. then_unless found.items (option_map (fault_at number) fault) rest) puts.0) puts.1

-- a page's items come first, whatever follows them
items_first : (items : List Item) (fault : Option PageFault) (rest : Found PageFault) → (left : Found PageFault) × (then_unless items fault rest ≡ after_items items left)
items_first items None rest = (rest, refl)
items_first items (Some why) rest = (faulty why, ap (λ xs. record { items = xs; fault = Some why }) (sym (append-nil items)))

-- the file's items end with a fault
pub ends_faulty : (old new : Option (List ℕ)) (cpu : ℕ) (why : PageFault) (left all : Found PageFault) → AreSent old new cpu left all → left ≡ faulty why → (all.fault ≡ Some why) × Appends old new (items_text cpu all.items)
ends_faulty old new cpu why left all so is =
    (fault_left old new cpu left all so ∙ ap (λ (f : Found PageFault). f.fault) is, all_sent old new cpu left all so (ap (λ (f : Found PageFault). f.items) is))

-- the file's items end without one
pub ends_well : (old new : Option (List ℕ)) (cpu : ℕ) (left all : Found PageFault) → AreSent old new cpu left all → left ≡ nothing → (all.fault ≡ None) × Appends old new (items_text cpu all.items)
ends_well old new cpu left all so is =
    (fault_left old new cpu left all so ∙ ap (λ (f : Found PageFault). f.fault) is, all_sent old new cpu left all so (ap (λ (f : Found PageFault). f.items) is))

-- a prefix of the file's lines was sent so far
pub so_far : (old new : Option (List ℕ)) (cpu : ℕ) (left all : Found PageFault) → AreSent old new cpu left all → AppendsPrefix old new (items_text cpu all.items)
so_far old new cpu left all so = AppendsPrefix-of old new (items_text cpu so.sent) (items_text cpu left.items) (items_text cpu all.items) so.grew (both_texts cpu so.sent left all so.rest)

-- a page ended the writing
pub page_stops : (T : Type 0) (old mid new : Option (List ℕ)) (cpu number : ℕ) (found : Found ByteFault) (before rest all : Found PageFault) (end : PageStop) → AreSent old mid cpu before all
    → before ≡ then_unless found.items (option_map (fault_at number) found.fault) rest → PutsFound {T = Unit {0}} mid new cpu found (Err end) → PutsFile {T = T} old new cpu all (Err (stop_at number end))
page_stops T old mid new cpu number found before rest all (stop.Refused why) so is puts =
    let faulted : before ≡ record { items = found.items; fault = Some (fault_at number why) } = is ∙ ap (λ fault. then_unless found.items (option_map (fault_at number) fault) rest) puts.0 in
    let left = after_items found.items (faulty (fault_at number why)) in
    let ended : before ≡ left = faulted ∙ ap (λ xs. record { items = xs; fault = Some (fault_at number why) }) (sym (append-nil found.items)) in
    ends_faulty old new cpu (fault_at number why) (faulty (fault_at number why)) all (more_sent old mid new cpu found.items before (faulty (fault_at number why)) all so ended puts.1) refl
page_stops T old mid new cpu number found before rest all stop.WriteFault so is puts =
    let first = items_first found.items (option_map (fault_at number) found.fault) rest in
    prefix_sent old mid new cpu found.items before first.0 all so (is ∙ first.1) puts
