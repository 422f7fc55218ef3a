-- Laws of merging: entries are taken from the observers' lists in the order of the journal.
use Rattle.std.proofs.Common.{◌≡◌, ◌≢◌, ◌⊎◌, ⊎_elim, inl, inr, ℕ, zero, suc, ◌+◌, ◌-◌, ◌<◌, ◌≤◌, Bool, true, false, List, [], ◌∷◌, ◌++◌, length, map, take, drop, get_or, set, sym, refl, ap, ◌∙◌, subst, arith, nat_eq, eqb, ne_eqb, add-one, zero-le, length-append, rules}
use Rattle.std.specs.Prelude.{filter}
use Rattle.std.proofs.Math.Seq.{drop-cons, get_or-append_seam, take-length}
use Rattle.std.proofs.lemmas.Bool.{eqb-false, eqb-true}
use Rattle.std.proofs.lemmas.List.{append-nil, append_assoc, get_or-map, get_or-set_other, get_or-set_same, get_or_past, length-map, length-set, length-take-le, map-append, take-append-drop, take_more}
use Rattle.std.proofs.lemmas.List.Elements.{filter-append}
use Rattle.observer_log.specs.Entries.{AreBy, AreOwn, EntryContent, by, is_by, list_of, entry_content}
use Rattle.observer_log.specs.Journal.{Agrees, AreInOrder, IsTaken, joined, place_of}
use Rattle.observer_log.specs.declared.entry.Entry.{Entry}

-- ---- an observer's entries

-- The contents, from a list of entry contents, of the entries that observer `o` took.
abbrev contents_by : ℕ → List EntryContent → List EntryContent
contents_by o xs = filter (λ (s : EntryContent). nat_eq s.observer o) xs

-- Whether an entry is an observer's depends only on its content: selecting by observer and taking
-- the contents commute.
by_contents : (o : ℕ) (entries : List Entry) → map entry_content (by o entries) ≡ contents_by o (map entry_content entries)
by_contents o [] = refl
by_contents o (e ∷ es) = go (is_by o e) refl (by_contents o es)
  where
    go : (b : Bool) → is_by o e ≡ b → map entry_content (by o es) ≡ contents_by o (map entry_content es) → map entry_content (by o (e ∷ es)) ≡ contents_by o (map entry_content (e ∷ es))
    go true is rest = rw (is) (ap (λ l. entry_content e ∷ l) rest)
    go false is rest = rw (is) rest

by_own : (o : ℕ) (list : List Entry) → AreBy o list → by o list ≡ list
by_own o [] all = refl
by_own o (e ∷ es) all = let is : is_by o e ≡ true = rw all.0 (search rules) in rw is (ap (λ l. e ∷ l) (by_own o es all.1))

by_other : (o p : ℕ) (list : List Entry) → AreBy o list → o ≢ p → by p list ≡ []
by_other o p [] all apart = refl
by_other o p (e ∷ es) all apart = let is : is_by p e ≡ false = rw all.0 (ne_eqb o p apart) in rw is (by_other o p es all.1 apart)

one_by : (o : ℕ) (list : List Entry) (i : ℕ) (e : Entry) → AreBy o list → i < length list → (get_or list i e).observer ≡ o
one_by o [] i e all inside = absurd (omega arith)
one_by o (x ∷ xs) zero e all inside = all.0
one_by o (x ∷ xs) (suc i) e all inside = one_by o xs i e all.1 (omega arith)

-- ---- list after list

lists_by : (from : ℕ) (lists : List (List Entry)) → ((k : ℕ) → AreBy (from + k) (list_of lists k)) → (o : ℕ) → by (from + o) (joined lists) ≡ list_of lists o
lists_by from [] all o = refl
lists_by from (l ∷ ls) all zero =
    let rest : by (from + 0) (joined ls) ≡ [] = none_by (suc from) ls (λ k. subst (λ (n : ℕ). AreBy n (list_of ls k)) (let e : from + suc k ≡ suc from + k = omega arith in e) (all (suc k))) (from + 0) (omega arith) in
    filter-append (is_by (from + 0)) l (joined ls) ∙ ((λ i. by_own (from + 0) l (all 0) i ++ rest i) ∙ append-nil l)
  where
    none_by : (from : ℕ) (lists : List (List Entry)) → ((k : ℕ) → AreBy (from + k) (list_of lists k)) → (o : ℕ) → o < from → by o (joined lists) ≡ []
    none_by from [] all o below = refl
    none_by from (l ∷ ls) all o below = filter-append (is_by o) l (joined ls)
        ∙ (λ i. by_other (from + 0) o l (all 0) (λ e. omega arith) i ++ none_by (suc from) ls (λ k. subst (λ (n : ℕ). AreBy n (list_of ls k)) (let e : from + suc k ≡ suc from + k = omega arith in e) (all (suc k))) o (omega arith) i)
lists_by from (l ∷ ls) all (suc o) =
    let rest = lists_by (suc from) ls (λ k. subst (λ (n : ℕ). AreBy n (list_of ls k)) (let e : from + suc k ≡ suc from + k = omega arith in e) (all (suc k))) o in
    let place : suc from + o ≡ from + suc o = omega arith in
    filter-append (is_by (from + suc o)) l (joined ls) ∙ (λ i. by_other (from + 0) (from + suc o) l (all 0) (λ e. omega arith) i ++ subst (λ (n : ℕ). by n (joined ls) ≡ list_of ls o) place rest i)

pub joined_own : (lists : List (List Entry)) → AreOwn lists → (o : ℕ) → by o (joined lists) ≡ list_of lists o
joined_own lists own o =
    subst (λ (n : ℕ). by n (joined lists) ≡ list_of lists o) (let e : 0 + o ≡ o = omega arith in e)
    (lists_by 0 lists (λ k. subst (λ (n : ℕ). AreBy n (list_of lists k)) (let e : k ≡ 0 + k = omega arith in e) (own k)) o)

pub joined_push : (lists : List (List Entry)) (list : List Entry) → joined (lists ++ list ∷ []) ≡ joined lists ++ list
joined_push [] list = append-nil list
joined_push (l ∷ ls) list = ap (λ m. l ++ m) (joined_push ls list) ∙ sym (append_assoc l (joined ls) list)

-- ---- taken so far

pub taken_none : (lists : List (List Entry)) (places : List ℕ) → length places ≡ length lists → ((o : ℕ) → place_of places o ≡ 0) → IsTaken [] lists places []
taken_none lists places all zeros = record {
  all = all;
  same = refl;
  within = λ o. let e : place_of places o ≡ 0 = zeros o in omega arith;
  own = λ o. ap (λ (n : ℕ). take n (list_of lists o)) (sym (zeros o));
}

by_push_own : (q : ℕ) (taken : List Entry) (x : Entry) → x.observer ≡ q → by q (taken ++ x ∷ []) ≡ by q taken ++ x ∷ []
by_push_own q taken x is = filter-append (is_by q) taken (x ∷ []) ∙ ap (λ l. by q taken ++ l) (by_own q (x ∷ []) (is, tt))

by_push_other : (q o : ℕ) (taken : List Entry) (x : Entry) → x.observer ≡ o → o ≢ q → by q (taken ++ x ∷ []) ≡ by q taken
by_push_other q o taken x is apart = filter-append (is_by q) taken (x ∷ []) ∙ (ap (λ l. by q taken ++ l) (by_other o q (x ∷ []) (is, tt) apart) ∙ append-nil (by q taken))

within_push : (lists : List (List Entry)) (places : List ℕ) (o : ℕ) → o < length places → place_of places o < length (list_of lists o) → ((q : ℕ) → place_of places q ≤ length (list_of lists q))
    → (q : ℕ) (b : Bool) → eqb q o ≡ b → place_of (set places o (place_of places o + 1)) q ≤ length (list_of lists q)
within_push lists places o known short old q true e =
    let now : place_of (set places o (place_of places o + 1)) o ≡ place_of places o + 1 = get_or-set_same places o (place_of places o + 1) 0 known in
    subst (λ (n : ℕ). place_of (set places o (place_of places o + 1)) n ≤ length (list_of lists n)) (sym (eqb-true q o e)) (omega arith)
within_push lists places o known short old q false e = subst (λ (n : ℕ). n ≤ length (list_of lists q)) (sym (get_or-set_other places o q (place_of places o + 1) 0 (eqb-false q o e))) (old q)

own_push : (lists : List (List Entry)) (places : List ℕ) (taken : List Entry) (o : ℕ) (x : Entry) → o < length places → place_of places o < length (list_of lists o) → x ≡ get_or (list_of lists o) (place_of places o) x → x.observer ≡ o
    → ((q : ℕ) → by q taken ≡ take (place_of places q) (list_of lists q))
    → (q : ℕ) (b : Bool) → eqb q o ≡ b → by q (taken ++ x ∷ []) ≡ take (place_of (set places o (place_of places o + 1)) q) (list_of lists q)
own_push lists places taken o x known short next is old q true e =
    let p = place_of places o in
    let now : place_of (set places o (p + 1)) o ≡ p + 1 = get_or-set_same places o (p + 1) 0 known in
    let more : take (p + 1) (list_of lists o) ≡ take p (list_of lists o) ++ x ∷ [] = take_more (list_of lists o) p x short ∙ ap (λ (z : Entry). take p (list_of lists o) ++ z ∷ []) (sym next) in
    subst (λ (n : ℕ). by n (taken ++ x ∷ []) ≡ take (place_of (set places o (p + 1)) n) (list_of lists n)) (sym (eqb-true q o e))
    (by_push_own o taken x is ∙ (ap (λ l. l ++ x ∷ []) (old o) ∙ (sym more ∙ ap (λ (n : ℕ). take n (list_of lists o)) (sym now))))
own_push lists places taken o x known short next is old q false e =
    by_push_other q o taken x is (λ z. eqb-false q o e (sym z)) ∙ (old q ∙ ap (λ (n : ℕ). take n (list_of lists q)) (sym (get_or-set_other places o q (place_of places o + 1) 0 (eqb-false q o e))))

-- Taking one more entry preserves `IsTaken` if the entry has the content of the journal's next
-- entry.
pub taken_push : (journal : List Entry) (lists : List (List Entry)) (places : List ℕ) (taken : List Entry) (j : ℕ) (e x : Entry) → IsTaken (take j journal) lists places taken → AreOwn lists
    → j < length journal → e ≡ get_or journal j e → e.observer < length lists → place_of places e.observer < length (list_of lists e.observer) → x ≡ get_or (list_of lists e.observer) (place_of places e.observer) x → entry_content e ≡ entry_content x
    → IsTaken (take (j + 1) journal) lists (set places e.observer (place_of places e.observer + 1)) (taken ++ x ∷ [])
taken_push journal lists places taken j e x is own inside at there short next same =
    let more : take (j + 1) journal ≡ take j journal ++ e ∷ [] = take_more journal j e inside ∙ ap (λ (z : Entry). take j journal ++ z ∷ []) (sym at) in
    let by_o : x.observer ≡ e.observer = ap (λ (z : Entry). z.observer) next ∙ one_by e.observer (list_of lists e.observer) (place_of places e.observer) x (own e.observer) short in
    let all : length places ≡ length lists = is.all in let known : e.observer < length places = omega arith in record {
      all = length-set places e.observer (place_of places e.observer + 1) ∙ is.all;
      same = map-append entry_content taken (x ∷ []) ∙ ((λ i. is.same i ++ sym same i ∷ []) ∙ (sym (map-append entry_content (take j journal) (e ∷ [])) ∙ ap (map entry_content) (sym more)));
      within = λ q. within_push lists places e.observer known short is.within q (eqb q e.observer) refl;
      own = λ q. own_push lists places taken e.observer x known short next by_o is.own q (eqb q e.observer) refl;
    }

-- ---- if the two agree

-- The contents of an observer's entries in the journal so far are the contents of the taken prefix
-- of the observer's list.
so_far : (journal : List Entry) (lists : List (List Entry)) (places : List ℕ) (taken : List Entry) → IsTaken journal lists places taken → (o : ℕ) → map entry_content (by o journal) ≡ map entry_content (take (place_of places o) (list_of lists o))
so_far journal lists places taken is o = by_contents o journal ∙ (ap (contents_by o) (sym is.same) ∙ (sym (by_contents o taken) ∙ ap (map entry_content) (is.own o)))

-- If the journal agrees with the lists, its next entry has the content of the next entry in the
-- observer's list.
pub agreed_next : (journal : List Entry) (lists : List (List Entry)) (places : List ℕ) (taken : List Entry) (j : ℕ) (e : Entry) → IsTaken (take j journal) lists places taken → j < length journal → e ≡ get_or journal j e → Agrees journal lists
    → (rest : List EntryContent) × (map entry_content (list_of lists e.observer) ≡ map entry_content (take (place_of places e.observer) (list_of lists e.observer)) ++ entry_content e ∷ rest)
agreed_next journal lists places taken j e is inside at agrees =
    let o = e.observer in
    let suffix : drop j journal ≡ e ∷ drop (suc j) journal = drop-cons journal j e inside ∙ ap (λ (z : Entry). z ∷ drop (suc j) journal) (sym at) in
    let whole : by o journal ≡ by o (take j journal) ++ by o (drop j journal) = ap (by o) (sym (take-append-drop j journal)) ∙ filter-append (is_by o) (take j journal) (drop j journal) in
    let mine : by o (drop j journal) ≡ e ∷ by o (drop (suc j) journal) = ap (by o) suffix ∙ (filter-append (is_by o) (e ∷ []) (drop (suc j) journal) ∙ ap (λ l. l ++ by o (drop (suc j) journal)) (by_own o (e ∷ []) (refl, tt))) in (
      map entry_content (by o (drop (suc j) journal)),
      sym (agrees o) ∙ (ap (map entry_content) (whole ∙ ap (λ l. by o (take j journal) ++ l) mine) ∙ (map-append entry_content (by o (take j journal)) (e ∷ by o (drop (suc j) journal)) ∙ ap (λ l. l ++ entry_content e ∷ map entry_content (by o (drop (suc j) journal))) (so_far (take j journal) lists places taken is o))),
    )

-- If the journal agrees with the lists, the list of the next entry's observer has an entry that
-- wasn't taken.
pub next_there : (journal : List Entry) (lists : List (List Entry)) (places : List ℕ) (taken : List Entry) (j : ℕ) (e : Entry) → IsTaken (take j journal) lists places taken → j < length journal → e ≡ get_or journal j e → Agrees journal lists
    → place_of places e.observer < length (list_of lists e.observer)
next_there journal lists places taken j e is inside at agrees =
    let list = list_of lists e.observer in
    let p = place_of places e.observer in
    let next = agreed_next journal lists places taken j e is inside at agrees in
    let prefix : length (map entry_content (take p list)) ≡ p = length-map (take p list) entry_content ∙ length-take-le p list (is.within e.observer) in
    let all : length list ≡ length (map entry_content (take p list)) + length (entry_content e ∷ next.0) = sym (length-map list entry_content) ∙ (ap length next.1 ∙ length-append (map entry_content (take p list)) (entry_content e ∷ next.0)) in
    omega arith

-- If the journal agrees with the lists, the next entry of the observer's list has the content of
-- the journal's next entry.
pub next_same : (journal : List Entry) (lists : List (List Entry)) (places : List ℕ) (taken : List Entry) (j : ℕ) (e x : Entry) → IsTaken (take j journal) lists places taken → j < length journal → e ≡ get_or journal j e → Agrees journal lists
    → x ≡ get_or (list_of lists e.observer) (place_of places e.observer) x → entry_content e ≡ entry_content x
next_same journal lists places taken j e x is inside at agrees there =
    let list = list_of lists e.observer in
    let p = place_of places e.observer in
    let next = agreed_next journal lists places taken j e is inside at agrees in
    let short = next_there journal lists places taken j e is inside at agrees in
    let prefix : length (map entry_content (take p list)) ≡ p = length-map (take p list) entry_content ∙ length-take-le p list (is.within e.observer) in
    let one : get_or (map entry_content list) p (entry_content x) ≡ entry_content x = get_or-map entry_content list p x (entry_content x) short ∙ ap entry_content (sym there) in
    let other : get_or (map entry_content (take p list) ++ entry_content e ∷ next.0) p (entry_content x) ≡ entry_content e = ap (λ (n : ℕ). get_or (map entry_content (take p list) ++ entry_content e ∷ next.0) n (entry_content x)) (sym prefix) ∙ get_or-append_seam (map entry_content (take p list)) (entry_content e) next.0 (entry_content x) in
    sym other ∙ (ap (λ l. get_or l p (entry_content x)) (sym next.1) ∙ one)

-- If the journal agrees with the lists, all entries of each list were taken at the end of the
-- journal.
pub all_taken : (journal : List Entry) (lists : List (List Entry)) (places : List ℕ) (taken : List Entry) (o : ℕ) → IsTaken journal lists places taken → Agrees journal lists → place_of places o ≡ length (list_of lists o)
all_taken journal lists places taken o is agrees =
    let list = list_of lists o in
    let p = place_of places o in
    let same : map entry_content list ≡ map entry_content (take p list) = sym (agrees o) ∙ so_far journal lists places taken is o in
    let prefix : length (map entry_content (take p list)) ≡ p = length-map (take p list) entry_content ∙ length-take-le p list (is.within o) in
    sym prefix ∙ (ap length (sym same) ∙ length-map list entry_content)

-- If all entries of each list were taken, the journal agrees with the lists, and the taken entries
-- are in order.
pub in_order : (journal : List Entry) (lists : List (List Entry)) (places : List ℕ) (taken : List Entry) → IsTaken journal lists places taken → ((o : ℕ) → place_of places o ≡ length (list_of lists o)) → AreInOrder journal lists taken
in_order journal lists places taken is whole =
    let mine : (o : ℕ) → by o taken ≡ list_of lists o = λ o. is.own o ∙ (ap (λ (n : ℕ). take n (list_of lists o)) (whole o) ∙ take-length (list_of lists o)) in record {
      agrees = λ o. so_far journal lists places taken is o ∙ (ap (map entry_content) (sym (is.own o) ∙ mine o));
      places = is.same;
      own = mine;
    }

-- ---- what the code reads

pub list_at : (lists : List (List Entry)) (o : ℕ) (list : List Entry) → o < length lists → list ≡ get_or lists o list → list ≡ list_of lists o
list_at [] o list inside at = absurd (omega arith)
list_at (l ∷ ls) zero list inside at = at
list_at (l ∷ ls) (suc o) list inside at = list_at ls o list (omega arith) at

pub place_at : (places : List ℕ) (o p : ℕ) → o < length places → p ≡ get_or places o p → p ≡ place_of places o
place_at [] o p inside at = absurd (omega arith)
place_at (l ∷ ls) zero p inside at = at
place_at (l ∷ ls) (suc o) p inside at = place_at ls o p (omega arith) at

pub no_list : (lists : List (List Entry)) (o p : ℕ) → length lists ≤ o → p < length (list_of lists o) → ⊥
no_list lists o p past short = let none : length (list_of lists o) ≡ 0 = ap length (get_or_past lists o [] past) in absurd (omega arith)

pub no_more : (p n : ℕ) → n ≤ p → p < n → ⊥
no_more p n past short = absurd (omega arith)

pub each_whole : (lists : List (List Entry)) (places : List ℕ) → length places ≡ length lists → ((o : ℕ) → o < length lists → place_of places o ≡ length (list_of lists o)) → (o : ℕ) → place_of places o ≡ length (list_of lists o)
each_whole lists places all each o = go (Rattle.std.specs.Prelude.nat_lt o (length lists)) refl
  where
    go : (b : Bool) → Rattle.std.specs.Prelude.nat_lt o (length lists) ≡ b → place_of places o ≡ length (list_of lists o)
    go true e = each o (search rules)
    go false e = let past : length lists ≤ o = search rules in get_or_past places o 0 (omega arith) ∙ sym (ap length (get_or_past lists o [] past))

pub not_both : (b : Bool) → b ≡ true → b ≡ false → ⊥
not_both b is off = let e : true ≡ false = sym is ∙ off in absurd (cc)
