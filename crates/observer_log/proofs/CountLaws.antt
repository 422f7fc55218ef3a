-- Laws of lists of entries: the last entry of an observer on a processor, and appending an entry to
-- a good list.
use Rattle.std.proofs.Common.{◌≡◌, ℕ, zero, suc, ◌+◌, ◌-◌, ◌<◌, ◌≤◌, Bool, true, false, ◌&&◌, List, [], ◌∷◌, ◌++◌, length, map, take, drop, get_or, sym, refl, ap, ◌∙◌, subst, arith, nat_eq, Option, None, Some, zero-le}
use Rattle.std.specs.Prelude.{filter}
use Rattle.std.proofs.Math.Seq.{drop-cons}
use Rattle.std.proofs.lemmas.Grind.{common_steps}
use Rattle.std.proofs.lemmas.Bool.{eqb-true}
use Rattle.std.proofs.lemmas.List.{map-append, take-append-drop}
use Rattle.std.proofs.lemmas.List.Elements.{filter-append}
use Rattle.observer_log.specs.Entries.{AreBy, AreOwn, by, counts_of, is_by, is_of, list_of, entry_content}
use Rattle.observer_log.specs.Journal.{Agrees, IsBefore, IsGood, IsNotBefore, RiseFrom, joined, last_of}
use Rattle.observer_log.specs.declared.entry.Entry.{Entry}

-- ---- the last of some numbers

last_push : (ks : List ℕ) (k : ℕ) → last_of (ks ++ k ∷ []) ≡ Some k
last_push [] k = refl
last_push (x ∷ []) k = refl
last_push (x ∷ y ∷ ks) k = last_push (y ∷ ks) k

rise_push : (low : ℕ) (ks : List ℕ) (k : ℕ) → RiseFrom low ks → (ks ≡ [] → low ≤ k) → ((last : ℕ) → last_of ks ≡ Some last → last ≤ k) → RiseFrom low (ks ++ k ∷ [])
rise_push low [] k rise first later = (first refl, tt)
rise_push low (x ∷ []) k rise first later = (rise.0, (later x refl, tt))
rise_push low (x ∷ y ∷ ks) k rise first later = (rise.0, rise_push x (y ∷ ks) k rise.1 (λ e. absurd (cc)) later)

-- ---- counts

and_both : (a b : Bool) → (a && b) ≡ true → (a ≡ true) × (b ≡ true)
and_both true true e = (refl, refl)
and_both true false e = absurd (cc)
and_both false b e = absurd (cc)

kept : (p : Entry → Bool) (e : Entry) → p e ≡ true → filter p (e ∷ []) ≡ e ∷ []
kept p e is = rw is refl

left_out : (p : Entry → Bool) (e : Entry) → p e ≡ false → filter p (e ∷ []) ≡ []
left_out p e is = rw is refl

counts_push : (o cpu : ℕ) (entries : List Entry) (e : Entry) → counts_of o cpu (entries ++ e ∷ []) ≡ counts_of o cpu entries ++ counts_of o cpu (e ∷ [])
counts_push o cpu entries e = ap (map (λ (x : Entry). x.count)) (filter-append (is_of o cpu) entries (e ∷ [])) ∙ map-append (λ (x : Entry). x.count) (filter (is_of o cpu) entries) (filter (is_of o cpu) (e ∷ []))

-- If no later entry has the same observer and processor, an entry has the last count of its
-- observer and processor.
pub last_here : (entries : List Entry) (i : ℕ) (e : Entry) (o cpu : ℕ) → i < length entries → e ≡ get_or entries i e → is_of o cpu e ≡ true → filter (is_of o cpu) (drop (suc i) entries) ≡ []
    → last_of (counts_of o cpu entries) ≡ Some e.count
last_here entries i e o cpu inside at is none =
    let p = is_of o cpu in
    let suffix : drop i entries ≡ e ∷ drop (suc i) entries = drop-cons entries i e inside ∙ ap (λ (x : Entry). x ∷ drop (suc i) entries) (sym at) in
    let one : filter p (e ∷ drop (suc i) entries) ≡ e ∷ [] = rw is (ap (λ l. e ∷ l) none) in
    let all : filter p entries ≡ filter p (take i entries) ++ e ∷ [] = ap (filter p) (sym (take-append-drop i entries)) ∙ (filter-append p (take i entries) (drop i entries) ∙ ap (λ l. filter p (take i entries) ++ l) (ap (filter p) suffix ∙ one)) in
    let counts : counts_of o cpu entries ≡ map (λ (x : Entry). x.count) (filter p (take i entries)) ++ e.count ∷ [] = ap (map (λ (x : Entry). x.count)) all ∙ map-append (λ (x : Entry). x.count) (filter p (take i entries)) (e ∷ []) in
    ap last_of counts ∙ last_push (map (λ (x : Entry). x.count) (filter p (take i entries))) e.count

-- Appending an entry preserves the invariant of the journal if the entry has at least the last
-- count of its observer and processor.
pub good_push : (entries : List Entry) (e : Entry) → IsGood entries → IsNotBefore entries e → IsGood (entries ++ e ∷ [])
good_push entries e good later o cpu = go (is_of o cpu e) refl
  where
    go : (b : Bool) → is_of o cpu e ≡ b → RiseFrom 0 (counts_of o cpu (entries ++ e ∷ []))
    go false is = subst (RiseFrom 0) (sym (counts_push o cpu entries e ∙ ap (λ l. counts_of o cpu entries ++ map (λ (x : Entry). x.count) l) (left_out (is_of o cpu) e is) ∙ Rattle.std.proofs.lemmas.List.append-nil (counts_of o cpu entries))) (good o cpu)
    go true is =
        let both = and_both (nat_eq e.observer o) (nat_eq e.cpu.0 cpu) is in
        let one : e.observer ≡ o = eqb-true e.observer o both.0 in
        let other : e.cpu.0 ≡ cpu = eqb-true e.cpu.0 cpu both.1 in
        subst (RiseFrom 0) (sym (counts_push o cpu entries e ∙ ap (λ l. counts_of o cpu entries ++ map (λ (x : Entry). x.count) l) (kept (is_of o cpu) e is)))
        (rise_push 0 (counts_of o cpu entries) e.count (good o cpu) (λ _. zero-le) (λ last at. later last (ap (λ (z : ℕ × ℕ). last_of (counts_of z.0 z.1 entries)) (λ i. (one i, other i)) ∙ at)))
