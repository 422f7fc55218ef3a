-- Proves that each step preserves the invariant of a row.
use Rattle.std.proofs.Common.{◌≡◌, ℕ, zero, suc, ◌+◌, ◌*◌, ◌-◌, ◌/◌, ◌%◌, ◌<◌, ◌≤◌, eqb, ◌≢◌, Bool, true, false, List, [], ◌∷◌, get_or, set, sym, refl, ap, ◌∙◌, subst, ⊎_elim, arith, le_refl, add-one}
use mathlib.Core.Option.{some, some-injective, some-ne-none}
use lib.ListN.{get_elem?}
use lib.Seq.{set-get_or}
use Rattle.std.proofs.lemmas.Bool.{eqb-true}
use Rattle.atomic_table.specs.Table.{Joins, Splits, keeps, stepped}
use Rattle.atomic_table.proofs.Lists.{at_longer, at_set, at_snoc, set_again, set_else}
use Rattle.plan_laws.specs.Plan.{PlanView}
use Rattle.clock_row.specs.Words.{AreClockWords, StoodTogether}
use Rattle.clock_row.specs.Row.{HoldsRule, IsWholeRow, Knows, KnowsLoaded, RowState, open_bit, sequence, writer_at_start}
use Rattle.clock_row.specs.Steps.{BeginKeeps, CloseKeeps, EndKeeps, LoadKeeps, OpenKeeps, OwnKeeps, PutKeeps, ReaderTakesNote, SplitKeeps, StartHolds, WriterTakesNote, begun_by, change_opened, closed, count_shown, count_known, ended, ended_by, loaded_at, loaded_too, note_of, put_at, reader_of, try_begun, with_note}
use Rattle.clock_row.specs.declared.view.WriterView.{WriterView}
use Rattle.clock_row.specs.declared.view.ReaderView.{ReaderView}
use Rattle.clock_row.specs.declared.view.Note.{Note}
use Rattle.clock_row.specs.declared.view.Attempt.{Attempt}
use Rattle.clock_row.specs.declared.view.Attempt.TheVariants.{Closed, Open}
use Rattle.clock_row.specs.declared.view.View.{View}
use Rattle.clock_row.specs.declared.view.View.TheVariants.{Spent, Noted, Writer, Reader}

-- ---- lists

set_there : {A : Type 0} (l : List A) (i : ℕ) (a b : A) → get_elem? l i ≡ some a → get_elem? (set l i b) i ≡ some b
set_there [] i a b e = absurd (some-ne-none a (sym e))
set_there (x ∷ xs) zero a b e = refl
set_there (x ∷ xs) (suc i) a b e = set_there xs i a b e

set_next : (n x p : ℕ) (body : List ℕ) → set (n ∷ body) (p + 1) x ≡ n ∷ set body p x
set_next n x p body = rw add-one refl

pub get_next : (n p : ℕ) (body : List ℕ) → get_or (n ∷ body) (p + 1) 0 ≡ get_or body p 0
get_next n p body = rw add-one refl

-- ---- numbers

even_rests : (changing : Bool) (count : ℕ) → (2 * count + open_bit changing) % 2 ≡ 0 → changing ≡ false
even_rests true count e = absurd (omega arith)
even_rests false count e = refl

-- If the sequence number increases, or is now odd, an open try still knows its loaded words.
tries_stay : (n m : ℕ) (before after : List ℕ) → n ≤ m → (m % 2 ≡ 0 → n < m) → (a : Attempt) → KnowsLoaded n before a → KnowsLoaded m after a
tries_stay n m before after more grows Closed k = tt
tries_stay n m before after more grows (Open first loaded) k = let even : first % 2 ≡ 0 = k.0 in let below : first ≤ n = k.1 in (
  even,
  omega arith,
  λ (e : m ≡ first). let now : m % 2 ≡ 0 = ap (λ (z : ℕ). z % 2) e ∙ even in let l : n < m = grows now in absurd (omega arith),
)

-- ---- the views of a row

views_stay : (K : ℕ → View → Type 0) (views : List View) (me : ℕ) (view : View) → K me view → ((j : ℕ) (v : View) → j ≢ me → get_elem? views j ≡ some v → K j v)
    → (j : ℕ) (v : View) → get_elem? (set views me view) j ≡ some v → K j v
views_stay K views me view mine others j v e = ⊎_elim (λ (t : (j ≡ me) × (view ≡ v)). subst (λ (x : ℕ × View). K x.0 x.1) (λ i. (sym t.0 i, t.1 i)) mine)
    (λ (t : (j ≢ me) × (get_elem? views j ≡ some v)). others j v t.0 t.1) (at_set views me j view v e)

others_know : (seat : ℕ) (w w' : WriterView) → w'.plan ≡ w.plan → sequence w ≤ sequence w' → (sequence w' % 2 ≡ 0 → sequence w < sequence w') → (other : ℕ) → other ≢ seat
    → (v : View) → Knows seat w other v → Knows seat w' other v
others_know seat w w' plan more grows other apart Spent k = tt
others_know seat w w' plan more grows other apart (Noted n) k = let a : 2 * n.number ≤ sequence w = k.1 in (k.0 ∙ sym plan, omega arith)
others_know seat w w' plan more grows other apart (Writer v) k = absurd (apart k.0)
others_know seat w w' plan more grows other apart (Reader r) k = let a : 2 * r.seen ≤ sequence w = k.1 in (
  k.0 ∙ sym plan,
  omega arith,
  tries_stay (sequence w) (sequence w') w.body w'.body more grows r.attempt k.2,
)

-- The seat with the writer's view is the writer's seat.
mine : (s : RowState) (id : ℕ) (v : View) (w : WriterView) → v ≡ Writer w → HoldsRule s → get_elem? s.views id ≡ some v → IsWholeRow id w s
mine s id v w is r at = let known = subst (Knows r.0 r.1 id) is (r.2.each id v at) in subst (λ (z : ℕ × WriterView). IsWholeRow z.0 z.1 s) (λ i. (sym known.0 i, sym known.1 i)) r.2

-- The seat of a reader isn't the writer's seat.
guest : (s : RowState) (r : HoldsRule s) (id : ℕ) (v : View) (q : ReaderView) → v ≡ Reader q → get_elem? s.views id ≡ some v → id ≢ r.0
guest s r id v q is at e = let here : get_elem? s.views r.0 ≡ some (Writer r.1) = r.2.here in cc

-- The seat of a note isn't the writer's seat.
note_apart : (s : RowState) (r : HoldsRule s) (other : ℕ) (n : Note) → get_elem? s.views other ≡ some (Noted n) → other ≢ r.0
note_apart s r other n at e = let here : get_elem? s.views r.0 ≡ some (Writer r.1) = r.2.here in cc

reader_knows : (s : RowState) (r : HoldsRule s) (id : ℕ) (v : View) (q : ReaderView) → v ≡ Reader q → get_elem? s.views id ≡ some v → Knows r.0 r.1 id (Reader q)
reader_knows s r id v q is at = subst (Knows r.0 r.1 id) is (r.2.each id v at)

-- ---- what a step leaves of the rule

-- A store by the writer preserves the invariant.
writer_steps : (s : RowState) (id : ℕ) (w w' : WriterView) → IsWholeRow id w s → (i x : ℕ) (cs : List (ℕ × Unit {0})) → set (sequence w ∷ w.body) i x ≡ sequence w' ∷ w'.body → w'.plan ≡ w.plan
    → sequence w ≤ sequence w' → (sequence w' % 2 ≡ 0 → sequence w < sequence w') → 2 * w'.known ≤ sequence w' → (w'.changing ≡ false → AreClockWords w'.plan w'.count w'.body)
    → HoldsRule (stepped s i x id cs (Writer w') keeps)
writer_steps s id w w' r i x cs words plan more grows reported rest = (
  id,
  w',
  record {
    here = set_there s.views id (Writer w) (Writer w') r.here;
    words = ap (λ ws. set ws i x) r.words ∙ words;
    each = views_stay (Knows id w') s.views id (Writer w') (refl, refl) (λ j v other e. others_know id w w' plan more grows j other v (r.each j v e));
    known = reported;
    at_rest = rest;
  },
)

-- A load changes only the view of the seat, not the words of the row.
unchanged : (s : RowState) (i id : ℕ) (cs : List (ℕ × Unit {0})) (v : View) → get_elem? s.views id ≡ some v → stepped s i (get_or s.words i 0) id cs v keeps ≡ s
unchanged s i id cs v at = λ k. record { words = set-get_or s.words i 0 k; homes = s.homes; views = set_again s.views id v at k }

-- A load by a seat other than the writer's preserves the invariant, if the new view of the seat is
-- correct.
guest_steps : (s : RowState) (r : HoldsRule s) (i id : ℕ) (cs : List (ℕ × Unit {0})) (v : View) → id ≢ r.0 → Knows r.0 r.1 id v → HoldsRule (stepped s i (get_or s.words i 0) id cs v keeps)
guest_steps s r i id cs v other knows = let row = r.2 in (
  r.0,
  r.1,
  record {
    here = set_else s.views id r.0 v (λ e. other (sym e)) ∙ row.here;
    words = set-get_or s.words i 0 ∙ row.words;
    each = views_stay (Knows r.0 r.1) s.views id v knows (λ j w _ e. row.each j w e);
    known = row.known;
    at_rest = row.at_rest;
  },
)

-- ---- 1 to 4: the writer

pub open_keeps : OpenKeeps
open_keeps slots id me w x is number still s r _ at _ = let row = mine s id me.0 w is r at in let zero_bit : open_bit w.changing ≡ 0 = ap open_bit still in let reported = row.known in (
  Writer (change_opened w),
  keeps,
  tt,
  writer_steps s id w (change_opened w) row 0 x me.1 (ap (λ (z : ℕ). z ∷ w.body) number) refl (omega arith) (λ even. absurd (omega arith)) (omega arith) (λ e. absurd (cc)),
  λ w' is'. cc,
)

pub put_keeps : PutKeeps
put_keeps slots id me w p x is during s r _ at _ = let row = mine s id me.0 w is r at in let one_bit : open_bit w.changing ≡ 1 = ap open_bit during in let back : p ≡ (p + 1) - 1 = omega arith in (
  Writer (put_at ((p + 1) - 1) x w),
  keeps,
  tt,
  writer_steps s id w (put_at ((p + 1) - 1) x w) row (p + 1) x me.1 (set_next (sequence w) x p w.body ∙ ap (λ (q : ℕ). sequence w ∷ set w.body q x) back) refl (le_refl (sequence w)) (λ even. absurd (omega arith)) row.known (λ e. absurd (cc)),
  λ w' is'. cc,
)

pub close_keeps : CloseKeeps
close_keeps slots id me w x is number during right s r _ at _ = let row = mine s id me.0 w is r at in let one_bit : open_bit w.changing ≡ 1 = ap open_bit during in let reported = row.known in (
  Writer (closed w),
  keeps,
  tt,
  writer_steps s id w (closed w) row 0 x me.1 (let e : x ≡ 2 * (w.count + 1) + 0 = omega arith in ap (λ (z : ℕ). z ∷ w.body) e) refl (omega arith) (λ _. omega arith) (omega arith) (λ _. right),
  λ w' is'. cc,
)

pub own_keeps : OwnKeeps
own_keeps slots id i me s r _ at _ = (
  me.0,
  keeps,
  tt,
  subst HoldsRule (sym (unchanged s i id me.1 me.0 at)) r,
  (refl, λ w is. let row = mine s id me.0 w is r at in (ap (λ ws. get_or ws i 0) row.words, row.known)),
)

-- ---- 5 to 7: a reader

begun_knows : (seat : ℕ) (now : WriterView) (id n : ℕ) (q : ReaderView) → n ≡ sequence now → Knows seat now id (Reader q) → (b : Bool) → eqb (n % 2) 0 ≡ b → Knows seat now id (Reader (begun_by b n q))
begun_knows seat now id n q number k true is = let below : 2 * q.seen ≤ sequence now = k.1 in (k.0, below, (eqb-true (n % 2) 0 is, omega arith, λ _. tt))
begun_knows seat now id n q number k false is = let below : 2 * q.seen ≤ sequence now = k.1 in (k.0, below, tt)

pub begin_keeps : BeginKeeps
begin_keeps slots id me q is s r _ at _ = let n : ℕ = get_or s.words 0 0 in let number : n ≡ sequence r.1 = ap (λ ws. get_or ws 0 0) r.2.words in let k = reader_knows s r id me.0 q is at in let below : 2 * q.seen ≤ sequence r.1 = k.1 in (
  Reader (try_begun n q),
  keeps,
  tt,
  guest_steps s r 0 id me.1 (Reader (try_begun n q)) (guest s r id me.0 q is at) (begun_knows r.0 r.1 id n q number k (eqb (n % 2) 0) refl),
  λ q' is'. let both : me.0 ≡ Reader q = is in let same : q ≡ q' = cc in subst (λ (z : ReaderView). (Reader (try_begun n q) ≡ Reader (try_begun n z)) × (2 * z.seen ≤ n)) same (refl, omega arith),
)

loaded_knows : (number : ℕ) (body : List ℕ) (p x : ℕ) → x ≡ get_or body p 0 → (a : Attempt) → KnowsLoaded number body a → KnowsLoaded number body (loaded_too p x a)
loaded_knows number body p x right Closed k = tt
loaded_knows number body p x right (Open first loaded) k = (k.0, k.1, λ e. (sym right, k.2 e))

pub load_keeps : LoadKeeps
load_keeps slots id p me q is s r _ at _ = let x : ℕ = get_or s.words (p + 1) 0 in let k = reader_knows s r id me.0 q is at in let back : p ≡ (p + 1) - 1 = omega arith in
    let right : x ≡ get_or r.1.body p 0 = ap (λ ws. get_or ws (p + 1) 0) r.2.words ∙ get_next (sequence r.1) p r.1.body in (
      Reader (loaded_at ((p + 1) - 1) x q),
      keeps,
      tt,
      guest_steps s r (p + 1) id me.1 (Reader (loaded_at ((p + 1) - 1) x q)) (guest s r id me.0 q is at)
          (k.0, k.1, loaded_knows (sequence r.1) r.1.body ((p + 1) - 1) x (right ∙ ap (λ (z : ℕ). get_or r.1.body z 0) back) q.attempt k.2),
      λ q' is'. let same : q ≡ q' = cc in ap (λ (z : ReaderView). Reader (loaded_at ((p + 1) - 1) x z)) same,
    )

ended_knows : (seat : ℕ) (now : WriterView) (id n first : ℕ) (q : ReaderView) → n ≡ sequence now → Knows seat now id (Reader q) → (b : Bool) → eqb n first ≡ b → Knows seat now id (Reader (ended_by b first n q))
ended_knows seat now id n first q number k true is = let e : n ≡ first = eqb-true n first is in (k.0, omega arith, tt)
ended_knows seat now id n first q number k false is = (k.0, k.1, tt)

-- If the sequence number is still the number with which a try began, no change is open, and the
-- loaded words are the current words.
stood_together : (seat : ℕ) (now : WriterView) (s : RowState) (n first : ℕ) (plan : PlanView) (loaded : List (ℕ × ℕ)) → IsWholeRow seat now s → n ≡ sequence now → plan ≡ now.plan → KnowsLoaded (sequence now) now.body (Open first loaded) → n ≡ first
    → StoodTogether plan (first / 2) loaded
stood_together seat now s n first plan loaded row number same k e = let even : first % 2 ≡ 0 = k.0 in let whole : sequence now ≡ first = sym number ∙ e in
    let even' : sequence now % 2 ≡ 0 = ap (λ (z : ℕ). z % 2) whole ∙ even in let still = even_rests now.changing now.count even' in let no_bit : open_bit now.changing ≡ 0 = ap open_bit still in
    let count : now.count ≡ first / 2 = omega arith in (
      now.body,
      subst (λ (z : PlanView × ℕ). AreClockWords z.0 z.1 now.body) (λ i. (sym same i, count i)) (row.at_rest still),
      k.2 whole,
    )

pub end_keeps : EndKeeps
end_keeps slots id first me q loaded is during s r _ at _ = let n : ℕ = get_or s.words 0 0 in let number : n ≡ sequence r.1 = ap (λ ws. get_or ws 0 0) r.2.words in let k = reader_knows s r id me.0 q is at in
    let tries = subst (KnowsLoaded (sequence r.1) r.1.body) during k.2 in let below : first ≤ sequence r.1 = tries.1 in (
      Reader (ended first n q),
      keeps,
      tt,
      guest_steps s r 0 id me.1 (Reader (ended first n q)) (guest s r id me.0 q is at) (ended_knows r.0 r.1 id n first q number k (eqb n first) refl),
      λ q' first' loaded' is' during'. let same : q ≡ q' = cc in
          let attempt : Open first loaded ≡ Open first' loaded' = sym during ∙ (ap (λ (z : ReaderView). z.attempt) same ∙ during') in
          let one : first ≡ first' = cc in let rest : loaded ≡ loaded' = cc in
          subst (λ (z : ReaderView × (ℕ × List (ℕ × ℕ))). (Reader (ended first n q) ≡ Reader (ended z.1.0 n z.0)) × (z.1.0 ≤ n) × (n ≡ z.1.0 → StoodTogether z.0.plan (z.1.0 / 2) z.1.1)) (λ i. (same i, (one i, rest i)))
          (refl, omega arith, stood_together r.0 r.1 s n first q.plan loaded r.2 number k.0 tries),
    )

-- ---- 8: a seat is split

cuts : (id : ℕ) (v right : View) → ((seat : ℕ) (now : WriterView) (other : ℕ) → Knows seat now id v → Knows seat now other right) → Splits HoldsRule id v v right
cuts id v right knows s r at = let row = r.2 in let same = set_again s.views id v at in (
  r.0,
  r.1,
  record {
    here = at_longer (set s.views id v) (right ∷ []) r.0 (Writer r.1) (ap (λ vs. get_elem? vs r.0) same ∙ row.here);
    words = row.words;
    each = λ j w e. ⊎_elim (λ (t : get_elem? (set s.views id v) j ≡ some w). row.each j w (sym (ap (λ vs. get_elem? vs j) same) ∙ t))
        (λ (t : right ≡ w). subst (Knows r.0 r.1 j) t (knows r.0 r.1 j (row.each id v at))) (at_snoc (set s.views id v) right w j e);
    known = row.known;
    at_rest = row.at_rest;
  },
)

new_reader_knows : (v : View) (id seat : ℕ) (now : WriterView) (other : ℕ) → Knows seat now id v → Knows seat now other (reader_of v)
new_reader_knows Spent id seat now other k = tt
new_reader_knows (Noted n) id seat now other k = tt
new_reader_knows (Reader r) id seat now other k = tt
new_reader_knows (Writer w) id seat now other k = let same : w ≡ now = k.1 in let e : sequence w ≡ sequence now = ap sequence same in (ap (λ (z : WriterView). z.plan) same, omega arith, tt)

note_knows : (v : View) (id seat : ℕ) (now : WriterView) (other : ℕ) → Knows seat now id v → Knows seat now other (note_of v)
note_knows Spent id seat now other k = tt
note_knows (Noted n) id seat now other k = tt
note_knows (Reader r) id seat now other k = (k.0, k.1)
note_knows (Writer w) id seat now other k = let same : w ≡ now = k.1 in let e : sequence w ≡ sequence now = ap sequence same in (ap (λ (z : WriterView). z.plan) same, omega arith)

pub split_keeps : SplitKeeps
split_keeps id v = (cuts id v (reader_of v) (new_reader_knows v id), cuts id v (note_of v) (note_knows v id))

-- ---- 9: a note is taken

reader_meets : (id : ℕ) (q : ReaderView) (other : ℕ) (n : Note) → Joins HoldsRule id (Reader q) other (Noted n) (Reader (count_shown n.number q)) Spent
reader_meets id q other n s r at apart there = let row = r.2 in let was : get_elem? s.views other ≡ some (Noted n) = sym (set_else s.views id other (Reader (count_shown n.number q)) apart) ∙ there in
    let known = reader_knows s r id (Reader q) q refl at in let seen : 2 * q.seen ≤ sequence r.1 = known.1 in let reported : 2 * n.number ≤ sequence r.1 = (row.each other (Noted n) was).1 in
    let first : r.0 ≢ id = λ e. guest s r id (Reader q) q refl at (sym e) in let second : r.0 ≢ other = λ e. note_apart s r other n was (sym e) in
    let views : List View = set s.views id (Reader (count_shown n.number q)) in (
      r.0,
      r.1,
      record {
        here = set_else views other r.0 Spent second ∙ (set_else s.views id r.0 (Reader (count_shown n.number q)) first ∙ row.here);
        words = row.words;
        each = views_stay (Knows r.0 r.1) views other Spent tt (λ j w _. views_stay (Knows r.0 r.1) s.views id (Reader (count_shown n.number q)) (known.0, omega arith, known.2) (λ i x _. row.each i x) j w);
        known = row.known;
        at_rest = row.at_rest;
      },
    )

known_know : (seat : ℕ) (w : WriterView) (k other : ℕ) → other ≢ seat → (v : View) → Knows seat w other v → Knows seat (count_known k w) other v
known_know seat w k other apart Spent known = tt
known_know seat w k other apart (Noted n) known = known
known_know seat w k other apart (Writer v) known = absurd (apart known.0)
known_know seat w k other apart (Reader r) known = known

writer_settles : (id : ℕ) (w : WriterView) (other : ℕ) (n : Note) → Joins HoldsRule id (Writer w) other (Noted n) (Writer (count_known n.number w)) Spent
writer_settles id w other n s r at apart there = let row = mine s id (Writer w) w refl r at in let was : get_elem? s.views other ≡ some (Noted n) = sym (set_else s.views id other (Writer (count_known n.number w)) apart) ∙ there in
    let reported : 2 * n.number ≤ sequence w = (row.each other (Noted n) was).1 in let before = row.known in
    let views : List View = set s.views id (Writer (count_known n.number w)) in (
      id,
      count_known n.number w,
      record {
        here = set_else views other id Spent (λ e. apart (sym e)) ∙ set_there s.views id (Writer w) (Writer (count_known n.number w)) at;
        words = row.words;
        each = views_stay (Knows id (count_known n.number w)) views other Spent tt
            (λ j v _. views_stay (Knows id (count_known n.number w)) s.views id (Writer (count_known n.number w)) (refl, refl) (λ i x away e. known_know id w n.number i away x (row.each i x e)) j v);
        known = omega arith;
        at_rest = row.at_rest;
      },
    )

pub reader_takes_note : ReaderTakesNote
reader_takes_note id other v u q n is note = subst (λ (z : View × View). Joins HoldsRule id z.0 other z.1 (with_note z.0 z.1) Spent) (λ i. (sym is i, sym note i)) (reader_meets id q other n)

pub writer_takes_note : WriterTakesNote
writer_takes_note id other v u w n is note = subst (λ (z : View × View). Joins HoldsRule id z.0 other z.1 (with_note z.0 z.1) Spent) (λ i. (sym is i, sym note i)) (writer_settles id w other n)

-- ---- the start

first_knows : (plan : PlanView) (body : List ℕ) (j : ℕ) (v : View) → get_elem? (Writer (writer_at_start plan body) ∷ []) j ≡ some v → Knows 0 (writer_at_start plan body) j v
first_knows plan body zero v e = subst (Knows 0 (writer_at_start plan body) zero) (some-injective (Writer (writer_at_start plan body)) v e) (refl, refl)
first_knows plan body (suc j) v e = absurd (some-ne-none v (sym e))

pub start_holds : StartHolds
start_holds plan body right = (
  0,
  writer_at_start plan body,
  record {
    here = refl;
    words = refl;
    each = λ j v e. first_knows plan body j v e;
    known = le_refl 0;
    at_rest = λ _. right;
  },
)
