-- Each step on the board preserves the board's invariant: the swap, the two loads, the splits and
-- the joins.
use Rattle.std.proofs.Common.{◌≡◌, ℕ, zero, suc, ◌+◌, ◌-◌, ◌<◌, ◌≤◌, ◌≢◌, max, List, [], ◌∷◌, ◌++◌, length, set, sym, refl, ap, ◌∙◌, subst, ⊎_elim, arith, Some, length-append}
use Rattle.std.specs.Prelude.{slice_get}
use mathlib.Core.Option.{some, some-injective, some-ne-none}
use lib.ListN.{get_elem?}
use Rattle.std.proofs.lemmas.List.{append-nil, append_assoc}
use Rattle.std.proofs.lemmas.Option.{slice_get_within}
use Rattle.crossbeam_utils.specs.Register.{Turns, Forks, Merges}
use Rattle.atomic_table.proofs.Lists.{at_set, at_snoc, at_longer, set_again, set_else}
use Rattle.observer_log.specs.Board.{HoldsBoard, IsBoard, Knows, LastReadIsLast, IsPublished, ArePublished, Begins, HasPublished, HasRead, HasCompared, admitted, note_of, with_note, newcomer, after_read, after_known, first_state, first_view, as_driver, as_observer}
use Rattle.observer_log.specs.declared.board.BoardState.{BoardState}
use Rattle.observer_log.specs.declared.board.Publishing.{Publishing}
use Rattle.observer_log.specs.declared.board.Watching.{Watching}
use Rattle.observer_log.specs.declared.board.View.{View}
use Rattle.observer_log.specs.declared.board.View.TheVariants.{Spent, Shown, Seen, Driver, Observer}

-- ---- lists

there_set : {A : Type 0} (l : List A) (i : ℕ) (a b : A) → get_elem? l i ≡ some a → get_elem? (set l i b) i ≡ some b
there_set [] i a b e = absurd (some-ne-none a (sym e))
there_set (x ∷ xs) zero a b e = refl
there_set (x ∷ xs) (suc i) a b e = there_set xs i a b e

get_prefix : (xs ys : List BoardState) (k : ℕ) (s : BoardState) → slice_get xs k ≡ Some s → slice_get (xs ++ ys) k ≡ Some s
get_prefix [] ys k s e = absurd (cc)
get_prefix (x ∷ xs) ys zero s e = e
get_prefix (x ∷ xs) ys (suc k) s e = get_prefix xs ys k s e

get_end : (xs : List BoardState) (k : ℕ) (s : BoardState) → k ≡ length xs → slice_get (xs ++ s ∷ []) k ≡ Some s
get_end [] zero s e = refl
get_end [] (suc k) s e = absurd (omega arith)
get_end (x ∷ xs) zero s e = absurd (omega arith)
get_end (x ∷ xs) (suc k) s e = get_end xs k s (omega arith)

still_published : (states rest read : List BoardState) → ArePublished states read → ArePublished (states ++ rest) read
still_published states rest [] all = tt
still_published states rest (s ∷ more) all = (get_prefix states rest s.tick s all.0, still_published states rest more all.1)

still_begins : (states rest prefix : List BoardState) → Begins states prefix → Begins (states ++ rest) prefix
still_begins states rest prefix b = (b.0 ++ rest, ap (λ l. l ++ rest) b.1 ∙ append_assoc prefix b.0 rest)

length_of_prefix : (states prefix : List BoardState) → Begins states prefix → length prefix ≤ length states
length_of_prefix states prefix b = let e : length states ≡ length prefix + length b.0 = ap length b.1 ∙ length-append prefix b.0 in omega arith

-- ---- the views of a board

views_stay : (K : ℕ → View → Type 0) (views : List View) (me : ℕ) (view : View) → K me view → ((j : ℕ) (v : View) → j ≢ me → get_elem? views j ≡ some v → K j v)
    → (j : ℕ) (v : View) → get_elem? (set views me view) j ≡ some v → K j v
views_stay K views me view mine others j v e = ⊎_elim (λ (t : (j ≡ me) × (view ≡ v)). subst (λ (x : ℕ × View). K x.0 x.1) (λ i. (sym t.0 i, t.1 i)) mine)
    (λ (t : (j ≢ me) × (get_elem? views j ≡ some v)). others j v t.0 t.1) (at_set views me j view v e)

-- If the view of a pass is a driver's, the pass is the driver's pass.
mine : (value : BoardState) (views : List View) (id : ℕ) (v : View) (d : Publishing) → v ≡ Driver d → HoldsBoard value views → get_elem? views id ≡ some v → IsBoard id d value views
mine value views id v d is b at =
    let known = subst (Knows b.0 b.1.states id) is (b.2.each id v at) in
    let here : get_elem? views b.0 ≡ some (Driver b.1) = b.2.here in
    let same : b.0 ≡ id = sym known.0 in
    let there : get_elem? views b.0 ≡ some v = ap (λ (z : ℕ). get_elem? views z) same ∙ at in
    let own : b.1 ≡ d = cc in
    subst (λ (z : ℕ × Publishing). IsBoard z.0 z.1 value views) (λ i. (same i, own i)) b.2

-- If the view of a pass is an observer's, the pass isn't the driver's pass.
guest : (value : BoardState) (views : List View) (b : HoldsBoard value views) (id : ℕ) (v : View) (o : Watching) → v ≡ Observer o → get_elem? views id ≡ some v → id ≢ b.0
guest value views b id v o is at e = let here : get_elem? views b.0 ≡ some (Driver b.1) = b.2.here in cc

-- The views of all passes except the driver's are still correct after one more state was published.
others_know : (seat : ℕ) (states rest : List BoardState) (other : ℕ) → other ≢ seat → (v : View) → Knows seat states other v → Knows seat (states ++ rest) other v
others_know seat states rest other apart Spent k = tt
others_know seat states rest other apart (Shown shown) k = still_begins states rest shown k
others_know seat states rest other apart (Seen read) k = still_published states rest read k
others_know seat states rest other apart (Driver d) k = absurd (apart k.0)
others_know seat states rest other apart (Observer o) k =
    let below : o.least < length states = k.0 in let more : length (states ++ rest) ≡ length states + length rest = length-append states rest in
    (omega arith, still_published states rest o.read k.1)

-- ---- 0: a new board

pub begins : HoldsBoard first_state (first_view ∷ [])
begins = (0, record { states = first_state ∷ []; heard = [] }, record { here = refl; last = refl; shown = refl; each = one })
  where
    one : (other : ℕ) (view : View) → get_elem? (first_view ∷ []) other ≡ some view → Knows 0 (first_state ∷ []) other view
    one zero view e = subst (Knows 0 (first_state ∷ []) 0) (some-injective first_view view e) (refl, refl, tt)
    one (suc other) view e = absurd (some-ne-none view (sym e))

-- ---- 1: the swap

pub publishes : (id : ℕ) (v : View) (d : Publishing) (state : BoardState) → v ≡ Driver d → state.tick ≡ length d.states → Turns HoldsBoard id v (λ _. state) HasPublished
publishes id v d state is next x views b at =
    let own = mine x views id v d is b at in
    let now = d.states ++ state ∷ [] in
    let heard = (subst (Knows b.0 b.1.states id) is (b.2.each id v at)).2 in
    let known = subst (λ (z : View). Knows id d.states id z) is (own.each id v at) in
    let w : Publishing = record { states = now; heard = d.heard } in (
      Driver w,
      (
        id,
        w,
        record {
          here = there_set views id (Driver d) (Driver w) own.here;
          last = length-append d.states (state ∷ []) ∙ (let e : length d.states + 1 ≡ state.tick + 1 = omega arith in e);
          shown = get_end d.states state.tick state next;
          each = views_stay (Knows id now) views id (Driver w) (refl, refl, still_published d.states (state ∷ []) d.heard known.2) (λ j u apart e. others_know id d.states (state ∷ []) j apart u (own.each j u e));
        },
      ),
      λ d' is'. let same : d ≡ d' = cc in ap (λ (z : Publishing). Driver (record { states = z.states ++ state ∷ []; heard = z.heard })) same,
    )

-- ---- 2: the loads

pub reads : (id : ℕ) (v : View) (o : Watching) → v ≡ Observer o → Turns HoldsBoard id v (λ x. x) HasRead
reads id v o is x views b at =
    let apart = guest x views b id v o is at in
    let states = b.1.states in
    let known = subst (Knows b.0 states id) is (b.2.each id v at) in
    let below : o.least < length states = known.0 in
    let last : length states ≡ x.tick + 1 = b.2.last in
    let w : Watching = after_read x o in (
      Observer w,
      (
        b.0,
        b.1,
        record {
          here = set_else views id b.0 (Observer w) (λ e. apart (sym e)) ∙ b.2.here;
          last = b.2.last;
          shown = b.2.shown;
          each = views_stay (Knows b.0 states) views id (Observer w) (omega arith, (b.2.shown, known.1)) (λ j u _ e. b.2.each j u e);
        },
      ),
      λ o' is'. let same : o ≡ o' = cc in subst (λ (z : Watching). (Observer w ≡ Observer (after_read x z)) × (z.least ≤ x.tick)) same (refl, omega arith),
    )

pub compares : (id : ℕ) (v : View) (d : Publishing) → v ≡ Driver d → Turns HoldsBoard id v (λ x. x) HasCompared
compares id v d is x views b at =
    let own = mine x views id v d is b at in
    let known = subst (λ (z : View). Knows id d.states id z) is (own.each id v at) in (
      v,
      subst (HoldsBoard x) (sym (set_again views id v at)) b,
      λ d' is'. let same : d ≡ d' = cc in (refl, subst (λ (z : Publishing). ArePublished z.states z.heard) same known.2),
    )

-- ---- 3: the splits

-- Splitting a view preserves the invariant if the first part is the old view and the second part,
-- `new`, is correct.
cuts : (id : ℕ) (v new : View) → ((x : BoardState) (views : List View) (b : HoldsBoard x views) → (j : ℕ) → Knows b.0 b.1.states id v → Knows b.0 b.1.states j new) → Forks HoldsBoard id v v new
cuts id v new knows x views b at = let same = set_again views id v at in subst (λ (l : List View). HoldsBoard x (l ++ new ∷ [])) (sym same) (
  b.0,
  b.1,
  record {
    here = at_longer views (new ∷ []) b.0 (Driver b.1) b.2.here;
    last = b.2.last;
    shown = b.2.shown;
    each = λ j u e. ⊎_elim (λ was. b.2.each j u was) (λ (is : new ≡ u). subst (Knows b.0 b.1.states j) is (knows x views b j (b.2.each id v at))) (at_snoc views new u j e);
  },
)

note_knows : (seat : ℕ) (states : List BoardState) (id j : ℕ) (v : View) → Knows seat states id v → Knows seat states j (note_of v)
note_knows seat states id j Spent k = tt
note_knows seat states id j (Shown shown) k = tt
note_knows seat states id j (Seen read) k = tt
note_knows seat states id j (Driver d) k = ([], sym k.1 ∙ sym (append-nil d.states))
note_knows seat states id j (Observer o) k = k.1

new_knows : (seat : ℕ) (states : List BoardState) → 0 < length states → (id j : ℕ) (v : View) → Knows seat states id v → Knows seat states j (admitted v)
new_knows seat states any id j Spent k = tt
new_knows seat states any id j (Shown shown) k = tt
new_knows seat states any id j (Seen read) k = tt
new_knows seat states any id j (Driver d) k = let e : length d.states ≡ length states = ap length k.1 in (omega arith, tt)
new_knows seat states any id j (Observer o) k = tt

pub admits : (id : ℕ) (v : View) → Forks HoldsBoard id v v (admitted v)
admits id v = cuts id v (admitted v) (λ x views b j k. let e : length b.1.states ≡ x.tick + 1 = b.2.last in new_knows b.0 b.1.states (omega arith) id j v k)

pub notes : (id : ℕ) (v : View) → Forks HoldsBoard id v v (note_of v)
notes id v = cuts id v (note_of v) (λ x views b j k. note_knows b.0 b.1.states id j v k)

-- ---- 4: the joins

pub driver_hears : (id : ℕ) (v : View) (d : Publishing) (other : ℕ) (u : View) (read : List BoardState) → v ≡ Driver d → u ≡ Seen read → Merges HoldsBoard id v other u (with_note v u) Spent
driver_hears id v d other u read is note x views b at apart there =
    let own = mine x views id v d is b at in
    let states = d.states in
    let w : Publishing = record { states = states; heard = read } in
    let view : with_note v u ≡ Driver w = ap (λ z. with_note z u) is ∙ ap (with_note (Driver d)) note in
    let was : get_elem? views other ≡ some u = sym (set_else views id other (with_note v u) apart) ∙ there in
    let heard = subst (Knows id states other) note (own.each other u was) in
    subst (λ (z : View). HoldsBoard x (set (set views id z) other Spent)) (sym view) (
      id,
      w,
      record {
        here = set_else (set views id (Driver w)) other id Spent (λ e. apart (sym e)) ∙ there_set views id (Driver d) (Driver w) own.here;
        last = own.last;
        shown = own.shown;
        each = views_stay (Knows id states) (set views id (Driver w)) other Spent tt (λ j y _ e. views_stay (Knows id states) views id (Driver w) (refl, refl, heard) (λ i z _ e'. own.each i z e') j y e);
      },
    )

pub observer_hears : (id : ℕ) (v : View) (o : Watching) (other : ℕ) (u : View) (shown : List BoardState) → v ≡ Observer o → u ≡ Shown shown → Merges HoldsBoard id v other u (with_note v u) Spent
observer_hears id v o other u shown is note x views b at apart there =
    let guest_here = guest x views b id v o is at in
    let states = b.1.states in
    let w : Watching = after_known shown o in
    let view : with_note v u ≡ Observer w = ap (λ z. with_note z u) is ∙ ap (with_note (Observer o)) note in
    let was : get_elem? views other ≡ some u = sym (set_else views id other (with_note v u) apart) ∙ there in
    let begun = subst (Knows b.0 states other) note (b.2.each other u was) in
    let known = subst (Knows b.0 states id) is (b.2.each id v at) in
    let below : o.least < length states = known.0 in
    let short : length shown ≤ length states = length_of_prefix states shown begun in
    let here : get_elem? views b.0 ≡ some (Driver b.1) = b.2.here in
    let note_apart : other ≢ b.0 = λ e. cc in
    subst (λ (z : View). HoldsBoard x (set (set views id z) other Spent)) (sym view) (
      b.0,
      b.1,
      record {
        here = set_else (set views id (Observer w)) other b.0 Spent (λ e. note_apart (sym e)) ∙ (set_else views id b.0 (Observer w) (λ e. guest_here (sym e)) ∙ here);
        last = b.2.last;
        shown = b.2.shown;
        each = views_stay (Knows b.0 states) (set views id (Observer w)) other Spent tt (λ j y _ e. views_stay (Knows b.0 states) views id (Observer w) (omega arith, known.1) (λ i z _ e'. b.2.each i z e') j y e);
      },
    )

-- ---- views of a kind

pub is_driver : (v : View) (d : Publishing) → v ≡ Driver d → v ≡ Driver (as_driver v)
is_driver v d is = is ∙ ap Driver (sym (ap as_driver is))

pub is_observer : (v : View) (o : Watching) → v ≡ Observer o → v ≡ Observer (as_observer v)
is_observer v o is = is ∙ ap Observer (sym (ap as_observer is))

-- ---- what a note makes of a view

pub driver_heard : (v u w : View) (d : Publishing) (read : List BoardState) → w ≡ with_note v u → v ≡ Driver d → u ≡ Seen read → w ≡ Driver (record { states = d.states; heard = read })
driver_heard v u w d read made is note = made ∙ (ap (λ z. with_note z u) is ∙ ap (with_note (Driver d)) note)

pub observer_heard : (v u w : View) (o : Watching) (states : List BoardState) → w ≡ with_note v u → v ≡ Observer o → u ≡ Shown states → w ≡ Observer (after_known states o)
observer_heard v u w o states made is note = made ∙ (ap (λ z. with_note z u) is ∙ ap (with_note (Observer o)) note)

-- ---- the last read

-- If an observer was notified of all states and then read a published state, this state is the last
-- published one.
pub last_read : LastReadIsLast
last_read states state before later published =
    let short : state.tick < length states = slice_get_within states state.tick state published.0 in
    let same : state.tick ≡ length states - 1 = omega arith in
    subst (λ (n : ℕ). slice_get states n ≡ Some state) same published.0
