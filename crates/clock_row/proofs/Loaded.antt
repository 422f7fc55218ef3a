-- Lemmas about the words that a reader loaded in a try.
use Rattle.std.proofs.Common.{◌≡◌, ℕ, Bool, true, false, eqb, ◌%◌, ◌+◌, ◌*◌, ◌<◌, ◌≤◌, List, ◌∷◌, get_or, get_or-set_same, get_or-set_other, set, length, drop, refl, sym, ap, ◌∙◌, subst, arith, length-take, length-drop}
use mathlib.Core.Logic.{dite}
use native.Mathlib.Decide.{ℕ_discrete}
use Rattle.psi_counts.specs.Clock.{AreWordsOfClock, ClockView, words_of, zero_clock}
use Rattle.plan_laws.specs.Plan.{IsClock, PlanView}
use Rattle.psi_counts.proofs.ClockLaws.{words_show_clock}
use Rattle.clock_row.specs.Words.{Agrees, AreClock, ClockWasLoaded, ClocksWereLoaded, StaysLoaded, StoodTogether, WereLoaded, words_at}
use Rattle.clock_row.specs.Steps.{begun_by, loaded_at, loaded_too, try_begun}
use Rattle.clock_row.specs.Seats.{as_reader, loaded_in, with_attempt}
use Rattle.clock_row.specs.declared.view.ReaderView.{ReaderView}
use Rattle.clock_row.specs.declared.view.Attempt.{Attempt}
use Rattle.clock_row.specs.declared.view.Attempt.TheVariants.{Open}
use Rattle.clock_row.specs.declared.view.View.{View}
use Rattle.clock_row.specs.declared.view.View.TheVariants.{Reader}
use Rattle.clock_row.proofs.NineWords.{clock_words, nine_words, words_are}

-- ---- one word more

pub were_next : (loaded more : List (ℕ × ℕ)) (from i x : ℕ) (words : List ℕ) → more ≡ (from + i, x) ∷ loaded → i < length words → WereLoaded loaded from i words → WereLoaded more from (i + 1) (set words i x)
were_next loaded more from i x words is inside were body all j below = let both = subst (Agrees body) is all in dite (ℕ_discrete j i)
    (λ e. ap (λ (z : ℕ). get_or (set words i x) z 0) e ∙ (get_or-set_same words i x 0 inside ∙ (sym both.0 ∙ ap (λ (z : ℕ). get_or body (from + z) 0) (sym e))))
    (λ other. get_or-set_other words i j x 0 other ∙ were body both.1 j (omega arith))

pub stays_next : (first loaded more : List (ℕ × ℕ)) (p x : ℕ) → more ≡ (p, x) ∷ loaded → StaysLoaded first loaded → StaysLoaded first more
stays_next first loaded more p x is stays body all = stays body (subst (Agrees body) is all).1

-- ---- the view

begun_by_plan : (b : Bool) (n : ℕ) (r : ReaderView) → (begun_by b n r).plan ≡ r.plan
begun_by_plan true n r = refl
begun_by_plan false n r = refl

pub begun_plan : (n : ℕ) (r : ReaderView) → (try_begun n r).plan ≡ r.plan
begun_plan n r = begun_by_plan (eqb (n % 2) 0) n r

-- Loading one more word continues a try that has continued since an earlier view.
pub loaded_view : (new old first : View) (p x : ℕ) → new ≡ Reader (loaded_at p x (as_reader old)) → old ≡ Reader (with_attempt (as_reader old).attempt (as_reader first))
    → new ≡ Reader (with_attempt (as_reader new).attempt (as_reader first))
loaded_view new old first p x e held = e ∙ (ap (λ (z : ReaderView). Reader (with_attempt (loaded_too p x (as_reader old).attempt) z)) (ap as_reader held)
    ∙ ap (λ (a : Attempt). Reader (with_attempt a (as_reader first))) (sym (ap (λ (v : View). (as_reader v).attempt) e)))

-- A try that continued twice has continued since the first view.
pub loaded_twice : (new old first : View) → new ≡ Reader (with_attempt (as_reader new).attempt (as_reader old)) → old ≡ Reader (with_attempt (as_reader old).attempt (as_reader first))
    → new ≡ Reader (with_attempt (as_reader new).attempt (as_reader first))
loaded_twice new old first e held = e ∙ ap (λ (v : View). Reader (with_attempt (as_reader new).attempt (as_reader v))) held

pub loaded_try : (new old : Attempt) (f p x : ℕ) → new ≡ loaded_too p x old → old ≡ Open f (loaded_in old) → (new ≡ Open f (loaded_in new)) × (loaded_in new ≡ (p, x) ∷ loaded_in old)
loaded_try new old f p x e is = let now : new ≡ Open f ((p, x) ∷ loaded_in old) = e ∙ ap (loaded_too p x) is in (now ∙ sym (ap (λ (a : Attempt). Open f (loaded_in a)) now), ap loaded_in now)

-- ---- one clock more

-- If nine words were loaded from a slot, they are the slot's words in each list of words that
-- agrees with the loaded values.
pub slot_was : (loaded : List (ℕ × ℕ)) (slot : ℕ) (words body : List ℕ) → WereLoaded loaded (9 * slot) 9 words → length words ≡ 9 → 9 * slot + 9 ≤ length body → Agrees body loaded → words ≡ words_at body slot
slot_was loaded slot words body were wide room agrees = words_are 9 (9 * slot) words body wide room (were body agrees)

-- A clock with the words loaded from a slot was loaded from the slot.
pub clock_was : (loaded : List (ℕ × ℕ)) (slot : ℕ) (words : List ℕ) (clock : ClockView) → WereLoaded loaded (9 * slot) 9 words → length words ≡ 9 → (AreWordsOfClock words → words_of clock ≡ words) → ClockWasLoaded loaded slot clock
clock_was loaded slot words clock were wide is body agrees are =
    let nine = nine_words (words_at body slot) are in let taken = length-take 9 (drop (9 * slot) body) in let dropped = length-drop (9 * slot) body in
    let same = slot_was loaded slot words body were wide (omega (arith, nine, taken, dropped)) agrees in
    is (subst AreWordsOfClock (sym same) are) ∙ same

pub clocks_next : (loaded more : List (ℕ × ℕ)) (i : ℕ) (clock : ClockView) (clocks : List ClockView) → StaysLoaded loaded more → i < length clocks → ClockWasLoaded more i clock → ClocksWereLoaded loaded i clocks
    → ClocksWereLoaded more (i + 1) (set clocks i clock)
clocks_next loaded more i clock clocks stays inside new old slot below = dite (ℕ_discrete slot i)
    (λ e. subst (λ (z : ℕ). ClockWasLoaded more z (get_or (set clocks i clock) z zero_clock)) (sym e) (subst (ClockWasLoaded more i) (sym (get_or-set_same clocks i clock zero_clock inside)) new))
    (λ other. subst (ClockWasLoaded more slot) (sym (get_or-set_other clocks i slot clock zero_clock other)) (λ body agrees are. old slot (omega arith) body (stays body agrees) are))

-- ---- words loaded together

-- Words that were loaded from a slot at the same time represent a clock of the slot.
pub sample_words : (plan : PlanView) (slot k : ℕ) (loaded : List (ℕ × ℕ)) (words : List ℕ) → slot < length plan.parents → StoodTogether plan k loaded → WereLoaded loaded (9 * slot) 9 words → length words ≡ 9 → AreClock plan slot k words
sample_words plan slot k loaded words below stood were wide = let all = stood.1.wide in
    subst (AreClock plan slot k) (sym (slot_was loaded slot words stood.0 were wide (omega (arith, all, below)) stood.2)) (stood.1.each slot below)

-- A clock whose words represent a clock of a slot is a clock of this slot.
pub same_words : (plan : PlanView) (slot k : ℕ) (words : List ℕ) (clock : ClockView) → AreClock plan slot k words → words_of clock ≡ words → IsClock clock plan slot k
same_words plan slot k words clock are is = subst (λ (c : ClockView). IsClock c plan slot k) (sym (words_show_clock clock are.0 (is ∙ are.1))) are.2

pub all_sampled : (plan : PlanView) (k : ℕ) (loaded : List (ℕ × ℕ)) (clocks : List ClockView) → length clocks ≡ length plan.parents → StoodTogether plan k loaded → ClocksWereLoaded loaded (length clocks) clocks
    → (slot : ℕ) → slot < length plan.parents → IsClock (get_or clocks slot zero_clock) plan slot k
all_sampled plan k loaded clocks wide stood were slot below =
    let are = stood.1.each slot below in
    same_words plan slot k (words_at stood.0 slot) (get_or clocks slot zero_clock) are (were slot (omega (arith, wide, below)) stood.0 stood.2 (clock_words plan slot k (words_at stood.0 slot) are))
