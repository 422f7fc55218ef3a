-- Proofs about the samples and tries of a reader, as they are appended to lists.
use Rattle.std.proofs.Common.{◌≡◌, ℕ, ◌+◌, ◌-◌, ◌<◌, ◌≤◌, List, [], ◌∷◌, ◌++◌, length, get_or, refl, sym, ap, ◌∙◌, subst, inl, inr, ⊎_elim, arith, append_assoc}
use Rattle.std.specs.List.{All}
use Rattle.std.proofs.lemmas.List.{append-nil, map-append}
use Rattle.plan_laws.specs.Plan.{IsClock, PlanView}
use Rattle.psi_spec.specs.Changes.{RiseWithin}
use Rattle.clock_row.specs.declared.reader.Sample.{Sample}
use Rattle.clock_row.specs.declared.view.ReaderView.{ReaderView}
use Rattle.clock_row.specs.Tries.{IsTried, Tried}
use Rattle.replay_workers.specs.Crew.{counts_sampled}
use Rattle.replay_workers.proofs.Steps.{each_more}

-- ---- numbers

-- Numbers that never decrease, start at or above `low` and end at `last`.
abbrev pub Rises : ℕ → List ℕ → ℕ → Type 0
Rises low [] last = low ≡ last
Rises low (number ∷ numbers) last = (low ≤ number) × Rises number numbers last

rises_next : (low last number : ℕ) (numbers : List ℕ) → Rises low numbers last → last ≤ number → Rises low (numbers ++ number ∷ []) number
rises_next low last number [] rises later = (omega (arith, rises, later), refl)
rises_next low last number (one ∷ more) rises later = (rises.0, rises_next one last number more rises.1 later)

-- Rising numbers lie within their bounds.
pub rises_within : (low last : ℕ) (numbers : List ℕ) → Rises low numbers last → RiseWithin low numbers last
rises_within low last [] rises = omega (arith, rises)
rises_within low last (one ∷ more) rises = (rises.0, rises_within one last more rises.1)

-- Rising numbers lie within wider bounds, too.
pub rise_wider : (low high higher : ℕ) (numbers : List ℕ) → high ≤ higher → RiseWithin low numbers high → RiseWithin low numbers higher
rise_wider low high higher [] above rise = omega (arith, above, rise)
rise_wider low high higher (one ∷ more) above rise = (rise.0, rise_wider one high higher more above rise.1)

-- ---- tries

-- Further tries that met a change don't change the samples.
tried_more : (counts : List ℕ) (last : ℕ) (got : List ℕ) (met more : ℕ) → Tried counts last got met → Tried counts last got (met + more)
tried_more [] last got met more tried = tried
tried_more (count ∷ counts) last got met more tried =
    ⊎_elim
    (λ (gave : (rest : List ℕ) × (got ≡ count ∷ rest) × Tried counts count rest met). inl (gave.0, gave.1, tried_more counts count gave.0 met more gave.2))
    (λ (again : (count ≡ last) × (8 ≤ met) × Tried counts last got (met - 8)).
    let eight : 8 ≤ met = again.1 in
    let less : (met - 8) + more ≡ (met + more) - 8 = omega arith in
    inr (again.0, omega arith, subst (Tried counts last got) less (tried_more counts last got (met - 8) more again.2)))
    tried

tried_next : (counts : List ℕ) (low last count : ℕ) (got got_now : List ℕ) (met met_now : ℕ) → Rises low counts last → Tried counts low got met → Tried (count ∷ []) last got_now met_now → Tried (counts ++ count ∷ []) low (got ++ got_now) (met + met_now)
tried_next [] low last count got got_now met met_now rises before one =
    let here : Tried (count ∷ []) low got_now met_now = subst (λ (number : ℕ). Tried (count ∷ []) number got_now met_now) (sym rises) one in
    let more : Tried (count ∷ []) low got_now (met_now + met) = tried_more (count ∷ []) low got_now met_now met here in
    let gots : got_now ≡ got ++ got_now = ap (λ (list : List ℕ). list ++ got_now) (sym before) in
    let sums : met_now + met ≡ met + met_now = omega arith in
    subst (λ (both : List ℕ × ℕ). Tried (count ∷ []) low both.0 both.1) (λ i. (gots i, sums i)) more
tried_next (first ∷ counts) low last count got got_now met met_now rises before one =
    ⊎_elim
    (λ (gave : (rest : List ℕ) × (got ≡ first ∷ rest) × Tried counts first rest met).
    inl (gave.0 ++ got_now, ap (λ (list : List ℕ). list ++ got_now) gave.1, tried_next counts first last count gave.0 got_now met met_now rises.1 gave.2 one))
    (λ (again : (first ≡ low) × (8 ≤ met) × Tried counts low got (met - 8)).
    let eight : 8 ≤ met = again.1 in
    let sums : (met - 8) + met_now ≡ (met + met_now) - 8 = omega arith in
    inr (again.0, omega arith, subst (Tried (counts ++ count ∷ []) low (got ++ got_now)) sums (tried_next counts low last count got got_now (met - 8) met_now (subst (λ (number : ℕ). Rises number counts last) again.0 rises.1) again.2 one)))
    before

is_tried_next : (counts : List ℕ) (low last count : ℕ) (start before after : ReaderView) → Rises low counts last → IsTried counts low start before → IsTried (count ∷ []) last before after → IsTried (counts ++ count ∷ []) low start after
is_tried_next counts low last count start before after rises all one = (
  all.0 ++ one.0,
  all.1 + one.1,
  one.2 ∙ (ap (λ (list : List ℕ). list ++ one.0) all.2 ∙ append_assoc start.got all.0 one.0),
  (let first = all.3 in let then = one.3 in omega arith),
  tried_next counts low last count all.0 one.0 all.1 one.1 rises all.4 one.4,
)

-- A reader that makes no try takes no sample.
pub none_tried : (low : ℕ) (reader : ReaderView) → IsTried [] low reader reader
none_tried low reader = ([], 0, sym (append-nil reader.got), omega arith, refl)

-- Tries count from the same totals, whether they are compared with `old` or with `before`.
pub tried_since : (counts : List ℕ) (low : ℕ) (old before after : ReaderView) → before.got ≡ old.got → before.met ≡ old.met → IsTried counts low before after → IsTried counts low old after
tried_since counts low old before after got met tried = (
  tried.0,
  tried.1,
  tried.2 ∙ ap (λ (list : List ℕ). list ++ tried.0) got,
  tried.3 ∙ ap (λ (number : ℕ). number + tried.1) met,
  tried.4,
)

-- ---- samples

counts_next : (samples : List Sample) (sample : Sample) → counts_sampled (samples ++ sample ∷ []) ≡ counts_sampled samples ++ sample.count ∷ []
counts_next samples sample = map-append (λ (s : Sample). s.count) samples (sample ∷ [])

pub no_rise : (low last : ℕ) (samples : List Sample) → samples ≡ [] → low ≡ last → Rises low (counts_sampled samples) last
no_rise low last samples none same = subst (λ (list : List Sample). Rises low (counts_sampled list) last) (sym none) same

pub no_tries : (low : ℕ) (samples : List Sample) (reader : ReaderView) → samples ≡ [] → IsTried (counts_sampled samples) low reader reader
no_tries low samples reader none = subst (λ (list : List Sample). IsTried (counts_sampled list) low reader reader) (sym none) (none_tried low reader)

pub no_clocks : (plan : PlanView) (slot : ℕ) (samples : List Sample) → samples ≡ [] → All (λ (sample : Sample). IsClock sample.clock plan slot sample.count) samples
no_clocks plan slot samples none = λ k d below. absurd (let many = ap length none in let no : ⊥ = omega (arith, below, many) in no)

pub rises_grown : (low last seen : ℕ) (samples grown : List Sample) (sample : Sample) → grown ≡ samples ++ sample ∷ [] → Rises low (counts_sampled samples) last → last ≤ sample.count → seen ≡ sample.count → Rises low (counts_sampled grown) seen
rises_grown low last seen samples grown sample is rises later same =
    subst (λ (list : List Sample). Rises low (counts_sampled list) seen) (sym is)
    (subst (λ (number : ℕ). Rises low (counts_sampled (samples ++ sample ∷ [])) number) (sym same)
    (subst (λ (list : List ℕ). Rises low list sample.count) (sym (counts_next samples sample)) (rises_next low last sample.count (counts_sampled samples) rises later)))

pub tried_grown : (low last : ℕ) (samples grown : List Sample) (sample : Sample) (start before after : ReaderView) → grown ≡ samples ++ sample ∷ [] → Rises low (counts_sampled samples) last → IsTried (counts_sampled samples) low start before → IsTried (sample.count ∷ []) last before after
    → IsTried (counts_sampled grown) low start after
tried_grown low last samples grown sample start before after is rises all one =
    subst (λ (list : List Sample). IsTried (counts_sampled list) low start after) (sym is)
    (subst (λ (list : List ℕ). IsTried list low start after) (sym (counts_next samples sample)) (is_tried_next (counts_sampled samples) low last sample.count start before after rises all one))

pub clocks_grown : (plan : PlanView) (slot : ℕ) (samples grown : List Sample) (sample : Sample) → grown ≡ samples ++ sample ∷ [] → IsClock sample.clock plan slot sample.count → All (λ (s : Sample). IsClock s.clock plan slot s.count) samples
    → All (λ (s : Sample). IsClock s.clock plan slot s.count) grown
clocks_grown plan slot samples grown sample is clock all = λ k d below.
    subst (λ (list : List Sample). IsClock (get_or list k d).clock plan slot (get_or list k d).count) (sym is)
    (each_more (λ n (s : Sample). IsClock s.clock plan slot s.count) samples sample d (λ n inside. all n d inside) clock k (subst (λ (list : List Sample). k < length list) is below))
