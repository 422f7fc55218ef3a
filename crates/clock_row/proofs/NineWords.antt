-- Lemmas about the nine words of a slot within the words of all slots.
use Rattle.std.proofs.Common.{◌≡◌, ℕ, add-one, ◌+◌, ◌-◌, ◌*◌, ◌<◌, ◌≤◌, ◌⊎◌, List, [], ◌∷◌, ◌++◌, get_or, get_or-set_same, set, length, take, drop, replicate, refl, sym, ap, ◌∙◌, inl, inr, ⊎_elim, arith, length-take, length-drop, length-set, length-append, bit_and, ◌%◌}
use Rattle.std.proofs.lemmas.Nat.{and_mask}
use lib.Seq.{set-get_or}
use Rattle.std.proofs.lemmas.List.{drop-replicate, ext_get_or, get_or-drop, get_or-take, length-replicate, take-replicate}
use Rattle.psi_counts.specs.Clock.{AreWordsOfClock, ClockView, IsWholeClock, words_of, zero_clock}
use Rattle.plan_laws.specs.Plan.{IsClock, PlanView}
use Rattle.psi_counts.proofs.MaskLaws.{masks_are_their_states}
use Rattle.plan_laws.proofs.PlanClocks.{zero_is_clock}
use Rattle.clock_row.specs.Words.{AreClock, AreClockWords, ArePut, mask_at, words_at}

-- ---- words at a place

-- A list that equals nine words at each index equals these nine words.
pub words_are : (n from : ℕ) (xs body : List ℕ) → length xs ≡ n → from + n ≤ length body → ((i : ℕ) → i < n → get_or xs i 0 ≡ get_or body (from + i) 0) → xs ≡ take n (drop from body)
words_are n from xs body wide room each = let a = length-take n (drop from body) in let b = length-drop from body in
    ext_get_or 0 xs (take n (drop from body)) (omega arith) (λ i l. each i (omega arith) ∙ sym (get_or-take n (drop from body) i 0 (omega arith) ∙ get_or-drop from body i 0))

pub put_there : (n from : ℕ) (xs before after : List ℕ) → ArePut from n xs before after → length xs ≡ n → from + n ≤ length before → xs ≡ take n (drop from after)
put_there n from xs before after p wide room = let same = p.wide in words_are n from xs after wide (omega arith) (λ i l. sym (p.inside i l))

pub put_elsewhere : (n from a : ℕ) (xs before after : List ℕ) → ArePut from n xs before after → (a + n ≤ from) ⊎ (from + n ≤ a) → a + n ≤ length before → take n (drop a after) ≡ take n (drop a before)
put_elsewhere n from a xs before after p apart room = let same = p.wide in let wide = length-take n (drop a before) in let wide' = length-drop a before in
    sym (words_are n a (take n (drop a before)) after (omega arith) (omega arith)
    (λ i l. get_or-take n (drop a before) i 0 l ∙ (get_or-drop a before i 0 ∙ sym (p.outside (a + i) (⊎_elim (λ (t : a + n ≤ from). inl (omega arith)) (λ (t : from + n ≤ a). inr (omega arith)) apart)))))

-- ---- a clock's words

-- The word after the seven times is the mask.
mask_after : (times : List ℕ) (mask start : ℕ) → length times ≡ 7 → get_or (times ++ mask ∷ start ∷ []) 7 0 ≡ mask
mask_after (a ∷ b ∷ c ∷ d ∷ e ∷ f ∷ g ∷ []) mask start seven = refl
mask_after [] mask start seven = absurd (omega (arith, seven))
mask_after (a ∷ []) mask start seven = absurd (omega (arith, seven))
mask_after (a ∷ b ∷ []) mask start seven = absurd (omega (arith, seven))
mask_after (a ∷ b ∷ c ∷ []) mask start seven = absurd (omega (arith, seven))
mask_after (a ∷ b ∷ c ∷ d ∷ []) mask start seven = absurd (omega (arith, seven))
mask_after (a ∷ b ∷ c ∷ d ∷ e ∷ []) mask start seven = absurd (omega (arith, seven))
mask_after (a ∷ b ∷ c ∷ d ∷ e ∷ f ∷ []) mask start seven = absurd (omega (arith, seven))
mask_after (a ∷ b ∷ c ∷ d ∷ e ∷ f ∷ g ∷ h ∷ more) mask start seven = absurd (omega (arith, seven))

-- The mask of a slot is the word with index 7 of the slot's nine words.
mask_in : (body : List ℕ) (slot : ℕ) → mask_at body slot ≡ get_or (words_at body slot) 7 0
mask_in body slot = sym (get_or-drop (9 * slot) body 7 0) ∙ sym (get_or-take 9 (drop (9 * slot) body) 7 0 (omega arith))

pub mask_is : (body : List ℕ) (slot : ℕ) (clock : ClockView) → words_at body slot ≡ words_of clock → IsWholeClock clock → mask_at body slot ≡ clock.mask
mask_is body slot clock are whole = mask_in body slot ∙ (ap (λ (words : List ℕ). get_or words 7 0) are ∙ mask_after clock.times clock.mask clock.start whole.times)

-- Slots with the same nine words have the same mask.
pub masks_same : (one other : List ℕ) (slot : ℕ) → words_at one slot ≡ words_at other slot → mask_at one slot ≡ mask_at other slot
masks_same one other slot same = mask_in one slot ∙ (ap (λ (words : List ℕ). get_or words 7 0) same ∙ sym (mask_in other slot))

-- Two clocks of a slot after the same changes have the same mask.
pub same_mask : (one other : ClockView) (plan : PlanView) (slot k : ℕ) → IsClock one plan slot k → IsClock other plan slot k → one.mask ≡ other.mask
same_mask one other plan slot k a b = masks_are_their_states one.mask other.mask a.whole.mask b.whole.mask (λ state. a.mask state ∙ sym (b.mask state))

-- Words that represent a clock of a slot are the words of a clock.
pub clock_words : (plan : PlanView) (slot k : ℕ) (words : List ℕ) → AreClock plan slot k words → AreWordsOfClock words
clock_words plan slot k words are = (are.0, are.1, are.2.whole)

-- Before the first change, zeros represent the clock of each slot.
pub zeros_are : (plan : PlanView) → AreClockWords plan 0 (replicate (9 * length plan.parents) 0)
zeros_are plan = record {
  wide = length-replicate (9 * length plan.parents) 0;
  each = λ slot below. let n = length plan.parents in
      (zero_clock, ap (take 9) (drop-replicate (9 * slot) (9 * n) 0) ∙ take-replicate 9 (9 * n - 9 * slot) 0 (omega arith), zero_is_clock plan slot);
}

-- ---- any nine words with a small mask

-- Nine words whose mask is less than 128 are the words of a clock.
pub whole_words : (words : List ℕ) → length words ≡ 9 → get_or words 7 0 < 128 → AreWordsOfClock words
whole_words (a ∷ b ∷ c ∷ d ∷ e ∷ f ∷ g ∷ mask ∷ start ∷ []) nine small = (record { times = a ∷ b ∷ c ∷ d ∷ e ∷ f ∷ g ∷ []; mask = mask; start = start }, refl, record { times = refl; mask = small })
whole_words [] nine small = absurd (omega (arith, nine))
whole_words (a ∷ []) nine small = absurd (omega (arith, nine))
whole_words (a ∷ b ∷ []) nine small = absurd (omega (arith, nine))
whole_words (a ∷ b ∷ c ∷ []) nine small = absurd (omega (arith, nine))
whole_words (a ∷ b ∷ c ∷ d ∷ []) nine small = absurd (omega (arith, nine))
whole_words (a ∷ b ∷ c ∷ d ∷ e ∷ []) nine small = absurd (omega (arith, nine))
whole_words (a ∷ b ∷ c ∷ d ∷ e ∷ f ∷ []) nine small = absurd (omega (arith, nine))
whole_words (a ∷ b ∷ c ∷ d ∷ e ∷ f ∷ g ∷ []) nine small = absurd (omega (arith, nine))
whole_words (a ∷ b ∷ c ∷ d ∷ e ∷ f ∷ g ∷ h ∷ []) nine small = absurd (omega (arith, nine))
whole_words (a ∷ b ∷ c ∷ d ∷ e ∷ f ∷ g ∷ h ∷ i ∷ j ∷ more) nine small = absurd (omega (arith, nine))

-- The lower seven bits of a word are its remainder modulo 128.
small_bits : (n : ℕ) → bit_and n 127 ≡ n % 128
small_bits n = and_mask n 7

pub masked_whole : (words : List ℕ) → length words ≡ 9 → AreWordsOfClock (set words 7 (bit_and (get_or words 7 0) 127))
masked_whole words nine = whole_words (set words 7 (bit_and (get_or words 7 0) 127)) (length-set words 7 (bit_and (get_or words 7 0) 127) ∙ nine)
    (let here : get_or (set words 7 (bit_and (get_or words 7 0) 127)) 7 0 ≡ bit_and (get_or words 7 0) 127 = get_or-set_same words 7 (bit_and (get_or words 7 0) 127) 0 (omega (arith, nine)) in
    let bits = small_bits (get_or words 7 0) in omega (arith, here, bits))

-- The mask of a clock has no other bits than the lower seven.
pub masked_same : (words : List ℕ) → AreWordsOfClock words → set words 7 (bit_and (get_or words 7 0) 127) ≡ words
masked_same words are =
    let mask : get_or words 7 0 ≡ are.0.mask = ap (λ (ws : List ℕ). get_or ws 7 0) are.1 ∙ mask_after are.0.times are.0.mask are.0.start are.2.times in
    let small : get_or words 7 0 < 128 = omega (arith, mask, are.2.mask) in
    let bits = small_bits (get_or words 7 0) in
    let same : bit_and (get_or words 7 0) 127 ≡ get_or words 7 0 = omega (arith, bits, small) in
    ap (set words 7) same ∙ set-get_or words 7 0

pub nine_words : (words : List ℕ) → AreWordsOfClock words → length words ≡ 9
nine_words words are = let suffix = length-append are.0.times (are.0.mask ∷ are.0.start ∷ []) in ap length are.1 ∙ omega (arith, suffix, are.2.times)

pub nine_of : (clock : ClockView) → IsWholeClock clock → length (words_of clock) ≡ 9
nine_of clock whole = nine_words (words_of clock) (clock, refl, whole)

-- The words of a new row are the sequence number and nine words for each slot, all zero.
pub row_of_zeros : (slots n : ℕ) → slots ≡ n → ◌≡◌ {A = List ℕ} (0 ∷ replicate (9 * n) 0) (replicate (9 * slots + 1) 0)
row_of_zeros slots n same = rw add-one (ap (λ (k : ℕ). 0 ∷ replicate (9 * k) 0) (sym same))

pub row_long : (slots n : ℕ) (words : List ℕ) → slots ≡ n → words ≡ replicate (9 * slots + 1) 0 → length words ≡ 9 * n + 1
row_long slots n words same are = ap length are ∙ (length-replicate (9 * slots + 1) 0 ∙ ap (λ (k : ℕ). 9 * k + 1) same)
