use Rattle.std.proofs.Common.{◌≡◌, slice_set, ◌∷◌, [], ◌++◌, ℕ, ◌∙◌, ap}
use Rattle.psi_counts.specs.Clock.{words_of}
use Rattle.psi_counts.specs.Counts.{IsMask}
use Rattle.cpu_clock.proofs.Placed.{two_placed}
use Rattle.cpu_clock.proofs.clock.Clock.to_words.Goals as goal

pub returns-clause-of_clock : goal.returns-clause-of_clock
returns-clause-of_clock c =
    let placed : slice_set (slice_set (c.self.inside.times ++ 0 ∷ 0 ∷ []) 7 c.from.result) 8 c.self.inside.start ≡ c.self.inside.times ++ c.from.result ∷ c.self.inside.start ∷ [] = two_placed c.self.inside.times c.from.result c.self.inside.start c.self.invariant in
    let words : slice_set (slice_set (c.copy_from_slice.new.self ++ 0 ∷ 0 ∷ []) 7 c.from.result) 8 c.self.inside.start ≡ words_of c.args.self.now =
    rw (c.copy_from_slice.ensures.after, ← c.self.view_is) (placed ∙ ap (λ (mask : ℕ). c.self.inside.times ++ mask ∷ c.self.inside.start ∷ []) (c.from.ensures ∙ c.bits.ensures.value)) in
    let mask : IsMask c.args.self.now.mask = rw (← c.self.view_is, ← c.bits.ensures.value) c.bits.ensures.few in
    (c.args.self.now, words, record { times = rw (← c.self.view_is) c.self.invariant; mask = mask })
