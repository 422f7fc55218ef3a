use Rattle.std.proofs.Common.{◌≡◌, ◌∙◌, ◌↔◌, ℕ, Err, Some, ap, rules, sym, subst}
use Rattle.observer_log.specs.Journal.{IsBefore, IsGood}
use Rattle.observer_log.specs.declared.journal.AddFault.TheVariants.{Falls}
use Rattle.observer_log.specs.declared.journal.Fall.{Fall}
use Rattle.observer_log.proofs.CountLaws.{good_push}
use Rattle.observer_log.proofs.journal.Journal.add.Goals as goal

pub invariant_of-self : goal.invariant_of-self
invariant_of-self g c = (subst IsGood (sym c.in-Ok.ensures.items) (good_push c.self.inside.entries.items c.args.entry c.self.invariant.0 (search rules)), search rules)

-- The reason for a rejection, with `last` as the last count.
abbrev fall : ℕ → Fall
fall last = record { last = last }

pub returns-in-Some-clause-falls : goal.returns-in-Some-clause-falls
returns-in-Some-clause-falls g c =
    let is = c.in-Some.is in
    subst (λ entries. (last : ℕ) → (Err (Falls (fall c.in-Some.last)) ≡ Err (Falls (fall last))) ↔ IsBefore entries c.args.entry last) (search rules)
    (λ last.
    let falls = c.greater_last.ensures.falls last in (
      (λ e. falls.0 (is ∙ ap Some (let same : fall c.in-Some.last ≡ fall last = cc e in ap (λ (f : Fall). f.last) same))),
      (λ before. let same : Some c.in-Some.last ≡ Some last = sym is ∙ falls.1 before in let last_is : c.in-Some.last ≡ last = cc same in ap (λ (n : ℕ). Err (Falls (fall n))) last_is),
    ))
