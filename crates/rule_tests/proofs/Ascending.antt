-- A group whose path comes after the last one's comes after all.
use Rattle.std.proofs.Common.{◌≡◌, suc, ◌-◌, List, [], ◌∷◌, ◌++◌, length, get_or, refl, ap, subst, ◌∙◌, arith}
use Rattle.std.specs.Prelude.{map, true}
use Rattle.std.specs.Ordering.{is_lt}
use Rattle.std.specs.declared.cmp.Ordering.{Ordering}
use Rattle.std.specs.declared.cmp.Ordering.TheVariants.{Less, Equal, Greater}
use Rattle.psi_spec.specs.declared.machine.GroupLife.{GroupLife}
use Rattle.kill_spec.specs.declared.reading.GroupReading.{GroupReading}
use Rattle.kill_spec.specs.Readings.{path_of}
use Rattle.kill_spec.specs.LegalReadings.{Ascend, ComesBefore}

pub less : (order : Ordering) → is_lt order ≡ true → order ≡ Less
less Less is = refl
less Equal is = cc
less Greater is = cc

pub ascend_more : (lives : List GroupLife) (groups : List GroupReading) (last group : GroupReading) →
    Ascend (map (path_of lives) groups) → last ≡ get_or groups (length groups - 1) last →
    ComesBefore (path_of lives last) (path_of lives group) → Ascend (map (path_of lives) (groups ++ group ∷ []))
ascend_more lives [] last group order is before = tt
ascend_more lives (only ∷ []) last group order is before =
    let P : GroupReading → Type 0 = λ g. ComesBefore (path_of lives g) (path_of lives group) in
    (subst P is before, tt)
ascend_more lives (first ∷ second ∷ groups) last group order is before =
    let place : length (first ∷ second ∷ groups) - 1 ≡ suc (length (second ∷ groups) - 1) = omega arith in
    let same : last ≡ get_or (second ∷ groups) (length (second ∷ groups) - 1) last =
    is ∙ ap (λ i. get_or (first ∷ second ∷ groups) i last) place in
    (order.0, ascend_more lives (second ∷ groups) last group order.1 same before)
