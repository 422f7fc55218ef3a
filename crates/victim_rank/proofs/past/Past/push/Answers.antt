use Rattle.std.proofs.Common.{◌≡◌, length, refl, rules, subst, sym}
use Rattle.std.specs.Vec.{with_items}
use Rattle.std.proofs.lemmas.List.{with_items_is}
use Rattle.victim_rank.specs.Pasts.{PastTakes, kept_of}
use Rattle.victim_rank.proofs.Places.{one_reading_more}
use Rattle.victim_rank.proofs.past.Past.push.Goals as goal

pub returns-clause-next : goal.returns-clause-next
returns-clause-next c =
    let now = c.args.reading.now.seen in
    let before = kept_of c.self.inside.sizes.items c.self.inside.scans.items in
    let after = kept_of c.take_sizes.new.sizes c.take_scans.new.scans in
    let sizes_len : length c.take_sizes.new.sizes ≡ c.self.inside.sizes.len = search rules in
    let scans_len : length c.take_scans.new.scans ≡ c.self.inside.scans.len = search rules in
    let written : kept_of (with_items c.self.inside.sizes c.take_sizes.new.sizes).items
    (with_items c.self.inside.scans c.take_scans.new.scans).items ≡ after =
    rw (
      with_items_is c.self.inside.sizes c.take_sizes.new.sizes sizes_len,
      with_items_is c.self.inside.scans c.take_scans.new.scans scans_len,
    ) refl in
    let sizes = rw c.deref_mut.ensures.value at c.take_sizes.ensures.sizes in
    subst (λ new. PastTakes c.args.self.now now new) (sym written)
    (subst (λ old. PastTakes old now after) c.self.view_is
    (one_reading_more before after now sizes c.take_scans.ensures))
