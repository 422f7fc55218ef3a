use Rattle.std.proofs.Common.{◌≡◌, ap, sym, ◌∙◌, rules, ℕ, List, map}
use Rattle.std.specs.Map.{values_of}
use Rattle.group_tree.specs.Tree.{slot_at}
use Rattle.group_tree.proofs.Ordered.{slots_of}
use Rattle.group_tree.proofs.order.live_order.Goals as goal

pub returns : goal.returns
returns c =
    let items : c.in_ok-collect.field-0.items ≡ values_of c.in_ok-groups.groups.entries = search rules in
    items ∙ sym (slots_of c.in_ok-groups.groups.entries) ∙ ap (map (λ (pair : List ℕ × ℕ). slot_at pair.1)) c.in_ok-groups.ensures
