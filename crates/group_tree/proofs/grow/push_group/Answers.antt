use Rattle.std.proofs.Common.{◌≡◌, refl, ap, ◌∙◌, length, arith}
use Rattle.std.specs.Prelude.{Some, string_bytes}
use Rattle.std.specs.HashMap.{get_by_text}
use Rattle.std.proofs.lemmas.Grind.{common_steps}
use Rattle.std.proofs.lemmas.Map.Text.{hash_map_updates_text}
use Rattle.group_tree.proofs.Changes as changes
use Rattle.group_tree.proofs.grow.push_group.Goals as goal

pub count_child-requires-clause-made : goal.count_child-requires-clause-made
count_child-requires-clause-made c =
    rw (c.deref_mut.ensures.value, c.reserve-2.ensures.items) (changes.parent_counted c.args.lives.now.items c.args.life (get_by_text c.args.slots.now) c.args.children.now.items c.requires.tree c.requires.legal c.args.life.parent refl)

pub count_child-requires-clause-few : goal.count_child-requires-clause-few
count_child-requires-clause-few c =
    rw (c.deref_mut.ensures.value, c.reserve-2.ensures.items) (changes.counts_few c.args.lives.now.items (get_by_text c.args.slots.now) c.args.children.now.items c.requires.tree c.args.life.parent)

pub returns-clause-tree : goal.returns-clause-tree
returns-clause-tree c =
    let number : c.len.result ≡ length c.args.lives.now.items = grind (arith, common_steps) in
    let whole = changes.written c.reserve-2.new.self.len c.reserve-2.new.self.items c.count_child.new.children (c.count_child.ensures.len ∙ ap length c.deref_mut.ensures.value) (grind (arith, common_steps)) in
    rw (c.in-Ok-push.ensures.items, c.reserve.ensures.items, c.in-Ok.ensures.items, whole)
    (changes.tree_more c.args.lives.now.items c.args.life (get_by_text c.args.slots.now) (get_by_text c.insert.new.self) (record { 0 = c.len.result }) c.args.children.now.items c.count_child.new.children
    c.requires.tree c.requires.legal c.requires.live number
    (λ path. rw (← c.requires.text) (hash_map_updates_text (string_bytes c.args.text) c.args.slots.now c.insert.new.self (Some (record { 0 = c.len.result })) c.in_ok-insert.ensures.updates path))
    (c.count_child.ensures.len ∙ ap length c.deref_mut.ensures.value ∙ ap length c.reserve-2.ensures.items)
    (λ n. rw (← c.reserve-2.ensures.items, ← c.deref_mut.ensures.value) (c.count_child.ensures.each n)))
