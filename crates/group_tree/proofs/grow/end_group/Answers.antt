use Rattle.std.proofs.Common.{◌<◌, refl, ap, ◌∙◌, None, length, arith}
use Rattle.std.specs.HashMap.{get_by_text}
use Rattle.std.proofs.lemmas.Grind.{common_steps}
use Rattle.std.proofs.lemmas.Option.{slice_get_read}
use Rattle.std.proofs.lemmas.Map.Text.{hash_map_updates_text}
use Rattle.group_tree.proofs.Changes as changes
use Rattle.group_tree.proofs.grow.end_group.Goals as goal

pub index_mut-life-requires : goal.index_mut-life-requires
index_mut-life-requires c =
    let room : c.args.slot.0 < length c.args.lives.now.items = changes.found_made c.args.lives.now.items c.args.path.now c.args.slot.0 c.requires.found in
    grind (arith, common_steps)

pub uncount_child-requires-clause-some : goal.uncount_child-requires-clause-some
uncount_child-requires-clause-some c =
    let room = changes.found_made c.args.lives.now.items c.args.path.now c.args.slot.0 c.requires.found in
    let got = slice_get_read c.args.lives.now.items (length c.args.lives.now.items) c.args.slot.0 c.index_mut-life.result.now refl room c.index_mut-life.ensures.value in
    rw c.deref_mut.ensures.value (changes.some_counted c.args.lives.now.items c.args.path.now c.args.slot.0 c.index_mut-life.result.now (get_by_text c.args.slots.now) c.args.children.now.items c.requires.tree c.requires.found got _ refl)

pub uncount_child-requires-clause-made : goal.uncount_child-requires-clause-made
uncount_child-requires-clause-made c = changes.inside_if c.deref_mut.result.now c.index_mut-life.result.now.parent (uncount_child-requires-clause-some c)

pub returns-clause-lives : goal.returns-clause-lives
returns-clause-lives c =
    let room = changes.found_made c.args.lives.now.items c.args.path.now c.args.slot.0 c.requires.found in
    let got = slice_get_read c.args.lives.now.items (length c.args.lives.now.items) c.args.slot.0 c.index_mut-life.result.now refl room c.index_mut-life.ensures.value in
    changes.ended_is c.args.lives.now.items c.args.path.now c.args.at c.args.slot.0 c.index_mut-life.result.now c.requires.tree.legal.one_live c.requires.found got

pub returns-clause-tree : goal.returns-clause-tree
returns-clause-tree c =
    let room = changes.found_made c.args.lives.now.items c.args.path.now c.args.slot.0 c.requires.found in
    let got = slice_get_read c.args.lives.now.items (length c.args.lives.now.items) c.args.slot.0 c.index_mut-life.result.now refl room c.index_mut-life.ensures.value in
    let whole = changes.written c.args.children.now.len c.args.children.now.items c.uncount_child.new.children (c.uncount_child.ensures.len ∙ ap length c.deref_mut.ensures.value) (grind (arith, common_steps)) in
    rw (changes.ended_is c.args.lives.now.items c.args.path.now c.args.at c.args.slot.0 c.index_mut-life.result.now c.requires.tree.legal.one_live c.requires.found got, whole)
    (changes.tree_less c.args.lives.now.items c.args.path.now c.args.at c.args.slot c.index_mut-life.result.now (get_by_text c.args.slots.now) (get_by_text c.remove.new.self) c.args.children.now.items c.uncount_child.new.children
    c.requires.tree c.requires.found c.requires.other got
    (λ other. rw (← c.text.ensures.text) (hash_map_updates_text c.text.result.now c.args.slots.now c.remove.new.self None c.remove.ensures.updates other))
    (c.uncount_child.ensures.len ∙ ap length c.deref_mut.ensures.value)
    (λ n. rw (← c.deref_mut.ensures.value) (c.uncount_child.ensures.each n)))
