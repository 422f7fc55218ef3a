use Rattle.std.proofs.Common.{◌≡◌, ◌<◌, ◌∙◌, refl, sym, false, length, arith}
use Rattle.std.specs.HashMap.{get_by_text}
use Rattle.std.proofs.lemmas.Grind.{common_steps}
use Rattle.std.proofs.lemmas.Option.{slice_get_read}
use Rattle.psi_spec.specs.World.{is_root, slot_of}
use Rattle.group_tree.proofs.Changes as changes
use Rattle.group_tree.proofs.tree.Tree.switch.Goals as goal

pub index_mut-life-requires : goal.index_mut-life-requires
index_mut-life-requires c =
    let found = rw (← c.self.view_is) at (changes.slot_back (slot_of c.args.self.now c.args.path.now) c.find.result c.find.ensures c.in-Some-find.slot c.in-Some-find.is) in
    let room : c.in-Some-find.slot.0 < length c.self.inside.lives.items = changes.found_made c.self.inside.lives.items c.args.path.now c.in-Some-find.slot.0 found in
    grind (arith, common_steps)

pub returns-clause-groups : goal.returns-clause-groups
returns-clause-groups c =
    let found = rw (← c.self.view_is) at (changes.slot_back (slot_of c.args.self.now c.args.path.now) c.find.result c.find.ensures c.in-Some-find.slot c.in-Some-find.is) in
    let room = changes.found_made c.self.inside.lives.items c.args.path.now c.in-Some-find.slot.0 found in
    let got = slice_get_read c.self.inside.lives.items (length c.self.inside.lives.items) c.in-Some-find.slot.0 c.index_mut-life.result.now refl room c.index_mut-life.ensures.value in
    rw (← c.self.view_is) (changes.switched_is c.self.inside.lives.items c.args.path.now c.args.on c.in-Some-find.slot.0 c.index_mut-life.result.now c.self.invariant.legal.one_live found got)

pub invariant_of-self : goal.invariant_of-self
invariant_of-self c =
    let found = rw (← c.self.view_is) at (changes.slot_back (slot_of c.args.self.now c.args.path.now) c.find.result c.find.ensures c.in-Some-find.slot c.in-Some-find.is) in
    let room = changes.found_made c.self.inside.lives.items c.args.path.now c.in-Some-find.slot.0 found in
    let got = slice_get_read c.self.inside.lives.items (length c.self.inside.lives.items) c.in-Some-find.slot.0 c.index_mut-life.result.now refl room c.index_mut-life.ensures.value in
    let other : is_root c.args.path.now ≡ false = changes.not_root c.args.self.now c.args.path.now (sym c.pressure_cause.ensures ∙ c.in_default.is) in
    rw (changes.switched_is c.self.inside.lives.items c.args.path.now c.args.on c.in-Some-find.slot.0 c.index_mut-life.result.now c.self.invariant.legal.one_live found got)
    (changes.tree_switched c.self.inside.lives.items c.args.path.now c.args.on (get_by_text c.self.inside.slots) c.self.inside.children.items c.self.invariant other)
