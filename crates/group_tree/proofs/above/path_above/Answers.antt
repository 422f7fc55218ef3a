use Rattle.std.proofs.Common.{sym, subst, ap, ◌∙◌}
use Rattle.std.specs.Str.{IsUtf8}
use Rattle.std.proofs.lemmas.Str.{IsUtf8-from_ascii}
use Rattle.psi_spec.specs.World.{parent_path}
use Rattle.group_tree.proofs.Slashes.{above_ascii}
use Rattle.group_tree.proofs.above.path_above.Goals as goal

pub unreachable-requires : goal.unreachable-requires
unreachable-requires c =
    let is = c.parent_bytes.ensures ∙ ap parent_path c.as_bytes.ensures.value in
    c.in-Err.ensures.cases.0 (subst IsUtf8 (sym is) (IsUtf8-from_ascii _ (above_ascii _ c.text.ensures.ascii)))
