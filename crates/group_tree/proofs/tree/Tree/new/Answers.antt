use Rattle.std.proofs.Common.{◌≡◌, ap, ◌∙◌, ℕ, List, None, Some}
use Rattle.std.specs.Prelude.{codes, if◌then◌else◌, string_bytes}
use Rattle.std.specs.Str.{bytes_eq}
use Rattle.std.specs.Map.{lookup}
use Rattle.std.specs.HashMap.{get_by_text}
use Rattle.std.proofs.lemmas.Map.Text.{hash_map_updates_text}
use Rattle.group_tree.specs.Tree.{slot_at}
use Rattle.group_tree.proofs.Changes.{first_tree}
use Rattle.group_tree.proofs.tree.Tree.new.Goals as goal

pub invariant_of-result : goal.invariant_of-result
invariant_of-result c =
    let finds : (path : List ℕ) → get_by_text c.insert.new.self path ≡ (if bytes_eq (codes "/") path then Some (slot_at 0) else None) =
    λ path.
    let update = rw c.in_ok-from_str.ensures.ok at (hash_map_updates_text (string_bytes c.in_ok-from_str.field-0) c.new-slots.result c.insert.new.self (Some (slot_at 0)) c.in_ok-insert.ensures.updates path) in
    update ∙ ap (λ es. if bytes_eq (codes "/") path then Some (slot_at 0) else lookup (λ k. bytes_eq path (string_bytes k)) es) c.new-slots.ensures.empty in
    rw (c.in_ok-lives.ensures.items, c.in_ok-root.ensures, c.in_ok-from_slice.ensures.items) (first_tree (get_by_text c.insert.new.self) finds)
