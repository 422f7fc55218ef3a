use Rattle.std.proofs.Common.{rules, ◌≡◌, Some}
use Rattle.serde_json.specs.View.{view, items_view}
use Rattle.serde_json.specs.Find.{as_array}
use Rattle.ruleset_json.proofs.Views.{list_long, list_whole}
use Rattle.ruleset_json.proofs.json.list.Goals as goal

pub returns-then-len-most-clause-read : goal.returns-then-len-most-clause-read
returns-then-len-most-clause-read c =
    let read : Some (items_view c.in-Some.items.now.items) ≡ as_array (view c.args.value.now) = c.in-Some.ensures in
    list_long c.args.place c.args.most _ _ read (search rules)

pub returns-else-len-most-clause-read : goal.returns-else-len-most-clause-read
returns-else-len-most-clause-read c =
    let read : Some (items_view c.in-Some.items.now.items) ≡ as_array (view c.args.value.now) = c.in-Some.ensures in
    rw c.as_slice.ensures.value (list_whole c.args.place c.args.most _ _ read (search rules))
