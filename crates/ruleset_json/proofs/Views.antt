use Rattle.std.proofs.Common.{◌≡◌, ℕ, ◌<◌, ◌≤◌, List, [], ◌∷◌, Some, None, Ok, length, map, refl, sym, ap, arith}
use Rattle.std.proofs.lemmas.Str.{is_utf8-from_IsUtf8, IsUtf8-from_is_utf8}
use Rattle.std.specs.Str.{is_utf8, IsUtf8}
use Rattle.std.proofs.Common.{Bool, true, false}
use Rattle.serde_json.specs.Read as json
use Rattle.ruleset_json.specs.Rules.{data_of}
use Rattle.ruleset_json.specs.Arguments.{or_fault}
use Rattle.ruleset_json.specs.declared.fault.Place.TheVariants as place
use Rattle.std.proofs.lemmas.List.{length-map}
use Rattle.serde_json.specs.Data.{Data}
use Rattle.serde_json.specs.Find.{as_array}
use Rattle.serde_json.specs.View.{view, items_of, items_view}
use Rattle.serde_json.specs.declared.value.Value.{Value}
use Rattle.ruleset_json.specs.Rules.{items_list, list_at, few}
use Rattle.ruleset_json.specs.Arguments.{refused_for}
use Rattle.ruleset_json.specs.declared.fault.Place.{Place}
use Rattle.ruleset_json.specs.declared.fault.RulesCause.TheVariants as cause

pub listed_items : (ds : List Data) → items_list (items_of ds) ≡ ds
listed_items [] = refl
listed_items (d ∷ ds) = ap (λ es. d ∷ es) (listed_items ds)

pub listed_view : (vs : List Value) → items_list (items_view vs) ≡ map view vs
listed_view vs = listed_items (map view vs)

list_read : (at : Place) (most : ℕ) (d : Data) (vs : List Value) → Some (items_view vs) ≡ as_array d → list_at at most d ≡ few at most (map view vs)
unfolding list_at
list_read at most d vs is = rw (sym is, listed_view vs) refl

pub list_long : (at : Place) (most : ℕ) (d : Data) (vs : List Value) → Some (items_view vs) ≡ as_array d → most < length vs → list_at at most d ≡ refused_for at cause.TooMany
list_long at most d vs is long = let same : length (map view vs) ≡ length vs = length-map vs view in rw (list_read at most d vs is) (grind arith)

pub list_whole : (at : Place) (most : ℕ) (d : Data) (vs : List Value) → Some (items_view vs) ≡ as_array d → length vs ≤ most → list_at at most d ≡ Ok (map view vs)
list_whole at most d vs is short = let same : length (map view vs) ≡ length vs = length-map vs view in rw (list_read at most d vs is) (grind arith)

pub data_read : (bytes : List ℕ) (d : Data) → IsUtf8 bytes → json.read bytes ≡ Some d → or_fault place.Whole cause.BadJson (data_of bytes) ≡ Ok d
data_read bytes d utf8 is = rw (is_utf8-from_IsUtf8 bytes utf8, is) refl

none_read : (bytes : List ℕ) (b : Bool) → is_utf8 bytes ≡ b → (IsUtf8 bytes → json.read bytes ≡ None) → data_of bytes ≡ None
none_read bytes true is refuses = rw (is, refuses (IsUtf8-from_is_utf8 bytes is)) refl
none_read bytes false is refuses = rw is refl

pub data_refused : (bytes : List ℕ) → (IsUtf8 bytes → json.read bytes ≡ None) → or_fault place.Whole cause.BadJson (data_of bytes) ≡ refused_for place.Whole cause.BadJson
data_refused bytes refuses = rw (none_read bytes (is_utf8 bytes) refl refuses) refl
