-- Proves that the text of JSON data made only of strings, lists and objects is UTF-8, and that
-- parsing this text returns the data.
use Rattle.std.proofs.Common.{◌≡◌, suc, ◌≤◌, List, [], ◌∷◌, ◌++◌, Bool, true, false, Option, Some, option_and_then, refl, sym, ap, ap₂, ◌∙◌, arith, append-nil}
use Rattle.std.specs.Prelude.{⊤, max, IsUtf8}
use Rattle.std.proofs.lemmas.Str.{IsUtf8-append, IsUtf8-nil}
use Rattle.json.specs.Json as json
use Rattle.json.specs.Lex.{tokens}
use Rattle.json.specs.Print.{quoted}
use Rattle.json.specs.Token.{Token}
use Rattle.json.specs.Tree as tree
use Rattle.json.proofs.Printed.Tokens.{tokens-print}
use Rattle.json.proofs.Printed.Trees.{ArePrintable-json_tokens, value-json_tokens}
use Rattle.json.proofs.Printed.Utf8.{IsUtf8-are_ascii, IsUtf8-quoted}
use Rattle.serde_json.specs.Data.{Data, null, boolean, number, string, array, object, Items, no_items, item, Members, no_members, member, depth, items_depth, members_depth}
use Rattle.serde_json.specs.Read.{max_depth, of_json, read}
use Rattle.serde_json.specs.Written.{comma_if, compact_text, items_outline, items_text, members_outline, members_text, outline}
use Rattle.serde_json.proofs.Texts.{print-outline}

abbrev mutual
  pub OnlyTexts : Data → Type 0
  OnlyTexts null = ⊥
  OnlyTexts (boolean b) = ⊥
  OnlyTexts (number n) = ⊥
  OnlyTexts (string s) = IsUtf8 s
  OnlyTexts (array ds) = ItemsOnlyTexts ds
  OnlyTexts (object ms) = MembersOnlyTexts ms

  pub ItemsOnlyTexts : Items → Type 0
  ItemsOnlyTexts no_items = ⊤
  ItemsOnlyTexts (item d ds) = OnlyTexts d × ItemsOnlyTexts ds

  pub MembersOnlyTexts : Members → Type 0
  MembersOnlyTexts no_members = ⊤
  MembersOnlyTexts (member k d ms) = IsUtf8 k × OnlyTexts d × MembersOnlyTexts ms

-- ---- UTF-8

comma_utf8 : (later : Bool) → IsUtf8 (comma_if later)
comma_utf8 true = IsUtf8-are_ascii (44 ∷ []) refl
comma_utf8 false = IsUtf8-nil

mutual
  pub text_utf8 : (d : Data) → OnlyTexts d → IsUtf8 (compact_text d)
  text_utf8 null t = absurd t
  text_utf8 (boolean b) t = absurd t
  text_utf8 (number n) t = absurd t
  text_utf8 (string s) t = IsUtf8-quoted s t
  text_utf8 (array ds) t = IsUtf8-append (91 ∷ []) (items_text false ds) (IsUtf8-are_ascii (91 ∷ []) refl) (items_utf8 false ds t)
  text_utf8 (object ms) t = IsUtf8-append (123 ∷ []) (members_text false ms) (IsUtf8-are_ascii (123 ∷ []) refl) (members_utf8 false ms t)

  items_utf8 : (later : Bool) (ds : Items) → ItemsOnlyTexts ds → IsUtf8 (items_text later ds)
  items_utf8 later no_items t = IsUtf8-are_ascii (93 ∷ []) refl
  items_utf8 later (item d ds) t = IsUtf8-append (comma_if later) (compact_text d ++ items_text true ds) (comma_utf8 later) (IsUtf8-append (compact_text d) (items_text true ds) (text_utf8 d t.0) (items_utf8 true ds t.1))

  members_utf8 : (later : Bool) (ms : Members) → MembersOnlyTexts ms → IsUtf8 (members_text later ms)
  members_utf8 later no_members t = IsUtf8-are_ascii (125 ∷ []) refl
  members_utf8 later (member k d ms) t =
      let value = IsUtf8-append (compact_text d) (members_text true ms) (text_utf8 d t.1) (members_utf8 true ms t.2) in
      let suffix = IsUtf8-append (58 ∷ []) (compact_text d ++ members_text true ms) (IsUtf8-are_ascii (58 ∷ []) refl) value in
      IsUtf8-append (comma_if later) (quoted k ++ 58 ∷ (compact_text d ++ members_text true ms)) (comma_utf8 later) (IsUtf8-append (quoted k) (58 ∷ (compact_text d ++ members_text true ms)) (IsUtf8-quoted k t.0) suffix)

-- ---- the tree of the written text

mutual
  outline_numbers : (d : Data) → OnlyTexts d → tree.HasNumbers (outline d)
  outline_numbers null t = absurd t
  outline_numbers (boolean b) t = absurd t
  outline_numbers (number n) t = absurd t
  outline_numbers (string s) t = tt
  outline_numbers (array ds) t = items_numbers ds t
  outline_numbers (object ms) t = members_numbers ms t

  items_numbers : (ds : Items) → ItemsOnlyTexts ds → tree.ItemsHaveNumbers (items_outline ds)
  items_numbers no_items t = tt
  items_numbers (item d ds) t = (outline_numbers d t.0, items_numbers ds t.1)

  members_numbers : (ms : Members) → MembersOnlyTexts ms → tree.MembersHaveNumbers (members_outline ms)
  members_numbers no_members t = tt
  members_numbers (member k d ms) t = (outline_numbers d t.1, members_numbers ms t.2)

mutual
  outline_depth : (d : Data) → tree.depth (outline d) ≡ depth d
  outline_depth null = refl
  outline_depth (boolean b) = refl
  outline_depth (number n) = refl
  outline_depth (string s) = refl
  outline_depth (array ds) = ap suc (items_outline_depth ds)
  outline_depth (object ms) = ap suc (members_outline_depth ms)

  items_outline_depth : (ds : Items) → tree.items_depth (items_outline ds) ≡ items_depth ds
  items_outline_depth no_items = refl
  items_outline_depth (item d ds) = ap₂ max (outline_depth d) (items_outline_depth ds)

  members_outline_depth : (ms : Members) → tree.members_depth (members_outline ms) ≡ members_depth ms
  members_outline_depth no_members = refl
  members_outline_depth (member k d ms) = ap₂ max (outline_depth d) (members_outline_depth ms)

-- The data of the tree that the tokens form, or `None` if tokens remain.
abbrev whole : Option (json.Json × List Token) → Option Data
whole read = option_and_then of_json (option_and_then (λ p. json.if_last p.0 p.1) read)

-- Parsing the text of such data returns the data, if the data aren't nested too deep and their tree
-- represents them.
pub text_read : (d : Data) → OnlyTexts d → of_json (outline d) ≡ Some d → depth d ≤ max_depth → read (compact_text d) ≡ Some d
text_read d t back shallow =
    let same : tokens (compact_text d) ≡ tree.json_tokens (outline d) ++ [] =
    ap tokens (sym (print-outline d)) ∙ tokens-print (tree.json_tokens (outline d)) (ArePrintable-json_tokens (outline d) (outline_numbers d t)) ∙ sym (append-nil (tree.json_tokens (outline d))) in
    let level : tree.depth (outline d) ≤ max_depth = omega (arith, outline_depth d, shallow) in
    ap whole (ap (json.value max_depth) same ∙ value-json_tokens (outline d) max_depth [] level) ∙ back
