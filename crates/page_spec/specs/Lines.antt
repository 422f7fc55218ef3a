-- The lines of text that are printed for the events of pages.
use Rattle.std.specs.Prelude.{ℕ, ◌+◌, ◌/◌, ◌%◌, List, [], ◌∷◌, ◌++◌, nat_lt, ◌==◌, ◌&&◌, not, Bool, if◌then◌else◌, codes, decimal}
use Rattle.std.specs.List.{flat_map}
use Rattle.page_spec.specs.Fields.{Value}
use Rattle.page_spec.specs.Fields.Value.{Count, Minus, Letter, Bytes}
use Rattle.page_spec.specs.Items.{Item}
use Rattle.page_spec.specs.Items.Item.{Lost, Event}

-- Whether a byte of a text is printed unchanged: it is visible ASCII except `\` (92).
abbrev pub is_plain : ℕ → Bool
is_plain byte = nat_lt 32 byte && nat_lt byte 127 && not (byte == 92)

-- The printed form of a byte of a text: unchanged, or as `\` and three octal digits.
abbrev pub byte_text : ℕ → List ℕ
byte_text byte = if is_plain byte then byte ∷ [] else 92 ∷ (48 + byte / 64) ∷ (48 + byte / 8 % 8) ∷ (48 + byte % 8) ∷ []

-- The printed form of a text.
abbrev pub bytes_text : List ℕ → List ℕ
bytes_text bytes = flat_map byte_text bytes

-- The printed form of the value of a field.
abbrev pub value_text : Value → List ℕ
value_text (Count number) = decimal number
value_text (Minus number) = codes "-" ++ decimal number
value_text (Letter letter) = letter ∷ []
value_text (Bytes bytes) = bytes_text bytes

-- The printed form of the values of an event, with a space before each value.
abbrev pub values_text : List Value → List ℕ
values_text values = flat_map (λ value. codes " " ++ value_text value) values

-- The beginning of a line: a time (ns), a processor, and a word.
abbrev pub start_text : ℕ → ℕ → List ℕ → List ℕ
start_text time cpu word = decimal time ++ codes " " ++ decimal cpu ++ codes " " ++ word

-- The end of a line that reports lost events: a space, their number, and a newline.
abbrev pub count_text : ℕ → List ℕ
count_text count = codes " " ++ decimal count ++ codes "\n"

-- The line of an item of processor `cpu`.
abbrev pub item_text : ℕ → Item → List ℕ
item_text cpu (Lost time count) = start_text time cpu (codes "lost") ++ count_text count
item_text cpu (Event time name values) = start_text time cpu name ++ values_text values ++ codes "\n"

-- The lines of the items of processor `cpu`, in order.
abbrev pub items_text : ℕ → List Item → List ℕ
items_text cpu items = flat_map (item_text cpu) items
