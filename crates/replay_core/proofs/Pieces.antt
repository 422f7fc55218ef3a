-- A law of texts that are written in pieces: what was written is a prefix of the whole text.
use Rattle.std.proofs.Common.{List, ℕ, [], sym}
use Rattle.std.specs.Prelude.{Option, Result, Ok, Err}
use Rattle.std.proofs.lemmas.List.{append-nil}
use Rattle.outside.specs.Outside.{AppendsPrefix}
use Rattle.outside.specs.Calls.{PutsAll}
use Rattle.outside.proofs.Grows.{AppendsPrefix-of}

-- The bytes that a call wrote, whether all of a text or a part of it, are a prefix of the text.
pub prefix_of_puts : {T E : Type 0} → (old new : Option (List ℕ)) (result : Result T E) (bytes : List ℕ) → PutsAll old new result bytes → AppendsPrefix old new bytes
prefix_of_puts old new (Ok value) bytes put = AppendsPrefix-of old new bytes [] bytes put (sym (append-nil bytes))
prefix_of_puts old new (Err fault) bytes put = put
