-- The result of reading from files that are kept in memory.
use Rattle.std.specs.Prelude.{◌≡◌, ℕ, ◌-◌, min, List, length, None, Some, Result, Ok, Err, IfOk}
use Rattle.outside.specs.Outside.{Files, ReadsBytes, bytes_of}
use Rattle.outside.specs.declared.shelf.ShelfFault.{ShelfFault}
use Rattle.outside.specs.declared.shelf.ShelfFault.TheVariants.{NoFile}

-- The result of a read call for the file `name`. If the file exists, the call returns the bytes
-- from offset `at`: at most `most`, and at most the length of the buffer. The buffer changes from
-- `before` to `into`. If the file doesn't exist, the call returns NoFile.
pub record GivesOf (files : Files) (name : List ℕ) (at most : ℕ) (before into : List ℕ) (result : Result ℕ ShelfFault) : Type 0 where
  pub held : (bytes : List ℕ) → bytes_of files name ≡ Some bytes → result ≡ Ok (min most (min (length into) (length bytes - at)))
  pub bytes : (bytes : List ℕ) → bytes_of files name ≡ Some bytes → IfOk result (λ n. ReadsBytes bytes at n before into)
  pub lacked : bytes_of files name ≡ None → result ≡ Err NoFile
