-- Defines the contract for lending one of a watcher's readers. The borrower may change the reader;
-- the rest of the watcher is unchanged.
use Rattle.std.specs.Prelude.{ℕ, [], slice_set}
use Rattle.std.specs.Borrow.{Fml, Lends, MutBor}
use mir.Syntax.{named}
use Rattle.clock_row.specs.contracts.reader.ClockReader as ClockReader
use Rattle.clock_row.specs.Ends.{ReaderEnd}
use Rattle.observer_log.specs.contracts.watcher.Watcher as Watcher
use Rattle.observer_log.specs.Watch.{WatcherView}

-- The watcher after `reader` has replaced its reader of processor `cpu`.
abbrev pub with_reader : WatcherView → ℕ → ReaderEnd → WatcherView
with_reader watcher cpu reader = record watcher { readers = slice_set watcher.readers cpu reader }

-- Lends the watcher's reader of processor `cpu`. Afterwards the watcher has the reader as the
-- borrower left it, and nothing else of the watcher changed.
abbrev pub LendsReader : MutBor WatcherView → ℕ → MutBor ReaderEnd → Fml
LendsReader watcher cpu reader =
    Lends (Watcher.the_row (record { mir = named 1; lft = [] })) ClockReader.the_row watcher reader (with_reader watcher.now cpu)
