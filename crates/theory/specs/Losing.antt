-- "each replaced location's file .. loses one live": live counts as ids leave their old locations, one by one.
use Rattle.std.specs.Prelude.{◌-◌}
use Rattle.rules.specs.Base.{List, map, ℕ}
use Rattle.theory.specs.Types.{Entry, Record}
use Rattle.disk_location.specs.Locations.{raw_of}
use Rattle.rules.specs.Trailer.{absolute}
use Rattle.rules.specs.Ops.{Op, is_delete, entries_of}
use Rattle.rules.specs.FileMap.{record_at}
use Rattle.theory.specs.Counting.{count}

-- the live count of a slot
abbrev pub live_at : List Record → ℕ → ℕ
live_at rs j = (record_at rs j).live

-- an operation's entry at a position of the file, with its absolute location
abbrev pub row_at : ℕ → ℕ → Op → Entry
row_at lsn position o = absolute lsn (record { id = o.id; location = raw_of position (is_delete o.content) })

-- those of a file, from a position on
abbrev pub rows_for : ℕ → ℕ → List Op → List Entry
rows_for lsn position os = map (absolute lsn) (entries_of position os)
