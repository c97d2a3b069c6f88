-- What is known of files whose checks are clear.
use Rattle.std.specs.Prelude.{◌≡◌, true, ◌≤◌, ◌<◌, ◌+◌, ◌*◌, ◌^◌}
use Rattle.rules.specs.Base.{List, ℕ, length}
use Rattle.rules.specs.BaseLaws.{All}
use Rattle.rules.specs.declared.Entry.{Entry}
use Rattle.rules.specs.declared.Label.{Label}
use Rattle.disk_location.specs.Locations.{position_of, delete_of}
use Rattle.rules.specs.Trailer.{count_in, entries_in}
use Rattle.rules.specs.SlotFile.{trailer_part}

-- a delete's sum is not too great
abbrev pub SumFits : ℕ → Entry → Type 0
SumFits lsn e = delete_of e.location ≡ true → position_of e.location + lsn < 2 ^ 63

-- what the walk over a file's delete entries relies on
pub record Clear (r : Label) (slot : List ℕ) : Type 0 where
  pub entries : 12 + 16 * count_in (trailer_part r slot) ≤ length (trailer_part r slot)
  pub deletes : All (SumFits r.lsn) (entries_in (trailer_part r slot))
