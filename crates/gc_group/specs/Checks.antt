-- The checks of a file and of a group, in the steps that code takes.
use Rattle.std.specs.Prelude.{◌≡◌, Bool, ◌≤◌, ◌<◌, ◌+◌, Err, Ok}
use Rattle.std.proofs.Math.Bool.{true, false}
use Rattle.rules.specs.Base.{List, [], ℕ, pick, each}
use Rattle.rules.specs.declared.Entry.{Entry}
use Rattle.disk_location.specs.Locations.{delete_of}
use Rattle.rules.specs.Refusal.{Test}
use Rattle.rules.specs.Table.{load, never_written}
use Rattle.location_table.specs.Answers.{Place}
use Rattle.location_table.specs.Places.{place}
use Rattle.rules.specs.Object.{Stored, bad_checksum}
use Rattle.rules.specs.Maintenance.{delete_tests, file_tests}
use Rattle.gc_group.specs.Source.{Source, file_at, bytes_at}

-- "id unmapped", by the place of the id
abbrev pub never_at : Place → Bool
never_at (Ok k) = false
never_at (Err k) = true

-- one entry of a trailer: "delete entries: sum too great (20), id unmapped (18)"
unfoldable pub entry_tests : ℕ → List Entry → Entry → List Test
entry_tests lsn table e = pick (delete_of e.location) (delete_tests lsn table e) []

-- "All files of a group are checked before it writes, ascending by slot"
unfoldable pub group_checks : ℕ → Source → List ℕ → List Test
group_checks limit s slots = each (λ (k : ℕ). file_tests limit s.table (file_at s k) (bytes_at s k)) slots

-- ---- what an object that passes is
pub record Whole (limit : ℕ) (table : List Entry) (o : Stored) : Type 0 where
  pub size : o.size < limit
  pub written : never_written (load table o.id) ≡ false
  pub room : 20 + o.size ≤ o.room
  pub sum : bad_checksum o ≡ false
