-- The invariant of a store, on its picture; and what makes a file whole.
use Rattle.std.specs.Prelude.{◌≡◌, ◌⊎◌, ◌<◌, ◌≤◌, ◌∷◌, ◌+◌, ◌^◌}
use Rattle.rules.specs.Base.{false, List, [], ℕ, length, leb}
use Rattle.rules.specs.BaseLaws.{All}
use Rattle.disk_location.specs.Locations.{masked_of, position_of, delete_of, raw_of}
use Rattle.rules.specs.Refusal.{NoneHolds}
use Rattle.rules.specs.Object.{Stored, objects_in}
use Rattle.rules.specs.Read.{object_tests}
use Rattle.rules.specs.SlotFile.{File, holds}
use Rattle.rules.specs.Reopen.{files_in, not_rising, table_of, mapped_into}
use Rattle.rules.specs.TableLaws.{Has}
use Rattle.theory.specs.Places.{view_at, Filed}
use Rattle.theory.specs.Losing.{live_at}
use Rattle.theory.specs.Picture.{Picture, Said, picture_says}

-- an object of this id starts at this position
abbrev pub StartsAt : List Stored → ℕ → ℕ → Type 0
StartsAt [] x position = ⊥
StartsAt (o ∷ os) x position = ((o.id ≡ x) × (o.position ≡ position)) ⊎ StartsAt os x position

-- a file whose bytes and entries tell the same, whoever wrote it
pub record WholeFile (f : File) : Type 0 where
  -- up to T the bytes are objects one behind the other, walked from 0 by their lengths: none is cut short, each has its right checksum
  pub walked : All (λ (o : Stored). NoneHolds (object_tests o.id o)) (objects_in f.objects)
  -- each has an object entry of its id at its position
  pub entered : All (λ (o : Stored). Has f.entries o.id (raw_of o.position false)) (objects_in f.objects)
  -- and at each object entry's position an object of its id starts
  pub stored : (x l : ℕ) → Has f.entries x l → delete_of l ≡ false → StartsAt (objects_in f.objects) x (position_of l)
  -- a repeated id rises (15), so no id stands twice at one position
  pub repeats : not_rising f.entries ≡ false

-- no object of the file is of max_object_size or more
abbrev pub SmallFile : ℕ → File → Type 0
SmallFile limit f = All (λ (o : Stored). leb limit o.size ≡ false) (objects_in f.objects)

-- bounds: the table's entries; told: what the plain engine says of each id
pub record Sound (bounds : ℕ) (p : Picture) (told : ℕ → Said) : Type 0 where
  -- views and records tell of the same files; these are well made, and their masked ranges apart
  pub filed : Filed p.views p.records
  -- bytes and entries of every file tell the same
  pub whole : (k : ℕ) (f : File) → view_at p.views k ≡ holds f → WholeFile f
  pub sized : length p.records ≡ 256
  pub started : 0 < p.next
  -- the next position lies above every file
  pub above : (k : ℕ) (f : File) → view_at p.views k ≡ holds f → masked_of f.label.lsn + f.label.trailer_offset < p.next
  -- the table is the one that a reopening makes of the files
  pub newest : p.table ≡ table_of (files_in p.views)
  pub room : length p.table ≤ bounds
  -- ids are numbers of 64 bits
  pub narrow : (x l : ℕ) → Has p.table x l → x < 2 ^ 64
  -- a file's live count is the number of ids mapped into it
  pub counted : (k : ℕ) (f : File) → view_at p.views k ≡ holds f → live_at p.records k ≡ mapped_into p.table f.label
  -- of each id the store says what the engine says
  pub says : (x : ℕ) → picture_says p x ≡ told x
