-- Files in slots: bounds, disjoint masked ranges; an entry's location is looked up in the file where it stands.
use Rattle.std.specs.Prelude.{◌≡◌, ◌⊎◌, ◌<◌, ◌≤◌, ◌+◌, ◌-◌, ◌*◌, ◌^◌}
use Rattle.rules.specs.Base.{List, map, ℕ, length, get_or, each}
use Rattle.theory.specs.Types.{Entry, Record}
use Rattle.disk_location.specs.Locations.{masked_of, position_of}
use Rattle.rules.specs.Trailer.{absolute}
use Rattle.rules.specs.SlotFile.{File, View, empty, damaged, holds}
use Rattle.rules.specs.FileMap.{recorded, empty_record, record_at}
use Rattle.rules.specs.Reopen.{files_in}
use Rattle.rules.specs.TableLaws.{Has}

-- what slot k shows; past the last slot nothing
abbrev pub view_at : List View → ℕ → View
view_at views k = get_or views k empty

-- a file's entries with absolute locations
abbrev pub rows_in : File → List Entry
rows_in f = map (absolute f.label.lsn) f.entries

-- those of all files
abbrev pub rows_of : List View → List Entry
rows_of views = each rows_in (files_in views)

-- what 8 and 12 leave of a file
pub record WellMade (f : File) : Type 0 where
  pub placed : 0 < masked_of f.label.lsn
  pub low : f.label.lsn < 2 ^ 63
  pub within : masked_of f.label.lsn + f.label.trailer_offset < 2 ^ 62
  pub sized : f.label.trailer_offset ≤ f.label.file_size
  pub inside : (x r : ℕ) → Has f.entries x r → position_of r ≤ f.label.trailer_offset

-- what 15 leaves of a trailer: an id stands at a position once
abbrev pub Single : List Entry → Type 0
Single es = (x r q : ℕ) → Has es x r → Has es x q → position_of r ≡ position_of q → r ≡ q

-- what 14 leaves of two files: masked ranges, both ends counted, have nothing in common
abbrev pub Apart : File → File → Type 0
Apart f g =
    (masked_of f.label.lsn + f.label.trailer_offset < masked_of g.label.lsn)
    ⊎ (masked_of g.label.lsn + g.label.trailer_offset < masked_of f.label.lsn)

-- a slot's record is empty, or has the five numbers of its label, and a mark that is clear or set
abbrev pub Agrees : View → Record → Type 0
Agrees empty r = r ≡ empty_record
Agrees (damaged n) r = ⊥
Agrees (holds f) r = (r ≡ recorded f.label r.live r.synced) × (r.synced ≤ 1)

-- views and records tell of the same files, and the files are well made and apart
pub record Filed (views : List View) (rs : List Record) : Type 0 where
  pub fits : length views ≤ length rs
  pub agree : (k : ℕ) → Agrees (view_at views k) (record_at rs k)
  pub made : (k : ℕ) (f : File) → view_at views k ≡ holds f → WellMade f
  pub single : (k : ℕ) (f : File) → view_at views k ≡ holds f → Single f.entries
  pub apart : (j k : ℕ) (f g : File) → view_at views j ≡ holds f → view_at views k ≡ holds g → (j ≡ k → ⊥) → Apart f g

-- the file in slot k has an entry of id x whose absolute location is l
pub record Stands (views : List View) (x l k : ℕ) : Type 0 where
  pub file : File
  pub raw : ℕ
  pub shows : view_at views k ≡ holds file
  pub entry : Has file.entries x raw
  pub located : l ≡ raw + 2 * file.label.lsn
