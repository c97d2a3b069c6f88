-- G: what an accepted reopening means, whoever wrote the files.
use Rattle.std.specs.Prelude.{◌≡◌, ◌<◌, ◌≤◌, ◌+◌, None, Some}
use Rattle.rules.specs.Base.{false, ℕ, length, any}
use Rattle.theory.specs.Types.{Refusal}
use Rattle.disk_location.specs.Locations.{masked_of}
use Rattle.rules.specs.Condition1Laws.{InLimits}
use Rattle.rules.specs.SlotFile.{File, damaged, holds}
use Rattle.rules.specs.Table.{lookup}
use Rattle.rules.specs.Layout.{capacity_of}
use Rattle.rules.specs.FileMap.{recorded, record_at, file_for}
use Rattle.rules.specs.Reopen.{files_in, overlapping, not_rising, table_of, opened, reopen_call}
use Rattle.rules.specs.World.{World, records_of, mappings}
use Rattle.theory.specs.Counting.{count}
use Rattle.theory.specs.Newest.{masked_at}
use Rattle.theory.specs.Places.{view_at, Stands}
use Rattle.rules.specs.InstallLaws.{is_at}
use Rattle.theory.specs.Losing.{live_at}
use Rattle.theory.specs.Picture.{views_of}

-- the file in some slot has an entry of id x whose absolute location is l
abbrev pub Mentioned : World → ℕ → ℕ → Type 0
Mentioned w x l = (k : ℕ) × Stands (views_of w) x l k

-- v: what a reopening of w leaves
pub record Opened (w v : World) : Type 0 where
  -- "Each id maps to its entry of greatest masked position": one that a trailer has, and at least as great as every other
  pub mentioned : (x l : ℕ) → lookup (mappings v) x ≡ Some l → Mentioned w x l
  pub greatest : (x l m : ℕ) → lookup (mappings v) x ≡ Some l → Mentioned w x m → masked_at m ≤ masked_at l
  -- there is one such: of one id no two entries have the same masked position
  pub one : (x l m : ℕ) → Mentioned w x l → Mentioned w x m → masked_at l ≡ masked_at m → l ≡ m
  -- an id that is unmapped is in no trailer
  pub unmentioned : (x l : ℕ) → lookup (mappings v) x ≡ None → Mentioned w x l → ⊥
  -- the location is looked up in the file where the entry stands
  pub found : (x l k : ℕ) → Stands (views_of w) x l k → file_for (records_of v) l ≡ Some k
  -- a slot's record has its label's five numbers, as live count the number of ids that are mapped into the file, and the mark set
  pub labelled : (k : ℕ) (f : File) → view_at (views_of w) k ≡ holds f → record_at (records_of v) k ≡ recorded f.label (live_at (records_of v) k) 1
  pub counted : (k : ℕ) (f : File) → view_at (views_of w) k ≡ holds f
      → live_at (records_of v) k ≡ count (λ (l : ℕ). is_at k (file_for (records_of v) l)) (mappings v)
  -- the next position lies above every file
  pub above : (k : ℕ) (f : File) → view_at (views_of w) k ≡ holds f → masked_of f.label.lsn + f.label.trailer_offset < v.state.next_position

-- ---- what acceptance went through
pub record Passed (w : World) : Type 0 where
  pub limits : InLimits w.settings (length w.heap) w.table
  pub whole : (k : ℕ) (r : Refusal) → view_at (views_of w) k ≡ damaged r → ⊥
  pub clear : overlapping (files_in (views_of w)) ≡ false
  pub once : any (λ (f : File). not_rising f.entries) (files_in (views_of w)) ≡ false
  pub room : length (table_of (files_in (views_of w))) ≤ capacity_of w.table
  pub is : reopen_call w ≡ opened w (views_of w)
