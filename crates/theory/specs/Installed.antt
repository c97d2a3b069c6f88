-- A file of operations is added above all others: the invariant holds again, and the file's entries count before what was said.
use Rattle.std.specs.Prelude.{◌≡◌, ◌<◌, ◌≤◌, ◌+◌, ◌-◌, ◌^◌}
use Rattle.rules.specs.Base.{List, ℕ, length}
use Rattle.disk_location.specs.Locations.{masked_of}
use Rattle.rules.specs.Ops.{Op, objects_of}
use Rattle.rules.specs.OpsLaws.{RisingOps, IdsFit}
use Rattle.rules.specs.SlotFile.{empty}
use Rattle.rules.specs.Table.{insert_all}
use Rattle.rules.specs.TableLaws.{Has}
use Rattle.theory.specs.Places.{view_at}
use Rattle.theory.specs.Losing.{rows_for}
use Rattle.theory.specs.Picture.{Picture, Said, unheard, gone, body, broken, added}

-- what a file says goes before what was said
abbrev pub over : Said → Said → Said
over unheard s = s
over gone s = gone
over (body b) s = body b
over (broken r) s = broken r

-- a file that may be added at slot k: the slot is empty, the file at the next position
pub record Addable (bounds : ℕ) (p : Picture) (k lsn : ℕ) (os : List Op) : Type 0 where
  pub slot : k < length p.views
  pub free : view_at p.views k ≡ empty
  pub rising : RisingOps 0 os
  pub base : masked_of lsn ≡ p.next
  pub low : lsn < 2 ^ 63
  pub within : p.next + length (objects_of os) < 2 ^ 62
  pub ids : IdsFit os
  pub room : length (insert_all p.table (rows_for lsn 0 os)) ≤ bounds
  pub narrow : (x l : ℕ) → Has (rows_for lsn 0 os) x l → x < 2 ^ 64
