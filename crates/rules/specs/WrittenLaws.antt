-- A file that was written is seen in its slot as it was given, and its objects are read back.
use Rattle.std.specs.Prelude.{◌<◌, ◌++◌, ◌+◌, ◌-◌, ◌^◌}
use Rattle.rules.specs.Base.{List, ℕ, length}
use Rattle.rules.specs.Ops.{Op, objects_of, entries_of, file_bytes}
use Rattle.rules.specs.OpsLaws.{IdsFit}
use Rattle.rules.specs.Label.{label_bytes}
use Rattle.rules.specs.LabelLaws.{InBounds}
use Rattle.rules.specs.SlotFile.{File}
use Rattle.rules.specs.Install.{new_label}

-- operations that make a file in a slot of S bytes
pub record Writable (S lsn generation : ℕ) (ops : List Op) : Type 0 where
  pub some : 0 < length ops
  pub ids : IdsFit ops
  pub slot : S < 2 ^ 64
  pub bounds : InBounds S (new_label lsn generation ops)

-- label and file, as they are written into a slot
abbrev pub slot_file : ℕ → ℕ → List Op → List ℕ
slot_file lsn generation ops = label_bytes (new_label lsn generation ops) ++ file_bytes ops

-- the file that is seen there
abbrev pub file_of_ops : ℕ → ℕ → List Op → File
file_of_ops lsn generation ops = record { label = new_label lsn generation ops; entries = entries_of 0 ops; objects = objects_of ops }
