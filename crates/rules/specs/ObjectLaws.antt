-- Objects: their length, and that what was written is read back.
use Rattle.std.specs.Prelude.{◌+◌, ◌-◌}
use Rattle.rules.specs.Base.{List, ℕ, length}
use Rattle.checksum.specs.Checksum.{object_sum}
use Rattle.rules.specs.Object.{Stored}

-- an object as it is read back, with so many bytes behind it
abbrev pub stored_object : ℕ → ℕ → List ℕ → ℕ → Stored
stored_object position id body behind = record {
  position = position;
  checksum = object_sum id body;
  id = id;
  size = length body;
  room = 20 + length body + behind;
  body = body;
}
