-- A read on a store of the invariant gives what the plain engine says.
use Rattle.std.specs.Prelude.{◌≡◌, ◌≤◌, ◌+◌, ◌-◌, ◌*◌, Ok}
use Rattle.rules.specs.Base.{List, ℕ, length, take, drop}
use Rattle.theory.specs.Types.{ReadAnswer, Found, Deleted, NeverWritten}
use Rattle.rules.specs.Refusal.{after, NoneHolds}
use Rattle.rules.specs.Object.{Stored, stored_at}
use Rattle.rules.specs.Ops.{put, delete}
use Rattle.rules.specs.SettledLaws.{Last, silent, last}
use Rattle.rules.specs.Read.{object_tests, part_of}
use Rattle.rules.specs.World.{World}
use Rattle.theory.specs.Picture.{body}

-- what a read answers, by the last operation on the id: never written where there is none, deleted after a delete
abbrev pub Reads : World → ReadAnswer → Last → Type 0
Reads w answer silent = answer ≡ Ok NeverWritten
Reads w answer (last delete) = answer ≡ Ok Deleted
Reads w answer (last (put b)) = (start : ℕ) × (answer ≡ Ok (Found start (length b))) × (part_of answer w.heap ≡ b)

-- ---- an object that says a body
pub record Says (x : ℕ) (o : Stored) (b : List ℕ) : Type 0 where
  pub clear : NoneHolds (object_tests x o)
  pub is : o.body ≡ b

-- what is read in a file's bytes
pub record ReadBack (position x : ℕ) (bytes b : List ℕ) : Type 0 where
  pub clear : NoneHolds (object_tests x (stored_at position (drop position bytes)))
  pub size : (stored_at position (drop position bytes)).size ≡ length b
  pub part : take (length b) (drop 20 (drop position bytes)) ≡ b
  pub room : 20 + length b ≤ length (drop position bytes)

-- where the body of an object of slot k's file starts in the heap
abbrev pub body_start : World → ℕ → ℕ → ℕ
body_start w k position = k * w.settings.slot_bytes + 64 + position + 20
