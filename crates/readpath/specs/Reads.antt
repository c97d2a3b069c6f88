-- What the steps of a read ask for and answer.
use Rattle.std.specs.Prelude.{◌≡◌, ◌≤◌, ◌<◌, ◌+◌, ◌*◌, Err, Ok}
use Rattle.rules.specs.Base.{false, List, ℕ}
use Rattle.rules.specs.declared.Label.{Label}
use Rattle.rules.specs.declared.Record.{Record}
use Rattle.rules.specs.Types.{ReadAnswer}
use Rattle.rules.specs.declared.Lookup.TheVariants.{Found, Deleted, NeverWritten}
use Rattle.rules.specs.FileMap.{is_empty, record_at}
use Rattle.stored_object.specs.Answers.{BodyAnswer}

-- a label's file lies behind the label of slot k, and the slot, one of 256, in the heap
pub record Lies (size : ℕ) (l : Label) (k heap_len : ℕ) : Type 0 where
  pub place : k < 256
  pub file : 64 + l.file_size ≤ size
  pub slot : k * size + size ≤ heap_len

-- every file does, once 1 is decided
abbrev pub FilesLie : ℕ → List Record → ℕ → Type 0
FilesLie size rs heap_len = (k : ℕ) → is_empty (record_at rs k) ≡ false → Lies size (record_at rs k).label k heap_len

-- a body of the file that starts there in the heap
abbrev pub in_heap : ℕ → BodyAnswer → ReadAnswer
in_heap start (Ok (at, size)) = Ok (Found (start + at) size)
in_heap start (Err r) = Err r

-- a part that is named lies in the heap
abbrev pub Within : ReadAnswer → ℕ → Type 0
Within (Ok (Found start size)) heap_len = start + size ≤ heap_len
Within (Ok Deleted) heap_len = Unit {0}
Within (Ok NeverWritten) heap_len = Unit {0}
Within (Err r) heap_len = Unit {0}

-- "a part of the lent heap itself": where it begins, in the buffer whose first byte that place is; an empty part begins there
abbrev pub place_of : ReadAnswer → ℕ × ℕ → ℕ × ℕ
place_of (Ok (Found start size)) heap = (heap.0, start + heap.1)
place_of (Ok Deleted) heap = heap
place_of (Ok NeverWritten) heap = heap
place_of (Err r) heap = heap
