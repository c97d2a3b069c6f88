-- A slot's bytes, and the file that is seen in them by its label.
use Rattle.std.specs.Prelude.{◌∷◌, ◌++◌, ◌+◌, ◌*◌}
use Rattle.rules.specs.Base.{not, List, [], ℕ, zero, suc, length, take, drop, eqb, any}
use Rattle.rules.specs.Types.{Entry, Label, Refusal, LabelBytes, EntryPosition, PresentCount, LabelAnswer, Vacant, Five, Wrong}
use Rattle.rules.specs.Refusal.{Test, ◌gives◌, decide, after}
use Rattle.rules.specs.Label.{label_in, out_of_bounds}
use Rattle.rules.specs.Trailer.{trailer_tests, entries_in, misplaced}

-- "in N equal slots of S bytes": slot k
unfoldable pub bytes_of_slot : ℕ → List ℕ → ℕ → List ℕ
bytes_of_slot size heap k = take size (drop (k * size) heap)

-- "a 64-byte label, then the file"
abbrev pub file_in : Label → List ℕ → List ℕ
file_in l slot = take l.file_size (drop 64 slot)

-- "T, the total of object bytes, is trailer_offset"
abbrev pub object_part : Label → List ℕ → List ℕ
object_part l slot = take l.trailer_offset (file_in l slot)

-- the file behind its object bytes
abbrev pub trailer_part : Label → List ℕ → List ℕ
trailer_part l slot = drop l.trailer_offset (file_in l slot)

-- a file as its label and trailer say it
pub record File : Type 0 where
  pub label : Label
  pub entries : List Entry
  pub objects : List ℕ

-- what a slot shows
pub data View : Type 0 where
  empty : View
  damaged : Refusal → View
  holds : File → View

-- its entries
abbrev pub trailer_entries : Label → List ℕ → List Entry
trailer_entries l slot = entries_in (trailer_part l slot)

-- "Per non-empty slot .. 8, 9, 10, 11, 12, 13": "12 entry position over T", "13 present_objects is not the count"
unfoldable pub slot_tests : Label → List ℕ → List Test
slot_tests l slot =
    out_of_bounds (length slot) l gives LabelBytes
    ∷ (trailer_tests (trailer_part l slot)
    ++ (any (misplaced l.trailer_offset) (trailer_entries l slot) gives EntryPosition
    ∷ not (eqb l.present_objects (length (trailer_entries l slot))) gives PresentCount
    ∷ []))

-- a slot by what its label is
abbrev pub view_by : LabelAnswer → List ℕ → View
view_by Vacant slot = empty
view_by Wrong slot = damaged LabelBytes
view_by (Five l) slot = after (decide (slot_tests l slot)) damaged (holds (record { label = l; entries = trailer_entries l slot; objects = object_part l slot }))

-- what a slot shows
unfoldable pub view_in : List ℕ → View
view_in slot = view_by (label_in (take 64 slot)) slot

-- every slot, ascending
unfoldable pub views_in : ℕ → ℕ → List ℕ → List View
views_in zero size heap = []
views_in (suc n) size heap = view_in (take size heap) ∷ views_in n size (drop size heap)
