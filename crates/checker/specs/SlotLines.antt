-- A slot's lines by its label, and the slots one behind the other.
use Rattle.std.specs.Prelude.{◌≡◌, Bool, false, ◌∷◌, ◌++◌, Err, Ok}
use Rattle.rules.specs.Base.{List, [], map, ℕ, zero, suc, get_or, drop}
use Rattle.rules.specs.SlotFile.{File, View, empty, damaged, holds, views_in}
use Rattle.rules.specs.Reopen.{file_of}
use Rattle.reopen_tests.specs.Labels.{no_file}
use Rattle.faults.specs.Faults.{judged, line, line_if, file_faults, faults_from}
use Rattle.checker.specs.Types.{Overlap, Nowhere, Fault, SlotAnswer}

-- ---- definitions
-- the line of a slot that is not sound, if it is not empty
abbrev pub own_line : ℕ → SlotAnswer → List Fault
own_line slot (Err r) = line slot r Nowhere ∷ []
own_line slot (Ok shown) = []

-- a slot's lines, where it is known whether its range meets an earlier one's
unfoldable pub slot_lines : ℕ → Bool → View → List Fault
slot_lines slot met empty = []
slot_lines slot met (damaged r) = line slot r Nowhere ∷ []
slot_lines slot met (holds f) = file_faults slot f ++ line_if met (line slot Overlap Nowhere)

-- the slots, each by itself
abbrev pub slots_judged : ℕ → ℕ → List ℕ → List View
slots_judged n size heap = map judged (views_in n size heap)

-- the sound files before slot k, those with a 14 of their own, too
unfoldable pub earlier_to : ℕ → List View → List File
earlier_to zero views = []
earlier_to (suc k) views = earlier_to k views ++ file_of (get_or views k empty)

-- the lines from slot k on
abbrev pub lines_from : ℕ → List View → List Fault
lines_from k views = faults_from k (earlier_to k views) (drop k views)

-- ---- 14 by the labels
-- a view whose file, if it holds one, has a label
abbrev pub Labelled : View → Type 0
Labelled empty = Unit {0}
Labelled (damaged r) = Unit {0}
Labelled (holds f) = no_file f.label ≡ false
