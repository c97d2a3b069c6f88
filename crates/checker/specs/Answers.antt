-- The call's answer, by the paper's number and values.
use Rattle.std.specs.Prelude.{◌∷◌, ◌++◌, Err, Ok, Result}
use Rattle.rules.specs.Base.{List, [], ℕ, length}
use Rattle.rules.specs.SlotFile.{View}
use Rattle.rules.specs.World.{Given, accepted, refused}
use Rattle.faults.specs.Faults.{faults_from, closing, listing, Checked}
use Rattle.checker.specs.Types.{Refusal, Fault}

-- "the full number of faults"; "Refusals: 1 only"
abbrev pub CheckAnswer : Type 0
CheckAnswer = Result ℕ Refusal

abbrev pub check_given : CheckAnswer → Given
check_given (Ok n) = accepted (n ∷ [])
check_given (Err r) = refused r

-- what the call left, as its result and the lent listing give it
abbrev pub checked : CheckAnswer → List ℕ → Checked
checked answer words = record { answer = check_given answer; listing = words }

-- the list, on the slots by themselves and the table's length
abbrev pub list_of : ℕ → List View → List Fault
list_of room views = faults_from 0 [] views ++ closing room views
