-- "Positions"
use Rattle.std.specs.Prelude.{◌∷◌, ◌+◌, ◌^◌, None, Some}
use Rattle.rules.specs.Base.{Bool, List, [], ℕ, leb, eqb, pick}
use Rattle.rules.specs.Types.{Location}
use Rattle.disk_location.specs.Locations.{position_of, delete_of, raw_of, Told, told, relative_told}
use Rattle.disk_location.specs.Answers.{Located, RelativeLocated}
use Rattle.rules.specs.Refusal.{◌gives◌, decide, after}
use Rattle.rules.specs.World.{Given, accepted, refused}

-- "A raw location is twice the position, plus 1 for a delete."; "relative raw 0 is fine"
unfoldable pub relative_given : ℕ → Bool → Given
relative_given position delete = after (decide (leb (2 ^ 63) position gives Location ∷ [])) refused (accepted (raw_of position delete ∷ []))

-- "20 refuses a position or sum of 2^63 or more, and absolute raw 0"
unfoldable pub absolute_given : ℕ → Bool → Given
absolute_given position delete =
    after (decide (leb (2 ^ 63) position gives Location ∷ eqb (raw_of position delete) 0 gives Location ∷ [])) refused
    (accepted (raw_of position delete ∷ []))

-- "A relative location plus a file's lsn is an absolute one."
unfoldable pub to_absolute_given : ℕ → ℕ → Given
to_absolute_given raw lsn = absolute_given (position_of raw + lsn) (delete_of raw)

-- ---- disk_location's answer: the number and the raw location that it tells, the location a value where the number is 0
abbrev pub told_given : Told → Given
told_given t = record { number = t.number; values = pick (eqb t.number 0) (t.raw ∷ []) [] }

-- an absolute location's
abbrev pub located_given : Located → Given
located_given l = told_given (told l)

-- its values alone say which answer it is
abbrev pub located_of : List ℕ → Located
located_of [] = None
located_of (v ∷ vs) = Some (record { 0 = v })

-- ---- the same of a relative location
abbrev pub relative_located_given : RelativeLocated → Given
relative_located_given l = told_given (relative_told l)

-- its values alone say which answer it is
abbrev pub relative_of : List ℕ → RelativeLocated
relative_of [] = None
relative_of (v ∷ vs) = Some (record { 0 = v })
