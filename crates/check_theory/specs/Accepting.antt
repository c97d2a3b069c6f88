-- Request P5: every line has a position exactly if reopening accepts.
use Rattle.std.specs.Prelude.{◌≡◌}
use Rattle.rules.specs.Base.{List, ℕ}
use Rattle.rules.specs.World.{World}
use Rattle.check_theory.specs.Types.{Fault, Object}
use Rattle.faults.specs.Faults.{faults_of}

-- the list of a world's heap, at its settings and table size
abbrev pub list_of : World → List Fault
list_of w = faults_of w.settings w.heap w.table

-- "and, for an object, its position"
abbrev pub HasPosition : Fault → Type 0
HasPosition x = (position : ℕ) × (x.place ≡ Object position)
