-- The marked entries are what the group found.
use Rattle.std.specs.Prelude.{◌≡◌, ◌∷◌, ◌-◌, None, Some}
use Rattle.rules.specs.Base.{List, [], ℕ, drop, eqb, pick}
use Rattle.rules.specs.declared.Entry.{Entry}
use Rattle.rules.specs.Types.{Held}
use Rattle.rules.specs.Object.{Stored, stored_at}
use Rattle.rules.specs.Table.{lookup}
use Rattle.rules.specs.Ops.{Op}
use Rattle.rules.specs.SettledLaws.{Last, silent, last}
use Rattle.rules.specs.Maintenance.{found}
use Rattle.gc_group.specs.Source.{Source}
use Rattle.gc_group.specs.Marks.{content_at}

-- ---- what is found stands in the table, and its content is what its slot has there
pub record Stands (s : Source) (k : ℕ) (o : Op) : Type 0 where
  pub location : ℕ
  pub mapped : lookup s.table o.id ≡ Some location
  pub content : o.content ≡ content_at s location k

-- an object of the walk is what stands at its position
abbrev pub AtPosition : List ℕ → Stored → Type 0
AtPosition objects o = o ≡ stored_at o.position (drop o.position objects)

-- ---- what the last operation says, by the marks
-- an id with a mark: nothing, or its content in the slot of the mark
abbrev pub word_of : Source → Held → ℕ → Last
word_of s (Some l) m = pick (eqb m 0) silent (last (content_at s l (m - 1)))
word_of s None m = silent

-- the mark of an id
unfoldable pub mark_at : List Entry → List ℕ → ℕ → ℕ
mark_at [] marks x = 0
mark_at (e ∷ es) [] x = 0
mark_at (e ∷ es) (m ∷ ms) x = pick (eqb e.id x) m (mark_at es ms x)
