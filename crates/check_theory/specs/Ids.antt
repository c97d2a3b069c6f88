-- "More distinct ids in sound slots than the table holds": the ids that trailers mention, and the entries of the table that a reopening makes.
use Rattle.std.specs.Prelude.{◌≡◌, ◌<◌, ◌≤◌}
use Rattle.rules.specs.Base.{List, map, ℕ, length}
use Rattle.rules.specs.BaseLaws.{All}
use Rattle.rules.specs.SlotFile.{File, View, holds}
use Rattle.rules.specs.TableLaws.{Has}
use Rattle.theory.specs.Types.{Entry}
use Rattle.theory.specs.Places.{view_at}
use Rattle.check_theory.specs.Lists.{Different}

-- the trailer of the file in some slot has an entry of the id
pub record Mentions (views : List View) (x : ℕ) : Type 0 where
  pub slot : ℕ
  pub file : File
  pub location : ℕ
  pub shows : view_at views slot ≡ holds file
  pub entry : Has file.entries x location

-- ids that differ, each in some trailer, are no more than n
abbrev pub IdsFit : ℕ → List View → Type 0
IdsFit n views = (ids : List ℕ) → Different ids → All (Mentions views) ids → length ids ≤ n

-- there are more than n such
pub record MoreIds (n : ℕ) (views : List View) : Type 0 where
  pub ids : List ℕ
  pub different : Different ids
  pub mentioned : All (Mentions views) ids
  pub more : n < length ids

-- the ids of a table
abbrev pub ids_in : List Entry → List ℕ
ids_in es = map (λ (e : Entry). e.id) es
