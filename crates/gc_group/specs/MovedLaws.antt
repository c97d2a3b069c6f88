-- The marked entries one by one: a turn over them, and what is known of their objects once the group's checks are clear.
use Rattle.std.specs.Prelude.{◌≡◌, ◌≤◌, ◌<◌, ◌-◌, Some}
use Rattle.rules.specs.Base.{List, ℕ, suc, length, get_or}
use Rattle.rules.specs.declared.Entry.{Entry}
use Rattle.rules.specs.declared.Loaded.TheVariants.{At}
use Rattle.disk_location.specs.Locations.{position_of}
use Rattle.rules.specs.Table.{lookup, loaded_of, load, no_entry}
use Rattle.rules.specs.Ops.{Op}
use Rattle.gc_group.specs.Source.{Source, file_at}
use Rattle.gc_group.specs.Checks.{Whole}
use Rattle.gc_group.specs.Marks.{object_of}

-- ---- an entry's object in the slot of its mark
pub record Moves (limit : ℕ) (s : Source) (e : Entry) (k : ℕ) : Type 0 where
  pub low : (file_at s k).lsn ≤ position_of e.location
  pub whole : Whole limit s.table (object_of s e.location k)
  pub same : (object_of s e.location k).id ≡ e.id

-- if load tells of an object
abbrev pub Backed : ℕ → Source → Entry → ℕ → Type 0
Backed limit s e k = loaded_of (Some e.location) ≡ At e.location → Moves limit s e k

-- what is found, with where it stands
pub record Found (limit : ℕ) (s : Source) (k : ℕ) (o : Op) : Type 0 where
  pub location : ℕ
  pub mapped : lookup s.table o.id ≡ Some location
  pub backed : Backed limit s (record { id = o.id; location = location }) k

-- every mark is of a slot of the group, and its object stands there whole
abbrev pub Good : ℕ → Source → (ℕ → Type 0) → List ℕ → Type 0
Good limit s P ms = (i k : ℕ) → i < length s.table → get_or ms i 0 ≡ suc k → P k × Backed limit s (get_or s.table i no_entry) k
