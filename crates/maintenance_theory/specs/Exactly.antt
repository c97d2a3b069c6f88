-- C: what maintenance moves are exactly the ids whose current location is in a file of a rewritten group; the count is their number.
use Rattle.std.specs.Prelude.{◌≡◌, ◌⊎◌, ◌&&◌, ◌∷◌, Err, Ok, Some}
use Rattle.rules.specs.Base.{Bool, true, false, not, List, [], ℕ, length, ltb, pick, any, keep, each, sum}
use Rattle.theory.specs.Types.{Entry, Refusal, stopped_with}
use Rattle.rules.specs.BaseLaws.{All}
use Rattle.rules.specs.Ops.{Op}
use Rattle.rules.specs.OpsLaws.{RisingOps}
use Rattle.rules.specs.Table.{lookup}
use Rattle.rules.specs.FileMap.{file_for}
use Rattle.rules.specs.FileMapLaws.{Among}
use Rattle.rules.specs.InstallLaws.{is_at}
use Rattle.rules.specs.Maintenance.{found, Stop, going, stopped, Course, start_group, rewrite_group, groups_from, maintain_call}
use Rattle.rules.specs.World.{World, records_of, mappings, maintain_given, After}
use Rattle.maintenance_theory.specs.Tally.{heard_in}
use Rattle.maintenance_theory.specs.Finished.{before}

-- the location's file is in one of these slots
abbrev pub InSlots : World → List ℕ → ℕ → Type 0
InSlots w ks l = (k : ℕ) × Among ks k × (file_for (records_of w) l ≡ Some k)

-- the id's current location is
abbrev pub Inside : World → List ℕ → ℕ → Type 0
Inside w ks x = (l : ℕ) × (lookup (mappings w) x ≡ Some l) × InSlots w ks l

-- the table's entries of such ids
abbrev pub entries_inside : World → List ℕ → List Entry
entries_inside w ks = keep (λ (e : Entry). any (λ (k : ℕ). is_at k (file_for (records_of w) e.location)) ks) (mappings w)

-- these operations are those ids', each once
pub record Exactly (w : World) (ks : List ℕ) (ops : List Op) : Type 0 where
  -- ascending by id
  pub once : RisingOps 0 ops
  -- an id that is among them has its location there
  pub only : (x : ℕ) → heard_in ops x ≡ true → Inside w ks x
  -- and an id that has its location there is among them
  pub every : (x : ℕ) → Inside w ks x → heard_in ops x ≡ true
  -- they are as many as the table's entries there
  pub count : length ops ≡ length (entries_inside w ks)

-- ---- the call, group by group
-- where it stands as the turn of generation g comes
abbrev pub turn : World → ℕ → Course
turn w g = groups_from (before g) w (record { stop = going; moved = 0; world = w })

-- nothing refused so far
abbrev pub goes_on : Stop → Bool
goes_on going = true
goes_on (stopped r g) = false

-- a group's turn: no group before it was refused, it has files enough, and it is not refused
abbrev pub rewritten_at : World → ℕ → Course → Bool
rewritten_at start g c =
    goes_on c.stop
    && (not (ltb (length (start_group start g)) c.world.settings.min_compaction_files) && goes_on (rewrite_group g (start_group start g) c.moved c.world).stop)

-- maintenance rewrites the group of generation g
abbrev pub rewritten : World → ℕ → Bool
rewritten w g = rewritten_at w g (turn w g)

-- the ids whose location, as the call starts, is in a file of that group: counted where it is rewritten
abbrev pub ids_moved : World → ℕ → ℕ
ids_moved w g = pick (rewritten w g) (length (entries_inside w (start_group w g))) 0

-- what maintenance moves on the store w: its answer and what it leaves are a
pub record MovesAs (w : World) (a : After) : Type 0 where
  -- each group, when its turn comes: exactly the ids whose location, as the call starts, is in one of its files
  pub groups : All (λ (g : ℕ). Exactly w (start_group w g) (found (turn w g).world (start_group w g))) (1 ∷ 2 ∷ 3 ∷ [])
  -- the count that the call answers, refused or not, is the number of those ids in all groups that are rewritten
  pub counts : (a.answer ≡ maintain_given (Ok (sum (ids_moved w) (1 ∷ 2 ∷ 3 ∷ []))))
      ⊎ ((r : Refusal) × (g : ℕ) × (a.answer ≡ maintain_given (Err (stopped_with r g (sum (ids_moved w) (1 ∷ 2 ∷ 3 ∷ []))))))
  -- every other id keeps its location
  pub others : (x : ℕ) → All (λ (g : ℕ). rewritten w g ≡ true → Inside w (start_group w g) x → ⊥) (1 ∷ 2 ∷ 3 ∷ [])
      → lookup (mappings a.world) x ≡ lookup (mappings w) x

-- what the old call moves
abbrev pub Moves : World → Type 0
Moves w = MovesAs w (maintain_call w)

-- the same ids are in these slots' files
abbrev pub Same : World → World → List ℕ → Type 0
Same w v ks = (x : ℕ) → (Inside w ks x → Inside v ks x) × (Inside v ks x → Inside w ks x)
