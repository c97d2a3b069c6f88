-- C: what a rewrite of one generation answers and moves, by any mark and any count.
use Rattle.std.specs.Prelude.{◌≡◌, ◌⊎◌, ◌<◌, ◌∷◌}
use Rattle.rules.specs.Base.{true, false, not, List, [], ℕ, length, pick, sum}
use Rattle.theory.specs.Types.{Refusal, ObjectSize}
use Rattle.rules.specs.Ops.{Op}
use Rattle.rules.specs.Table.{lookup}
use Rattle.rules.specs.FileMap.{record_at}
use Rattle.rules.specs.FileMapLaws.{Among}
use Rattle.rules.specs.Maintenance.{found, files_of, Course, group}
use Rattle.rules.specs.MaintenanceLaws.{Enough, Lacks}
use Rattle.rules.specs.TwoCalls.{short, too_few, rewrite_answered}
use Rattle.rules.specs.World.{World, records_of, mappings, accepted, After, unchanged, leaving}
use Rattle.maintenance_theory.specs.Checked.{Oversized}
use Rattle.maintenance_theory.specs.Stopping.{Remain}
use Rattle.maintenance_theory.specs.Exactly.{Inside, entries_inside}
use Rattle.maintenance_theory.specs.Arrived.{Arrived}

-- ---- the words; ks are the slots of the group
-- the files that come out of the files in these slots
abbrev pub files_out : World → List ℕ → List (List Op)
files_out w ks = files_of w.settings.target_file_size (found w ks)

-- a group is not refused: no object of its files is of max_object_size or more, and its new files have room, empty slots and positions
pub record Clear (w : World) (ks : List ℕ) : Type 0 where
  pub sizes : Oversized w ks → ⊥
  pub enough : Enough w (files_out w ks)

-- it is refused with r: with 3 for such an object; else with 4, 5 or 7 by its new files, the empty slots and the base
abbrev pub RefusedFor : World → List ℕ → Refusal → Type 0
RefusedFor w ks r = ((r ≡ ObjectSize) × Oversized w ks) ⊎ ((Oversized w ks → ⊥) × Lacks w (files_out w ks) r)

-- the ids that a rewrite moves: those whose location is in a file of the group, none where it has too few files
abbrev pub ids_to_move : World → List ℕ → ℕ
ids_to_move w ks = pick (too_few w ks) 0 (length (entries_inside w ks))

-- how a rewrite of generation g ends, and what it leaves
pub record RewriteEnds (w : World) (g : ℕ) (ks : List ℕ) (a : After) : Type 0 where
  -- "a generation that yields no group succeeds with count 0", and nothing is changed
  pub few : too_few w ks ≡ true → a ≡ leaving (accepted (0 ∷ [])) w
  -- a group that is refused: "the number alone", and nothing is changed
  pub refuses : (r : Refusal) → too_few w ks ≡ false → RefusedFor w ks r → a ≡ unchanged w r
  -- one that is not: the number of the ids whose location is in one of its files
  pub accepts : too_few w ks ≡ false → Clear w ks → a.answer ≡ accepted (length (entries_inside w ks) ∷ [])
  -- then each of these ids is in a new file of g, in a slot that showed no file, and the group's files have no live entry
  pub moves : too_few w ks ≡ false → Clear w ks → (x : ℕ) → Inside w ks x → Arrived g w a.world x
  pub dead : too_few w ks ≡ false → Clear w ks → (k : ℕ) → Among ks k → (record_at (records_of a.world) k).live ≡ 0
  -- one of the three it is
  pub either : (too_few w ks ≡ true) ⊎ ((too_few w ks ≡ false) × (Clear w ks ⊎ ((r : Refusal) × RefusedFor w ks r)))
  -- the number of these ids is the sum of the files' live counts
  pub live : length (entries_inside w ks) ≡ sum (λ (k : ℕ). (record_at (records_of w) k).live) ks
  -- every other id has the location that it had
  pub others : (x : ℕ) → (Inside w ks x → ⊥) → lookup (mappings a.world) x ≡ lookup (mappings w) x
  -- "prunes nothing": each file is where it was, and its record has its label
  pub files : Remain w a.world
  pub labels : (k : ℕ) → 0 < (record_at (records_of w) k).label.lsn → (record_at (records_of a.world) k).label ≡ (record_at (records_of w) k).label

-- what it answers, in short: the count; or 4, 5, 7, or 3 where an object of the group is of max_object_size or more, and nothing is changed
abbrev pub RewriteAnswers : World → List ℕ → (Refusal → Type 0) → After → Type 0
RewriteAnswers w ks refuses a = (a.answer ≡ accepted (ids_to_move w ks ∷ [])) ⊎ ((r : Refusal) × (a ≡ unchanged w r) × refuses r)

-- what a rewrite answers where it stands so
abbrev pub answered_at : Course → After
answered_at c = rewrite_answered c.stop c.moved c.world
