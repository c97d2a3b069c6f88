-- C exactly: maintenance stops at the first generation that is due and refused, with 3 for an object that is too large, else with 4, 5 or 7 by its new
-- files, the empty slots and the base; and it keeps only the generations before it.
use Rattle.std.specs.Prelude.{◌≡◌, ◌⊎◌, ◌<◌, ◌≤◌, ◌∷◌, Err, Ok}
use Rattle.rules.specs.Base.{List, [], ℕ, length, ltb, pick, sum}
use Rattle.theory.specs.Types.{Refusal, ObjectSize, stopped_with}
use Rattle.rules.specs.Ops.{Op}
use Rattle.rules.specs.FileMapLaws.{Among}
use Rattle.rules.specs.Install.{installed_all}
use Rattle.rules.specs.Maintenance.{found, files_of, Stop, going, stopped, start_group, maintain_call}
use Rattle.rules.specs.MaintenanceLaws.{Enough, Lacks}
use Rattle.rules.specs.Prune.{pruned}
use Rattle.rules.specs.World.{World, maintain_given, After}
use Rattle.maintenance_theory.specs.Checked.{Oversized}
use Rattle.maintenance_theory.specs.Finished.{live_of, before}
use Rattle.maintenance_theory.specs.Exactly.{turn}

-- ---- the words
-- the generations of new files
abbrev pub generations : List ℕ
generations = 1 ∷ 2 ∷ 3 ∷ []

-- "one with fewer files than min_compaction_files is skipped": the others are due
abbrev pub Due : World → ℕ → Type 0
Due w g = w.settings.min_compaction_files ≤ length (start_group w g)

-- the files that come out of a generation's group, by the store as the call starts
abbrev pub new_files : World → ℕ → List (List Op)
new_files w g = files_of w.settings.target_file_size (found w (start_group w g))

-- a generation of the store w finished, in a store v: its new files are added, if it is due
abbrev pub finishing : World → ℕ → World → World
finishing w g v = pick (ltb (length (start_group w g)) w.settings.min_compaction_files) v (installed_all 0 g v (new_files w g))

-- generations finished one after another
unfoldable pub finished_from : World → List ℕ → World → World
finished_from w [] v = v
finished_from w (g ∷ gs) v = finished_from w gs (finishing w g v)

-- "keeps finished groups": the store with these generations finished, and nothing else
abbrev pub with_finished : World → List ℕ → World
with_finished w gs = finished_from w gs w

-- generation g is not refused: no object of its files is of max_object_size or more, and its new files have room, empty slots and positions when
-- its turn comes
pub record Clears (w : World) (g : ℕ) : Type 0 where
  pub sizes : Oversized w (start_group w g) → ⊥
  pub enough : Enough (with_finished w (before g)) (new_files w g)

-- it is refused with r: with 3 for such an object; else with 4, 5 or 7 by its own new files, the empty slots and the base then
abbrev pub RefusedWith : World → ℕ → Refusal → Type 0
RefusedWith w g r = ((r ≡ ObjectSize) × Oversized w (start_group w g)) ⊎ ((Oversized w (start_group w g) → ⊥) × Lacks (with_finished w (before g)) (new_files w g) r)

-- it is skipped, or not refused
abbrev pub Passes : World → ℕ → Type 0
Passes w g = Due w g → Clears w g

-- g is the first generation that is due and refused, with r
pub record FirstRefused (w : World) (g : ℕ) (r : Refusal) : Type 0 where
  pub generation : Among generations g
  pub due : Due w g
  pub refused : RefusedWith w g r
  pub earlier : (h : ℕ) → Among generations h → h < g → Passes w h

-- no generation is
abbrev pub NoneRefused : World → Type 0
NoneRefused w = (g : ℕ) → Among generations g → Passes w g

-- how maintenance ends on the store w: its answer and what it leaves are a
pub record EndsAs (w : World) (a : After) : Type 0 where
  -- it stops with r in generation g exactly if g is the first that is refused, and with r; the count is the live counts before it
  pub stops : (r : Refusal) (g n : ℕ) → a.answer ≡ maintain_given (Err (stopped_with r g n)) → FirstRefused w g r × (n ≡ sum (live_of w) (before g))
  pub refused : (r : Refusal) (g : ℕ) → FirstRefused w g r → a.answer ≡ maintain_given (Err (stopped_with r g (sum (live_of w) (before g))))
  -- it succeeds exactly if none is; the count is that of all generations
  pub succeeds : (n : ℕ) → a.answer ≡ maintain_given (Ok n) → NoneRefused w × (n ≡ sum (live_of w) generations)
  pub moved : NoneRefused w → a.answer ≡ maintain_given (Ok (sum (live_of w) generations))
  -- "keeps finished groups .. nothing is pruned": the store left is that of the generations before
  pub keeps : (r : Refusal) (g n : ℕ) → a.answer ≡ maintain_given (Err (stopped_with r g n)) → a.world ≡ with_finished w (before g)
  -- "Success prunes": that of all generations, pruned
  pub prunes : (n : ℕ) → a.answer ≡ maintain_given (Ok n) → a.world ≡ pruned (with_finished w generations)

-- how the old call ends
abbrev pub Ends : World → Type 0
Ends w = EndsAs w (maintain_call w)

-- ---- turn by turn
-- where the call stands when the generations below n are behind it
abbrev pub At : World → ℕ → Stop → World → Type 0
At w n going v = (v ≡ with_finished w (before n)) × ((h : ℕ) → Among generations h → h < n → Passes w h)
At w n (stopped r g) v = (v ≡ with_finished w (before g)) × FirstRefused w g r × (g < n)
