-- Document 02, request P7, "Maintenance in two calls": plan, rewrite, and the nightly job over these and prune.
use Rattle.std.specs.Prelude.{◌||◌, ◌∷◌, ◌++◌, ◌+◌, ◌-◌, Err, Ok}
use Rattle.rules.specs.Base.{Bool, not, List, [], map, ℕ, length, replicate, leb, ltb, eqb, pick, within, sum}
use Rattle.rules.specs.Types.{Refusal, Limits, Generation, stopped_with}
use Rattle.rules.specs.Refusal.{Test, ◌gives◌, decide, after, number_of}
use Rattle.rules.specs.Ops.{Op, objects_of, file_bytes}
use Rattle.rules.specs.Layout.{Table, capacity_of}
use Rattle.rules.specs.FileMap.{file_count}
use Rattle.rules.specs.Condition1.{refused1}
use Rattle.rules.specs.Install.{room_tests, empty_of, position_tests}
use Rattle.rules.specs.Prune.{pruned}
use Rattle.rules.specs.Maintenance.{group, found, files_of, Stop, going, stopped, Course, source_tests, onward}
use Rattle.rules.specs.World.{World, records_of, Given, accepted, refused, maintain_given, After, unchanged, leaving}

-- ---- the notes that a host lends
-- a host lends two lists of notes, places and pieces; what they have room for is the length of the shorter one
abbrev pub room_of : List ℕ → List ℕ → ℕ
room_of places pieces = pick (leb (length places) (length pieces)) (length places) (length pieces)

-- "as long as the table has entries; shorter: 1"
abbrev pub short : ℕ → Table → Bool
short room table = ltb room (capacity_of table)

-- 1 of these calls
abbrev pub refused_noting : World → ℕ → Bool
refused_noting w room = refused1 w || short room w.table

-- a list of notes after a call: on 1 as it was, else zeros
abbrev pub notes_left : Given → List ℕ → List ℕ
notes_left answer notes = pick (eqb answer.number 1) notes (replicate (length notes) 0)

-- ---- plan
-- "The plan also gives a mark, the next position"
abbrev pub mark_of : World → ℕ
mark_of w = w.state.next_position

-- ".. and the file count"
abbrev pub count_of : World → ℕ
count_of w = file_count (records_of w)

-- too few for a group: "fewer files than min_compaction_files"
abbrev pub too_few : World → List ℕ → Bool
too_few w slots = ltb (length slots) w.settings.min_compaction_files

-- "which generations, which slots": the group of a generation, "none where it has fewer files than min_compaction_files"
unfoldable pub planned_slots : World → ℕ → List ℕ
planned_slots w generation = let slots = group w generation (mark_of w) (count_of w) in pick (too_few w slots) [] slots

-- what is foretold: the first refusal, or none; "how many files and bytes of file_size would come out before" it, and their positions
pub record Forecast : Type 0 where
  pub stop : Stop
  pub files : ℕ
  pub bytes : ℕ
  pub positions : ℕ

-- "T + 1" of each
abbrev pub positions_in : List (List Op) → ℕ
positions_in files = sum (λ (f : List Op). length (objects_of f) + 1) files

-- a group's tests "on table, records and heap as the plan finds them; slots used and the base grow from group to group"
unfoldable pub foretold_tests : World → Forecast → List ℕ → List (List Op) → List Test
foretold_tests w f slots files =
    source_tests w slots
    ++ (room_tests w.settings.slot_bytes (empty_of w - f.files) files ++ position_tests (w.state.next_position + f.positions) files)

-- a group foretold
unfoldable pub foretold : World → ℕ → List ℕ → Forecast → Forecast
foretold w generation slots f =
    let files = files_of w.settings.target_file_size (found w slots) in
    after (decide (foretold_tests w f slots files))
    (λ (r : Refusal). record { stop = stopped r generation; files = f.files; bytes = f.bytes; positions = f.positions })
    (record {
      stop = going;
      files = f.files + length files;
      bytes = f.bytes + sum (λ (ops : List Op). length (file_bytes ops)) files;
      positions = f.positions + positions_in files;
    })

-- nothing more once a group is refused; a group of too few files is passed over
abbrev pub foretelling : Stop → World → ℕ → Forecast → Forecast
foretelling (stopped r g) w generation f = f
foretelling going w generation f =
    let slots = group w generation (mark_of w) (count_of w) in
    pick (too_few w slots) f (foretold w generation slots f)

-- group by group
unfoldable pub foretold_from : List ℕ → World → Forecast → Forecast
foretold_from [] w f = f
foretold_from (g ∷ gs) w f = foretold_from gs w (foretelling f.stop w g f)

-- generations 1, 2 and 3
unfoldable pub forecast_of : World → Forecast
forecast_of w = foretold_from (1 ∷ 2 ∷ 3 ∷ []) w (record { stop = going; files = 0; bytes = 0; positions = 0 })

-- "and that refusal": its number and generation, 0 and 0 where there is none
abbrev pub stop_given : Stop → List ℕ
stop_given going = 0 ∷ 0 ∷ []
stop_given (stopped r g) = number_of r ∷ g ∷ []

-- a list with its length before it
abbrev pub counted : List ℕ → List ℕ
counted slots = length slots ∷ slots

-- what a plan gives: mark, file count, files, bytes, the refusal's number and generation, then the slots of 1, 2 and 3
unfoldable pub plan_values : World → List ℕ
plan_values w =
    let f = forecast_of w in
    mark_of w ∷ count_of w ∷ f.files ∷ f.bytes ∷ (stop_given f.stop
    ++ (counted (planned_slots w 1) ++ (counted (planned_slots w 2) ++ counted (planned_slots w 3))))

-- "`plan` refuses with 1 only and changes nothing"
unfoldable pub plan_call : World → ℕ → Given
plan_call w room = after (decide (refused_noting w room gives Limits ∷ [])) refused (accepted (plan_values w))

-- ---- rewrite
-- "1, then 22 outside 1..3"
unfoldable pub rewrite_tests : World → ℕ → ℕ → List Test
rewrite_tests w room generation = refused_noting w room gives Limits ∷ not (within 1 3 generation) gives Generation ∷ []

-- "rewrites one named generation", as mark and count give its group; "a generation that yields no group succeeds with count 0"
unfoldable pub generation_rewritten : World → ℕ → ℕ → ℕ → Course
generation_rewritten w generation mark count =
    onward going generation (group w generation mark count) (record { stop = going; moved = 0; world = w })

-- refused, or rewritten; it "works all else out afresh" and prunes nothing
unfoldable pub rewrite_of : World → ℕ → ℕ → ℕ → ℕ → Course
rewrite_of w room generation mark count =
    after (decide (rewrite_tests w room generation))
    (λ (r : Refusal). record { stop = stopped r generation; moved = 0; world = w })
    (generation_rewritten w generation mark count)

-- "It answers ids moved, or the number alone."
abbrev pub rewrite_answered : Stop → ℕ → World → After
rewrite_answered (stopped r g) moved w = unchanged w r
rewrite_answered going moved w = leaving (accepted (moved ∷ [])) w

-- the call
abbrev pub rewrite_call : World → ℕ → ℕ → ℕ → ℕ → After
rewrite_call w room generation mark count =
    let c = rewrite_of w room generation mark count in
    rewrite_answered c.stop c.moved c.world

-- ---- the nightly job
-- a rewrite of the job, unless one was refused: "stopping at the first call refused"
abbrev pub job_step : Stop → ℕ → ℕ → ℕ → ℕ → Course → Course
job_step (stopped r g) room generation mark count c = c
job_step going room generation mark count c =
    let d = rewrite_of c.world room generation mark count in
    record { stop = d.stop; moved = c.moved + d.moved; world = d.world }

-- "rewrite 1, 2, 3"
unfoldable pub job_from : List ℕ → ℕ → ℕ → ℕ → Course → Course
job_from [] room mark count c = c
job_from (g ∷ gs) room mark count c = job_from gs room mark count (job_step c.stop room g mark count c)

-- with the plan's mark and file count
unfoldable pub job_of : World → ℕ → Course
job_of w room = job_from (1 ∷ 2 ∷ 3 ∷ []) room (mark_of w) (count_of w) (record { stop = going; moved = 0; world = w })

-- "then prune"
abbrev pub job_ended : Stop → Course → After
job_ended (stopped r g) c = leaving (maintain_given (Err (stopped_with r g c.moved))) c.world
job_ended going c =
    after (decide (refused1 c.world gives Limits ∷ []))
    (λ (r : Refusal). leaving (maintain_given (Err (stopped_with r 0 c.moved))) c.world)
    (leaving (maintain_given (Ok c.moved)) (pruned c.world))

-- "the nightly job becomes plan, rewrite 1, 2, 3, then prune"; "its answer is the old call's"
unfoldable pub nightly_call : World → ℕ → After
nightly_call w room =
    after (decide (refused_noting w room gives Limits ∷ []))
    (λ (r : Refusal). leaving (maintain_given (Err (stopped_with r 0 0))) w)
    (job_ended (job_of w room).stop (job_of w room))
