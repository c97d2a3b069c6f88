-- P7: what the plan says is what then happens. On a store of the invariant, with nothing between, the nightly job takes the groups that the plan gives, is
-- refused where and with what the plan foretells, and adds the files, bytes and positions that it foretells.
use Rattle.std.specs.Prelude.{◌≡◌, ◌⊎◌, ◌<◌, ◌≤◌, ◌∷◌, ◌+◌, ◌-◌, Err, Ok}
use Rattle.rules.specs.Base.{true, List, [], ℕ, pick}
use Rattle.theory.specs.Types.{stopped_with}
use Rattle.rules.specs.Refusal.{after}
use Rattle.rules.specs.FileMapLaws.{Among}
use Rattle.rules.specs.Counts.{counts_of}
use Rattle.rules.specs.Maintenance.{Stop, going, stopped, Course, group}
use Rattle.rules.specs.TwoCalls.{mark_of, count_of, too_few, planned_slots, Forecast, foretold, forecast_of, plan_values, plan_call, rewrite_call, job_from, job_of, nightly_call}
use Rattle.rules.specs.World.{World, records_of, slots_of, Given, accepted, refused, maintain_given}
use Rattle.maintenance_theory.specs.Finished.{before}
use Rattle.maintenance_theory.specs.Exactly.{turn}
use Rattle.maintenance_theory.specs.FirstRefused.{generations}

-- ---- the words
-- the job as the turn of generation g comes: the rewrites of the generations before it, by the plan's mark and file count
abbrev pub job_turn : World → ℕ → ℕ → Course
job_turn w room g = job_from (before g) room (mark_of w) (count_of w) (record { stop = going; moved = 0; world = w })

-- the slots that a rewrite takes: those of its group by mark and count, none where it has too few files
abbrev pub slots_taken : World → ℕ → ℕ → ℕ → List ℕ
slots_taken v g mark count = pick (too_few v (group v g mark count)) [] (group v g mark count)

-- no refusal is foretold before generation g
abbrev pub NoneBefore : ℕ → Stop → Type 0
NoneBefore g going = Unit {0}
NoneBefore g (stopped r h) = g ≤ h

-- a rewrite of g answers as foretold: the number alone where it is g that is refused, else ids moved
abbrev pub AnswersSo : Stop → ℕ → Given → Type 0
AnswersSo going g answer = (n : ℕ) × (answer ≡ accepted (n ∷ []))
AnswersSo (stopped r h) g answer = ((h ≡ g) × (answer ≡ refused r)) ⊎ ((g < h) × (n : ℕ) × (answer ≡ accepted (n ∷ [])))

-- the job's answer, of which the plan foretells all but the ids moved
abbrev pub EndsSo : Stop → Given → Type 0
EndsSo going answer = (n : ℕ) × (answer ≡ maintain_given (Ok n))
EndsSo (stopped r g) answer = (n : ℕ) × (answer ≡ maintain_given (Err (stopped_with r g n)))

-- the plan foretells the job
pub record Foretells (w : World) (room : ℕ) : Type 0 where
  -- the plan is accepted, and gives the forecast and the groups' slots
  pub plan : plan_call w room ≡ accepted (plan_values w)
  -- "and that refusal": the job's rewrites stop with this number and generation, or with none
  pub stop : (forecast_of w).stop ≡ (job_of w room).stop
  -- and so it answers
  pub answer : EndsSo (forecast_of w).stop (nightly_call w room).answer
  -- "how many files and bytes of file_size would come out": the counts after the rewrites, before anything is pruned
  pub files : (counts_of (records_of (job_of w room).world)).files ≡ (counts_of (records_of w)).files + (forecast_of w).files
  pub bytes : (counts_of (records_of (job_of w room).world)).bytes ≡ (counts_of (records_of w)).bytes + (forecast_of w).bytes
  -- and the next position
  pub position : (job_of w room).world.state.next_position ≡ w.state.next_position + (forecast_of w).positions
  -- "which slots": a generation's group, in its turn, is the one that the plan worked on
  pub groups : (g : ℕ) → Among generations g → group (job_turn w room g).world g (mark_of w) (count_of w) ≡ group w g (mark_of w) (count_of w)
  -- so its rewrite takes the slots that the plan gives
  pub slots : (g : ℕ) → Among generations g → slots_taken (job_turn w room g).world g (mark_of w) (count_of w) ≡ planned_slots w g
  -- each rewrite alone, in its turn: refused with the foretold number in the foretold generation, accepted before it
  pub rewrites : (g : ℕ) → Among generations g → NoneBefore g (forecast_of w).stop
      → AnswersSo (forecast_of w).stop g (rewrite_call (job_turn w room g).world room g (mark_of w) (count_of w)).answer

-- ---- where a forecast stops
-- where the plan stands before its first group
abbrev pub nothing_foretold : Forecast
nothing_foretold = record { stop = going; files = 0; bytes = 0; positions = 0 }

-- a forecast made of the store w came true where a call stands
pub record CameTrue (w : World) (f : Forecast) (c : Course) : Type 0 where
  pub stop : f.stop ≡ c.stop
  pub files : (counts_of (records_of c.world)).files ≡ (counts_of (records_of w)).files + f.files
  pub bytes : (counts_of (records_of c.world)).bytes ≡ (counts_of (records_of w)).bytes + f.bytes
  pub position : c.world.state.next_position ≡ w.state.next_position + f.positions
  pub slots : slots_of c.world ≡ slots_of w
