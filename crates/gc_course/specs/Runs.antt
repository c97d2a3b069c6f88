-- Where the nightly job stands between two rewrites, as the definitions say it.
use Rattle.std.specs.Prelude.{◌∷◌, ◌+◌, Option, Some, None, Err, Ok}
use Rattle.rules.specs.Base.{Bool, true, false, List, [], ℕ, zero, suc}
use Rattle.rules.specs.Types.{MaintainAnswer}
use Rattle.rules.specs.Maintenance.{Stop, going, stopped, Course}
use Rattle.rules.specs.World.{World}
use Rattle.gc_course.specs.declared.Halt.{Halt}

-- no group was refused
abbrev pub is_going : Option Halt → Bool
is_going None = true
is_going (Some h) = false

-- a refused group's number and generation, or none
abbrev pub stop_of : Option Halt → Stop
stop_of None = going
stop_of (Some h) = stopped h.refusal h.generation

-- no rewrite was refused
abbrev pub succeeds : MaintainAnswer → Bool
succeeds (Ok moved) = true
succeeds (Err s) = false

-- the rewrite that was refused, or none
abbrev pub stop_in : MaintainAnswer → Stop
stop_in (Ok moved) = going
stop_in (Err s) = stopped s.refusal s.generation

-- the ids moved, before a refusal too
abbrev pub moved_in : MaintainAnswer → ℕ
moved_in (Ok moved) = moved
moved_in (Err s) = s.moved

-- an answer with the world that it stands in
abbrev pub standing : MaintainAnswer → World → Course
standing a w = record { stop = stop_in a; moved = moved_in a; world = w }

-- so many generations, from this one on
abbrev pub generations_from : ℕ → ℕ → List ℕ
generations_from zero generation = []
generations_from (suc k) generation = generation ∷ generations_from k (generation + 1)
