-- What a group comes to, as its result gives it.
use Rattle.std.specs.Prelude.{Result, Err, Ok}
use Rattle.rules.specs.Base.{ℕ}
use Rattle.rules.specs.declared.Refusal.{Refusal}
use Rattle.rules.specs.Maintenance.{going, stopped, Course}
use Rattle.rules.specs.World.{World}

-- where the call stands, as a group's result gives it: the ids moved, or the refusal
abbrev pub course_given : ℕ → Result ℕ Refusal → World → Course
course_given generation (Ok moved) w = record { stop = going; moved = moved; world = w }
course_given generation (Err r) w = record { stop = stopped r generation; moved = 0; world = w }
