use mathlib.Core.Path.{sym, ap}
use Rattle.std.specs.Prelude.{Ok}
use Rattle.rules.specs.Base.{padded}
use Rattle.rules.specs.World.{Given}
use Rattle.through.specs.declared.ThroughLookup.{ThroughLookup}
use Rattle.through.specs.Through.{through_given}
use Rattle.as_numbers.specs.Shown.{shown}
use Rattle.marble_c.proofs.places_of.Goals as goal

-- the answer that the match tells, in four places
abbrev places : ThroughLookup → Given
places x = shown 4 (through_given (Ok x))

pub returns-in-InBatch : goal.returns-in-InBatch
unfolding padded
returns-in-InBatch c = ap places (sym c.in-InBatch.is)

pub returns-in-InHeap : goal.returns-in-InHeap
unfolding padded
returns-in-InHeap c = ap places (sym c.in-InHeap.is)

pub returns-in-ThroughDeleted : goal.returns-in-ThroughDeleted
unfolding padded
returns-in-ThroughDeleted c = ap places (sym c.in-ThroughDeleted.is)

pub returns-in-ThroughNever : goal.returns-in-ThroughNever
unfolding padded
returns-in-ThroughNever c = ap places (sym c.in-ThroughNever.is)
