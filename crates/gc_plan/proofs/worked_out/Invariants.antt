use mathlib.Core.Path.{◌≡◌}
use Rattle.rules.specs.declared.Claims.{Claims}
use Rattle.rules.specs.TwoCalls as calls
use Rattle.rules.specs.World.{world}
use Rattle.as_numbers.specs.StateWords.{state_in}
use Rattle.gc_plan.specs.Plans.{candidates_of}
use Rattle.gc_plan.proofs.Turns.{Foretelling}
use Rattle.gc_plan.proofs.worked_out.Given as goal

abbrev pub invariant-loop-generation : goal.invariant-loop-generation
invariant-loop-generation l =
    (c : Claims) → l.candidates ≡ candidates_of (world l.settings (state_in l.state) c l.heap l.table) → Foretelling (world l.settings (state_in l.state) c l.heap l.table) l.generation l.f
