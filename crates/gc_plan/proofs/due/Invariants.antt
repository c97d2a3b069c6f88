use mathlib.Core.Path.{◌≡◌}
use Rattle.gc_plan.proofs.Filled.{filled}
use Rattle.gc_plan.specs.Plans.{due_in}
use Rattle.gc_plan.proofs.due.Given as goal

abbrev pub invariant-loop-i : goal.invariant-loop-i
invariant-loop-i l = l.slots ≡ filled (due_in l.least l.plan) l.i l.initial.slots
