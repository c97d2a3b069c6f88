use mathlib.Core.Path.{◌≡◌}
use mathlib.Core.List.{map}
use Rattle.rules.specs.SlotFile.{views_in}
use Rattle.reopen_tests.proofs.SurveyTurns.{labels_to}
use Rattle.faults.specs.Faults.{judged}
use Rattle.faults.proofs.sound.Given as goal

abbrev pub invariant-loop-k : goal.invariant-loop-k
invariant-loop-k l = l.slots.labels ≡ labels_to l.k (map judged (views_in l.n l.size l.heap))
