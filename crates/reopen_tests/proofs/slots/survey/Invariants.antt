use mathlib.Core.Path.{◌≡◌}
use Rattle.reopen_tests.proofs.SurveyTurns.{labels_to}
use lib.ListN.{drop}
use Rattle.rules.specs.Base.{each}
use Rattle.rules.specs.Refusal.{decide}
use Rattle.rules.specs.SlotFile.{views_in}
use Rattle.rules.specs.Reopen.{view_tests}
use Rattle.reopen_tests.proofs.slots.survey.Given as goal

abbrev pub invariant-loop-k : goal.invariant-loop-k
invariant-loop-k l = (l.slots.labels ≡ labels_to l.k (views_in l.n l.size l.heap)) × (decide (each view_tests (drop l.k (views_in l.n l.size l.heap))) ≡ decide (each view_tests (views_in l.n l.size l.heap)))
