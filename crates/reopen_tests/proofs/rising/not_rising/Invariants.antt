use mathlib.Core.Path.{◌≡◌}
use lib.ListN.{drop}
use Rattle.rules.specs.Base.{any}
use Rattle.rules.specs.SlotFile.{views_in}
use Rattle.rules.specs.Reopen.{files_in}
use Rattle.reopen_tests.specs.Ascending.{file_falls}
use Rattle.reopen_tests.proofs.rising.not_rising.Given as goal

abbrev pub invariant-loop-k : goal.invariant-loop-k
invariant-loop-k l = any file_falls (files_in (drop l.k (views_in l.n l.size l.heap))) ≡ any file_falls (files_in (views_in l.n l.size l.heap))
