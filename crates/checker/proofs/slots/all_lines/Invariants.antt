use mathlib.Core.Path.{◌≡◌}
use mathlib.Core.List.{[]}
use lib.ListN.{length}
use Rattle.faults.specs.Faults.{faults_from}
use Rattle.file_faults.specs.Telling.{Going}
use Rattle.checker.specs.SlotLines.{slots_judged, lines_from}
use Rattle.checker.proofs.slots.all_lines.Given as goal

abbrev pub invariant-loop-k : goal.invariant-loop-k
invariant-loop-k l = (length l.listing ≡ length l.initial.listing)
    × Going 0 (faults_from 0 [] (slots_judged l.n l.size l.heap)) l.initial.listing l.count (lines_from l.k (slots_judged l.n l.size l.heap)) l.listing
