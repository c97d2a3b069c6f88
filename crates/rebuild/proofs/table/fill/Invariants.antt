use mathlib.Core.Path.{◌≡◌}
use mathlib.Core.Bool.{true}
use lib.ListN.{take, length}
use Rattle.rules.specs.SlotFile.{views_in}
use Rattle.rebuild.specs.Filled.{Filled}
use Rattle.rebuild.proofs.FillTurns.{rows_in}
use Rattle.rebuild.proofs.table.fill.Given as goal

abbrev pub invariant-loop-k : goal.invariant-loop-k
invariant-loop-k l = (length l.table ≡ length l.initial.table)
    × Filled l.initial.table (rows_in (take l.k (views_in l.n l.size l.heap))) true l.table
