use Prim.Native.Nat.{◌≤◌}
use mathlib.Core.Path.{◌≡◌}
use lib.ListN.{drop}
use Rattle.rules.specs.Condition1.{bad_from}
use Rattle.limits.specs.Settled.{bad_files}
use Rattle.limits.proofs.bad_files.Given as goal

abbrev pub invariant-loop-i : goal.invariant-loop-i
invariant-loop-i l = (128 ≤ l.s.slot_bytes)
    × (l.s.slot_bytes ≤ 1048576)
    × (bad_files l.s l.heap l.table l.fn.files.records ≡ bad_from l.s l.heap l.table l.i (drop l.i l.fn.files.records))
