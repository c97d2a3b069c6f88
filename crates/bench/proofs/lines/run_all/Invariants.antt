use mathlib.Core.Path.{◌≡◌}
use mathlib.Core.List.{List, []}
use Prim.Native.Nat.{ℕ}
use lib.ListN.{length}
use Rattle.desk.specs.Desk.{desk}
use Rattle.bench.specs.Input.{FedTo}
use Rattle.bench.proofs.lines.run_all.Given as goal

abbrev pub invariant-loop : goal.invariant-loop
invariant-loop g l =
    (l.reading.cap ≡ l.initial.reading.cap)
    × ((bytes : List ℕ) × FedTo l.initial.reading.cap (length l.initial.decoded) bytes [] (desk l.initial.b l.initial.heap l.initial.table) l.reading.line (desk l.b l.heap l.table))
